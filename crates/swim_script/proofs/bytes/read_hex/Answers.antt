use Rattle.std.proofs.Common.{take, inr, refl, ap, ◌∙◌}
use Rattle.std.proofs.lemmas.Result.{err_from_is_err_and}
use Rattle.swim_script.proofs.Hex.{long_word, refuses_from, short_bytes}
use Rattle.swim_script.proofs.bytes.read_hex.Goals as goal

pub returns-then-word-clause-none : goal.returns-then-word-clause-none
returns-then-word-clause-none c = inr (refl, long_word c.args.word.now c.if-word.true)

pub returns-in_err-bytes-clause-none : goal.returns-in_err-bytes-clause-none
returns-in_err-bytes-clause-none c =
    let fault = err_from_is_err_and c.from_residual.result c.from_residual.ensures.1 in
    rw (fault.1, fault.2)
    (refuses_from c.in_err-bytes.field-0.0 (λ bytes is. (is.all, is.spelled)) c.in_err-bytes.ensures.none)

pub returns-clause-bytes : goal.returns-clause-bytes
returns-clause-bytes c =
    let spelled = c.in_ok-bytes.ensures.bytes in
    record {
      all = c.in_ok-bytes.bytes.items;
      spelled = spelled;
      short = short_bytes c.args.word.now c.in_ok-bytes.bytes.items c.if-word.false spelled;
      cut = c.cut.ensures ∙ ap (take 513) c.deref.ensures.value;
    }
