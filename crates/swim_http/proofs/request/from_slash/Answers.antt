use Rattle.std.proofs.Common.{length, sym, ap, ◌∙◌}
use Rattle.std.specs.Prelude.{drop}
use Rattle.std.proofs.lemmas.List.{take_rest}
use Rattle.swim_http.specs.Requests.{from_slash}
use Rattle.swim_http.proofs.Slashes.{from_slash-split, from_slash-none, drop-split}
use Rattle.swim_http.proofs.request.from_slash.Goals as goal

-- the text is cut at its first slash
pub returns-in-Some : goal.returns-in-Some
returns-in-Some c =
    take_rest c.args.text.now (length c.in-Some.host.now)
    ∙ ap (drop (length c.in-Some.host.now)) c.in-Some.ensures.parts
    ∙ drop-split c.in-Some.host.now c.in-Some.field-0-1.now
    ∙ sym (ap from_slash c.in-Some.ensures.parts
    ∙ from_slash-split c.in-Some.host.now c.in-Some.field-0-1.now c.in-Some.ensures.first)

-- it has none
pub returns-in-None : goal.returns-in-None
returns-in-None c = sym (from_slash-none c.args.text.now c.in-None.ensures.none)
