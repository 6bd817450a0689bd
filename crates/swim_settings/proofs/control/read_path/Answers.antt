use Rattle.std.proofs.Common.{Option, Some, None, ◌∙◌, sym}
use Rattle.std.specs.Prelude.{IfSome}
use Rattle.swim_words.proofs.Splits.{no_split}
use Rattle.swim_settings.proofs.control.read_path.Goals as goal

-- what holds anyway holds of the value, if there is one
anyway : {X : Type 0} (r : Option X) {P : Type 0} → P → IfSome r (λ _. P)
anyway None p = tt
anyway (Some x) p = p

-- what stands before a slash and what stands after it are apart
pub returns-clause-slash : goal.returns-clause-slash
returns-clause-slash c =
    let found = c.in_ok-split_at_byte in
    anyway c.ok.result (λ lacks. no_split 47 found.field-0.0.now found.field-0.1.now c.args.text.now lacks (sym c.as_bytes.ensures.value ∙ found.ensures.parts))
