use Rattle.std.proofs.Common.{sym, ap, ◌∙◌, ◌∷◌, [], ◌++◌, take, rules}
use Rattle.std.proofs.lemmas.List.{take_more}
use Rattle.std.proofs.Output.{has_written_append, has_written_of_eq}
use Rattle.swim_record.specs.declared.argument.Argument.{Argument}
use Rattle.swim_record.specs.Text.{arguments_text}
use Rattle.swim_record.proofs.Texts.{text-snoc}
use Rattle.swim_record.proofs.text.write_words.Goals as goal

pub loop-argument-preserved : goal.loop-argument-preserved
loop-argument-preserved g c plain =
    let i = c.loop-argument.argument-index in
    let arguments = c.args.arguments.now in
    let item = c.argument-item.result in
    let more = ap arguments_text (take_more arguments i item c.loop-argument-test.true ∙ ap (λ (a : Argument). take i arguments ++ a ∷ []) (sym c.argument-item.is)) in
    has_written_of_eq _ _ _ _ _ (sym (more ∙ text-snoc (take i arguments) item)) (has_written_append _ _ _ _ _ _ (c.loop-argument.invariant plain) (search rules))
