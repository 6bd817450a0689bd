use Rattle.std.proofs.Common.{◌++◌, ◌∷◌, [], List, take, ap, sym, ◌∙◌, append_assoc}
use Rattle.std.proofs.lemmas.List.{take_more}
use Rattle.swim_record.specs.declared.line.Line.{Line}
use Rattle.swim_record.specs.Recording.{lines_text}
use Rattle.swim_record.proofs.Writing.{lines-append}
use Rattle.swim_record.proofs.writer.write_lines.Goals as goal

pub loop-line-preserved : goal.loop-line-preserved
loop-line-preserved c =
    let i = c.loop-line.line-index in
    let lines = c.args.lines.now in
    let item = c.line-item.result in
    c.in_ok-write_line.ensures
    ∙ ap (λ t. t ++ lines_text (item ∷ [])) c.loop-line.invariant
    ∙ append_assoc c.args.text.now.bytes.items (lines_text (take i lines)) (lines_text (item ∷ []))
    ∙ ap (λ t. c.args.text.now.bytes.items ++ t) (sym (lines-append (take i lines) (item ∷ [])))
    ∙ ap (λ (ls : List Line). c.args.text.now.bytes.items ++ lines_text ls) (ap (λ (l : Line). take i lines ++ l ∷ []) c.line-item.is ∙ sym (take_more lines i item c.loop-line-test.true))
