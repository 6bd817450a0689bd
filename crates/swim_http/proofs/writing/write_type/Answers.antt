use Rattle.std.proofs.Common.{List, ℕ, ◌++◌, ap, ◌∙◌}
use Rattle.std.specs.Prelude.{codes}
use Rattle.std.proofs.lemmas.Result.{on_ok_weaker}
use Rattle.swim_http.specs.Answers.{type_text}
use Rattle.swim_http.proofs.writing.write_type.Goals as goal

-- the word that was written is the type
pub returns : goal.returns
unfolding type_text
returns c =
    on_ok_weaker c.write.result
    (λ written. written ∙ ap (λ (type : List ℕ). c.args.text.now.bytes.items ++ (codes "Content-Type: " ++ (type ++ codes "\r\n"))) c.content_type-kind.ensures)
    c.write.ensures.bytes
