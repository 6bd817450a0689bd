-- The lines after the first one of an answer.
use Rattle.std.proofs.Common.{◌≡◌, ℕ, List, ◌++◌, drop, refl, ◌∙◌, ap, subst}
use Rattle.std.specs.Prelude.{codes}
use Rattle.swim_wire.specs.declared.update.Update.{Update}
use Rattle.std.proofs.lemmas.List.Elements.{All-append, All-drop}
use Rattle.swim_words.specs.Words.{Lacks, No, split_by}
use Rattle.swim_words.proofs.Splits.{differs, lacks_byte, no_split, same_split}
use Rattle.swim_ask.specs.Answers.{FitsAfter, HasAfterFirst}

-- an answer without an end of a line has no such lines
pub no_first : (answer lines : List ℕ) → Lacks 10 answer → HasAfterFirst answer lines → ⊥
no_first answer lines lacks has = no_split 10 (codes "ok " ++ has.first) lines answer lacks has.says

-- what its first line is, and which lines come after it
pub lines_in : (answer first after lines : List ℕ) → Lacks 10 first → answer ≡ split_by 10 first after → (has : HasAfterFirst answer lines) → (first ≡ codes "ok " ++ has.first) × (after ≡ lines)
lines_in answer first after lines lacks cut has =
    same_split 10 answer first after (codes "ok " ++ has.first) lines lacks cut (All-append (differs 10) (codes "ok ") has.first (lacks_byte 10 (codes "ok ") refl) has.one_line) has.says

-- the lines come after a first line that begins so
pub after_first : (answer first lines : List ℕ) → Lacks 10 first → answer ≡ split_by 10 first lines → first ≡ codes "ok " ++ drop 3 first → HasAfterFirst answer lines
after_first answer first lines lacks cut begins = record {
  first = drop 3 first;
  says = cut ∙ ap (λ w. split_by 10 w lines) begins;
  one_line = All-drop (differs 10) 3 first lacks;
}

-- no rows fit that are in other lines
pub no_fit : (answer first after lines : List ℕ) (old : List Update) → Lacks 10 first → answer ≡ split_by 10 first after → No (FitsAfter after old) → HasAfterFirst answer lines → No (FitsAfter lines old)
no_fit answer first after lines old lacks cut none has =
    let P : List ℕ → Type 0 = λ w. No (FitsAfter w old) in subst P (lines_in answer first after lines lacks cut has).1 none
