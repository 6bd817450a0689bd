-- The line of a time is read in one way.
use Rattle.std.proofs.Common.{◌≡◌, ℕ, ◌≤◌, List, [], ◌∷◌, ◌++◌, length, refl, sym, ap, subst, ◌∙◌, arith, Option, Some, None}
use Rattle.std.specs.Prelude.{All, IfSome, codes}
use Rattle.std.proofs.lemmas.List.Elements.{All-append}
use Rattle.swim_words.specs.Words.{Lacks, No, split_by}
use Rattle.swim_words.proofs.Splits.{differs, lacks_byte, no_split, same_split}
use Rattle.swim_record.specs.declared.argument.Argument.{Argument}
use Rattle.swim_record.specs.declared.argument.Argument.TheVariants.{Number}
use Rattle.swim_record.specs.declared.time.EraTime.{EraTime}
use Rattle.swim_record.specs.EraTimes.{IsEraTime, SaysTime, time_numbers, time_text}
use Rattle.swim_record.specs.Text.{IsArgument, SaysArguments, arguments_text}
use Rattle.swim_record.proofs.Blocks.{arguments-ends}
use Rattle.swim_record.proofs.Texts.{IsCutOff, cut_arguments, same_arguments, same_word}

pub time_ends : (t : EraTime) → IsEraTime t → Lacks 10 (time_text t)
time_ends t is = All-append (differs 10) (codes "clock") (arguments_text (time_numbers t)) (lacks_byte 10 (codes "clock") refl) (arguments-ends (time_numbers t) is)

-- what stands before the first space of such a line, and what stands after it
pub time_parts : (line word rest : List ℕ) (t : EraTime) → line ≡ word ++ rest → Lacks 32 word → IsCutOff rest → SaysTime line t → (word ≡ codes "clock") × SaysArguments rest (time_numbers t)
time_parts line word rest t parts lacks cut says =
    let same = same_word word rest (codes "clock") (arguments_text (time_numbers t)) lacks (lacks_byte 32 (codes "clock") refl) cut (cut_arguments (time_numbers t)) (sym parts ∙ says.0) in
    (same.0, (same.1, says.1))

of : List Argument → Option EraTime
of (Number b ∷ Number e ∷ Number t ∷ []) = Some (record { begun = b; ended = e; tick = t })
of _ = None

of-numbers : (t : EraTime) → of (time_numbers t) ≡ Some t
unfolding of
of-numbers t = refl

pub same_numbers : (t u : EraTime) → time_numbers t ≡ time_numbers u → t ≡ u
same_numbers t u same = let both : Some t ≡ Some u = sym (of-numbers t) ∙ ap of same ∙ of-numbers u in cc

pub few_numbers : (t : EraTime) → length (time_numbers t) ≤ 8
few_numbers t = omega arith

pub IfSome_then : {T : Type 0} {P Q : T → Type 0} (o : Option T) → ((x : T) → P x → Q x) → IfSome o P → IfSome o Q
IfSome_then None so holds = holds
IfSome_then (Some x) so holds = so x holds

-- a line says one time
pub same_time : (line : List ℕ) (t u : EraTime) → SaysTime line t → SaysTime line u → t ≡ u
same_time line t u one other =
    let parts = time_parts line (codes "clock") (arguments_text (time_numbers u)) t other.0 (lacks_byte 32 (codes "clock") refl) (cut_arguments (time_numbers u)) one in
    same_numbers t u (same_arguments (time_numbers t) (time_numbers u) one.1 other.1 (sym parts.1.0))

-- what was read says the line again
pub says_again : (line word rest : List ℕ) (args : List Argument) (t : EraTime) → line ≡ word ++ rest → word ≡ codes "clock" → SaysArguments rest args → args ≡ time_numbers t → SaysTime line t
says_again line word rest args t parts is said same = (parts ∙ ap (λ (w : List ℕ). w ++ rest) is ∙ ap (λ (r : List ℕ). codes "clock" ++ r) (said.0 ∙ ap arguments_text same), subst (λ (words : List Argument). All IsArgument words) same said.1)

-- no time is read of other words
pub none_again : (line word rest : List ℕ) (args : List Argument) → line ≡ word ++ rest → Lacks 32 word → IsCutOff rest → SaysArguments rest args → No (λ t. args ≡ time_numbers t) → No (SaysTime line)
none_again line word rest args parts lacks cut said none t says =
    let is = time_parts line word rest t parts lacks cut says in
    none t (same_arguments args (time_numbers t) said.1 is.1.1 (sym said.0 ∙ is.1.0))

-- the line at the front of a text
pub front_time : (text line after : List ℕ) (t : EraTime) (rest : List ℕ) → text ≡ split_by 10 line after → Lacks 10 line → IsEraTime t → text ≡ time_text t ++ 10 ∷ rest → (line ≡ time_text t) × (after ≡ rest)
front_time text line after t rest parts lacks is says = same_split 10 text line after (time_text t) rest lacks parts (time_ends t is) says

pub no_time : (text : List ℕ) (t : EraTime) (rest : List ℕ) → Lacks 10 text → text ≡ time_text t ++ 10 ∷ rest → ⊥
no_time text t rest lacks says = no_split 10 (time_text t) rest text lacks says
