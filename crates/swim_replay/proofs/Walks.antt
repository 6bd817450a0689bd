-- What is left of the lines of a beginning.
use Rattle.std.proofs.Common.{◌≡◌, ℕ, ◌+◌, List, [], ◌∷◌, ◌++◌, drop, refl, sym, ◌∙◌, subst}
use Rattle.swim_member.specs.State.{State}
use Rattle.swim_record.specs.declared.line.Line.{Line}
use Rattle.swim_record.specs.declared.line.Line.TheVariants as line
use Rattle.swim_record.specs.declared.line.Start.{Start}
use Rattle.swim_replay.specs.Machinery.Told.{MayNote, MayNoteAll, all_noted, noted}

-- of the lines up to the beginning these are left, and they make the state what all of them make it
pub record IsLeft (lines : List Line) (place : ℕ) (s t : State) (told : List Line) (start : Start) (after : List Line) : Type 0 where
  pub left : List Line
  pub is : drop place lines ≡ left ++ line.Begin start ∷ after
  pub may : MayNoteAll s left
  pub same : all_noted s left ≡ t

-- the next line is one of them, or the beginning
begins : (l : Line) (start other : Start) (s : State) → l ≡ line.Begin start → MayNote s l → ⊥
begins l start other s is may = subst (λ (x : Line). MayNote s x) is may

next-of : (l : Line) (rest lines : List Line) (place : ℕ) (s t : State) (told : List Line) (start : Start) (after left : List Line) → ((other : Start) → l ≡ line.Begin other → ⊥) → drop place lines ≡ l ∷ rest → drop (place + 1) lines ≡ rest → drop place lines ≡ left ++ line.Begin start ∷ after → MayNoteAll s left → all_noted s left ≡ t → MayNote s l × IsLeft lines (place + 1) (noted s l) t told start after
next-of l rest lines place s t told start after [] other here next is may same = absurd (other start (let e : l ∷ rest ≡ line.Begin start ∷ after = sym here ∙ is in cc))
next-of l rest lines place s t told start after (x ∷ left) other here next is may same =
    let e : l ∷ rest ≡ x ∷ (left ++ line.Begin start ∷ after) = sym here ∙ is in
    let head : x ≡ l = cc in
    let tail : rest ≡ left ++ line.Begin start ∷ after = cc in (
      subst (λ (y : Line). MayNote s y) head may.0,
      record {
        left = left;
        is = next ∙ tail;
        may = subst (λ (y : Line). MayNoteAll (noted s y) left) head may.1;
        same = subst (λ (y : Line). all_noted (noted s y) left ≡ t) head same;
      },
    )

pub left_next : (l : Line) (lines : List Line) (place : ℕ) (s t : State) (told : List Line) (start : Start) (after : List Line) → ((other : Start) → l ≡ line.Begin other → ⊥) → drop place lines ≡ l ∷ drop (place + 1) lines → IsLeft lines place s t told start after → MayNote s l × IsLeft lines (place + 1) (noted s l) t told start after
left_next l lines place s t told start after other here w = next-of l (drop (place + 1) lines) lines place s t told start after w.left other here refl w.is w.may w.same

last-of : (begun : Start) (rest lines : List Line) (place : ℕ) (s t : State) (told : List Line) (start : Start) (after left : List Line) → drop place lines ≡ line.Begin begun ∷ rest → drop place lines ≡ left ++ line.Begin start ∷ after → MayNoteAll s left → all_noted s left ≡ t → (begun ≡ start) × (rest ≡ after) × (s ≡ t)
last-of begun rest lines place s t told start after [] here is may same =
    let e : line.Begin begun ∷ rest ≡ line.Begin start ∷ after = sym here ∙ is in (cc, cc, same)
last-of begun rest lines place s t told start after (x ∷ left) here is may same =
    let e : line.Begin begun ∷ rest ≡ x ∷ (left ++ line.Begin start ∷ after) = sym here ∙ is in
    absurd (begins x begun start s (let head : x ≡ line.Begin begun = cc in head) may.0)

-- where the beginning is next, nothing is left
pub left_last : (begun : Start) (rest lines : List Line) (place : ℕ) (s t : State) (told : List Line) (start : Start) (after : List Line) → drop place lines ≡ line.Begin begun ∷ rest → IsLeft lines place s t told start after → (begun ≡ start) × (rest ≡ after) × (s ≡ t)
left_last begun rest lines place s t told start after here w = last-of begun rest lines place s t told start after w.left here w.is w.may w.same

none-of : (lines : List Line) (place : ℕ) (start : Start) (after left : List Line) → drop place lines ≡ [] → drop place lines ≡ left ++ line.Begin start ∷ after → ⊥
none-of lines place start after [] here is = let e : [] ≡ line.Begin start ∷ after = sym here ∙ is in absurd (cc)
none-of lines place start after (x ∷ left) here is = let e : [] ≡ x ∷ (left ++ line.Begin start ∷ after) = sym here ∙ is in absurd (cc)
