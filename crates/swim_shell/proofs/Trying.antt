-- Tries, put together.
use Rattle.std.proofs.Common.{◌≡◌, ℕ, ◌+◌, List, [], ◌∷◌, ◌++◌, length, refl, ap, sym, ◌∙◌, inl, inr, length-append}
use Rattle.std.specs.Prelude.{All}
use Rattle.std.proofs.lemmas.List.{append-nil}
use Rattle.std.proofs.lemmas.List.Elements.{All-nil, All-push}
use Rattle.swim_shell.specs.Tries.{Tried}
use Rattle.std.proofs.lemmas.List.{append_assoc}

-- so many tries so far, none of which was an end
pub record Trying {A : Type 0} (GoesOn : A → Type 0) (old new : List A) (count : ℕ) : Type 0 where
  pub answers : List A
  pub are : new ≡ old ++ answers
  pub went_on : All GoesOn answers
  pub count_is : length answers ≡ count

pub trying_none : {A : Type 0} (GoesOn : A → Type 0) (old : List A) → Trying GoesOn old old 0
trying_none GoesOn old = record { answers = []; are = sym (append-nil old); went_on = All-nil GoesOn; count_is = refl }

more : {A : Type 0} (old mid new answers : List A) (last : A) → mid ≡ old ++ answers → new ≡ mid ++ last ∷ [] → new ≡ old ++ (answers ++ last ∷ [])
more old mid new answers last h k = k ∙ (ap (λ w. w ++ last ∷ []) h ∙ append_assoc old answers (last ∷ []))

pub trying_more : {A : Type 0} (GoesOn : A → Type 0) (old mid new : List A) (count : ℕ) (last : A) → Trying GoesOn old mid count → new ≡ mid ++ last ∷ [] → GoesOn last → Trying GoesOn old new (count + 1)
trying_more GoesOn old mid new count last t is on = record {
  answers = t.answers ++ last ∷ [];
  are = more old mid new t.answers last t.are is;
  went_on = All-push GoesOn t.answers last t.went_on on;
  count_is = length-append t.answers (last ∷ []) ∙ ap (λ w. w + 1) t.count_is;
}

pub tried_end : {A : Type 0} (GoesOn Ends : A → Type 0) (most : ℕ) (Last : Type 0) (old mid new : List A) (count : ℕ) (last : A) → Trying GoesOn old mid count → new ≡ mid ++ last ∷ [] → Ends last → Tried GoesOn Ends most Last old new
tried_end GoesOn Ends most Last old mid new count last t is ends = record {
  answers = t.answers ++ last ∷ [];
  are = more old mid new t.answers last t.are is;
  end = inl (record { before = t.answers; last = last; are = refl; went_on = t.went_on; ends = ends });
}

pub tried_out : {A : Type 0} (GoesOn Ends : A → Type 0) (most : ℕ) (Last : Type 0) (old new : List A) (count : ℕ) → Trying GoesOn old new count → count ≡ most → Last → Tried GoesOn Ends most Last old new
tried_out GoesOn Ends most Last old new count t is last = record { answers = t.answers; are = t.are; end = inr (record { count = t.count_is ∙ is; went_on = t.went_on }, last) }
