-- Lists of places whose ranks rise: one order for each set of places.
use Rattle.std.proofs.Common.{◌≡◌, ℕ, ◌+◌, ◌*◌, ◌<◌, ◌≤◌, ◌==◌, ◌||◌, Bool, true, false, refl, sym, ◌∙◌, ap, inl, inr, List, [], ◌∷◌, ◌++◌, take, drop, zero, suc, arith}
use Rattle.std.specs.List.{list_any}
use Rattle.std.proofs.lemmas.Bool.{false≢true, eqb-true, eq-eqb, or_cases, or_left, or_right, false_from_ne_true}
use Rattle.std.proofs.lemmas.List.{take-append-drop}
use Rattle.std.proofs.lemmas.List.Folds.{list_any-append}
use Rattle.swim_gossip.specs.declared.slots.BufferSlot.{BufferSlot}
use Rattle.swim_gossip.specs.Buckets.{at}

-- a place is among these
abbrev pub stands : ℕ → List ℕ → Bool
stands x turns = list_any (λ y. y == x) turns

-- the ranks rise, from low on
abbrev pub RiseFrom : (ℕ → ℕ) → ℕ → List ℕ → Type 0
RiseFrom f low [] = Unit {0}
RiseFrom f low (x ∷ xs) = (low ≤ f x) × RiseFrom f (suc (f x)) xs

-- whose bucket and place come earlier has the lower rank
abbrev pub rank : List BufferSlot → ℕ → ℕ
rank slots x = 512 * (at slots x).count + x

pub rise-weaker : (f : ℕ → ℕ) (low under : ℕ) (xs : List ℕ) → under ≤ low → RiseFrom f low xs → RiseFrom f under xs
rise-weaker f low under [] l h = tt
rise-weaker f low under (x ∷ xs) l h = (let e : low ≤ f x = h.0 in omega arith, h.1)

pub rise-above : (f : ℕ → ℕ) (low : ℕ) (xs : List ℕ) (y : ℕ) → RiseFrom f low xs → stands y xs ≡ true → low ≤ f y
rise-above f low [] y h s = absurd (false≢true s)
rise-above f low (x ∷ xs) y h s =
    let l : low ≤ f x = h.0 in
    elim (or_cases (x == y) (stands y xs) s) [
      | inl e ↦ let same : f x ≡ f y = ap f (eqb-true x y e) in omega arith
      | inr e ↦ let up : suc (f x) ≤ f y = rise-above f (suc (f x)) xs y h.1 e in omega arith
    ]

-- what comes first doesn't come again
pub rise-once : (f : ℕ → ℕ) (x : ℕ) (xs : List ℕ) → RiseFrom f (suc (f x)) xs → stands x xs ≡ false
rise-once f x xs h = false_from_ne_true (stands x xs) (λ s. let up : suc (f x) ≤ f x = rise-above f (suc (f x)) xs x h s in absurd (omega arith))

pub rise-take : (f : ℕ → ℕ) (low k : ℕ) (xs : List ℕ) → RiseFrom f low xs → RiseFrom f low (take k xs)
rise-take f low zero xs h = tt
rise-take f low (suc k) [] h = tt
rise-take f low (suc k) (x ∷ xs) h = (h.0, rise-take f (suc (f x)) k xs h.1)

pub rise-append : (f : ℕ → ℕ) (low over : ℕ) (xs ys : List ℕ) → low ≤ over → ((z : ℕ) → stands z xs ≡ true → f z < over) → RiseFrom f low xs → RiseFrom f over ys → RiseFrom f low (xs ++ ys)
rise-append f low over [] ys l b h k = rise-weaker f over low ys l k
rise-append f low over (x ∷ xs) ys l b h k =
    let here : f x < over = b x (or_left (x == x) (stands x xs) (eq-eqb x x refl)) in
    (h.0, rise-append f (suc (f x)) over xs ys (omega arith) (λ z s. b z (or_right (x == z) (stands z xs) s)) h.1 k)

pub stands-parts : (k : ℕ) (xs : List ℕ) (z : ℕ) → stands z xs ≡ (stands z (take k xs) || stands z (drop k xs))
stands-parts k xs z = ap (λ (ys : List ℕ). stands z ys) (sym (take-append-drop k xs)) ∙ list_any-append (λ y. y == z) (take k xs) (drop k xs)

-- the first of them are below the others
pub rise-parts : (f : ℕ → ℕ) (low k : ℕ) (xs : List ℕ) (y z : ℕ) → RiseFrom f low xs → stands y (take k xs) ≡ true → stands z (drop k xs) ≡ true → f y < f z
rise-parts f low zero xs y z h s t = absurd (false≢true s)
rise-parts f low (suc k) [] y z h s t = absurd (false≢true s)
rise-parts f low (suc k) (x ∷ xs) y z h s t =
    elim (or_cases (x == y) (stands y (take k xs)) s) [
      | inl e ↦
          let same : f x ≡ f y = ap f (eqb-true x y e) in
          let up : suc (f x) ≤ f z = rise-above f (suc (f x)) xs z h.1 (stands-parts k xs z ∙ or_right (stands z (take k xs)) (stands z (drop k xs)) t) in
          omega arith
      | inr e ↦ rise-parts f (suc (f x)) k xs y z h.1 e t
    ]
