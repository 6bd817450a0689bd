-- What a torn write and a whole one leave of the bytes beside it.
use Rattle.std.proofs.Common.{◌≡◌, ℕ, ◌+◌, ◌-◌, ◌≤◌, max, List, ◌++◌, length, take, drop, get_or}
use Rattle.std.proofs.Common.{replicate, refl, ◌∙◌, ap, arith, length-append, length-drop}
use Rattle.std.proofs.lemmas.List.{get_or-take, get_or-drop, length-replicate, get_or_append_left}
use Rattle.std.proofs.lemmas.List.{get_or-append_right, length-take-le}
use Rattle.swim_disk.specs.Disk.{Torn, padded, overlaid}

-- a gap before a write is filled up to its offset
length-padded : (old : List ℕ) (at : ℕ) → length (padded old at) ≡ max (length old) at
length-padded old at =
    omega (
      arith,
      length-append old (replicate (at - length old) 0),
      length-replicate {A = ℕ} (at - length old) 0,
    )

-- what comes before a write is as long as its offset
pub length-front : (old : List ℕ) (at : ℕ) → length (take at (padded old at)) ≡ at
length-front old at = length-take-le at (padded old at) (omega (arith, length-padded old at))

-- a whole write is one that a crash may leave
pub overlaid_torn : (old : List ℕ) (at : ℕ) (bytes : List ℕ)
    → Torn at (length bytes) old (overlaid old at bytes)
overlaid_torn old at bytes =
    let len : length (overlaid old at bytes)
    ≡ at + length bytes + (length old - (at + length bytes)) =
    omega (
      arith,
      length-append (take at (padded old at) ++ bytes) (drop (at + length bytes) old),
      length-append (take at (padded old at)) bytes,
      length-front old at,
      length-drop (at + length bytes) old,
    ) in
    record {
      no_shorter = omega (arith, len);
      no_longer = omega (arith, len);
      before = λ i less low. get_or_append_left (take at (padded old at) ++ bytes)
          (drop (at + length bytes) old) 0 i
          (omega (arith, length-append (take at (padded old at)) bytes, length-front old at))
          ∙ get_or_append_left (take at (padded old at)) bytes 0 i
          (omega (arith, length-front old at))
          ∙ get_or-take at (padded old at) i 0 low
          ∙ get_or_append_left old (replicate (at - length old) 0) 0 i less;
      after = λ i less high. get_or-append_right (take at (padded old at) ++ bytes)
          (drop (at + length bytes) old) (at + length bytes) i 0
          (omega (arith, length-append (take at (padded old at)) bytes, length-front old at)) high
          ∙ get_or-drop (at + length bytes) old (i - (at + length bytes)) 0
          ∙ ap (λ j. get_or old j 0) (omega arith);
    }

-- a shorter write tears no more than a longer one
pub torn_more : (at m n : ℕ) (old new : List ℕ) → m ≤ n → Torn at m old new → Torn at n old new
torn_more at m n old new le torn = record {
  no_shorter = torn.no_shorter;
  no_longer = omega (arith, torn.no_longer);
  before = torn.before;
  after = λ i less high. torn.after i less (omega (arith, high));
}

-- a write that changes nothing tears nothing
pub torn_same : (at n : ℕ) (old : List ℕ) → Torn at n old old
torn_same at n old = record {
  no_shorter = omega arith;
  no_longer = omega arith;
  before = λ i less low. refl;
  after = λ i less high. refl;
}
