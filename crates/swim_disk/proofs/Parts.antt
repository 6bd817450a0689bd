-- What a call beside some bytes leaves of them.
use Rattle.std.proofs.Common.{◌≡◌, ◌⊎◌, inl, inr, ⊎_elim, ℕ, ◌+◌, ◌-◌, ◌≤◌, List, ◌++◌, Result, length, take, drop, get_or, ◌∙◌, ap, arith, length-append}
use Rattle.std.proofs.lemmas.List.{get_or_append_left, get_or-append_right}
use Rattle.swim_disk.specs.Disk.{DiskState, Torn, padded, overlaid, Rests, Writes}
use Rattle.swim_disk.specs.Part.{Has, KeepsPart}
use Rattle.swim_disk.specs.Machinery.Torn.{length-front}

-- a write elsewhere
torn_has : (at : ℕ) (bytes : List ℕ) (p n : ℕ) (old new : List ℕ) → Torn p n old new → (p + n ≤ at) ⊎ (at + length bytes ≤ p) → Has at bytes old → Has at bytes new
torn_has at bytes p n old new torn apart has = record {
  within = omega (arith, has.within, torn.no_shorter);
  same = λ i less. ⊎_elim
      (λ low. torn.after (at + i) (omega (arith, less, has.within)) (omega (arith, low)))
      (λ high. torn.before (at + i) (omega (arith, less, has.within)) (omega (arith, less, high)))
      apart ∙ has.same i less;
}

pub overlaid_has : (old : List ℕ) (at : ℕ) (bytes : List ℕ) → Has at bytes (overlaid old at bytes)
overlaid_has old at bytes =
    let front = length-front old at in
    let size : length (take at (padded old at) ++ bytes) ≡ at + length bytes = omega (arith, length-append (take at (padded old at)) bytes, front) in
    record {
      within = omega (arith, size, length-append (take at (padded old at) ++ bytes) (drop (at + length bytes) old));
      same = λ i less. get_or_append_left (take at (padded old at) ++ bytes) (drop (at + length bytes) old) 0 (at + i) (omega (arith, size, less))
          ∙ get_or-append_right (take at (padded old at)) bytes at (at + i) 0 front (omega arith)
          ∙ ap (λ j. get_or bytes j 0) (let same : at + i - at ≡ i = omega arith in same);
    }

pub write_keeps : {T E : Type 0} (at n p : ℕ) (written : List ℕ) (result : Result T E) (old new : DiskState) → (p + length written ≤ at) ⊎ (at + n ≤ p) → Writes p written result old new → KeepsPart at n old new
write_keeps at n p written result old new apart writes = λ bytes size was c left.
    let from = writes.images c left in
    torn_has at bytes p (length written) from.0 c from.2 (⊎_elim (λ low. inl low) (λ high. inr (omega (arith, size, high))) apart) (was from.0 from.1)

pub rest_keeps : (at n : ℕ) (old new : DiskState) → Rests old new → KeepsPart at n old new
rest_keeps at n old new rests = λ bytes size was c left. was c (rests.images c left)
