-- What a write over some bytes, in their place, makes of them.
use Rattle.std.proofs.Common.{◌≡◌, ◌∙◌, ap, sym, arith, ℕ, ◌+◌, ◌-◌, ◌<◌, ◌≤◌, max, List, ◌++◌, length, take, drop, replicate, length-append, length-drop, append-nil}
use Rattle.std.proofs.lemmas.List.{append_assoc, drop_all, drop-drop, length-replicate, length-take-le, replicate-append-replicate, take_all, take-append-le}
use Rattle.swim_disk.specs.Disk.{padded, overlaid}
use borrow.Rule.Slice.PartMut.{post_of}

-- k bytes from `at` on are written over, and the others stay
pub laid : (bytes room : List ℕ) (at k size : ℕ) → k ≡ length bytes → size ≡ length room → at + k ≤ length room
    → take size (take at room ++ (bytes ++ post_of at k room) ++ drop (length (take at room ++ (bytes ++ post_of at k room))) room)
    ≡ take at room ++ bytes ++ drop (at + length bytes) room
laid bytes room at k size all whole within =
    let rest = post_of at k room in
    let laid_in = take at room ++ (bytes ++ rest) in
    let rest_is : rest ≡ drop (at + k) room = drop-drop k at room in
    let count : length laid_in ≡ length room =
    omega (
      arith,
      length-append (take at room) (bytes ++ rest),
      length-append bytes rest,
      length-take-le at room (omega (arith, within)),
      ap (λ (l : List ℕ). length l) rest_is,
      length-drop (at + k) room,
      within,
      all,
    ) in
    ap (λ l. take size (laid_in ++ l)) (drop_all (length laid_in) room (omega (arith, count)))
    ∙ ap (λ l. take size l) (append-nil laid_in)
    ∙ take_all size laid_in (omega (arith, count, whole))
    ∙ sym (append_assoc (take at room) bytes rest)
    ∙ ap (λ l. take at room ++ bytes ++ l) (rest_is ∙ ap (λ n. drop (at + n) room) all)

-- within the old bytes
pub laid_within : (old : List ℕ) (at : ℕ) (bytes : List ℕ) → at + length bytes ≤ length old
    → take at old ++ bytes ++ drop (at + length bytes) old ≡ overlaid old at bytes
laid_within old at bytes within =
    ap (λ l. l ++ bytes ++ drop (at + length bytes) old) (sym (take-append-le at old (replicate (at - length old) 0) (omega (arith, within))))

-- past their end, over zero bytes up to where the write ends
pub laid_past : (old room : List ℕ) (at : ℕ) (bytes : List ℕ) → length old < at + length bytes
    → room ≡ take (at + length bytes) old ++ replicate (at + length bytes - length old) 0
    → take at room ++ bytes ++ drop (at + length bytes) room ≡ overlaid old at bytes
laid_past old room at bytes past is =
    let end = at + length bytes in
    let gap : List ℕ = replicate (at - length old) 0 in
    let more = end - max (length old) at in
    let filled : room ≡ padded old at ++ replicate more 0 =
    is
    ∙ ap (λ l. l ++ replicate (end - length old) 0) (take_all end old (omega (arith, past)))
    ∙ ap (λ n. old ++ replicate n 0) (let sum : end - length old ≡ at - length old + more = omega (arith, past) in sum)
    ∙ ap (λ l. old ++ l) (sym (replicate-append-replicate (at - length old) more 0))
    ∙ sym (append_assoc old gap (replicate more 0)) in
    let front : length (padded old at) ≡ max (length old) at =
    omega (arith, length-append old gap, length-replicate {A = ℕ} (at - length old) 0) in
    let count : length room ≡ end =
    omega (arith, ap (λ (l : List ℕ). length l) filled, length-append (padded old at) (replicate more 0), front, length-replicate {A = ℕ} more 0, past) in
    ap (λ l. take at l ++ bytes ++ drop end room) filled
    ∙ ap (λ l. l ++ bytes ++ drop end room) (take-append-le at (padded old at) (replicate more 0) (omega (arith, front)))
    ∙ ap (λ l. take at (padded old at) ++ bytes ++ l)
    (drop_all end room (omega (arith, count)) ∙ sym (drop_all end old (omega (arith, past))))
