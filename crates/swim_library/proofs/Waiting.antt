-- What waits, when one more datagram does, when the first is taken out, and when none does.
use Rattle.std.proofs.Common.{◌≡◌, ◌≢◌, ◌∙◌, ◌+◌, ◌<◌, ◌≤◌, ℕ, List, [], ◌∷◌, ◌++◌, length, drop, take, arith, refl, ap, sym}
use Rattle.std.proofs.Math.ListN.{get_or, set}
use Rattle.std.proofs.Math.Arith.{lt_of_le-ne}
use Rattle.std.proofs.Math.ListN.{drop_of_length-le}
use Rattle.std.proofs.lemmas.List.{drop-append-le, drop_more, get_or-take, length-take-le, take_more_set}
use Rattle.swim_library.specs.Outbox.{all_as, sent_as}
use Rattle.swim_library.specs.declared.outbox.Waiting.{Waiting}

pub all_as-append : (xs ys : List Waiting) → all_as (xs ++ ys) ≡ all_as xs ++ all_as ys
all_as-append [] ys = refl
all_as-append (x ∷ xs) ys = ap (λ w. sent_as x ∷ w) (all_as-append xs ys)

pub waits_more : (places : List Waiting) (begin end : ℕ) (w : Waiting) → begin ≤ end → end < length places → all_as (drop begin (take (end + 1) (set places end w))) ≡ all_as (drop begin (take end places)) ++ sent_as w ∷ []
waits_more places begin end w le lt =
    ap (λ (l : List Waiting). all_as (drop begin l)) (take_more_set places end w lt)
    ∙ ap all_as (drop-append-le begin (take end places) (w ∷ []) (rw (length-take-le end places (omega (arith, lt))) le))
    ∙ all_as-append (drop begin (take end places)) (w ∷ [])

pub waits_first : (places : List Waiting) (begin end : ℕ) (d : Waiting) → begin < end → end ≤ length places → all_as (drop begin (take end places)) ≡ sent_as (get_or places begin d) ∷ all_as (drop (begin + 1) (take end places))
waits_first places begin end d lt le =
    ap all_as (drop_more (take end places) begin d (rw (length-take-le end places le) lt))
    ∙ ap (λ (w : Waiting). sent_as w ∷ all_as (drop (begin + 1) (take end places))) (get_or-take end places begin d lt)

pub waits_none : (places : List Waiting) (begin end : ℕ) → begin ≡ end → end ≤ length places → all_as (drop begin (take end places)) ≡ []
waits_none places begin end is le =
    ap all_as (drop_of_length-le (take end places) (rw (length-take-le end places le, is) (omega arith)))

-- where something waits the first place is before the last
pub waits_before : (places : List Waiting) (begin end : ℕ) → begin ≤ end → end ≤ length places → all_as (drop begin (take end places)) ≢ [] → begin < end
waits_before places begin end before le some =
    lt_of_le-ne before (λ is. some (waits_none places begin end is le))

-- the first that waits, and those after it
pub waits_head : (places : List Waiting) (begin end : ℕ) → begin < end → end ≤ length places → (w : Waiting) × (all_as (drop begin (take end places)) ≡ sent_as w ∷ all_as (drop (begin + 1) (take end places)))
waits_head [] begin end lt le = absurd omega (arith, lt, le)
waits_head (x ∷ xs) begin end lt le = (get_or (x ∷ xs) begin x, waits_first (x ∷ xs) begin end x lt le)

-- where nothing waits the first place is not before the last
pub waits_not : (places : List Waiting) (begin end : ℕ) → begin ≤ end → end ≤ length places → all_as (drop begin (take end places)) ≡ [] → begin ≢ end → ⊥
waits_not places begin end before le none apart =
    let head = waits_head places begin end (lt_of_le-ne before apart) le in
    let one : sent_as head.0 ∷ all_as (drop (begin + 1) (take end places)) ≡ [] = sym head.1 ∙ none in
    absurd cc
