-- What comes out of a ring, as what goes out.
use Rattle.std.proofs.Common.{◌≡◌, ℕ, ◌+◌, ◌-◌, ◌^◌, min, List, [], ◌∷◌, ◌++◌, length, ap, ◌∙◌, arith, length-append}
use Rattle.swim_node.specs.Link.{lost_of}
use Rattle.swim_shared.specs.Outboxes.{Handed}
use Rattle.swim_shell.specs.Losses.{HandsOn}

same_lost : (f g m n : ℕ) → g ≡ f + m → g ≡ f + n → m ≡ n
same_lost f g m n a b = omega (arith, a, b)

-- one turn of a ring's sender hands on
pub hands_on : {L : Type 0} (tells : Type 0) (took : L → List (ℕ × List ℕ)) (failures : L → ℕ) (out out' : List (ℕ × List ℕ)) (a b : L) (t u : List (Unit {0})) (owed owed' lost : ℕ) → Handed tells took failures out out' a b → failures b ≡ failures a + lost → owed' ≡ min (owed + lost) (2 ^ 32 - 1) → u ≡ t ++ tt ∷ [] → HandsOn tells (record { turns = length t; out = out; took = took a; lost = failures a; owed = owed }) (record { turns = length u; out = out'; took = took b; lost = failures b; owed = owed' })
hands_on tells took failures out out' a b t u owed owed' lost h l o k = record {
  fates = h.fates;
  handed = record { out = h.out_is; took = h.took_is; lost = h.failures_is };
  owes = o ∙ ap (λ n. min (owed + n) (2 ^ 32 - 1)) (same_lost (failures a) (failures b) lost (lost_of h.fates) l h.failures_is);
  turns = ap length k ∙ length-append t (tt ∷ []);
}
