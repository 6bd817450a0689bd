-- Ceilings rise in a legal history, and a step more of it.
use Rattle.std.proofs.Common.{◌≡◌, ℕ, ◌≤◌, List, [], ◌∷◌, ◌++◌, refl, arith, subst}
use Rattle.swim_member.specs.Judge.{wanted}
use Rattle.swim_node.specs.declared.entry.Entry.{Entry}
use Rattle.swim_node.specs.History.{Base, AreNext, granted_from, granted_of, state_after}
use Rattle.swim_explain.specs.Machinery.Covering.{AreCovered}
use Rattle.swim_node.proofs.Nodes.{granted-grows}

granted-snoc : (g : ℕ) (before : List Entry) (e : Entry) → granted_from g (before ++ e ∷ []) ≡ e.granted
granted-snoc g [] e = refl
granted-snoc g (f ∷ before) e = granted-snoc f.granted before e

-- the ceilings of what comes next are covered by those before
pub covers_next : (base : Base) (before entries : List Entry) → AreNext base before entries → AreCovered (granted_of base before) entries
covers_next base before [] h = tt {0}
covers_next base before (e ∷ entries) h = (
  granted-grows (wanted (state_after base before) e.event) (granted_of base before) e.save e.granted h.0.fits.saved,
  subst (λ g. AreCovered g entries) (granted-snoc base.granted before e) (covers_next base (before ++ e ∷ []) entries h.1),
)

-- a lower number is covered too
pub covers-less : (n g : ℕ) (entries : List Entry) → n ≤ g → AreCovered g entries → AreCovered n entries
covers-less n g [] le h = tt {0}
covers-less n g (e ∷ entries) le h = let low = h.0 in (omega arith, h.1)
