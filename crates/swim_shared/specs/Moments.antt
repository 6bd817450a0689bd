-- What a crash at a moment of an era leaves of the disk.
use Rattle.std.specs.Prelude.{ℕ, ◌≤◌, List, [], ◌∷◌, ◌++◌}
use Rattle.swim_disk.specs.Disk.{DiskState}
use Rattle.swim_state.specs.declared.owner.Owner.{Owner}
use Rattle.swim_state.specs.Held.{HeldSince}
use Rattle.swim_node.specs.declared.entry.Entry.{Entry}
use Rattle.swim_node.specs.History.{Base, granted_of}
use Rattle.swim_node.specs.Owns.{owns, AreAtMost}

-- since this moment, as the disk's clock shows it, each crash leaves a floor of at least each own
-- number that was sent by the end of these entries
pub record CoversSince (disk : DiskState) (owner : Owner) (base : Base) (t : ℕ)
    (entries : List Entry)
    : Type 0 where
  pub held : HeldSince owner disk t (granted_of base entries)
  pub sent : AreAtMost (granted_of base entries) (owns base entries)

-- so it is since this moment, of the entries before; and of each one more since a later moment,
-- in their order, up to now
abbrev pub CoversEach : DiskState → Owner → Base → ℕ → List Entry → List Entry → Type 0
CoversEach disk owner base t before [] =
    (t ≤ disk.clock) × CoversSince disk owner base t before
CoversEach disk owner base t before (e ∷ rest) =
    CoversSince disk owner base t before
    × (granted_of base before ≤ granted_of base (before ++ e ∷ []))
    × (u : ℕ) × (t ≤ u) × CoversEach disk owner base u (before ++ e ∷ []) rest

-- no moment of an era that began then left, after a crash, less than had been sent by then
abbrev pub CoversEra : DiskState → Owner → Base → ℕ → List Entry → Type 0
CoversEra disk owner base t entries = CoversEach disk owner base t [] entries
