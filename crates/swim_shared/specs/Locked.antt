-- What lies under the lock, and what a call makes of it.
use Rattle.std.specs.Prelude.{◌≡◌, ◌⊎◌, ◌+◌, ◌++◌, ◌∷◌, [], Bool, List, Result, Ok, Err}
use Rattle.swim_node.specs.declared.entry.Entry.{Entry}
use Rattle.swim_node.specs.declared.entry.Reply.{Reply}
use Rattle.swim_shared.specs.declared.fault.CallFault.{CallFault}
use Rattle.swim_shared.specs.declared.fault.CallFault.TheVariants.{NoMemory, EraFull}
use Rattle.swim_shared.specs.declared.fault.CallFault.TheVariants.{OutOfTurn, Unread}
use Rattle.swim_shared.specs.Passes.{PassView}

-- what a contract sees under the lock
pub record LockedView : Type 0 where
  pub journal : List Entry  -- all that was entered
  pub shown : List Entry  -- what of it the watches are shown
  pub has_pen : Bool  -- the right to add the next entry is had

-- one entry came, and no other
pub record GrowsByOne (old new : List Entry) : Type 0 where
  pub entry : Entry
  pub added : new ≡ old ++ entry ∷ []

-- an Unread call stands in the journal just where the pass counts it
abbrev pub CountsIt : PassView → PassView → List Entry → List Entry → Type 0
CountsIt p q old new =
    ((q.calls ≡ p.calls) × (new ≡ old))
    ⊎ ((q.calls ≡ p.calls + 1) × GrowsByOne old new)

-- what a call of a pass makes of the journal: an answered one adds an entry, and is read back with
-- all before it; a refused one adds none
abbrev pub Enters : PassView → PassView → List Entry → List Entry → Result Reply CallFault → Type 0
Enters p q old new (Ok reply) = GrowsByOne old new × (q.seen ≡ new)
Enters p q old new (Err NoMemory) = new ≡ old
Enters p q old new (Err EraFull) = (new ≡ old) × (q.seen ≡ new)
Enters p q old new (Err OutOfTurn) = new ≡ old
Enters p q old new (Err Unread) = CountsIt p q old new
