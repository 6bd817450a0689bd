-- What fills the unused places of a list of updates.
use Rattle.swim_wire.specs.declared.update.Update.{Update}
use Rattle.swim_wire.specs.declared.update.UpdateKind.TheVariants.{Alive}

-- the update with which a place in fixed room begins; it is never read
abbrev pub filler : Update
filler = record { kind = Alive; who = 1; number = 0 }
