-- The words by which people are told what a row says of its member.
use Rattle.std.specs.Prelude.{ℕ, List, codes}
use Rattle.swim_wire.specs.declared.update.UpdateKind.{UpdateKind}
use Rattle.swim_wire.specs.declared.update.UpdateKind.TheVariants.{Alive, Suspect, Confirm}

-- a member that is confirmed has failed, or has left
abbrev pub state_word : UpdateKind → List ℕ
state_word Alive = codes "alive"
state_word Suspect = codes "suspect"
state_word Confirm = codes "failed"
