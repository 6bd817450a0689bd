-- The pings of a leave.
use Rattle.std.specs.Prelude.{List, [], ◌∷◌, Option, Some, None}
use Rattle.swim_member.specs.Member.{row_name}
use Rattle.swim_member.specs.Send.{send}
use Rattle.swim_member.specs.State.{State, Change, SequenceTaken}
use Rattle.swim_rules.specs.declared.table.Row.{Row}
use Rattle.swim_wire.specs.declared.datagram.Kind.TheVariants.{Ping}

-- the k-th ping of a leave
abbrev pub bye : State → Option Row → List Change
bye s None = []
bye s (Some r) = send s (row_name r) Ping s.seq (row_name r) ∷ SequenceTaken ∷ []
