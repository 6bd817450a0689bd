-- By whom a member came to know somebody.
use Rattle.std.specs.Prelude.{ℕ, ◌==◌, ◌&&◌, Bool, not, if◌then◌else◌, Option, None}
use Rattle.swim_node.specs.declared.entry.Status.{Status}

-- the member holds nobody for alive or suspected
abbrev pub holds_nobody : Status → Bool
holds_nobody s = (s.alive == 0) && (s.suspect == 0)

-- from whom the datagram came by which a member that was alone came to know somebody
abbrev pub joined_by : (is_alone : Bool) → (from : Option ℕ) → Status → Option ℕ
joined_by is_alone from s = if is_alone && not (holds_nobody s) then from else None
