use Rattle.std.proofs.Common.{◌≡◌, ◌≤◌, get_or, length, take}
use Rattle.swim_disk.specs.Machinery.Made.{made}
use Rattle.swim_disk.proofs.made.byte_made.Given as goal

-- no call from here on writes the byte
abbrev pub invariant-loop-left : goal.invariant-loop-left
invariant-loop-left l = (get_or (made l.start l.writes) l.place 0 ≡ get_or (made l.start (take l.left l.writes)) l.place 0) × (l.left ≤ length l.writes)

abbrev pub decreases-loop-left : goal.decreases-loop-left
decreases-loop-left l = l.left
