use Rattle.std.proofs.Common.{◌≡◌, length, take}
use Rattle.swim_disk.specs.Machinery.Made.{made}
use Rattle.swim_disk.proofs.made.count_made.Given as goal

abbrev pub invariant-loop-call : goal.invariant-loop-call
invariant-loop-call l = l.count ≡ length (made l.start (take l.call-index l.writes))
