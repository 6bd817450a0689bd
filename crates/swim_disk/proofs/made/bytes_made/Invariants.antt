use Rattle.std.proofs.Common.{◌≡◌, take}
use Rattle.swim_disk.specs.Machinery.Made.{made}
use Rattle.swim_disk.proofs.made.bytes_made.Given as goal

abbrev pub invariant-loop-call : goal.invariant-loop-call
invariant-loop-call l = l.bytes.items ≡ made l.start (take l.call-index l.writes)
