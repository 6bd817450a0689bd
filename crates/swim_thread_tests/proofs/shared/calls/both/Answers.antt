use denote.Param.Send.{IsSend, sendable}
use Rattle.swim_trace.proofs.Crosses.{Trace-send}
use Rattle.swim_thread_tests.specs.contracts.shared.thirds.Thirds as Thirds
use Rattle.swim_shared.proofs.Crosses.{Shared-sync, Pass-send}
use Rattle.swim_thread_tests.proofs.shared.calls.both.Goals as goal

thirds : IsSend Thirds.the_row
thirds = search (sendable, Trace-send) depth 20

pub join-requires-send-F : goal.join-requires-send-F
join-requires-send-F g c κs within = search (sendable, Shared-sync, Pass-send, thirds) depth 30
