use Rattle.std.proofs.Crossing.{crosses}
use denote.Param.Send.{IsSend, sendable}
use Rattle.swim_trace.proofs.Crosses.{Trace-send}
use Rattle.swim_member.specs.contracts.event.Event as Event
use Rattle.swim_thread_tests.specs.contracts.shared.thirds.Thirds as Thirds
use Rattle.swim_shared.proofs.Crosses.{Shared-sync, Pass-send}
use Rattle.swim_thread_tests.proofs.shared.reads.beside.Goals as goal

thirds : IsSend Thirds.the_row
thirds = search (sendable, Trace-send) depth 20

events : IsSend Event.the_row
events = search (sendable, crosses) depth 60 fits 20000

pub join-requires-send-F : goal.join-requires-send-F
join-requires-send-F g c κs within = search (sendable, Shared-sync, Pass-send, thirds, events) depth 30
