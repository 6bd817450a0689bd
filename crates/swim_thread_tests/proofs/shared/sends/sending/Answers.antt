use Rattle.std.proofs.Crossing.{crosses}
use denote.Param.Send.{sendable}
use Rattle.swim_shared.proofs.Crosses.{Sender-send}
use Rattle.swim_thread_tests.proofs.shared.sends.sending.Goals as goal

pub join-requires-send-F : goal.join-requires-send-F
join-requires-send-F g c κs within = search (sendable, crosses, Sender-send) depth 30
