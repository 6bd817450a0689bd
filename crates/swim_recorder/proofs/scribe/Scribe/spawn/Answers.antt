use denote.Param.Send.{sendable}
use Rattle.std.proofs.Crossing.{crosses}
use Rattle.swim_recorder.proofs.Crosses.{Finished-send}
use Rattle.swim_recorder.proofs.scribe.Scribe.spawn.Goals as goal

-- the thread gets the folder, and the eras that it is to write
pub spawn-requires-send-F : goal.spawn-requires-send-F
spawn-requires-send-F g c κs within = search (sendable, crosses, Finished-send) depth 60 fits 20000
