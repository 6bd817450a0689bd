use denote.Param.Send.{sendable}
use Rattle.swim_shared.proofs.Crosses.{Shared-sync}
use Rattle.swim_under_lock.proofs.two_callers.on_threads.Goals as goal

pub map_vec-requires-sync-F : goal.map_vec-requires-sync-F
map_vec-requires-sync-F g c κs within = search (sendable, Shared-sync) depth 30
