use denote.Param.Send.{sendable}
use Rattle.swim_shared.proofs.Crosses.{Shared-sync}
use Rattle.swim_under_lock.proofs.era.do_work.Goals as goal

pub took-requires-sync-M : goal.took-requires-sync-M
took-requires-sync-M g c κs within = search (sendable, Shared-sync) depth 30
