use Rattle.std.proofs.Common.{subst, sym}
use Rattle.swim_node.specs.Lives.{EndsEra}
use Rattle.swim_record.proofs.handing.hand_over.Goals as goal

-- the room that comes back changes nothing
pub returns-in-Some-keep-clause-living : goal.returns-in-Some-keep-clause-living
returns-in-Some-keep-clause-living g c = subst (λ n. EndsEra g.D.Disk.state c.args.node.now n) (sym c.furnish.ensures) c.end_era-era.ensures.living
