use Rattle.swim_group.proofs.Calling.{ended-moves}
use Rattle.swim_group.proofs.node.end_era.Goals as goal

pub returns-clause-moved : goal.returns-clause-moved
returns-clause-moved g c keeps =
    ended-moves g.D.Disk.state c.args.node.now c.end_era-era.new.self c.end_era-era.ensures.base c.end_era-era.ensures.first c.end_era-era.ensures.entries c.end_era-era.ensures.disk c.end_era-era.ensures.living (c.life_may_end.ensures keeps)
