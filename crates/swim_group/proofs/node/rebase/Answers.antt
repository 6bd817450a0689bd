use Rattle.swim_group.proofs.Calling.{ended-moves}
use Rattle.swim_group.proofs.node.rebase.Goals as goal

pub returns-clause-moved : goal.returns-clause-moved
returns-clause-moved g c keeps =
    ended-moves g.D.Disk.state c.args.node.now c.rebase.new.self c.rebase.ensures.base c.rebase.ensures.first c.rebase.ensures.entries c.rebase.ensures.disk c.rebase.ensures.living (c.life_may_end.ensures keeps)
