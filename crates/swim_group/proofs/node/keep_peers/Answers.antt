use Rattle.std.proofs.Common.{◌∙◌, sym}
use Rattle.swim_group.proofs.Calling.{raised-moves}
use Rattle.swim_group.proofs.node.keep_peers.Goals as goal

pub returns-clause-moved : goal.returns-clause-moved
returns-clause-moved g c keeps =
    raised-moves g.D.Disk.state c.args.node.now c.keep_peers-kept.new.self c.keep_peers-kept.ensures.base c.keep_peers-kept.ensures.first (c.keep_peers-kept.ensures.entries ∙ sym c.requires.empty) c.keep_peers-kept.ensures.living (c.life_may_end.ensures keeps)
