use Rattle.std.proofs.Common.{[]}
use Rattle.swim_start.proofs.joining.peers_of.Goals as goal

pub returns : goal.returns
returns c =
    c.add_peers-2.ensures.added c.args.listed.now
    (c.add_peers.ensures.added [] c.new-peers.ensures)
