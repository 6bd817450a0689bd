use Rattle.std.proofs.Common.{subst, sym}
use Rattle.swim_simulate.specs.Laws.{IsLawful}
use Rattle.swim_simulate.proofs.Watching.{new-watched}
use Rattle.swim_simulate.proofs.watched.WatchedNodes.new.Goals as goal

pub invariant_of-result : goal.invariant_of-result
invariant_of-result c = (
  new-watched c.new-2.result c.in_ok-nodes.nodes c.args.limit c.args.settings.now c.in_ok-nodes.ensures.ok c.in_ok-nodes.ensures.seats c.in_ok-nodes.ensures.kept c.new-2.ensures.told,
  subst IsLawful (sym c.new-2.ensures.stop) (tt {0}),
  c.in_ok-nodes.ensures.room.0,
)
