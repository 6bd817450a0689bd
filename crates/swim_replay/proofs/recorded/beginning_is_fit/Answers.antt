use Rattle.std.proofs.Common.{subst, sym}
use Rattle.swim_node.specs.contracts.beginning.Beginning.{the_view}
use Rattle.swim_node.specs.History.{Base}
use Rattle.swim_record.specs.Blocks.{AreFit, IsFit}
use Rattle.swim_record.specs.Recording.{begin_line}
use Rattle.swim_replay.specs.Recorded.{base_lines}
use Rattle.swim_replay.proofs.Ranges.{base-fit}
use Rattle.swim_replay.proofs.recorded.beginning_is_fit.Goals as goal

pub returns-clause-lines : goal.returns-clause-lines
returns-clause-lines c =
    subst (λ (b : Base). AreFit (base_lines b)) c.beginning.view_is
    (base-fit (the_view c.beginning.inside) c.state_is_fit.ensures.member c.state_is_fit.ensures.times c.state_is_fit.ensures.lines
    (subst (λ (b : Base). IsFit (begin_line b)) (sym c.beginning.view_is) c.begin_is_fit.ensures))
