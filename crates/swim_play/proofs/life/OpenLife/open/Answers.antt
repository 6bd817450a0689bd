use Rattle.std.proofs.Common.{◌≡◌, Err, ap, rules}
use Rattle.std.proofs.lemmas.List.Elements.{All-nil}
use Rattle.swim_node.specs.History.{Base}
use Rattle.swim_play.specs.Life.{IsMine, AreMine}
use Rattle.swim_play.proofs.life.OpenLife.open.Goals as goal

pub invariant_of-result : goal.invariant_of-result
invariant_of-result c =
    let said = c.in_ok-node.ensures.opens in
    record {
      living = rw (c.of-opened.ensures, c.new.ensures.items) (said.living (tt {0}));
      mine = record { ended = rw c.new.ensures.items (All-nil AreMine); last = rw said.entries (All-nil IsMine) };
      room = ap (λ (b : Base). b.limit) said.base;
    }

pub returns-in_err-node-clause-lived : goal.returns-in_err-node-clause-lived
returns-in_err-node-clause-lived c b held =
    let same : c.from_residual.result ≡ Err c.in_err-node.field-0.0 = search rules in
    rw same ((c.in_err-node.ensures.refused.unopened (tt {0})).from_held b held)
