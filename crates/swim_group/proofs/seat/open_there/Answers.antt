use Rattle.std.proofs.Common.{◌≡◌, ap, sym, ◌∙◌, List, ℕ, Some}
use Rattle.swim_group.specs.RealNodes.{node_disk_state}
use Rattle.swim_group.specs.Refusing.{IsUnopened}
use Rattle.swim_group.proofs.seat.open_there.Goals as goal

pub returns-in-Ok-clause-ok : goal.returns-in-Ok-clause-ok
returns-in-Ok-clause-ok c = record {
  before = c.in-Some.node;
  after = c.in-Ok.node;
  opened = c.in-Ok.ensures.moved.0;
  was = sym c.take.ensures.value ∙ c.in-Some.is;
  is = ap (λ p. record c.args.seat.now { node = Some c.in-Ok.node; planned = p }) c.clear.ensures;
  base = c.in-Ok.ensures.fresh.0;
  entries = c.in-Ok.ensures.fresh.1;
  left = c.in-Ok.ensures.moved.1;
  moves = c.in-Ok.ensures.moved.2;
}

pub returns-clause-refused : goal.returns-clause-refused
returns-clause-refused c =
    let sits : c.args.seat.now.node ≡ Some c.in-Some.node = sym c.take.ensures.value ∙ c.in-Some.is in
    let lost : (content : List ℕ) × (node_disk_state c.in-Some.node.disk).images content × IsUnopened c.args.limit content c.in-Err.fault = c.in-Err.ensures.refused (c.requires.owner c.in-Some.node sits) in
    record { has = record { node = c.in-Some.node; sits = sits }; content = lost.0; left = lost.1; unopened = lost.2 }
