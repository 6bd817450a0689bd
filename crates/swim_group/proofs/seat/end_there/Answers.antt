use Rattle.std.proofs.Common.{refl}
use Rattle.swim_group.proofs.seat.end_there.Goals as goal

pub returns-clause-ok : goal.returns-clause-ok
returns-clause-ok c = record {
  before = c.in-Some.node;
  after = c.rebase.new.node;
  was = c.in-Some.is;
  is = refl;
  base = c.rebase.ensures.base;
  entries = c.rebase.ensures.entries;
  moves = c.rebase.ensures.moved (tt {0});
}
