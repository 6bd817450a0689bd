use Rattle.std.proofs.Common.{Some, ap, sym, ◌∙◌}
use Rattle.swim_library.specs.declared.running.Running.{Running}
use Rattle.swim_library.proofs.Doing.{done, why_not}
use Rattle.swim_library.proofs.listings.swim_library_keep_peers.Goals as goal

pub returns-in-Some-clause-kept : goal.returns-in-Some-clause-kept
returns-in-Some-clause-kept c = λ ok. record {
  before = c.deref_mut.result.now;
  after = c.keep_peers-done.new.self;
  was = c.in-Some.ensures.open ∙ ap (λ (r : Running). Some r) (sym c.deref_mut.ensures.value);
  is = c.put.ensures;
  how = done c.keep_peers-done.result c.code-in-Some.result c.code-in-Some.ensures ok c.keep_peers-done.ensures.kept;
}

pub returns-in-Some-clause-goes_on : goal.returns-in-Some-clause-goes_on
returns-in-Some-clause-goes_on c = λ some. record {
  before = c.deref_mut.result.now;
  after = c.keep_peers-done.new.self;
  was = c.in-Some.ensures.open ∙ ap (λ (r : Running). Some r) (sym c.deref_mut.ensures.value);
  is = c.put.ensures;
  how = c.keep_peers-done.ensures.goes_on;
}

pub returns-in-Some-clause-refused : goal.returns-in-Some-clause-refused
returns-in-Some-clause-refused c = λ some no. record {
  before = c.deref_mut.result.now;
  after = c.keep_peers-done.new.self;
  was = c.in-Some.ensures.open ∙ ap (λ (r : Running). Some r) (sym c.deref_mut.ensures.value);
  is = c.put.ensures;
  how = why_not c.keep_peers-done.result c.code-in-Some.result c.code-in-Some.ensures no c.keep_peers-done.ensures.refused;
}
