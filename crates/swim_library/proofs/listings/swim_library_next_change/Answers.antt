use Rattle.std.proofs.Common.{Some, ap, sym, ◌∙◌}
use Rattle.swim_library.specs.declared.running.Running.{Running}
use Rattle.swim_library.proofs.Doing.{done, no_memory, nothing}
use Rattle.swim_library.proofs.listings.swim_library_next_change.Goals as goal

pub returns-in-Some-clause-told : goal.returns-in-Some-clause-told
returns-in-Some-clause-told c = λ said. record {
  before = c.deref_mut.result.now;
  after = c.next_change-done.new.self;
  was = c.in-Some.ensures.open ∙ ap (λ (r : Running). Some r) (sym c.deref_mut.ensures.value);
  is = c.put.ensures;
  how = done c.next_change-done.result c.code-in-Some.result c.code-in-Some.ensures said c.next_change-done.ensures.told;
}

pub returns-in-Some-clause-nothing : goal.returns-in-Some-clause-nothing
returns-in-Some-clause-nothing c = λ said. record {
  before = c.deref_mut.result.now;
  after = c.next_change-done.new.self;
  was = c.in-Some.ensures.open ∙ ap (λ (r : Running). Some r) (sym c.deref_mut.ensures.value);
  is = c.put.ensures;
  how = c.next_change-done.ensures.nothing (nothing c.next_change-done.result c.code-in-Some.result c.code-in-Some.ensures said);
}

pub returns-in-Some-clause-in_vain : goal.returns-in-Some-clause-in_vain
returns-in-Some-clause-in_vain c = λ said. record {
  before = c.deref_mut.result.now;
  after = c.next_change-done.new.self;
  was = c.in-Some.ensures.open ∙ ap (λ (r : Running). Some r) (sym c.deref_mut.ensures.value);
  is = c.put.ensures;
  how = c.next_change-done.ensures.in_vain (no_memory c.next_change-done.result c.code-in-Some.result c.code-in-Some.ensures said);
}
