use Rattle.std.proofs.Common.{Some, ap, sym, ◌∙◌}
use Rattle.swim_library.specs.declared.running.Running.{Running}
use Rattle.swim_library.proofs.Doing.{done}
use Rattle.swim_library.proofs.events.swim_library_next_datagram.Goals as goal

pub returns-in-Some-clause-handed : goal.returns-in-Some-clause-handed
returns-in-Some-clause-handed c = λ ok. record {
  before = c.deref_mut.result.now;
  after = c.next_datagram-done.new.self;
  was = c.in-Some.ensures.open ∙ ap (λ (r : Running). Some r) (sym c.deref_mut.ensures.value);
  is = c.put.ensures;
  how = done c.next_datagram-done.result c.code-in-Some.result c.code-in-Some.ensures ok c.next_datagram-done.ensures.handed;
}
