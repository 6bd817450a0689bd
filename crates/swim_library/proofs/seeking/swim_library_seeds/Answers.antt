use Rattle.std.proofs.Common.{Some, ap, sym, ◌∙◌}
use Rattle.swim_library.specs.Seeking.{seeds_fault}
use Rattle.swim_library.specs.declared.running.Running.{Running}
use Rattle.swim_library.proofs.Doing.{done, said_fault}
use Rattle.swim_library.proofs.seeking.swim_library_seeds.Goals as goal

pub returns-in-Some-clause-taken : goal.returns-in-Some-clause-taken
returns-in-Some-clause-taken c = λ ok. record {
  before = c.deref_mut.result.now;
  after = c.take_seeds-done.new.self;
  was = c.in-Some.ensures.open ∙ ap (λ (r : Running). Some r) (sym c.deref_mut.ensures.value);
  is = c.put.ensures;
  how = done c.take_seeds-done.result c.code-in-Some.result c.code-in-Some.ensures ok c.take_seeds-done.ensures.taken;
}

pub returns-in-Some-clause-says : goal.returns-in-Some-clause-says
returns-in-Some-clause-says c = λ is. said_fault c.take_seeds-done.result c.code-in-Some.result (seeds_fault c.args.seeds.now) c.code-in-Some.ensures c.take_seeds-done.ensures.sound c.take_seeds-done.ensures.refused
