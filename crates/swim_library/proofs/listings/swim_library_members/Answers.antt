use Rattle.std.proofs.Common.{Some, ap, sym, ◌∙◌, subst, ℕ, take}
use Rattle.swim_library.specs.Running.{ShowsRows}
use Rattle.swim_member.specs.declared.event.Event.TheVariants.{Members}
use Rattle.swim_library.specs.declared.running.Running.{Running}
use Rattle.swim_library.proofs.Doing.{done}
use Rattle.swim_library.proofs.listings.swim_library_members.Goals as goal

pub returns-in-Some-clause-shown : goal.returns-in-Some-clause-shown
returns-in-Some-clause-shown c = λ ok. record {
  before = c.deref_mut.result.now;
  after = c.rows_after-done.new.self;
  was = c.in-Some.ensures.open ∙ ap (λ (r : Running). Some r) (sym c.deref_mut.ensures.value);
  is = c.put.ensures;
  how = subst
      (λ (at : ℕ). ShowsRows c.deref_mut.result.now c.rows_after-done.new.self (Members at) (take c.rows_after-done.new.count c.rows_after-done.new.rows))
      c.cursor.ensures
      (done c.rows_after-done.result c.code-in-Some.result c.code-in-Some.ensures ok c.rows_after-done.ensures.shown);
}
