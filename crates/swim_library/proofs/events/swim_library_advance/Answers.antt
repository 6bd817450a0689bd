use Rattle.std.proofs.Common.{Some, inr, ap, sym, ◌∙◌}
use Rattle.std.proofs.lemmas.Option.{same_Some}
use Rattle.swim_library.specs.Codes.{code_of}
use Rattle.swim_library.specs.Outbox.{waiting_in}
use Rattle.swim_library.specs.declared.refusal.Refusal.{Refusal}
use Rattle.swim_library.specs.declared.running.Running.{Running}
use Rattle.swim_library.proofs.Doing.{err, no_memory, waits_only}
use Rattle.swim_library.proofs.events.swim_library_advance.Goals as goal

pub returns-in-Ok-clause-advanced : goal.returns-in-Ok-clause-advanced
returns-in-Ok-clause-advanced c = λ _. record {
  before = c.deref_mut.result.now;
  after = c.follow_clock-done.new.self;
  was = c.in-Some.ensures.open ∙ ap (λ (r : Running). Some r) (sym c.deref_mut.ensures.value);
  is = c.put.ensures;
  how = c.in-Ok.ensures.follows;
}

pub returns-in-Err-clause-lacks : goal.returns-in-Err-clause-lacks
returns-in-Err-clause-lacks c = λ said. record {
  before = c.deref_mut.result.now;
  after = c.follow_clock-done.new.self;
  was = c.in-Some.ensures.open ∙ ap (λ (r : Running). Some r) (sym c.deref_mut.ensures.value);
  is = c.put.ensures;
  how = c.in-Err.ensures.in_vain (no_memory (err c.in-Err.refusal) c.code-in-Err.result c.code-in-Err.ensures said);
}

pub returns-in-Err-clause-refused : goal.returns-in-Err-clause-refused
returns-in-Err-clause-refused c = λ _ no.
    let waits = waits_only c.in-Err.refusal c.in-Err.ensures.refused (λ lacks. no (c.code-in-Err.ensures ∙ lacks)) in
    c.put.ensures
    ∙ ap (λ (r : Running). Some r) (c.in-Err.ensures.same (ap (λ (w : Refusal). err w) waits) ∙ c.deref_mut.ensures.value)
    ∙ sym c.in-Some.ensures.open

pub returns-in-Err-clause-open : goal.returns-in-Err-clause-open
returns-in-Err-clause-open c = λ running leads none.
    let was = c.in-Some.ensures.open ∙ ap (λ (r : Running). Some r) (sym c.deref_mut.ensures.value) in
    let empty = ap (λ (r : Running). waiting_in r.outbox) (same_Some c.deref_mut.result.now running (sym was ∙ leads)) ∙ none in
    inr (c.code-in-Err.ensures ∙ ap code_of (c.in-Err.ensures.refused (λ waiting. c.in-Err.ensures.waits (ap (λ (w : Refusal). err w) waiting) empty)))
