-- What an event came to, by the code of its call.
use Rattle.std.proofs.Common.{◌≡◌, ◌≢◌, ◌∙◌, ◌↔◌, ℕ, [], Some, None, Result, Ok, Err, OnOk, OnErr, inl, inr, ap, arith, subst, sym}
use Rattle.std.proofs.lemmas.Option.{none-some, same_Some}
use Rattle.std.specs.Prelude.{IfErr, IsErrOf}
use Rattle.swim_library.specs.Codes.{CLOSED, code_of, code_of_result}
use Rattle.swim_library.specs.Holding.{TriesToEnter, held}
use Rattle.swim_library.specs.Outbox.{waiting_in}
use Rattle.swim_library.specs.declared.handle.member.SwimMember.{SwimMember}
use Rattle.swim_library.specs.declared.refusal.Refusal.{Refusal}
use Rattle.swim_library.specs.declared.refusal.Refusal.TheVariants as why
use Rattle.swim_library.specs.declared.running.Running.{Running}
use Rattle.swim_library.proofs.Doing.{err, refused}

-- at a closed handle
pub enters_none : (old new : SwimMember) (code : ℕ) (How : Running → Running → Type 0) → held old ≡ None → held new ≡ held old → code ≡ CLOSED → TriesToEnter old new code How
enters_none old new code How none same is = record {
  entered = λ ok. absurd omega (arith, is, ok);
  refused = λ _. same;
  closed = λ _. is;
  waits = λ running leads _. absurd (none-some running (sym none ∙ leads));
  answers = λ running leads _. absurd (none-some running (sym none ∙ leads));
}

-- at an open one, whose member says whether it was done
pub enters_some : (old new : SwimMember) (code : ℕ) (How : Running → Running → Type 0) (before after : Running) (result : Result (Unit {0}) Refusal) → held old ≡ Some before → held new ≡ Some after → code ≡ code_of_result result → OnOk result (How before after) → OnErr result (after ≡ before) → IsErrOf result why.Waiting ↔ (waiting_in before.outbox ≢ []) → IfErr result (λ refusal. refusal ≢ why.Waiting → refusal ≡ why.NoMemory) → TriesToEnter old new code How
enters_some old new code How before after (Ok done) was now is how same waits rest = record {
  entered = λ _. record { before = before; after = after; was = was; is = now; how = how };
  refused = λ no. absurd (no is);
  closed = λ none. absurd (none-some before (sym none ∙ was));
  waits = λ running leads some. absurd (refused why.Waiting (sym (ap code_of_result (waits.1 (subst (λ (r : Running). waiting_in r.outbox ≢ []) (same_Some running before (sym leads ∙ was)) some)))));
  answers = λ running leads none. inl is;
}
enters_some old new code How before after (Err refusal) was now is how same waits rest = record {
  entered = λ ok. absurd (refused refusal (sym is ∙ ok));
  refused = λ _. now ∙ (ap (λ (r : Running). Some r) same ∙ sym was);
  closed = λ none. absurd (none-some before (sym none ∙ was));
  waits = λ running leads some. is ∙ ap code_of_result (waits.1 (subst (λ (r : Running). waiting_in r.outbox ≢ []) (same_Some running before (sym leads ∙ was)) some));
  answers = λ running leads none. inr (is ∙ ap code_of (rest (λ waiting. waits.0 (ap err waiting) (ap (λ (r : Running). waiting_in r.outbox) (same_Some before running (sym was ∙ leads)) ∙ none))));
}
