use Rattle.std.proofs.Common.{ℕ, ◌≤◌, ◌∙◌, ap, arith, inr, refl, subst}
use Rattle.swim_library.specs.Pacing.{next_tick_due}
use Rattle.swim_library.proofs.running.Running.advance.Goals as goal

pub returns-in-Ok-clause-advances : goal.returns-in-Ok-clause-advances
returns-in-Ok-clause-advances c = inr (record {
  late = subst (λ (d : ℕ). d ≤ c.args.now) c.due_at-due.ensures (omega arith);
  numbers = c.in-Ok.ensures.entered.0;
  between = c.tick.new.self;
  enters = c.in-Ok.ensures.entered.1;
  told = c.due_after-next.ensures ∙ ap (λ (d : ℕ). next_tick_due d c.args.now) c.due_at-due.ensures;
  same = record { due = refl; node = refl; outbox = refl; notes = refl; told = refl; seeking = refl; limit = refl };
})
