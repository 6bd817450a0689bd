use Rattle.std.proofs.Common.{◌≡◌, ◌+◌, ◌-◌, ap, sym, ◌∙◌, refl, replicate, Some, None, arith, rules}
use Rattle.swim_gossip.specs.Queue.{Gossip}
use Rattle.swim_rules.specs.declared.table.Row.{Row}
use Rattle.swim_rules.specs.Rows.{Members, due_to_forget, remove_option}
use Rattle.swim_wire.specs.declared.update.UpdateKind.TheVariants.{Confirm}
use Rattle.swim_member.specs.contracts.member.Member.{the_view}
use Rattle.swim_member.specs.Events.{Forget}
use Rattle.swim_member.specs.Expiry.{forget_first}
use Rattle.swim_member.specs.State.{State}
use Rattle.swim_member.specs.Machinery.Steps.{after}
use Rattle.swim_member.proofs.Actions.{after-next, after-idle}
use Rattle.swim_member.proofs.Keeping.{keep-forgotten, forgotten-state, nothing-due}
use Rattle.swim_member.proofs.member.Member.forget_all.Goals as goal

pub loop-init : goal.loop-init
loop-init c = record {
  state = ap (λ (s : State). after s (replicate 256 Forget)) c.self.view_is;
  kept = c.self.invariant.0;
  moment = c.self.invariant.1;
}

pub loop-preserved : goal.loop-preserved
loop-preserved c =
    let s = c.loop.self-inside in
    let kept = c.loop.invariant.kept in
    let due : due_to_forget s.table s.time ≡ Some c.in-Some.who = sym c.forget.ensures.answer ∙ c.in-Some.is in
    record {
      state =
          ap (λ (t : State). after t (replicate (256 - (c.loop.counter + 1)) Forget))
          (forgotten-state (the_view s) s.table c.forget.new.self c.remove.new.self.queue c.in-Some.who refl kept.forget due c.forget.ensures.rows
          (ap (λ (b : Gossip). b.queue) c.remove.ensures.queue))
          ∙ sym (after-next 256 c.loop.counter (the_view s) Forget c.loop-test.true)
          ∙ c.loop.invariant.state;
      kept = rw c.remove.ensures.queue (keep-forgotten s.settings s.number s.time s.table c.forget.new.self s.buffer s.relays.items s.time c.in-Some.who
          due c.forget.ensures.rows c.forget.ensures.kept kept);
      moment = c.loop.invariant.moment;
    }

pub returns-in-None : goal.returns-in-None
returns-in-None c =
    let s = c.loop.self-inside in
    let none : due_to_forget s.table s.time ≡ None = sym c.forget.ensures.answer ∙ c.in-None.is in
    ap (λ (m : Members). the_view (record s { table = m })) (c.forget.ensures.rows ∙ ap (λ o. record s.table { rows = remove_option s.table.rows o }) none)
    ∙ sym (after-idle (256 - c.loop.counter) (the_view s) Forget (nothing-due (λ (r : Row). r.update.who) forget_first Confirm s.table.forget s.settings.forget s.time s.table.rows c.loop.invariant.kept.forget none))
    ∙ c.loop.invariant.state

pub returns : goal.returns
returns c =
    let done : c.loop.counter ≡ 256 = search (arith, rules) in
    ap (λ k. after (the_view c.loop.self-inside) (replicate (256 - k) Forget)) (sym done) ∙ c.loop.invariant.state
