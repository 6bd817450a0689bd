use Rattle.std.proofs.Common.{◌≡◌, ◌+◌, ◌-◌, ap, sym, ◌∙◌, refl, replicate, Some, None, arith, rules}
use Rattle.swim_gossip.specs.Queue.{Gossip}
use Rattle.swim_rules.specs.Rows.{Members, confirm_of, due_confirm, hear_option}
use Rattle.swim_wire.specs.declared.update.UpdateKind.TheVariants.{Suspect}
use Rattle.swim_member.specs.contracts.member.Member.{the_view}
use Rattle.swim_member.specs.Events.{Expire}
use Rattle.swim_member.specs.Expiry.{expire_first}
use Rattle.swim_member.specs.State.{State}
use Rattle.swim_member.specs.Machinery.Steps.{after}
use Rattle.swim_member.proofs.Actions.{after-next, after-idle}
use Rattle.swim_member.proofs.Keeping.{keep-expired, room-expired, expired-state, nothing-due}
use Rattle.swim_member.proofs.member.Member.expire_all.Goals as goal

pub loop-init : goal.loop-init
loop-init c = record {
  state = ap (λ (s : State). after s (replicate 256 Expire)) c.self.view_is;
  kept = c.self.invariant.0;
  moment = c.self.invariant.1;
}

pub offer-requires-clause-room : goal.offer-requires-clause-room
offer-requires-clause-room c =
    let s = c.loop.self-inside in
    room-expired s.settings s.number s.time s.table c.expire.new.self s.buffer s.relays.items c.in-Some.update
    (sym c.expire.ensures.answer ∙ c.in-Some.is) c.expire.ensures.rows c.expire.ensures.kept c.loop.invariant.kept

pub loop-preserved : goal.loop-preserved
loop-preserved c =
    let s = c.loop.self-inside in
    let kept = c.loop.invariant.kept in
    let due : due_confirm s.table s.time ≡ Some c.in-Some.update = sym c.expire.ensures.answer ∙ c.in-Some.is in
    record {
      state =
          ap (λ (t : State). after t (replicate (256 - (c.loop.counter + 1)) Expire))
          (expired-state (the_view s) s.table c.expire.new.self c.offer.new.self.queue c.in-Some.update refl kept.rules kept.suspect kept.table due
          (ap (λ (m : Members). m.rows) c.expire.ensures.rows ∙ ap (λ o. hear_option s.table.rules s.table.rows o s.time) due)
          (ap (λ (b : Gossip). b.queue) c.offer.ensures.queue))
          ∙ sym (after-next 256 c.loop.counter (the_view s) Expire c.loop-test.true)
          ∙ c.loop.invariant.state;
      kept = rw c.offer.ensures.queue (keep-expired s.settings s.number s.time s.table c.expire.new.self s.buffer s.relays.items c.in-Some.update
          due c.expire.ensures.rows c.expire.ensures.kept kept);
      moment = c.loop.invariant.moment;
    }

pub returns-in-None : goal.returns-in-None
returns-in-None c =
    let s = c.loop.self-inside in
    let none : due_confirm s.table s.time ≡ None = sym c.expire.ensures.answer ∙ c.in-None.is in
    ap (λ (m : Members). the_view (record s { table = m })) (c.expire.ensures.rows ∙ ap (λ o. record s.table { rows = hear_option s.table.rules s.table.rows o s.time }) none)
    ∙ sym (after-idle (256 - c.loop.counter) (the_view s) Expire (nothing-due confirm_of expire_first Suspect s.table.suspect s.settings.suspect s.time s.table.rows c.loop.invariant.kept.suspect none))
    ∙ c.loop.invariant.state

pub returns : goal.returns
returns c =
    let done : c.loop.counter ≡ 256 = search (arith, rules) in
    ap (λ k. after (the_view c.loop.self-inside) (replicate (256 - k) Expire)) (sym done) ∙ c.loop.invariant.state
