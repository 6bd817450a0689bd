use Rattle.std.proofs.Common.{◌≡◌, ap, sym, ◌∙◌, subst, refl, None, arith, rules}
use Rattle.std.proofs.lemmas.Bool.{leb-true}
use Rattle.swim_member.specs.contracts.resume.MemberState.{the_view}
use Rattle.swim_member.specs.Checks.{AreSound}
use Rattle.swim_member.specs.Resuming.{resume_fault}
use Rattle.swim_member.specs.State.{State}
use Rattle.swim_member.proofs.Bases.{base-itself}
use Rattle.swim_member.proofs.Resuming.{Passes, passes, order-rows, stand-rows, lacks-stand, wait-tested, within-tested, falling-tested, live-tested, distinct-tested}
use Rattle.swim_member.proofs.member.Member.resume.Goals as goal

-- each test of the state was passed
tested : (s state : State) → s ≡ state → resume_fault state ≡ None → Passes s
tested s state is none = passes s (ap resume_fault is ∙ none)

pub with_rows-table-requires-clause-order : goal.with_rows-table-requires-clause-order
with_rows-table-requires-clause-order c = order-rows c.state.inside.settings.me c.state.inside.rows.items (tested (the_view c.state.inside) c.args.state c.state.view_is c.in_ok-check.ensures.ok).rows

pub with_rows-table-requires-clause-others : goal.with_rows-table-requires-clause-others
with_rows-table-requires-clause-others c =
    lacks-stand c.state.inside.settings.me c.state.inside.rows.items (stand-rows c.state.inside.settings.me c.state.inside.rows.items (tested (the_view c.state.inside) c.args.state c.state.view_is c.in_ok-check.ensures.ok).rows)

pub with_queue-requires-clause-apart : goal.with_queue-requires-clause-apart
with_queue-requires-clause-apart c = (wait-tested c.state.inside.settings.me c.state.inside.rows.items c.state.inside.queue.items (tested (the_view c.state.inside) c.args.state c.state.view_is c.in_ok-check.ensures.ok).queue).apart

pub with_queue-requires-clause-within : goal.with_queue-requires-clause-within
with_queue-requires-clause-within c = within-tested _ c.state.inside.queue.items (tested (the_view c.state.inside) c.args.state c.state.view_is c.in_ok-check.ensures.ok).sent

pub with_queue-requires-clause-falling : goal.with_queue-requires-clause-falling
with_queue-requires-clause-falling c = falling-tested _ c.state.inside.queue.items (tested (the_view c.state.inside) c.args.state c.state.view_is c.in_ok-check.ensures.ok).falling

pub with_list-requires : goal.with_list-requires
with_list-requires c = record {
  once = distinct-tested c.state.inside.listed.items (tested (the_view c.state.inside) c.args.state c.state.view_is c.in_ok-check.ensures.ok).listed;
  within = leb-true _ _ (tested (the_view c.state.inside) c.args.state c.state.view_is c.in_ok-check.ensures.ok).place;
}

pub invariant_of-member : goal.invariant_of-member
invariant_of-member c =
    let t : Passes (the_view c.state.inside) = tested (the_view c.state.inside) c.args.state c.state.view_is c.in_ok-check.ensures.ok in
    let me = c.state.inside.settings.me in
    let rows = c.state.inside.rows.items in
    let stand = stand-rows me rows t.rows in (
      rw (c.with_rows-table.ensures, c.with_queue.ensures, c.rules_of.ensures) (record {
        me = refl;
        suspect = refl;
        forget = refl;
        rules = refl;
        sound = subst (λ (s : State). AreSound s.settings) (sym c.state.view_is) c.requires.sound;
        table = record { order = order-rows me rows t.rows; others = lacks-stand me rows stand; most = search (arith, rules) };
        wait = wait-tested me rows c.state.inside.queue.items t.queue;
        most = refl;
        number = leb-true _ _ t.number;
        time = leb-true _ _ t.time;
        stand = stand;
        say = t.said;
        live = live-tested _ _ c.state.inside.relays.items t.relays;
      }),
      refl,
    )

pub returns-clause-base : goal.returns-clause-base
returns-clause-base c =
    let t : Passes (the_view c.state.inside) = tested (the_view c.state.inside) c.args.state c.state.view_is c.in_ok-check.ensures.ok in
    let me = c.state.inside.settings.me in
    rw (c.with_rows-table.ensures, c.with_queue.ensures, c.with_list.ensures)
    (base-itself (the_view c.state.inside) (order-rows me c.state.inside.rows.items t.rows)
    (wait-tested me c.state.inside.rows.items c.state.inside.queue.items t.queue).apart
    (live-tested _ _ c.state.inside.relays.items t.relays))
