use Rattle.std.proofs.Common.{◌≡◌, ap, ◌∙◌}
use Rattle.swim_rules.specs.declared.table.Heard.TheVariants.{Accepted}
use Rattle.swim_rules.specs.Rows.{answer_to}
use Rattle.swim_member.specs.State.{State}
use Rattle.swim_member.proofs.Keeping.{keep-heard, room-heard}
use Rattle.swim_member.proofs.member.Member.hear_other.Goals as goal

pub offer-requires-clause-room : goal.offer-requires-clause-room
offer-requires-clause-room c =
    let accepted : answer_to c.self.inside.table.rules c.self.inside.table.rows c.args.update.now ≡ Accepted = cc in
    room-heard c.self.inside.settings c.self.inside.number c.self.inside.time c.self.inside.table c.hear.new.self c.self.inside.buffer c.self.inside.relays.items c.args.update.now c.self.inside.time
    (λ e. c.requires.other (e ∙ ap (λ (s : State). s.settings.me) c.self.view_is)) c.requires.number accepted c.hear.ensures.rows c.hear.ensures.kept c.self.invariant.0

pub invariant_of-self : goal.invariant_of-self
invariant_of-self c =
    let accepted : answer_to c.self.inside.table.rules c.self.inside.table.rows c.args.update.now ≡ Accepted = cc in (
      rw c.offer.ensures.queue (keep-heard c.self.inside.settings c.self.inside.number c.self.inside.time c.self.inside.table c.hear.new.self c.self.inside.buffer c.self.inside.relays.items c.args.update.now c.self.inside.time
          (λ e. c.requires.other (e ∙ ap (λ (s : State). s.settings.me) c.self.view_is)) c.requires.number accepted c.hear.ensures.rows c.hear.ensures.kept c.self.invariant.0),
      c.self.invariant.1,
    )
