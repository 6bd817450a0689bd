use Rattle.std.proofs.Common.{◌+◌, ◌<◌, ◌^◌, ap, ◌∙◌, List, arith, rules}
use Rattle.swim_member.specs.contracts.member.Member.{the_view}
use Rattle.swim_member.specs.declared.state.Relay.{Relay}
use Rattle.swim_member.specs.State.{Ticked}
use Rattle.swim_member.specs.Machinery.Steps.{apply}
use Rattle.swim_member.proofs.Keeping.{keep-made}
use Rattle.swim_member.proofs.Bases.{live-kept}
use Rattle.swim_member.proofs.Moments.{next-zero, next-one}
use Rattle.swim_member.proofs.member.Member.advance.Goals.{then-self, else-self}
use Rattle.swim_member.proofs.member.Member.advance.Goals as goal

pub invariant_of-self : goal.invariant_of-self
invariant_of-self c =
    let below : c.self.inside.time < 2 ^ 62 = search rules in (
      keep-made c.self.inside.settings c.self.inside.number c.self.inside.time (c.self.inside.time + 1) c.self.inside.table c.self.inside.buffer c.self.inside.relays.items c.keep_live.new.relays.items
          (omega arith) (live-kept (c.self.inside.time + 1) c.self.inside.settings.period c.self.inside.relays.items c.keep_live.new.relays.items c.keep_live.ensures) c.self.invariant.0,
      let low : 0 < c.self.inside.settings.period = omega (arith, c.self.invariant.0.sound.period_low) in
          elim c.if-self.branch [
            | then-self w ↦ w.self-is ∙ next-zero c.self.inside.time c.self.inside.settings.period c.self.inside.moment c.self.invariant.1 w.if-self.true
            | else-self w ↦ w.self-is ∙ next-one c.self.inside.time c.self.inside.settings.period c.self.inside.moment low c.self.invariant.1 w.if-self.false
          ],
    )

pub returns : goal.returns
returns c =
    ap (λ (r : List Relay). record (the_view c.self.inside) { time = c.self.inside.time + 1; relays = r }) c.keep_live.ensures ∙ ap (apply Ticked) c.self.view_is
