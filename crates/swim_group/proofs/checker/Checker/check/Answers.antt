use Rattle.std.proofs.Common.{◌∙◌, ℕ, List, All, Contains, ap, subst, sym}
use Rattle.swim_wire.specs.declared.datagram.Datagram.{Datagram}
use Rattle.swim_wire.specs.declared.update.Update.{Update}
use Rattle.swim_group.specs.Checking.{IsRemembered, MaySay, Remembers, IsNoted}
use Rattle.swim_group.proofs.Checking.{say-all, breaks-told, remembers-more}
use Rattle.swim_group.proofs.checker.Checker.check.Goals as goal

pub returns-in-Some-clause-broken : goal.returns-in-Some-clause-broken
returns-in-Some-clause-broken c sent same = (
  subst (λ (us : List Update). Contains us c.in-Some.update) c.as_slice-updates.ensures.value c.in-Some.ensures.some.0,
  breaks-told c.self.inside.told.entries sent (subst (λ (t : List (ℕ × List ℕ)). Remembers t sent) (sym c.self.view_is) same) c.args.datagram.now.sender c.in-Some.breach c.in-Some.update c.in-Some.ensures.some.1,
)

pub returns-clause-ok : goal.returns-clause-ok
returns-clause-ok c sent out is same = (
  say-all c.self.inside.told.entries sent (subst (λ (t : List (ℕ × List ℕ)). Remembers t sent) (sym c.self.view_is) same) c.args.datagram.now.sender c.args.datagram.now.updates.items
      (subst (All (MaySay (IsRemembered c.self.inside.told.entries) c.args.datagram.now.sender)) c.as_slice-updates.ensures.value c.in_default.ensures.none),
  remembers-more c.self.inside.told.entries sent (subst (λ (t : List (ℕ × List ℕ)). Remembers t sent) (sym c.self.view_is) same) c.args.datagram.now.sender out c.note_all.new.told.entries (ap (λ (d : Datagram). d.sender) is)
      (subst (λ (us : List Update). IsNoted c.self.inside.told.entries c.args.datagram.now.sender us c.note_all.new.told.entries)
      (c.as_slice-updates.ensures.value ∙ sym (ap (λ (d : Datagram). d.updates.items) is)) c.in-Ok.ensures.ok),
)
