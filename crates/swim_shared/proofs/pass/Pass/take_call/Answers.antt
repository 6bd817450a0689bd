use Rattle.std.proofs.Common.{◌≡◌, List, sym, ◌∙◌, ap, subst, false}
use Rattle.swim_node.specs.declared.entry.Entry.{Entry}
use Rattle.swim_shared.specs.Passes.{PassView, Sight, IsPass, Called, Added}
use Rattle.swim_shared.proofs.Own.{called_of, still_pass, after_call}
use Rattle.swim_shared.proofs.pass.Pass.take_call.Goals as goal

pub invariant_of-self : goal.invariant_of-self
invariant_of-self g c =
    let is = c.self.view_is in
    let p : PassView = record { caller = c.self.inside.caller; calls = c.self.inside.calls; seen = c.self.inside.front.entries; spent = c.self.inside.spent } in
    let has = c.requires.added in
    let added = subst (λ (q : PassView). Added q has.event has.reply c.args.front.now.entries) (sym is) has.added in
    let not = subst (λ (q : PassView). q.spent ≡ false) (sym is) c.requires.spent in
    (ap (λ (s : Sight). s.book) c.again.ensures ∙ c.requires.book, subst (λ (l : List Entry). IsPass g.N.Name.base (after_call p l)) (sym (ap (λ (s : Sight). s.entries) c.again.ensures)) (still_pass g.N.Name.base p has.event has.reply c.args.front.now.entries c.self.invariant.1 not c.requires.legal added))

pub returns-clause-called : goal.returns-clause-called
returns-clause-called g c event reply h =
    let is = c.self.view_is in
    let p : PassView = record { caller = c.self.inside.caller; calls = c.self.inside.calls; seen = c.self.inside.front.entries; spent = c.self.inside.spent } in
    let added = subst (λ (q : PassView). Added q event reply c.args.front.now.entries) (sym is) h in
    let not = subst (λ (q : PassView). q.spent ≡ false) (sym is) c.requires.spent in
    let one = called_of g.N.Name.base p event reply c.args.front.now.entries c.self.invariant.1 not c.requires.legal added in
    subst (λ (q : PassView). Called g.N.Name.base q event reply (after_call p c.again.result.entries)) is
    (subst (λ (l : List Entry). Called g.N.Name.base p event reply (after_call p l)) (sym (ap (λ s. s.entries) c.again.ensures)) one)
