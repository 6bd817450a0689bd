use Rattle.std.proofs.Common.{◌≡◌, List, sym, ap, subst, false}
use Rattle.swim_node.specs.declared.entry.Entry.{Entry}
use Rattle.swim_shared.specs.Passes.{PassView, FullFor, Ahead}
use Rattle.swim_shared.proofs.Own.{full_of, after_full}
use Rattle.swim_shared.proofs.pass.Pass.take_full.Goals as goal

pub returns-clause-full : goal.returns-clause-full
returns-clause-full g c =
    let is = c.self.view_is in
    let p : PassView = record { caller = c.self.inside.caller; calls = c.self.inside.calls; seen = c.self.inside.front.entries; spent = c.self.inside.spent } in
    let ahead = subst (λ (q : PassView). Ahead q c.args.front.now.entries) (sym is) c.requires.ahead in
    let not = subst (λ (q : PassView). q.spent ≡ false) (sym is) c.requires.spent in
    let one = full_of g.N.Name.base p c.args.front.now.entries c.self.invariant.1 not c.requires.legal c.requires.full ahead in
    subst (λ (q : PassView). FullFor g.N.Name.base q (after_full p c.again.result.entries)) is
    (subst (λ (l : List Entry). FullFor g.N.Name.base p (after_full p l)) (sym (ap (λ s. s.entries) c.again.ensures)) one)
