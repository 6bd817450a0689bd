use Rattle.std.proofs.Common.{◌≡◌, ◌∙◌, [], ◌∷◌, ap, subst, sym, rules, tests}
use Rattle.swim_shared.specs.Odd.{odd_of}
use Rattle.swim_serve.specs.Desks.{Tended}
use Rattle.swim_serve.specs.Eras.{ByPass, SendsBy}
use Rattle.swim_handle.specs.Views.{new_caller}
use Rattle.swim_serve.specs.Views.{link_of}
use Rattle.swim_serve.specs.Works.{Received, Ticked}
use Rattle.swim_serve.proofs.Eras.{served, sends}
use Rattle.swim_serve.proofs.Fitting.{all_fit}
use Rattle.swim_serve.proofs.Lives.{stays_named, stays_same}
use Rattle.swim_serve.proofs.era.run_era.Goals as goal

-- the node is that of the parts
pub returns-clause-node : goal.returns-clause-node
returns-clause-node g c =
    let closed = c.close_sent-closed.ensures in
    stays_named g.D.Disk.keeps_model g.D.Disk.state c.args.parts _ _ _ _ _ _ _ _ _ _ c.requires closed.legal closed.base closed.disk closed.owner closed.first closed.covers

-- and so is that of an era that was cut short
pub returns-in-Err-clause-cut : goal.returns-in-Err-clause-cut
returns-in-Err-clause-cut g c =
    let left = c.in-Err.ensures.parts in
    let none = sym (ap (λ p. p.node.entries) left.0) ∙ left.1 in
    stays_same g.D.Disk.keeps_model g.D.Disk.state c.args.parts.node _ (c.into_inner-node.ensures.0 ∙ ap (λ p. p.node) left.0) none c.numbers_are_covered.ensures.held c.numbers_are_covered.ensures.owns

pub returns-in-Err-work-clause-cut : goal.returns-in-Err-work-clause-cut
returns-in-Err-work-clause-cut g c =
    let closed = c.cut_short.ensures in
    stays_named g.D.Disk.keeps_model g.D.Disk.state c.args.parts _ _ _ _ _ _ _ _ _ _ c.requires closed.legal closed.base closed.disk closed.owner closed.first closed.covers

pub returns-in_default-clause-cut : goal.returns-in_default-clause-cut
returns-in_default-clause-cut g c =
    let closed = c.cut_short-in_default.ensures in
    stays_named g.D.Disk.keeps_model g.D.Disk.state c.args.parts _ _ _ _ _ _ _ _ _ _ c.requires closed.legal closed.base closed.disk closed.owner closed.first closed.covers

pub returns-then-closed-ne0-clause-cut : goal.returns-then-closed-ne0-clause-cut
returns-then-closed-ne0-clause-cut g c =
    let closed = c.close_sent-closed.ensures in
    stays_named g.D.Disk.keeps_model g.D.Disk.state c.args.parts _ _ _ _ _ _ _ _ _ _ c.requires closed.legal closed.base closed.disk closed.owner closed.first closed.covers

-- the calls of each worker are those of its pass, which fits into the journal
pub returns-clause-serves : goal.returns-clause-serves
returns-clause-serves g c =
    let back = c.in-Ok-work.back in
    let did = c.in-Ok-work.ensures in
    let passes = back.passes in
    let journal = c.close_sent-closed.result.node.entries in
    let all : c.in-Some.passes.items ≡ passes.receiver ∷ passes.ticker ∷ passes.sender ∷ passes.control ∷ [] = search rules in
    let none : c.close_sent-closed.result.odd ≡ 0 = search (rules, tests) in
    let sum : c.close_sent-closed.result.odd ≡ odd_of journal c.in-Some.passes.items [] = search rules in
    let fit = all_fit journal passes.receiver passes.ticker passes.sender passes.control c.in-Some.passes.items c.close_sent-closed.result.odd all sum c.close_sent-closed.ensures.passes none in
    let base = g.N.Name.base in
    let from = c.args.outside in
    let kept = sym c.outside-2.view_is in
    let link = c.outside-2.inside.link in
    let last = c.close_sent-closed.new.link in
    let by = subst (λ r. SendsBy g.M.Link.tells base from.owed r from.link back.ring (link_of (g.M.Link.took link) (g.M.Link.failures link)) passes.sender back.ends.sender) c.in-Ok.ensures.ring (subst (λ o. SendsBy g.M.Link.tells base from.owed c.in-Ok.made.1.ring from.link back.ring o.link passes.sender back.ends.sender) kept did.sender) in
    record {
      receiver = served _ _ _ _ _ _ _ journal (subst (λ o. ByPass (Received g.I.Inbound.tells base.limit) base from.receiver (new_caller 0) o.receiver passes.receiver back.ends.receiver) kept did.receiver) fit.first;
      ticker = served _ _ _ _ _ _ _ journal (subst (λ o. ByPass (Ticked base.limit) base from.ticker (new_caller 1) o.ticker passes.ticker back.ends.ticker) kept did.ticker) fit.second;
      sender = sends g.M.Link.tells g.M.Link.took g.M.Link.failures base from.owed c.args.ring back.ring from.link link last passes.sender back.ends.sender _ journal by fit.third c.close_sent-closed.ensures.handed c.close_sent-closed.ensures.owed;
      control = served _ _ _ _ _ _ _ journal (subst (λ o. ByPass (Tended base.limit) base from.desk (new_caller 3) o.desk passes.control back.ends.control) kept did.control) fit.fourth;
    }
