use Rattle.std.proofs.Common.{rules, ◌≡◌, ◌<◌, List, length, slice_index_or, ap, subst}
use Rattle.std.proofs.lemmas.Result.{on_ok_weaker}
use Rattle.swim_member.specs.declared.answer.Out.{Out as Outs}
use Rattle.swim_group.proofs.Holding.{arrived, delivered}
use Rattle.swim_group.proofs.group.Group.deliver.Goals as goal

pub bring-requires-clause-sent : goal.bring-requires-clause-sent
bring-requires-clause-sent c =
    let kept : c.self.inside.kept.items ≡ c.args.self.now.kept = ap (λ v. v.kept) c.self.view_is in
    let there : c.args.datagram < length c.args.self.now.kept = search rules in
    arrived c.args.self.now.kept c.args.datagram c.index.result.now c.arrival-event.result there
    (subst (λ (ks : List Outs). c.index.result.now ≡ slice_index_or ks c.args.datagram c.index.result.now) kept c.index.ensures) c.arrival-event.ensures

pub returns-clause-ok : goal.returns-clause-ok
returns-clause-ok c =
    let kept : c.self.inside.kept.items ≡ c.args.self.now.kept = ap (λ v. v.kept) c.self.view_is in
    let there : c.args.datagram < length c.args.self.now.kept = search rules in
    on_ok_weaker c.bring.result
    (delivered c.args.self.now c.bring.new.self c.args.member c.args.datagram c.args.granted c.index.result.now c.arrival-event.result there
    (subst (λ (ks : List Outs). c.index.result.now ≡ slice_index_or ks c.args.datagram c.index.result.now) kept c.index.ensures) c.arrival-event.ensures)
    c.bring.ensures.ok
