use Rattle.std.proofs.Common.{rules, ◌≡◌, ◌<◌, List, length, slice_index_or, ap, subst}
use Rattle.std.proofs.lemmas.Result.{IfOk-weaker, IfErr-weaker}
use Rattle.swim_member.specs.declared.answer.Out.{Out as Outs}
use Rattle.swim_group.proofs.Holding.{arrived, get-at}
use Rattle.swim_group.proofs.Refusing.{no-delivery}
use Rattle.swim_group.proofs.nodes.Nodes.deliver.Goals as goal

pub bring-requires-clause-sent : goal.bring-requires-clause-sent
bring-requires-clause-sent c =
    let kept : c.self.inside.kept.items ≡ c.args.self.now.kept = ap (λ v. v.kept) c.self.view_is in
    let there : c.args.datagram < length c.args.self.now.kept = search rules in
    arrived c.args.self.now.kept c.args.datagram c.index.result.now c.arrival-event.result there
    (subst (λ (ks : List Outs). c.index.result.now ≡ slice_index_or ks c.args.datagram c.index.result.now) kept c.index.ensures) c.arrival-event.ensures

pub returns-clause-ok : goal.returns-clause-ok
returns-clause-ok c =
    let kept : c.self.inside.kept.items ≡ c.args.self.now.kept = ap (λ v. v.kept) c.self.view_is in
    let there : c.args.datagram < length c.args.self.now.kept = search rules in
    IfOk-weaker c.bring.result _ _
    (λ reply heard. record {
      out = c.index.result.now;
      kept = get-at c.args.self.now.kept c.args.datagram c.index.result.now there (subst (λ (ks : List Outs). c.index.result.now ≡ slice_index_or ks c.args.datagram c.index.result.now) kept c.index.ensures);
      event = c.arrival-event.result;
      arrives = c.arrival-event.ensures;
      heard = heard;
    }) c.bring.ensures.ok

pub returns-clause-refused : goal.returns-clause-refused
returns-clause-refused c = IfErr-weaker c.bring.result _ _ (λ fault h. no-delivery c.args.self.now c.args.node c.args.datagram fault h) c.bring.ensures.refused
