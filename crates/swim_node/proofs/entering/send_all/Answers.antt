use Rattle.std.proofs.Common.{◌≡◌, ◌∙◌, take, sym, ap, ◌++◌, ◌∷◌, [], ◌+◌}
use Rattle.std.proofs.lemmas.List.{take_more}
use Rattle.swim_member.specs.declared.answer.Out.{Out}
use Rattle.swim_node.proofs.Lists.{sends-snoc}
use Rattle.swim_node.proofs.entering.send_all.Goals as goal

pub loop-out-preserved : goal.loop-out-preserved
loop-out-preserved g c =
    let more : take (c.loop-out.out-index + 1) c.args.outs.now ≡ take c.loop-out.out-index c.args.outs.now ++ c.out-item.result ∷ [] =
    take_more c.args.outs.now c.loop-out.out-index c.out-item.result c.loop-out-test.true ∙ ap (λ (o : Out). take c.loop-out.out-index c.args.outs.now ++ o ∷ []) (sym c.out-item.is) in
    record {
      sends = rw (more, c.push.ensures.items) (sends-snoc g.L.Link.tells _ _ _ _ _ _ (take c.loop-out.out-index c.args.outs.now) c.loop-out.outcomes.items c.out-item.result c.send_one.result c.loop-out.invariant.sends c.send_one.ensures.took c.send_one.ensures.failures);
      name = c.send_one.ensures.name ∙ c.loop-out.invariant.name;
    }
