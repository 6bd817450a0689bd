use Rattle.std.proofs.Common.{◌≡◌, ◌+◌, [], ◌∷◌, ◌++◌, take, sym, ap, ◌∙◌}
use Rattle.std.proofs.lemmas.List.{take_more}
use Rattle.swim_http.specs.Groups.{family_sample}
use Rattle.swim_http.specs.declared.group.SeenGroup.{SeenGroup}
use Rattle.swim_http.proofs.Texts.{more_written}
use Rattle.swim_http.proofs.group_metrics.write_samples.Goals as goal

-- one more of them
pub loop-group-preserved : goal.loop-group-preserved
loop-group-preserved c =
    let groups = c.args.groups.now in
    let i = c.loop-group.group-index in
    let group = c.group-item.result in
    let more : take (i + 1) groups ≡ take i groups ++ group ∷ [] =
    take_more groups i group c.loop-group-test.true ∙ ap (λ (g : SeenGroup). take i groups ++ g ∷ []) (sym c.group-item.is) in
    more_written (family_sample c.args.family) c.args.text.now.bytes.items c.loop-group.text.bytes.items c.write_told.new.text.bytes.items (take i groups) (take (i + 1) groups) group c.loop-group.invariant c.in_ok-write_told.ensures more
