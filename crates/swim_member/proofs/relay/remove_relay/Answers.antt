use Rattle.std.proofs.Common.{◌<◌, ◌≤◌, ap, ◌∙◌, length, arith, rules}
use Rattle.std.specs.List.{remove}
use Rattle.swim_member.specs.Machinery.Steps.{relay_place}
use Rattle.swim_member.proofs.Parts.{remove-place, without-place}
use Rattle.swim_member.proofs.relay.remove_relay.Goals as goal

pub returns-then-place-len : goal.returns-then-place-len
returns-then-place-len c =
    let at : relay_place c.args.relay.now c.args.relays.now.items < length c.args.relays.now.items = search (arith, rules) in
    c.remove.ensures.items ∙ ap (λ i. remove c.args.relays.now.items i) (cc) ∙ remove-place c.args.relay.now c.args.relays.now.items at

pub returns-else-place-len : goal.returns-else-place-len
returns-else-place-len c =
    let at : length c.args.relays.now.items ≤ relay_place c.args.relay.now c.args.relays.now.items = search (arith, rules) in
    without-place c.args.relay.now c.args.relays.now.items at
