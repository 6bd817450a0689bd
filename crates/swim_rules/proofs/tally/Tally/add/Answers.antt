use Rattle.std.proofs.Common.{◌≡◌, ◌≤◌, length, arith}
use Rattle.swim_rules.proofs.Counting.{count, count-most}
use Rattle.swim_rules.proofs.tally.Tally.add.Goals as goal

pub overflow_add-self : goal.overflow_add-self
overflow_add-self c =
    let counted : c.args.self.now.count ≡ count c.args.kind c.requires.0 = c.requires.1.count in
    let most : count c.args.kind c.requires.0 ≤ length c.requires.0 = count-most c.args.kind c.requires.0 in
    omega (arith, c.requires.2)
