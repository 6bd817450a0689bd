use Rattle.std.proofs.Common.{◌-◌, ◌<◌, sym, arith}
use Rattle.swim_rules.proofs.Counting.{none-due}
use Rattle.swim_rules.proofs.tally.Tally.first_due.Goals as goal

pub returns-then-saturating_sub-ticks-clause-answer : goal.returns-then-saturating_sub-ticks-clause-answer
returns-then-saturating_sub-ticks-clause-answer c =
    let early : c.args.now - c.args.self.now.since < c.args.ticks = omega arith in
    sym (none-due c.args.kind c.args.ticks c.args.now c.args.self.now.since c.args.rows.now c.requires.tally.since early)
