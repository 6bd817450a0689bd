use Rattle.swim_rules.proofs.Counting.{tallies-insert}
use Rattle.swim_rules.proofs.table.insert.Goals as goal

pub returns-clause-counted : goal.returns-clause-counted
returns-clause-counted c =
    rw c.insert.ensures.items
    (tallies-insert c.add.new.self c.args.rows.now.items c.args.place c.args.row c.requires.place (c.add.ensures c.args.rows.now.items c.requires.counted))
