use Rattle.std.specs.List.{remove}
use Rattle.swim_rules.proofs.Counting.{tallies-remove}
use Rattle.swim_rules.proofs.table.remove.Goals as goal

pub remove-requires : goal.remove-requires
remove-requires c =
    (remove c.args.rows.now.items c.args.place, tallies-remove c.args.tallies.now c.args.rows.now.items c.args.place c.remove-row.result c.requires.place c.remove-row.ensures.value c.requires.counted)

pub returns-clause-counted : goal.returns-clause-counted
returns-clause-counted c =
    rw c.remove-row.ensures.items
    (c.remove.ensures (remove c.args.rows.now.items c.args.place) (tallies-remove c.args.tallies.now c.args.rows.now.items c.args.place c.remove-row.result c.requires.place c.remove-row.ensures.value c.requires.counted))
