use Rattle.std.proofs.Common.{◌≡◌, ℕ, ◌<◌, ◌≤◌, List, ◌∷◌, get_or, length, ◌∙◌, ap, arith, rules}
use Rattle.std.specs.List.{remove}
use Rattle.swim_rules.specs.declared.table.Row.{Row}
use Rattle.swim_rules.specs.declared.tally.Tallies.{Tallies}
use Rattle.swim_rules.specs.Machinery.Tallies.{AreTallies}
use Rattle.swim_rules.proofs.Counting.{tallies-remove, tallies-set, length-removed}
use Rattle.swim_rules.proofs.table.replace.Goals as goal

-- the row that goes, before the others
others : (tallies : Tallies) (rows read : List Row) (i : ℕ) (old : Row) → i < length rows → AreTallies tallies rows → old ≡ get_or read i old → read ≡ rows → AreTallies tallies (old ∷ remove rows i)
others tallies rows read i old h t e same = tallies-remove tallies rows i old h (e ∙ ap (λ xs. get_or xs i old) same) t

pub remove-requires : goal.remove-requires
remove-requires c =
    (remove c.args.rows.now.items c.args.place, others c.args.tallies.now c.args.rows.now.items _ c.args.place c.index-deref-place.result c.requires.place c.requires.counted c.index-deref-place.is c.deref.ensures.0)

pub add-requires : goal.add-requires
add-requires c =
    let few : length c.args.rows.now.items ≤ 256 = search (arith, rules) in
    let rest = remove c.args.rows.now.items c.args.place in
    let less : length rest < length c.args.rows.now.items = length-removed c.args.rows.now.items c.args.place c.requires.place in
    (rest, c.remove.ensures rest (others c.args.tallies.now c.args.rows.now.items _ c.args.place c.index-deref-place.result c.requires.place c.requires.counted c.index-deref-place.is c.deref.ensures.0), omega arith)

pub returns-clause-counted : goal.returns-clause-counted
returns-clause-counted c =
    let rest = remove c.args.rows.now.items c.args.place in
    rw c.put.ensures
    (tallies-set c.add.new.self c.args.rows.now.items c.args.place c.args.row c.requires.place (c.add.ensures rest (c.remove.ensures rest (others c.args.tallies.now c.args.rows.now.items _ c.args.place c.index-deref-place.result c.requires.place c.requires.counted c.index-deref-place.is c.deref.ensures.0))))
