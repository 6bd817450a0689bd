use Rattle.std.proofs.Common.{◌≡◌, ℕ, ◌+◌, ◌-◌, ◌≤◌, List, length, subst, arith, rules}
use Rattle.swim_wire.specs.declared.update.UpdateKind.TheVariants.{Alive}
use Rattle.swim_rules.specs.declared.table.Row.{Row}
use Rattle.swim_rules.specs.declared.tally.Tallies.{Tallies}
use Rattle.swim_rules.specs.Rows.{Members}
use Rattle.swim_rules.specs.Machinery.Tallies.{AreTallies}
use Rattle.swim_rules.proofs.Counting.{count, count-kinds}
use Rattle.swim_rules.proofs.table.Table.count_of.Goals as goal

-- each row is of one of three kinds, and two of them are tallied
parted : (tallies : Tallies) (rows : List Row) (len : ℕ) → AreTallies tallies rows → len ≡ length rows → count Alive rows + tallies.suspects.count + tallies.confirms.count ≡ len
parted tallies rows len are all = let kinds = count-kinds rows in omega (arith, are.suspects.count, are.confirms.count)

pub overflow_sub-alive : goal.overflow_sub-alive
overflow_sub-alive c = let parts = parted c.self.inside.tallies c.self.inside.rows.items c.len.result c.self.invariant.2 c.len.ensures.value in omega arith

pub overflow_sub-alive-2 : goal.overflow_sub-alive-2
overflow_sub-alive-2 c = let parts = parted c.self.inside.tallies c.self.inside.rows.items c.len.result c.self.invariant.2 c.len.ensures.value in omega arith

pub returns-in-Alive-clause-count : goal.returns-in-Alive-clause-count
returns-in-Alive-clause-count c =
    rw c.in-Alive.is
    (subst (λ (t : Members). c.len.result - c.self.inside.tallies.confirms.count - c.self.inside.tallies.suspects.count ≡ count Alive t.rows) c.self.view_is (let parts = parted c.self.inside.tallies c.self.inside.rows.items c.len.result c.self.invariant.2 c.len.ensures.value in omega arith))

pub returns-in-Suspect-clause-bound : goal.returns-in-Suspect-clause-bound
returns-in-Suspect-clause-bound c =
    let few : length c.self.inside.rows.items ≤ 256 = search (arith, rules) in
    let parts = parted c.self.inside.tallies c.self.inside.rows.items c.len.result c.self.invariant.2 c.len.ensures.value in omega arith

pub returns-in-Confirm-clause-bound : goal.returns-in-Confirm-clause-bound
returns-in-Confirm-clause-bound c =
    let few : length c.self.inside.rows.items ≤ 256 = search (arith, rules) in
    let parts = parted c.self.inside.tallies c.self.inside.rows.items c.len.result c.self.invariant.2 c.len.ensures.value in omega arith
