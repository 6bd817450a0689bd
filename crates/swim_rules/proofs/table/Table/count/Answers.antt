use Rattle.std.proofs.Common.{◌≡◌, ◌+◌, ◌-◌, length, subst, arith}
use Rattle.std.specs.List.{filter}
use Rattle.swim_wire.specs.declared.update.UpdateKind.TheVariants.{Confirm}
use Rattle.swim_rules.specs.Rows.{Members, is_eligible}
use Rattle.swim_rules.proofs.Counting.{count, count-eligible}
use Rattle.swim_rules.proofs.table.Table.count.Goals as goal

pub overflow_sub-result : goal.overflow_sub-result
overflow_sub-result c =
    let counted : c.self.inside.tallies.confirms.count ≡ count Confirm c.self.inside.rows.items = c.self.invariant.2.confirms.count in
    let all : length (filter is_eligible c.self.inside.rows.items) + count Confirm c.self.inside.rows.items ≡ length c.self.inside.rows.items = count-eligible c.self.inside.rows.items in
    omega arith

pub returns-clause-count : goal.returns-clause-count
returns-clause-count c =
    let counted : c.self.inside.tallies.confirms.count ≡ count Confirm c.self.inside.rows.items = c.self.invariant.2.confirms.count in
    let all : length (filter is_eligible c.self.inside.rows.items) + count Confirm c.self.inside.rows.items ≡ length c.self.inside.rows.items = count-eligible c.self.inside.rows.items in
    subst (λ (t : Members). c.len.result - c.self.inside.tallies.confirms.count ≡ length (filter is_eligible t.rows)) c.self.view_is (omega arith)
