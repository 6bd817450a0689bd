use Rattle.std.proofs.Common.{sym, ◌∙◌, nat_le, rules}
use Rattle.std.proofs.lemmas.List.Sorted.{IsPartitionPoint-from_clause, IsPartitionedBy-leb}
use Rattle.swim_rules.proofs.Places.{order-rises, find-parted}
use Rattle.swim_rules.proofs.table.first_after.Goals as goal

pub returns : goal.returns
returns c =
    let parted = IsPartitionedBy-leb (λ r. r.update.who) _ c.args.cursor (order-rises c.args.rows.now c.requires) in
    let point = IsPartitionPoint-from_clause (λ r. nat_le r.update.who c.args.cursor) _ _ c.partition_point-place.ensures.partitioned parted (λ a r q k. search rules) in
    c.row_at.ensures ∙ sym (find-parted c.args.cursor c.args.rows.now c.partition_point-place.result c.partition_point-place.ensures.bound point.0 point.1)
