use Rattle.std.proofs.Common.{nat_lt, rules}
use Rattle.std.proofs.lemmas.List.Sorted.{IsPartitionPoint-from_clause, IsPartitionedBy-ltb}
use Rattle.swim_rules.proofs.Places.{order-rises, place-parted}
use Rattle.swim_rules.proofs.table.place_of.Goals as goal

pub returns : goal.returns
returns c =
    let parted = IsPartitionedBy-ltb (λ r. r.update.who) _ c.args.who (order-rises c.args.rows.now c.requires) in
    let point = IsPartitionPoint-from_clause (λ r. nat_lt r.update.who c.args.who) _ _ c.partition_point.ensures.partitioned parted (λ a r q k. search rules) in
    place-parted c.args.who c.args.rows.now c.partition_point.result c.partition_point.ensures.bound point.0 point.1
