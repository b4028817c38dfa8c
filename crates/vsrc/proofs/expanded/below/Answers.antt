use Rattle.std.proofs.Common.{nat_lt, sym, rules}
use Rattle.std.proofs.lemmas.List.Sorted.{IsPartitionPoint-from_clause, IsPartitionedBy-ltb}
use Rattle.vsrc.proofs.Counting.{count_by-point}
use Rattle.vsrc.proofs.expanded.below.Goals as goal

pub returns : goal.returns
returns c =
    let parted = IsPartitionedBy-ltb (λ x. x) c.args.places.now c.args.at c.requires in
    let point = IsPartitionPoint-from_clause (λ x. nat_lt x c.args.at) _ _ c.partition_point.ensures.partitioned parted (λ a r q k. search rules) in
    sym (count_by-point (λ x. nat_lt x c.args.at) c.args.places.now c.partition_point.result c.partition_point.ensures.bound point.0 point.1)
