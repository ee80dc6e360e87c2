use Rattle.std.proofs.Common.{rules}
use Rattle.std.specs.Prelude.{int_lt}
use Rattle.std.proofs.lemmas.List.Sorted.{IsPartitionPoint-from_clause}
use Rattle.jsearch.proofs.Between.{point_counts, greater_partitioned}
use Rattle.jsearch.proofs.intervals.greater.Goals as goal

pub returns : goal.returns
returns c =
    point_counts (λ a. int_lt c.args.number.now a) c.args.numbers.now c.partition_point.result c.partition_point.ensures.bound
    (IsPartitionPoint-from_clause (λ a. int_lt c.args.number.now a) c.args.numbers.now c.partition_point.result c.partition_point.ensures.partitioned (greater_partitioned c.args.numbers.now c.args.number.now c.requires)
    (λ a r f' h. search rules))
