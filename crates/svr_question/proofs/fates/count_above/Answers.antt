use Rattle.std.proofs.Common.{ℕ, rules, nat_lt}
use Rattle.std.proofs.lemmas.List.Sorted.{IsPartitionPoint-from_clause, IsPartitionedBy-ltb}
use Rattle.svr_question.proofs.Counted.{none_falls, firsts}
use Rattle.svr_question.proofs.fates.count_above.Goals as goal

pub returns : goal.returns
returns c =
    let parted = IsPartitionedBy-ltb (λ (k : ℕ). k) c.args.kept.now c.args.rank (none_falls c.args.count c.args.kept.now c.requires) in
    let point = IsPartitionPoint-from_clause (λ (k : ℕ). nat_lt k c.args.rank) _ _ c.partition_point.ensures.partitioned parted (λ a r q k. search rules) in
    firsts c.args.kept.now c.args.rank c.partition_point.result c.partition_point.ensures.bound point.0 point.1
