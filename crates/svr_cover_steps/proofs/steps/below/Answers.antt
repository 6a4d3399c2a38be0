use Rattle.std.proofs.Common.{rules, nat_le}
use Rattle.std.proofs.lemmas.List.Sorted.{IsPartitionPoint-from_clause, IsPartitionedBy-leb}
use Rattle.svr_cover_steps.specs.Steps.{start_of}
use Rattle.svr_cover_steps.proofs.Halving.{starts-rise, place-is}
use Rattle.svr_cover_steps.proofs.steps.below.Goals as goal

pub returns : goal.returns
returns c =
    let parted = IsPartitionedBy-leb start_of c.args.steps.now c.args.value (starts-rise c.args.steps.now c.requires) in
    let point = IsPartitionPoint-from_clause (λ s. nat_le (start_of s) c.args.value) _ _ c.partition_point.ensures.partitioned parted (λ a r q k. search rules) in
    place-is c.args.steps.now c.args.value c.partition_point.result c.partition_point.ensures.bound point.0 point.1
