use Rattle.std.proofs.Common.{◌≡◌, length, take}
use Rattle.svr_frame.specs.Satisfaction.{kept_ranks}
use Rattle.svr_question.proofs.fates.fates_of.Given as goal

abbrev pub invariant-loop-rank : goal.invariant-loop-rank
invariant-loop-rank l = record {
  long : length l.fates.items ≡ l.fn.count;
  ranks : kept_ranks 1 l.fates.items ≡ take l.rank-index l.kept;
}
