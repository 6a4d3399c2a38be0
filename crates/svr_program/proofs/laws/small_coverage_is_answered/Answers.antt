use Rattle.svr_program.proofs.Completeness.{small_coverage_is_answered}
use Rattle.svr_program.proofs.laws.small_coverage_is_answered.Goals as goal

pub returns : goal.returns
returns c = small_coverage_is_answered
