use Rattle.svr_program.proofs.Completeness.{small_runs_are_answered}
use Rattle.svr_program.proofs.laws.small_runs_are_answered.Goals as goal

pub returns : goal.returns
returns c = small_runs_are_answered
