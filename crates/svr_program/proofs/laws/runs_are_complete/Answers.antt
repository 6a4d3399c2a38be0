use Rattle.svr_program.proofs.Completeness.{runs_are_complete}
use Rattle.svr_program.proofs.laws.runs_are_complete.Goals as goal

pub returns : goal.returns
returns c = runs_are_complete
