use Rattle.svr_program.proofs.Completeness.{coverage_is_complete}
use Rattle.svr_program.proofs.laws.coverage_is_complete.Goals as goal

pub returns : goal.returns
returns c = coverage_is_complete
