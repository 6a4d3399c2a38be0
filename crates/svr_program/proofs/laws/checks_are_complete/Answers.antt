use Rattle.svr_program.proofs.Completeness.{checks_are_complete}
use Rattle.svr_program.proofs.laws.checks_are_complete.Goals as goal

pub returns : goal.returns
returns c = checks_are_complete
