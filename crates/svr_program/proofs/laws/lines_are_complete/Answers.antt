use Rattle.svr_program.proofs.Completeness.{lines_are_complete}
use Rattle.svr_program.proofs.laws.lines_are_complete.Goals as goal

pub returns : goal.returns
returns c = lines_are_complete
