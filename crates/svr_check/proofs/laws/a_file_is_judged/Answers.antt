use Rattle.svr_check.proofs.Excluded.{files_are_judged}
use Rattle.svr_check.proofs.laws.a_file_is_judged.Goals as goal

pub returns : goal.returns
returns c = files_are_judged
