use Rattle.svr_elab_fault.proofs.Least.{least_first}
use Rattle.svr_elab_fault.proofs.fault.first_is_first.Goals as goal

pub returns : goal.returns
returns c = least_first
