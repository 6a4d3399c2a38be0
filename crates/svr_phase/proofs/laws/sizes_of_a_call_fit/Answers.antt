use Rattle.svr_phase.proofs.Allowed.{has_sizes_fit}
use Rattle.svr_phase.proofs.laws.sizes_of_a_call_fit.Goals as goal

pub returns : goal.returns
returns c = λ call choices sizes sound le has. has_sizes_fit call choices sizes sound le has
