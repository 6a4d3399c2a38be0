use Rattle.svr_script.proofs.Runs.{limit_is_last}
use Rattle.svr_script.proofs.laws.a_limit_is_met_in_the_last_call.Goals as goal

pub returns : goal.returns
returns c = λ d opts xs s es t runs going limited. limit_is_last d opts xs s es t runs going limited
