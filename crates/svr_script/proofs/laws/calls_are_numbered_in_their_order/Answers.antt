use Rattle.svr_script.proofs.Runs.{all_calls_counted}
use Rattle.svr_script.proofs.laws.calls_are_numbered_in_their_order.Goals as goal

pub returns : goal.returns
returns c = λ d opts xs s es t runs. all_calls_counted d opts xs s es t runs
