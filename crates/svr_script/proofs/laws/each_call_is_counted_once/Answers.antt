use Rattle.svr_script.proofs.Endings.{counted_once}
use Rattle.svr_script.proofs.laws.each_call_is_counted_once.Goals as goal

pub returns : goal.returns
returns c = λ es. counted_once es
