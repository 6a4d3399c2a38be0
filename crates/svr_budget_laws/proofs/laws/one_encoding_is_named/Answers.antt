use Rattle.svr_budget_laws.proofs.Named.{only_named}
use Rattle.svr_budget_laws.proofs.laws.one_encoding_is_named.Goals as goal

pub returns : goal.returns
returns c = λ w o call outcome w2 step other few. only_named w o call outcome w2 step other few
