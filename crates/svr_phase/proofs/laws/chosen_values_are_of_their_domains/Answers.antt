use Rattle.svr_phase.proofs.Chosen.{passed_values}
use Rattle.svr_phase.proofs.laws.chosen_values_are_of_their_domains.Goals as goal

pub returns : goal.returns
returns c = λ call choices h. passed_values call choices h
