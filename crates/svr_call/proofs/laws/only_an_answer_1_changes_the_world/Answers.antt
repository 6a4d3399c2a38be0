use Rattle.svr_call.proofs.Changes.{unchanged}
use Rattle.svr_call.proofs.laws.only_an_answer_1_changes_the_world.Goals as goal

pub returns : goal.returns
returns c = record { same = λ w o call outcome w2 step other. unchanged w o call outcome w2 step other }
