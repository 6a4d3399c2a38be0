use Rattle.svr_call_laws.proofs.NoValues.{no_values_meet}
use Rattle.svr_call_laws.proofs.laws.an_answer_0_of_the_cyclic_values.Goals as goal

pub returns : goal.returns
returns c = λ w o call chosen sizes proofs encodings w2 sound step a is meets. no_values_meet call sound w o chosen sizes proofs encodings w2 step a is meets
