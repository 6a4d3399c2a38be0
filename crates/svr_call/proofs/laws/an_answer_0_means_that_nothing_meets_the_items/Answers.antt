use Rattle.svr_call.proofs.Changes.{no_sizes_meet}
use Rattle.svr_call.proofs.Answered.{zero_means_none}
use Rattle.svr_call.proofs.laws.an_answer_0_means_that_nothing_meets_the_items.Goals as goal

pub returns : goal.returns
returns c = record {
  values = λ w o call chosen sizes proofs encodings w2 sound le step a is domains items. zero_means_none call sound le w o chosen sizes proofs encodings w2 step a is domains items;
  sizes = λ w o call chosen sizes proofs encodings w2 step a is meets. no_sizes_meet w o call chosen sizes proofs encodings w2 step a is meets;
}
