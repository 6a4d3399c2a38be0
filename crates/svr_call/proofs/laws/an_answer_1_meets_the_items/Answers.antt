use Rattle.svr_call.proofs.Answered.{one_meets, preferred_meets}
use Rattle.svr_call.proofs.laws.an_answer_1_meets_the_items.Goals as goal

pub returns : goal.returns
returns c = record {
  one = λ call kept dropped cycles encodings change is sound le. one_meets call sound le kept dropped cycles encodings change is;
  preferred = λ call choices sizes sound le has fits. preferred_meets call sound le choices sizes has fits;
}
