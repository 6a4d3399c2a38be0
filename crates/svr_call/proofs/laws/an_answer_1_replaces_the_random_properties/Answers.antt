use Rattle.svr_call.proofs.Changes.{replaces_random, replaces_cyclic, writes_nothing}
use Rattle.svr_call.proofs.laws.an_answer_1_replaces_the_random_properties.Goals as goal

pub returns : goal.returns
returns c = record {
  values = λ call kept dropped cycles encodings change is. replaces_random call kept dropped cycles encodings change is;
  used = λ call kept dropped cycles encodings change is. replaces_cyclic call kept dropped cycles encodings change is;
  nothing = λ call kept dropped cycles encodings change is no_random no_cyclic. writes_nothing call kept dropped cycles encodings change is no_random no_cyclic;
}
