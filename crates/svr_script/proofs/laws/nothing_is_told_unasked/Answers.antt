use Rattle.svr_script.proofs.Conflicts.{texts_unasked, logs_unasked}
use Rattle.svr_script.proofs.laws.nothing_is_told_unasked.Goals as goal

pub returns : goal.returns
returns c = record {
  text = λ proofs budget es h. texts_unasked proofs budget es h;
  journal = λ budget es h. logs_unasked budget es h;
}
