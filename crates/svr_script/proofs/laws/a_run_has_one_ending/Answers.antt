use Rattle.svr_script.proofs.Endings.{some_ending, one_ending}
use Rattle.svr_script.proofs.laws.a_run_has_one_ending.Goals as goal

pub returns : goal.returns
returns c = record {
  some = λ t n. some_ending t n;
  one = λ t n e r h k. one_ending t n e r h k;
}
