use Rattle.svr_script.proofs.Conflicts.{conflicts_joined, conflicts_cut}
use Rattle.svr_script.proofs.laws.conflicts_are_those_of_the_calls.Goals as goal

pub returns : goal.returns
returns c = record {
  joined = λ wanted budget es fs h k. conflicts_joined wanted budget es fs h k;
  cut = λ wanted budget es fs h. conflicts_cut wanted budget es fs h;
}
