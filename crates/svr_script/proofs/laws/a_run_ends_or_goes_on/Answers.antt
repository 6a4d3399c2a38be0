use Rattle.svr_script.proofs.Runs.{begun, goes_on, ends_or_goes_on}
use Rattle.svr_script.proofs.laws.a_run_ends_or_goes_on.Goals as goal

pub returns : goal.returns
returns c = record {
  begins = λ d opts. begun d opts;
  next = λ d opts es m so_far. ends_or_goes_on d opts es m so_far;
  goes_on = λ d opts es fs m t so_far x rest left going does. goes_on d opts es fs m t so_far x rest left going does;
}
