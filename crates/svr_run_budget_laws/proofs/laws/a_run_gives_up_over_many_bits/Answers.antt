use Rattle.svr_run_budget_laws.proofs.Along.{runs_over_many, script_over_many}
use Rattle.svr_run_budget_laws.proofs.laws.a_run_gives_up_over_many_bits.Goals as goal

pub returns : goal.returns
returns c = record {
  runs = λ d opts xs s es t runs. runs_over_many d opts xs s es t runs;
  script = λ d opts es t so_far. script_over_many d opts es t so_far;
}
