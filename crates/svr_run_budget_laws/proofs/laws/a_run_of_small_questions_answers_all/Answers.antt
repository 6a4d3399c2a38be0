use Rattle.svr_run_budget_laws.proofs.Along.{counts_none, tells_none, tells_no_conflict, ends_answered}
use Rattle.svr_run_budget_laws.proofs.laws.a_run_of_small_questions_answers_all.Goals as goal

pub returns : goal.returns
returns c = record {
  none = λ d opts es t little so_far. counts_none d opts little es t so_far;
  journal = λ d opts es t little so_far unasked. tells_none d opts little es t so_far unasked;
  conflicts = λ d opts wanted es t little sound le so_far conflicts. tells_no_conflict d opts little sound le wanted es t so_far conflicts;
  ending = λ d opts how output little ends. ends_answered d opts little how output ends;
}
