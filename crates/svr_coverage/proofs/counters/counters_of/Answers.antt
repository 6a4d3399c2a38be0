use Rattle.svr_coverage.proofs.Told.{failed_as}
use Rattle.svr_coverage.proofs.counters.counters_of.Goals as goal

pub returns-in_err-made-clause-memory : goal.returns-in_err-made-clause-memory
returns-in_err-made-clause-memory c = failed_as c.from_residual.result _ _ c.from_residual.ensures.1 (λ e is. is)

pub returns-in_err-counters-clause-memory : goal.returns-in_err-counters-clause-memory
returns-in_err-counters-clause-memory c = failed_as c.from_residual-in_err-counters.result _ _ c.from_residual-in_err-counters.ensures.1 (λ e is. is)

pub returns-clause-counters : goal.returns-clause-counters
returns-clause-counters c = record { made = c.in_ok-made.made; is_made = c.in_ok-made.ensures; few = c.begun.ensures.few; cover = c.in_ok-counters.ensures.cover; names = c.in_ok-counters.ensures.names }
