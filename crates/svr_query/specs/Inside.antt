-- The fields of a solver
use Rattle.std.specs.Prelude.{◌≡◌}
use Rattle.svr_query.specs.declared.solver.Solver.TheInside.{Inside}
use Rattle.svr_query.specs.Logged.{IsLogged}
use Rattle.svr_query.specs.Bits.{AreBits}
use Rattle.svr_query.specs.Answer.{SolverView}

abbrev pub solver_view : Inside → SolverView
solver_view a = record { vars = a.search.vars; clauses = a.cnf.clauses.items; steps = a.steps.items; bits = a.bits }

pub record IsSolver (a : Inside) : Type 0 where
  pub vars : a.search.vars ≡ a.cnf.vars
  pub logged : IsLogged a.cnf.clauses.items a.steps.items a.search
  pub bits : AreBits a.bits a.search.vars a.cnf.clauses.items
