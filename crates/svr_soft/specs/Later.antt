-- How a question leaves the solver
use Rattle.std.specs.Prelude.{◌≡◌, length, take}
use Rattle.svr_query.specs.Answer.{SolverView}

-- the same formula, with more steps behind those that were there
pub record IsLater (old new : SolverView) : Type 0 where
  pub vars : new.vars ≡ old.vars
  pub clauses : new.clauses ≡ old.clauses
  pub bits : new.bits ≡ old.bits
  pub begins : take (length old.steps) new.steps ≡ old.steps
