-- Logs whose hinted derivation is within the limits of a text
use Rattle.std.specs.Prelude.{ℕ, ◌+◌, ◌<◌, ◌≤◌, List, length, All}
use Rattle.svr_chain.specs.declared.clause.Lit.{Lit}
use Rattle.svr_chain.specs.Clauses.{AreWithin}
use Rattle.svr_chain.specs.Views.{StepView}
use Rattle.svr_lrat_text.specs.declared.limits.TheConstants.{MOST_COUNT, MOST_ID}

-- There are at most MOST_COUNT variables, and no more clauses and assumed literals. All literals are over
-- the variables, and clauses, assumed literals and steps can be numbered up to MOST_ID, with a last line.
pub record AreWithinLimits (vars : ℕ) (ks : List (List Lit)) (assume : List Lit) (steps : List StepView) : Type 0 where
  pub few_vars : vars ≤ MOST_COUNT
  pub few_clauses : length ks + length assume ≤ MOST_COUNT
  pub clauses_over : All (AreWithin vars) ks
  pub assume_over : AreWithin vars assume
  pub few_steps : length ks + length assume + length steps < MOST_ID
