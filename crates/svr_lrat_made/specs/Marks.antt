-- Marks of needed steps, from the last step to the first
use Rattle.std.specs.Prelude.{◌≡◌, ℕ, ◌+◌, ◌<◌, ◌≤◌, Bool, false, List, drop, slice_index_or}
use Rattle.svr_chain.specs.Views.{StepView}
use Rattle.svr_lrat_made.specs.Needed.{is_needed, needed}

-- the marks from a place on are right, and those before it say which steps are used from there on
pub record AreMarked (goal first : ℕ) (steps : List StepView) (place : ℕ) (marks : List Bool) : Type 0 where
  pub behind : (k : ℕ) → place ≤ k → slice_index_or marks k false ≡ slice_index_or (needed goal first steps) k false
  pub before : (k : ℕ) → k < place → slice_index_or marks k false ≡ is_needed goal (drop place steps) (drop place (needed goal first steps)) (first + k)
