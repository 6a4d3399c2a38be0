-- How the search for items that contradict each other ends
use Rattle.std.specs.Prelude.{◌≡◌, ℕ, ◌++◌, true, List, length}
use Rattle.svr_eval.specs.Reading.{reading_of}
use Rattle.svr_frame.specs.declared.part.Part.TheVariants.{All}
use Rattle.svr_frame.specs.Frame.{FrameTerm}
use Rattle.svr_frame.specs.Occurrences.{all_true}
use Rattle.svr_frame.specs.Phases.{hard_of, live_of}
use Rattle.svr_frame.specs.Satisfaction.{IsAssignment, Sat}
use Rattle.svr_phase.specs.Spent.{IsRefutation, IsSpent}
use Rattle.svr_question.specs.Ends.{EncodesCall}
use Rattle.svr_counts.specs.Hard.{hard_by_item}
use Rattle.svr_core.specs.Cores.{ArePlaces}
use Rattle.svr_conflict.specs.declared.found.Conflict.{Conflict}
use Rattle.svr_conflict.specs.declared.found.ConflictEnd.{ConflictEnd}
use Rattle.svr_conflict.specs.declared.found.ConflictEnd.TheVariants.{Meets, Set, Spent}
use Rattle.svr_conflict.specs.Conflicts.{IsConflictSet, conflict_lits, places_in, AreMembers}

-- The hard items cannot be met; the members are the conflict set, none can be left out, and the clauses, which encode the hard items and behind them the live soft ones, refute its literals.
pub record IsConflict (f : FrameTerm) (sizes : List ℕ) (chosen : List (ℕ × ℕ)) (c : Conflict) : Type 0 where
  pub unmet : Sat f All sizes chosen (hard_of f All sizes) → ⊥
  pub places : ArePlaces 0 (length (hard_by_item f sizes)) (places_in c.members.items)
  pub set : IsConflictSet f sizes chosen (places_in c.members.items)
  pub needed : AreMembers f sizes chosen c.members.items
  pub encodes : EncodesCall f sizes c.encoding
  pub assumes : c.assume ≡ conflict_lits f sizes chosen c.encoding (places_in c.members.items)
  pub refutes : IsRefutation c.encoding.cnf.clauses.items c.assume c.refutation

-- An assignment that meets the hard items; or a conflict; or the log spends the budget.
abbrev pub IsConflictEnd : FrameTerm → List ℕ → List (ℕ × ℕ) → ℕ → ConflictEnd → Type 0
IsConflictEnd f sizes chosen budget (Meets a) = IsAssignment f All sizes chosen (reading_of a) × (all_true (reading_of a) (hard_of f All sizes) ≡ true)
IsConflictEnd f sizes chosen budget (Set c) = IsConflict f sizes chosen c
IsConflictEnd f sizes chosen budget (Spent e log first) = IsSpent f budget All sizes 1 (hard_of f All sizes ++ live_of f All sizes) e log first
