-- The items that contradict each other where the hard items of a call cannot be met, and how they are printed.
use Rattle.std.specs.Prelude.{◌≡◌, ℕ, Bool, true, false, cond, ⊤, List, [], ◌∷◌, ◌++◌, Option, Some, None, flat_map, slice_index_or, codes}
use Rattle.std.specs.List.{concat}
use Rattle.svr_frame.specs.declared.part.Part.{Part}
use Rattle.svr_frame.specs.declared.part.Part.TheVariants.{Randc, Sizes, All}
use Rattle.svr_frame.specs.Frame.{FrameTerm}
use Rattle.svr_call.specs.declared.outcome.Outcome.{Outcome}
use Rattle.svr_call.specs.declared.outcome.Outcome.TheVariants.{One, Zero, GaveUp, TooHeavy, SizeCap}
use Rattle.svr_conflict.specs.declared.found.Member.{Member}
use Rattle.svr_conflict.specs.declared.found.ConflictEnd.{ConflictEnd}
use Rattle.svr_conflict.specs.declared.found.ConflictEnd.TheVariants.{Meets, Set, Spent}
use Rattle.svr_conflict.specs.Ends.{IsConflictEnd}
use Rattle.svr_script.specs.Printed.{Event}
use Rattle.svr_script.specs.ProofText.{log_over}

-- ---- which answer goes with a call

-- that of the question at these sizes and with these cyclic values
abbrev pub IsConflictAt : FrameTerm → List ℕ → List (ℕ × ℕ) → ℕ → Option ConflictEnd → Type 0
IsConflictAt f sizes chosen budget None = ⊥
IsConflictAt f sizes chosen budget (Some end) = IsConflictEnd f sizes chosen budget end

abbrev pub IsConflictIn : Part → FrameTerm → List ℕ → List (ℕ × ℕ) → ℕ → Option ConflictEnd → Type 0
IsConflictIn Randc f sizes chosen budget end = end ≡ None
IsConflictIn Sizes f sizes chosen budget end = end ≡ None
IsConflictIn All f sizes chosen budget end = IsConflictAt f sizes chosen budget end

-- a 0 of the hard items has one, at the sizes and with the cyclic values that were chosen
abbrev pub IsConflictOf : Outcome → FrameTerm → ℕ → Option ConflictEnd → Type 0
IsConflictOf (One kept dropped cycles encodings) f budget end = end ≡ None
IsConflictOf (Zero phase chosen sizes proofs encodings) f budget end = IsConflictIn phase f sizes chosen budget end
IsConflictOf (GaveUp query encoding log first) f budget end = end ≡ None
IsConflictOf (TooHeavy weight) f budget end = end ≡ None
IsConflictOf (SizeCap sizes proofs encodings) f budget end = end ≡ None

-- where they are asked for
abbrev pub IsConflictIf : Bool → Outcome → FrameTerm → ℕ → Option ConflictEnd → Type 0
IsConflictIf false o f budget end = end ≡ None
IsConflictIf true o f budget end = IsConflictOf o f budget end

abbrev pub HasConflict : Bool → ℕ → Event → Type 0
HasConflict wanted budget e = IsConflictIf wanted e.outcome e.frame budget e.conflict

-- each 0 of the hard items of a run has one where they are asked for, and nothing else has
abbrev pub HaveConflicts : Bool → ℕ → List Event → Type 0
HaveConflicts wanted budget [] = ⊤
HaveConflicts wanted budget (e ∷ es) = HasConflict wanted budget e × HaveConflicts wanted budget es

-- a 0 of the hard items
abbrev pub is_unmet : Outcome → Bool
is_unmet (One kept dropped cycles encodings) = false
is_unmet (Zero Randc chosen sizes proofs encodings) = false
is_unmet (Zero Sizes chosen sizes proofs encodings) = false
is_unmet (Zero All chosen sizes proofs encodings) = true
is_unmet (GaveUp query encoding log first) = false
is_unmet (TooHeavy weight) = false
is_unmet (SizeCap sizes proofs encodings) = false

-- ---- texts

-- there are items that contradict each other, or the question was given up
abbrev pub HasLine : ConflictEnd → Type 0
HasLine (Meets a) = ⊥
HasLine (Set c) = ⊤
HasLine (Spent e log first) = ⊤

-- a member by the name of its item
abbrev pub member_text : List (List ℕ) → Member → List ℕ
member_text names m = codes " " ++ slice_index_or names m.item []

abbrev pub members_text : List (List ℕ) → List Member → List ℕ
members_text names ms = concat (codes "conflict" ∷ flat_map (member_text names) ms ∷ codes "\n" ∷ [])

-- the log of a question that was given up
abbrev pub spent_log : FrameTerm → ConflictEnd → List ℕ
spent_log f (Meets a) = []
spent_log f (Set c) = []
spent_log f (Spent e log first) = log_over (codes "conflict") f e log first

-- the line, and where proofs are printed that log behind it
abbrev pub end_text : Bool → FrameTerm → List (List ℕ) → ConflictEnd → List ℕ
end_text proofs f names (Meets a) = []
end_text proofs f names (Set c) = members_text names c.members.items
end_text proofs f names (Spent e log first) = codes "conflict gaveup\n" ++ cond proofs (log_over (codes "conflict") f e log first) []

abbrev pub conflict_text : Bool → Event → Option ConflictEnd → List ℕ
conflict_text proofs e None = []
conflict_text proofs e (Some end) = end_text proofs e.frame e.names end

abbrev pub conflict_log : Event → Option ConflictEnd → List ℕ
conflict_log e None = []
conflict_log e (Some end) = spent_log e.frame end
