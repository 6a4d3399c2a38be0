-- How the question for the values of a call ends
use Rattle.std.specs.Prelude.{◌≡◌, ℕ, ◌-◌, ◌≤◌, ⊤, Bool, List, [], ◌∷◌, ◌++◌, Option, None, Some, map, length, take, slice_get}
use Rattle.std.specs.List as list
use Rattle.svr_chain.specs.declared.clause.Lit.{Lit}
use Rattle.svr_query.specs.Answer.{IsModel}
use Rattle.svr_frame.specs.declared.part.Part.TheVariants.{All}
use Rattle.svr_frame.specs.Frame.{FrameTerm}
use Rattle.svr_frame.specs.Occurrences.{Occurrence}
use Rattle.svr_frame.specs.Phases.{hard_of, live_of}
use Rattle.svr_frame.specs.Satisfaction.{Sat, Keeps, kept_ranks, dropped_ranks}
use Rattle.svr_encoded.specs.declared.encoded.Encoded.{Encoded}
use Rattle.svr_phase.specs.Spent.{EncodesItems, IsSpent}
use Rattle.svr_phase.specs.Proof.{fixed_lits, hard_roots, soft_roots, kept_lits, StandsForHard, StandsForDrop}
use Rattle.svr_call.specs.declared.outcome.Dropped.{Dropped}
use Rattle.svr_question.specs.declared.ask.Met.{Met}
use Rattle.svr_question.specs.declared.ask.ValuesEnd.{ValuesEnd}
use Rattle.svr_question.specs.declared.ask.ValuesEnd.TheVariants as end

-- the clauses encode the hard items of the last phase, and behind them the live soft ones
abbrev pub EncodesCall : FrameTerm → List ℕ → Encoded → Type 0
EncodesCall f sizes e = EncodesItems f All sizes 1 (hard_of f All sizes ++ live_of f All sizes) e

-- an assignment with these cyclic values meets the items
abbrev pub CanMeet : FrameTerm → List ℕ → List (ℕ × ℕ) → List Occurrence → Type 0
CanMeet f sizes chosen os = Sat f All sizes chosen os

-- the cyclic values, and the roots of the hard items and of the soft ones that are kept
abbrev pub kept_literals : FrameTerm → List ℕ → List (ℕ × ℕ) → List Bool → Encoded → List Lit
kept_literals f sizes chosen fates e = (fixed_lits e chosen ++ hard_roots e (hard_of f All sizes)) ++ kept_lits fates (soft_roots e (hard_of f All sizes))

-- the list of an answer has this encoding at this place
abbrev pub IsNamed : ℕ → Encoded → List Encoded → Type 0
IsNamed place e encodings = slice_get encodings place ≡ Some e

-- each of them has a proof that stands over this encoding, wherever it is named
abbrev pub AreProved : FrameTerm → List ℕ → List (ℕ × ℕ) → List Bool → ℕ → Encoded → List Dropped → Type 0
AreProved f sizes chosen fates place e [] = Unit {0}
AreProved f sizes chosen fates place e (d ∷ ds) =
    ((encodings : List Encoded) → IsNamed place e encodings → StandsForDrop f sizes chosen fates d.rank encodings d.proof) × AreProved f sizes chosen fates place e ds

-- Each soft item has its fate, each dropped one its proof, all over the encoding at this place, and the values meet the clauses, the hard items and the kept ones.
pub record IsMet (f : FrameTerm) (sizes : List ℕ) (chosen : List (ℕ × ℕ)) (place : ℕ) (e : Encoded) (m : Met) : Type 0 where
  pub keeps : Keeps (CanMeet f sizes chosen) (hard_of f All sizes) (live_of f All sizes) m.fates.items
  pub kept : m.kept ≡ kept_ranks 1 m.fates.items
  pub dropped : map (λ (d : Dropped). d.rank) m.dropped ≡ dropped_ranks 1 m.fates.items
  pub proved : AreProved f sizes chosen m.fates.items place e m.dropped
  pub places : list.All (λ (d : Dropped). d.proof.encoding ≡ place) m.dropped
  pub long : length m.values.items ≡ e.cnf.vars
  pub model : IsModel e.cnf.clauses.items (kept_literals f sizes chosen m.fates.items e) m.values.items

-- the hard items can be met, and the fates of the soft ones above this rank are known
pub record IsAsked (f : FrameTerm) (sizes : List ℕ) (chosen : List (ℕ × ℕ)) (rank : ℕ) : Type 0 where
  pub hard : CanMeet f sizes chosen (hard_of f All sizes)
  pub from : 1 ≤ rank
  pub to : rank ≤ length (live_of f All sizes)
  pub fates : List Bool
  pub above : Keeps (CanMeet f sizes chosen) (hard_of f All sizes) (take (rank - 1) (live_of f All sizes)) fates

-- the soft item of that rank was asked for, or the hard ones alone
abbrev pub IsAskedFor : FrameTerm → List ℕ → List (ℕ × ℕ) → Option ℕ → Type 0
IsAskedFor f sizes chosen None = ⊤
IsAskedFor f sizes chosen (Some rank) = IsAsked f sizes chosen rank

-- Values, with the fates of the soft items; or no assignment meets the hard items, and the proof stands for it; or the log spends the budget.
abbrev pub Ends : FrameTerm → List ℕ → List (ℕ × ℕ) → ℕ → ℕ → Encoded → ValuesEnd → Type 0
Ends f sizes chosen place budget e (end.Met met) = IsMet f sizes chosen place e met
Ends f sizes chosen place budget e (end.Refuted proof) =
    (CanMeet f sizes chosen (hard_of f All sizes) → ⊥) × ((encodings : List Encoded) → IsNamed place e encodings → StandsForHard f sizes chosen encodings proof)
Ends f sizes chosen place budget e (end.Spent rank log first) = IsAskedFor f sizes chosen rank × IsSpent f budget All sizes 1 (hard_of f All sizes ++ live_of f All sizes) e log first
