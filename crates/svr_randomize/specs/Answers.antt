-- What a call answers and changes, whatever the world around its object.
use Rattle.svr_limits.specs.declared.limit.TheConstants.{ELEMENT_LIMIT}
use Rattle.std.specs.Prelude.{◌≡◌, ◌≤◌, true, ℕ, List, Option, Some, None, ⊤, map}
use Rattle.svr_typed.specs.ExprTerm.{expr_term}
use Rattle.svr_typed.specs.ClassTerm.{FlatTerm}
use Rattle.svr_eval.specs.Reading.{Reading}
use Rattle.svr_world.specs.declared.change.Change.{Change}
use Rattle.svr_world.specs.World.{WorldTerm, with_change}
use Rattle.svr_world.specs.Fits.{AreShort, AreRising, FitsChange}
use Rattle.svr_frame.specs.declared.part.Part.TheVariants.{Sizes, All}
use Rattle.svr_frame.specs.Frame.{FrameTerm}
use Rattle.svr_frame.specs.Phases.{hard_of, live_of}
use Rattle.svr_expand.specs.declared.sort.Expansion.{Expansion}
use Rattle.svr_draw.specs.Words.{generator, word_of}
use Rattle.svr_phase.specs.declared.options.Options.{Options}
use Rattle.svr_phase.specs.Spent.{closed_at}
use Rattle.svr_phase.specs.Sizes.{chooses_sizes}
use Rattle.svr_phase.specs.Ends.{Call, HasSizes, IsLight}
use Rattle.svr_call.specs.Call.{Steps, ReachesValues, AsksValues, preferred}
use Rattle.svr_budget_laws.specs.Bounds.{HasFewEncodings, NameOneAPhase}
use Rattle.svr_solution.specs.Calls.{call_in}
use Rattle.svr_cyclic.specs.declared.choose.Chosen.{Chosen}
use Rattle.svr_cyclic.specs.Ends.{IsChosen}
use Rattle.svr_randomize.specs.declared.answer.Answer.{Answer}

-- the call of a number in a frame whose object has used these values
abbrev pub call_with : FrameTerm → List (List ℕ) → ℕ → Options → Call
call_with f used number opts = call_in f used (word_of (generator opts.seed number)) opts.budget opts.size_cap

-- a world whose object has changed so
abbrev pub changed : WorldTerm → ℕ → Option Change → WorldTerm
changed w o None = w
changed w o (Some change) = with_change w o change

-- the answer of the call with its change
pub record IsAnswer (c : Call) (r : Answer) : Type 0 where
  -- in each world it is the step of the call
  pub steps : (w : WorldTerm) (o : ℕ) → Steps w o c r.outcome (changed w o r.change)
  pub few : HasFewEncodings r.outcome
  pub shared : NameOneAPhase r.outcome

-- closed expressions for the hard and the live soft items of the last phase
pub record AreItems (f : FrameTerm) (sizes : List ℕ) (x : Expansion) : Type 0 where
  pub hard : map expr_term x.hard ≡ closed_at f sizes (hard_of f All sizes)
  pub soft : map expr_term x.soft ≡ closed_at f sizes (live_of f All sizes)

-- ---- answers from a phase on: those of each call with these cyclic values that comes to it

-- that comes to its values at these sizes and prefers these
abbrev pub IsAnswerAt : FrameTerm → List ℕ → Chosen → ℕ → Reading → Answer → Type 0
IsAnswerAt f sizes chosen budget wanted r =
    (used : List (List ℕ)) (words : ℕ → ℕ) (cap : ℕ) → cap ≤ ELEMENT_LIMIT → (is : IsChosen (call_in f used words budget cap) chosen) → wanted ≡ preferred (call_in f used words budget cap) is.choices sizes
    → ReachesValues (call_in f used words budget cap) is.choices sizes → IsAnswer (call_in f used words budget cap) r

-- and that asks for them
abbrev pub IsAnswerBehind : FrameTerm → List ℕ → Chosen → ℕ → Reading → Answer → Type 0
IsAnswerBehind f sizes chosen budget wanted r =
    (used : List (List ℕ)) (words : ℕ → ℕ) (cap : ℕ) → cap ≤ ELEMENT_LIMIT → (is : IsChosen (call_in f used words budget cap) chosen) → wanted ≡ preferred (call_in f used words budget cap) is.choices sizes
    → AsksValues (call_in f used words budget cap) is.choices sizes → IsAnswer (call_in f used words budget cap) r

-- that comes to its values at these sizes
abbrev pub IsAnswerOf : FrameTerm → List ℕ → Chosen → ℕ → Options → Answer → Type 0
IsAnswerOf f sizes chosen number opts r =
    (used : List (List ℕ)) (is : IsChosen (call_with f used number opts) chosen) → ReachesValues (call_with f used number opts) is.choices sizes → IsAnswer (call_with f used number opts) r

-- that has these sizes
abbrev pub IsAnswerSized : FrameTerm → List ℕ → Chosen → ℕ → Options → Answer → Type 0
IsAnswerSized f sizes chosen number opts r =
    (used : List (List ℕ)) (is : IsChosen (call_with f used number opts) chosen) → HasSizes (call_with f used number opts) is.choices sizes → IsAnswer (call_with f used number opts) r

-- that chooses sizes, in a phase that is light enough
abbrev pub IsAnswerLight : FrameTerm → Chosen → ℕ → Options → Answer → Type 0
IsAnswerLight f chosen number opts r =
    (used : List (List ℕ)) → IsChosen (call_with f used number opts) chosen → chooses_sizes f ≡ true → IsLight (call_with f used number opts) Sizes f.state.sizes → IsAnswer (call_with f used number opts) r

-- whose cyclic values are chosen
abbrev pub IsAnswerOpen : FrameTerm → Chosen → ℕ → Options → Answer → Type 0
IsAnswerOpen f chosen number opts r = (used : List (List ℕ)) → IsChosen (call_with f used number opts) chosen → IsAnswer (call_with f used number opts) r

-- ---- changes

-- the change fits objects of the class
abbrev pub FitsIfChanged : FlatTerm → Option Change → Type 0
FitsIfChanged flat None = ⊤
FitsIfChanged flat (Some change) = FitsChange flat change

-- no list of the change is too long, and used values rise
abbrev pub CanBeWritten : Option Change → Type 0
CanBeWritten None = ⊤
CanBeWritten (Some change) = AreShort change.values × AreRising change.used
