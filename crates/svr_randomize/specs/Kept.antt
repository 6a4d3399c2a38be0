-- The items of the last phase that a call leaves for the next one, and in which frames they are its items.
use Rattle.std.specs.Prelude.{◌≡◌, ℕ, ◌-◌, Bool, false, List, [], Option, None, Some, ⊤, length, slice_index_or}
use Rattle.svr_eval.specs.declared.assign.Assign.{Assign}
use Rattle.svr_frame.specs.declared.part.Part.TheVariants.{All}
use Rattle.svr_frame.specs.Frame.{FrameTerm}
use Rattle.svr_frame.specs.Phases.{hard_of}
use Rattle.svr_frame.specs.Sound.{IsSound, SizesFit}
use Rattle.svr_question.specs.Ends.{EncodesCall}
use Rattle.svr_randomize.specs.declared.kept.Form.{Form}
use Rattle.svr_randomize.specs.declared.kept.Form.TheVariants.{Expressions, Clauses}
use Rattle.svr_randomize.specs.declared.kept.Last.{Last}
use Rattle.svr_randomize.specs.declared.kept.Kept.{Kept}
use Rattle.svr_randomize.specs.Answers.{AreItems}

-- ---- items in one of their forms

-- how many are hard, and how many soft
abbrev pub hard_in : Form → ℕ
hard_in (Expressions x) = length x.hard
hard_in (Clauses hard e) = hard

abbrev pub soft_in : Form → ℕ
soft_in (Expressions x) = length x.soft
soft_in (Clauses hard e) = length e.items.items - hard

-- they are the hard and the live soft items of the last phase
abbrev pub AreItemsIn : FrameTerm → List ℕ → Form → Type 0
AreItemsIn f sizes (Expressions x) = AreItems f sizes x
AreItemsIn f sizes (Clauses hard e) = (hard ≡ length (hard_of f All sizes)) × EncodesCall f sizes e

-- where some are left
abbrev pub IsLeft : FrameTerm → List ℕ → Option Form → Type 0
IsLeft f sizes None = ⊤
IsLeft f sizes (Some items) = AreItemsIn f sizes items

-- ---- what they read

-- the numbers of the properties that are not random, and of the script variables, are the state's
pub record Reads (f : FrameTerm) (read : Assign) : Type 0 where
  pub numbers : (p : ℕ) → slice_index_or f.random p false ≡ false → slice_index_or f.state.values p [] ≡ slice_index_or read.values p []
  pub script : f.state.script ≡ read.script

-- the items of a call at these sizes, with what they read
pub record AreLast (f : FrameTerm) (ns : List ℕ) (last : Last) : Type 0 where
  pub sizes : last.read.sizes ≡ ns
  pub read : Reads f last.read
  pub items : AreItemsIn f ns last.items

-- ---- what is kept

-- the frame in another state, whatever sizes its call chooses there
abbrev pub with_state : FrameTerm → Assign → List Bool → FrameTerm
with_state f s free = record f { state = s; free_size = free }

-- they are the items of each call in the frame that reads the same numbers, in whichever state
abbrev pub IsLast : FrameTerm → Option Last → Type 0
IsLast f None = ⊤
IsLast f (Some last) =
    (s : Assign) (free : List Bool) → IsSound (with_state f s free) → SizesFit (with_state f s free) last.read.sizes
    → Reads (with_state f s free) last.read → AreItemsIn (with_state f s free) last.read.sizes last.items

abbrev pub IsKept : FrameTerm → Kept → Type 0
IsKept f kept = IsLast f kept.last

abbrev pub last_of : Assign → Option Form → Option Last
last_of read None = None
last_of read (Some items) = Some (record { read = read; items = items })
