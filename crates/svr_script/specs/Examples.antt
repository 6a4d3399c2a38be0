-- Lines and proof texts that were worked out by hand.
use Rattle.std.specs.Prelude.{ℕ, pos, Bool, true, false, List, [], ◌∷◌, ◌++◌, Some, None, codes}
use Rattle.svr_chain.specs.declared.clause.Lit.{Lit}
use Rattle.svr_chain.specs.Views.{RefutationView}
use Rattle.svr_operator.specs.declared.Rand.TheVariants as rand
use Rattle.svr_typed.specs.declared.class.NumType.{NumType}
use Rattle.svr_typed.specs.declared.class.Prop.{Prop}
use Rattle.svr_typed.specs.declared.class.ArrayKind.{ArrayKind}
use Rattle.svr_typed.specs.declared.class.ArrayKind.TheVariants.{Scalar, Dynamic}
use Rattle.svr_typed.specs.declared.class.EnumType.{EnumType}
use Rattle.svr_typed.specs.ItemTerm.{no_items}
use Rattle.svr_frame.specs.declared.part.Part.TheVariants.{Randc, Sizes, All}
use Rattle.svr_frame.specs.declared.slot.Slot.TheVariants as slot
use Rattle.svr_frame.specs.Frame.{FrameTerm}
pub use Rattle.svr_frame.specs.Examples.{is_so}
use Rattle.svr_frame.specs.Examples.{Example, ◌gives◌}
use Rattle.svr_phase.specs.declared.proof.ProofReason.TheVariants as why
use Rattle.svr_call.specs.declared.outcome.Dropped.{Dropped}
use Rattle.svr_call.specs.declared.outcome.Query.TheVariants as query
use Rattle.svr_call.specs.declared.outcome.Outcome.{Outcome}
use Rattle.svr_call.specs.declared.outcome.Outcome.TheVariants.{One, Zero, TooHeavy, SizeCap}
use Rattle.svr_conflict.specs.declared.found.Member.{Member}
use Rattle.svr_script.specs.Printed.{line_of, query_text}
use Rattle.svr_script.specs.ProofText.{lits_line, slot_text, step_text, goal_text, reason_text}
use Rattle.svr_script.specs.Conflicts.{members_text}

-- ---- types, frames and answers

abbrev pub bits : ℕ → NumType
bits w = record { width = w; signed = false; members = None }

abbrev pub signed_bits : ℕ → NumType
signed_bits w = record { width = w; signed = true; members = None }

abbrev pub kinds : List EnumType
kinds = record { base = bits 2; members = record { name = codes "READ"; value = 0 } ∷ record { name = codes "WRITE"; value = 1 } ∷ record { name = codes "IDLE"; value = 2 } ∷ [] } ∷ []

abbrev pub declared : List ℕ → NumType → ArrayKind → Prop
declared name kind array = record { name = name; kind = kind; rand = rand.Rand; array = array; first = 0; low = pos 0; can = true; inner = 1 }

abbrev pub frame : List Prop → List Bool → FrameTerm
frame props free = record {
  class = record { props = props; blocks = [] };
  enums = kinds;
  state = record { values = []; sizes = []; script = [] };
  random = [];
  free_size = free;
  items = no_items;
}

-- `bit [3:0] a`, `kind_t kind` and `bit [7:0] d []`, whose size the call may choose
abbrev pub with_a : FrameTerm
with_a = frame (declared (codes "a") (bits 4) Scalar ∷ []) (false ∷ [])

abbrev pub with_kind : FrameTerm
with_kind = frame (declared (codes "kind") (record { width = 2; signed = false; members = Some 0 }) Scalar ∷ declared (codes "d") (bits 8) Dynamic ∷ []) (false ∷ true ∷ [])

abbrev pub with_fixed_size : FrameTerm
with_fixed_size = frame (declared (codes "d") (bits 8) Dynamic ∷ []) (false ∷ [])

abbrev pub no_steps : RefutationView
no_steps = record { steps = []; goal = None }

abbrev pub dropped : ℕ → Dropped
dropped k = record { rank = k; proof = record { encoding = 0; assume = []; refutation = no_steps; reason = why.Drop k } }

abbrev pub plain_one : Outcome
plain_one = One [] [] [] []

-- the line of a call of this number on `p`
abbrev pub line : ℕ → FrameTerm → Outcome → List (List ℕ) → List ℕ
line n f outcome after = line_of (record { number = n; object = codes "p"; class = 0; frame = f; outcome = outcome; after = after; names = []; conflict = None })

abbrev pub member : ℕ → Member
member item = record { item = item; without = record { values = []; sizes = []; script = [] } }

abbrev pub lit : ℕ → Bool → Lit
lit v neg = record { var = v; neg = neg }

-- ---- texts

abbrev pub lines : List Example
lines =
    (line 1 with_a plain_one ((5 ∷ []) ∷ []) gives codes "#1 p 1 a=5\n")
    ∷ (line 1 (frame [] []) plain_one [] gives codes "#1 p 1\n")
    -- signs
    ∷ (line 2 (frame (declared (codes "a") (bits 8) Scalar ∷ declared (codes "b") (signed_bits 8) Scalar ∷ []) (false ∷ false ∷ [])) plain_one ((0 ∷ []) ∷ (255 ∷ []) ∷ []) gives codes "#2 p 1 a=0 b=-1\n")
    ∷ (line 1 (frame (declared (codes "x") (signed_bits 64) Scalar ∷ declared (codes "y") (signed_bits 64) Scalar ∷ []) (false ∷ false ∷ [])) plain_one ((9223372036854775808 ∷ []) ∷ (0 ∷ []) ∷ [])
    gives codes "#1 p 1 x=-9223372036854775808 y=0\n")
    -- names of members, arrays, and what is neither
    ∷ (line 1 with_kind plain_one ((1 ∷ []) ∷ (0 ∷ 1 ∷ 2 ∷ []) ∷ []) gives codes "#1 p 1 kind=WRITE d=[0,1,2]\n")
    ∷ (line 1 with_kind plain_one ((3 ∷ []) ∷ [] ∷ []) gives codes "#1 p 1 kind=3 d=[]\n")
    -- soft items that were dropped, and new cycles
    ∷ (line 1 with_a (One (1 ∷ []) (dropped 2 ∷ dropped 3 ∷ []) [] []) ((3 ∷ []) ∷ []) gives codes "#1 p 1 a=3 dropped=2 dropped=3\n")
    ∷ (line 2 with_a (One [] (dropped 1 ∷ []) (record { prop = 0; proofs = [] } ∷ []) []) ((0 ∷ []) ∷ []) gives codes "#2 p 1 a=0 cycle=a dropped=1\n")
    -- the three phases, where the last names the sizes that the call has chosen
    ∷ (line 1 with_a (Zero Randc [] [] [] []) ((7 ∷ []) ∷ []) gives codes "#1 p 0 randc\n")
    ∷ (line 1 with_kind (Zero Sizes [] [] [] []) ((0 ∷ []) ∷ [] ∷ []) gives codes "#1 p 0 size\n")
    ∷ (line 1 with_kind (Zero All [] (1 ∷ 5 ∷ []) [] []) ((0 ∷ []) ∷ [] ∷ []) gives codes "#1 p 0 hard d.size=5\n")
    ∷ (line 1 with_fixed_size (Zero All [] (5 ∷ []) [] []) ([] ∷ []) gives codes "#1 p 0 hard\n")
    ∷ (line 1 with_a (TooHeavy 33828864) ((0 ∷ []) ∷ []) gives codes "#1 p limit weight 33828864\n")
    ∷ (line 1 with_a (SizeCap [] [] []) ((0 ∷ []) ∷ []) gives codes "#1 p limit size\n")
    ∷ ((query_text with_a (query.Randc 0) ++ query_text with_a query.Size ++ query_text with_a query.Hard ++ query_text with_a (query.Soft 12)) gives codes "randc asizehardsoft 12")
    ∷ []

abbrev pub proof_texts : List Example
proof_texts =
    (lits_line (codes "a") (lit 1 false ∷ lit 20 true ∷ []) gives codes "a 1 -20 0\n")
    ∷ (lits_line (codes "c") [] gives codes "c 0\n")
    ∷ (step_text (record { start = 1; links = record { pivot = lit 1 false; clause = 2 } ∷ record { pivot = lit 3 true; clause = 14 } ∷ [] }) gives codes "s 1 1 2 -3 14 0\n")
    ∷ ((goal_text (Some 5) ++ goal_text None) gives codes "g 5\n")
    ∷ ((slot_text with_kind (slot.Scalar 0) ++ slot_text with_kind (slot.Element 1 3) ++ slot_text with_kind (slot.Size 1)) gives codes "kindd[3]d.size")
    ∷ ((reason_text with_kind why.Hard ++ reason_text with_kind why.Size ++ reason_text with_kind (why.Drop 2)) gives codes "hardsizedrop 2")
    ∷ ((reason_text with_kind (why.Randc 0 1) ++ reason_text with_a (why.Cycle 0 9)) gives codes "randc kind=WRITEcycle a=9")
    ∷ []

-- the first item of a block, the second of another, and the first of the in-line set
abbrev pub conflict_texts : List Example
conflict_texts =
    (members_text (codes "c.1" ∷ codes "c.2" ∷ codes "d.1" ∷ codes "d.2" ∷ codes "with.1" ∷ []) (member 0 ∷ member 3 ∷ member 4 ∷ []) gives codes "conflict c.1 d.2 with.1\n")
    ∷ []
