-- Clauses that encode closed expressions (G. S. Tseitin, 1968)
use Rattle.std.specs.Prelude.{◌≡◌, ℕ, ◌<◌, ◌≤◌, Bool, List, [], ◌∷◌, map, sum, ⊤}
use Rattle.std.specs.List.{All}
use Rattle.svr_typed.specs.ExprTerm.{ExprTerm, expr_term}
use Rattle.svr_chain.specs.declared.clause.Lit.{Lit}
use Rattle.svr_chain.specs.Clauses.{AreWithin}
use Rattle.svr_chain.specs.Valuations.{lit_value, Meets, AgreeUpTo}
use Rattle.svr_chain.specs.Settled.{AreSettled}
use Rattle.svr_eval.specs.Reading.{Reading}
use Rattle.svr_eval.specs.Value.{alone, is_set}
use Rattle.svr_frame.specs.declared.part.Part.{Part}
use Rattle.svr_frame.specs.declared.slot.Slot.{Slot}
use Rattle.svr_frame.specs.Frame.{FrameTerm, state_at}
use Rattle.svr_frame.specs.Phases.{unknowns_of}
use Rattle.svr_encoded.specs.declared.encoded.Encoded.{Encoded}
use Rattle.svr_vector.specs.Places.{rows}
use Rattle.svr_encoded.specs.Slots.{positive_bits, widths_of, reading_at}

-- an item holds where its value alone is not 0
abbrev pub holds : Reading → ExprTerm → Bool
holds a e = is_set (alone a [] e)

-- each literal is of a variable above those of the earlier ones, and above n
abbrev pub AreRising : ℕ → List Lit → ℕ → Type 0
AreRising n [] top = n ≤ top
AreRising n (l ∷ ls) top = (n < l.var) × AreRising l.var ls top

-- each literal is the truth of its item, wherever a valuation meets the clauses
abbrev pub TellItems : List (List Lit) → List Lit → ((ℕ → Bool) → Reading) → List ExprTerm → Type 0
TellItems cs roots read items = (v : ℕ → Bool) → Meets v cs → map (lit_value v) roots ≡ map (λ e. holds (read v) e) items

-- over the unknowns of these widths, beside the state: the bits are the variables 1 to the sum of the widths, slot after slot
pub record EncodesOver (state : Reading) (unknowns : List Slot) (widths : List ℕ) (asked : List ExprTerm) (e : Encoded) : Type 0 where
  pub items : map expr_term e.items.items ≡ asked
  pub slots : e.slots.items ≡ unknowns
  pub bits : rows e.bits.items ≡ positive_bits 0 widths
  -- every valuation of the bits extends to one that meets the clauses
  pub extends : (v : ℕ → Bool) → (b : ℕ → Bool) × AgreeUpTo (sum widths) v b × Meets b e.cnf.clauses.items
  -- and wherever a valuation meets the clauses, each root tells its item
  pub roots : TellItems e.cnf.clauses.items e.roots.items (λ v. reading_at state unknowns (positive_bits 0 widths) v) asked
  -- roots are literals of distinct variables that are no bits
  pub apart : AreRising (sum widths) e.roots.items e.cnf.vars
  -- the bits settle all other variables, and no clause names another
  pub settled : AreSettled (sum widths) e.cnf.vars e.cnf.clauses.items
  pub within : All (AreWithin e.cnf.vars) e.cnf.clauses.items

-- for a phase at these sizes, with so many bits for each size
abbrev pub Encodes : FrameTerm → Part → List ℕ → ℕ → List ExprTerm → Encoded → Type 0
Encodes f part sizes size_bits asked e = EncodesOver (state_at f sizes) (unknowns_of f part sizes) (widths_of f size_bits (unknowns_of f part sizes)) asked e
