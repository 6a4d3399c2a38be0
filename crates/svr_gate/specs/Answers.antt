-- What the builder answers for a gate without a clause more
use Rattle.std.specs.Prelude.{◌≡◌, ◌==◌, ℕ, zero, suc, ◌+◌, ◌*◌, ◌/◌, ◌%◌, ◌^◌, ◌<◌, Bool, true, false, List, [], ◌∷◌, length, filter, Option, Some, None, slice_index_or, MatchOption, ⊤, ◌⊎◌}
use Rattle.std.specs.Int.{bit_at}
use Rattle.svr_chain.specs.declared.clause.Lit.{Lit}
use Rattle.svr_gate.specs.declared.gate.Gate.{Gate}
use Rattle.svr_gate.specs.Numbers.{bit}
use Rattle.svr_gate.specs.Gates.{table_value, copy_of}
use Rattle.svr_gate.specs.Keys.{inputs_of, places_of, no_input, in_order}
use Rattle.svr_gate.specs.Folding.{copy_lit, IsConstant, IsCopy, IsProper}
use Rattle.svr_gate.specs.Circuit.{Circuit, known_of, literal_of}

abbrev pub is_unknown : Option Bool → Bool
is_unknown None = true
is_unknown (Some v) = false

-- the inputs that are not known, given a literal that is always true
abbrev pub open_inputs : Option Lit → List Lit → List Lit
open_inputs one ins = filter (λ l. is_unknown (known_of one l)) ins

-- a row of one input more, which is known or the lowest bit of what is left
abbrev pub row_with : Option Bool → (ℕ → ℕ) → ℕ → ℕ
row_with None rest i = i % 2 + 2 * rest (i / 2)
row_with (Some v) rest i = bit v + 2 * rest i

-- the row of all inputs in which those that are not known read as i
unfoldable pub full_row : Option Lit → List Lit → ℕ → ℕ
full_row one [] i = 0
full_row one (l ∷ ls) i = row_with (known_of one l) (full_row one ls) i

-- the first n rows of the table over the inputs that are not known
unfoldable pub open_rows : ℕ → Option Lit → List Lit → ℕ → ℕ
open_rows table one ins zero = 0
open_rows table one ins (suc n) = open_rows table one ins n + bit_at table (full_row one ins n) * 2 ^ n

-- the gate over the inputs that are not known
abbrev pub open_gate : Option Lit → ℕ → List Lit → Gate
open_gate one table ins =
    record { count = length (open_inputs one ins); table = open_rows table one ins (2 ^ length (open_inputs one ins)); places = places_of (open_inputs one ins) }

-- the gate has this literal: it is a constant or an input, or it is shared
abbrev pub HasLiteral : Circuit → Gate → Lit → Type 0
HasLiteral c g l =
    ((v : Bool) × (IsConstant g v × ((o : Lit) × ((c.one ≡ Some o) × (l ≡ copy_lit v o)))))
    ⊎ (((j : ℕ) × ((same : Bool) × (IsCopy g j same × (l ≡ copy_lit same (slice_index_or (inputs_of g) j no_input)))))
    ⊎ (IsProper g × (literal_of c.gates (in_order g) ≡ Some l)))

-- the builder has this literal for a table over these inputs
unfoldable pub Answers : Circuit → ℕ → List Lit → Lit → Type 0
Answers c table ins l = HasLiteral c (open_gate c.one table ins) l

-- a row in which each input that is known has its value
abbrev pub IsOpenRow : Option Lit → List Lit → ℕ → Type 0
IsOpenRow one [] i = ⊤
IsOpenRow one (l ∷ ls) i = MatchOption (known_of one l) ⊤ (λ v. (i % 2 == 1) ≡ v) × IsOpenRow one ls (i / 2)

-- each open row of the table has this value
abbrev pub HasOneValue : Option Lit → ℕ → List Lit → Bool → Type 0
HasOneValue one table ins v = (i : ℕ) → i < 2 ^ length ins → IsOpenRow one ins i → table_value table i ≡ v

-- each open row of the table is its bit j, or the negation of it, and input j is not known
abbrev pub IsInput : Option Lit → ℕ → List Lit → ℕ → Bool → Type 0
IsInput one table ins j same =
    (j < length ins) × ((known_of one (slice_index_or ins j no_input) ≡ None) × ((i : ℕ) → i < 2 ^ length ins → IsOpenRow one ins i → table_value table i ≡ copy_of same (i / 2 ^ j % 2 == 1)))

-- one variable and n clauses more
pub record Adds (old new : Circuit) (n : ℕ) : Type 0 where
  pub vars : new.vars ≡ old.vars + 1
  pub clauses : length new.clauses ≡ length old.clauses + n
