-- Gates that are a constant or an input, and so need no clauses
use Rattle.std.specs.Prelude.{◌≡◌, ◌==◌, ℕ, ◌/◌, ◌%◌, ◌^◌, ◌<◌, Bool, slice_index_or, if◌then◌else◌}
use Rattle.svr_chain.specs.declared.clause.Lit.{Lit}
use Rattle.svr_chain.specs.Clauses.{flip}
use Rattle.svr_gate.specs.declared.gate.Gate.{Gate}
use Rattle.svr_gate.specs.declared.fold.GateKind.{GateKind}
use Rattle.svr_gate.specs.declared.fold.GateKind.TheVariants.{Constant, Copy, Proper}
use Rattle.svr_gate.specs.Gates.{table_value, copy_of}
use Rattle.svr_gate.specs.Keys.{inputs_of, no_input}

-- the literal, or its negation
abbrev pub copy_lit : Bool → Lit → Lit
copy_lit same l = if same then l else flip l

-- each row of the gate has this value
abbrev pub IsConstant : Gate → Bool → Type 0
IsConstant g v = (i : ℕ) → i < 2 ^ g.count → table_value g.table i ≡ v

-- each row of the gate is its bit j, or the negation of it
abbrev pub IsCopy : Gate → ℕ → Bool → Type 0
IsCopy g j same = (j < g.count) × ((i : ℕ) → i < 2 ^ g.count → table_value g.table i ≡ copy_of same (i / 2 ^ j % 2 == 1))

-- the gate is neither a constant nor an input nor the negation of one
pub record IsProper (g : Gate) : Type 0 where
  pub constant : (v : Bool) → IsConstant g v → ⊥
  pub copy : (j : ℕ) (same : Bool) → IsCopy g j same → ⊥

abbrev pub IsOfKind : Gate → GateKind → Type 0
IsOfKind g (Constant v) = IsConstant g v
IsOfKind g (Copy l) = (j : ℕ) × ((same : Bool) × (IsCopy g j same × (l ≡ copy_lit same (slice_index_or (inputs_of g) j no_input))))
IsOfKind g Proper = IsProper g
