-- The clauses of a gate: each for a cube, which is some rows of the table (W. V. Quine, 1952)
use Rattle.std.specs.Prelude.{◌≡◌, ◌==◌, ℕ, zero, suc, ◌/◌, ◌%◌, ◌^◌, ◌<◌, Bool, true, not, ◌&&◌, ◌||◌, nat_lt, List, [], ◌∷◌, ◌++◌, Option, Some, None, unwrap_or, if◌then◌else◌}
use Rattle.std.specs.List.{All, list_any, list_all}
use Rattle.std.specs.Int.{bit_at}
use Rattle.svr_chain.specs.declared.clause.Lit.{Lit}
use Rattle.svr_chain.specs.Clauses.{flip, AreWithin}
use Rattle.svr_chain.specs.Valuations.{Meets}
use Rattle.svr_gate.specs.declared.cover.Cube.{Cube}
use Rattle.svr_gate.specs.Numbers.{number}
use Rattle.svr_gate.specs.Gates.{table_value}
use Rattle.svr_gate.specs.Keys.{all_below}

-- the literals of a cube's inputs, all of which are false just where the inputs read as a row of it
unfoldable pub cube_inputs : List Lit → ℕ → ℕ → List Lit
cube_inputs [] row mask = []
cube_inputs (l ∷ ls) row mask = if mask % 2 == 1 then (if row % 2 == 1 then flip l else l) ∷ cube_inputs ls (row / 2) (mask / 2) else cube_inputs ls (row / 2) (mask / 2)

-- a clause that is false just where the inputs read as a row of the cube and the output is not the table's value at it
unfoldable pub cube_clause : ℕ → List Lit → ℕ → Cube → List Lit
cube_clause table ins out c = cube_inputs ins c.row c.mask ++ record { var = out; neg = not (table_value table c.row) } ∷ []

-- each of the first rows by itself
unfoldable pub rows_upto : ℕ → List Cube
rows_upto zero = []
rows_upto (suc i) = rows_upto i ++ record { row = i; mask = 15 } ∷ []

-- at the inputs of the mask, of which there are k at most, the row n reads as the given one
abbrev pub is_like : ℕ → ℕ → ℕ → ℕ → Bool
is_like zero row mask n = true
is_like (suc k) row mask n = (not (mask % 2 == 1) || (n % 2 == row % 2)) && is_like k (row / 2) (mask / 2) (n / 2)

-- the row n of k inputs is in the cube
abbrev pub is_in : ℕ → Cube → ℕ → Bool
is_in k c n = is_like k c.row c.mask n

-- the table has one value on those rows of the cube that are n
abbrev pub is_right_at : ℕ → ℕ → ℕ → Cube → Bool
is_right_at k table n c = not (is_in k c n) || (bit_at table c.row == bit_at table n)

-- each row of the table is in one of the cubes, and in cubes of its own value alone
abbrev pub is_cover : ℕ → ℕ → List Cube → Bool
is_cover k table cubes =
    list_all (λ c. nat_lt c.row 16) cubes && all_below (λ n. list_any (λ c. is_in k c n) cubes && list_all (is_right_at k table n) cubes) (2 ^ k)

-- a table of two inputs with one row whose value is its own: a conjunction or a disjunction of them or their negations
abbrev pub has_lone_row : ℕ → Bool
has_lone_row table =
    table == 0x1 || table == 0x2 || table == 0x4 || table == 0x8 || table == 0x7 || table == 0xb || table == 0xd || table == 0xe

-- how many clauses a table of k inputs takes where it is one that is known to need fewer than its rows: a conjunction, a disjunction, a carry, a choice, an agreement
abbrev pub short_count : ℕ → ℕ → Option ℕ
short_count k table =
    if (k == 2 && has_lone_row table) then Some 3 else
    if (k == 3 && table == 0x82) then Some 5 else
    if (k == 3 && table == 0xe8) then Some 6 else
    if (k == 3 && table == 0xd8) then Some 4 else None

-- how many clauses a table of k inputs takes
abbrev pub clause_count : ℕ → ℕ → ℕ
clause_count k table = unwrap_or (short_count k table) (2 ^ k)

-- clauses that hold just where the output is the table's value at the inputs
pub record Defines (table : ℕ) (ins : List Lit) (out : ℕ) (cs : List (List Lit)) : Type 0 where
  pub within : (n : ℕ) → AreWithin n ins → n < out → All (AreWithin out) cs
  pub holds : (a : ℕ → Bool) → a out ≡ table_value table (number a ins) → Meets a cs
  pub tells : (a : ℕ → Bool) → Meets a cs → a out ≡ table_value table (number a ins)
