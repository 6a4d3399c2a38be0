-- What an encoding reads: a state, and bits in place of some of its numbers
use Rattle.std.specs.Prelude.{◌≡◌, ℕ, ◌+◌, ◌*◌, ◌<◌, ◌≤◌, ◌^◌, Bool, nat_lt, nat_eq, if◌then◌else◌, List, [], length, Option, None, Some, slice_index, get_or}
use Rattle.std.specs.List.{All}
use Rattle.std.specs.HashMap as hash
use Rattle.svr_chain.specs.declared.clause.Lit.{Lit}
use Rattle.svr_chain.specs.Clauses.{AreWithin}
use Rattle.svr_gate.specs.Numbers.{number}
use Rattle.svr_eval.specs.Reading.{Reading, reading_of}
use Rattle.svr_vector.specs.Places.{rows}
use Rattle.svr_inputs.specs.declared.table.Table.{Table}
use Rattle.svr_inputs.specs.declared.inputs.Inputs.{Inputs}

-- the row of bits of a number of a property, and of its size
abbrev pub number_row : Table → ℕ → ℕ → Option ℕ
number_row t p j = if nat_lt j (2 ^ 32) then hash.get nat_eq t.numbers (p * 2 ^ 32 + j) else None

abbrev pub size_row : Table → ℕ → Option ℕ
size_row t p = hash.get nat_eq t.sizes p

-- the bits of a row
abbrev pub bits_of : List (List Lit) → Option ℕ → Option (List Lit)
bits_of bits None = None
bits_of bits (Some k) = if nat_lt k (length bits) then Some (get_or bits k []) else None

-- the number that bits read as, and another where there are none
abbrev pub read_or : ℕ → (ℕ → Bool) → Option (List Lit) → ℕ
read_or n v None = n
read_or n v (Some ls) = number v ls

module _ (i : Inputs) where
  -- the bits of a number of a property, of which a scalar has the place 0, and of a size
  abbrev pub number_bits : ℕ → ℕ → Option (List Lit)
  number_bits p j = bits_of (rows i.bits.now) (number_row i.table.now p j)

  abbrev pub size_bits : ℕ → Option (List Lit)
  size_bits p = bits_of (rows i.bits.now) (size_row i.table.now p)

  -- the state at the sizes: past the size of an array nothing stands, which reads 0
  abbrev pub state_of : Reading
  state_of = record {
    element = λ p j. if nat_lt j (slice_index i.sizes.now p) then (reading_of i.state.now).element p j else 0;
    size = λ p. slice_index i.sizes.now p;
    script = λ v. (reading_of i.state.now).script v;
  }

  -- the assignment that the bits read as
  abbrev pub read_at : (ℕ → Bool) → Reading
  read_at v = record {
    element = λ p j. read_or (state_of.element p j) v (number_bits p j);
    size = λ p. read_or (state_of.size p) v (size_bits p);
    script = state_of.script;
  }

  -- the bits are among the first variables, and no element past its array's size has any
  pub record AreInputs : Type 0 where
    pub within : All (AreWithin i.count) (rows i.bits.now)
    pub bounded : (p j : ℕ) → slice_index i.sizes.now p ≤ j → number_bits p j ≡ None

-- the place has some of w bits, or a number of w bits that the state has
abbrev pub PlaceIsReady : ℕ → ℕ → Option (List Lit) → Type 0
PlaceIsReady w n None = n < 2 ^ w
PlaceIsReady w n (Some ls) = (1 ≤ length ls) × (length ls ≤ w)

-- each number of a property is ready
abbrev pub NumbersAreReady : Inputs → ℕ → ℕ → Type 0
NumbersAreReady i w p = (j : ℕ) → PlaceIsReady w ((state_of i).element p j) (number_bits i p j)
