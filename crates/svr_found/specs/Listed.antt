-- The numbers that bits spell, in lists
use Rattle.std.specs.Prelude.{◌≡◌, ◌≤◌, ℕ, zero, suc, Bool, List, [], ◌∷◌, ◌++◌, Some, length, slice_index}
use Rattle.svr_chain.specs.declared.clause.Lit.{Lit}
use Rattle.svr_inputs.specs.declared.inputs.Inputs.{Inputs}
use Rattle.svr_inputs.specs.Inputs.{number_bits, read_at}

-- no number has more than 64 bits
abbrev pub AreShort : Inputs → Type 0
AreShort i = (p j : ℕ) (ls : List Lit) → number_bits i p j ≡ Some ls → length ls ≤ 64

module _ (i : Inputs) (v : ℕ → Bool) where
  -- the first n numbers of a property
  abbrev pub numbers_read : ℕ → ℕ → List ℕ
  numbers_read p zero = []
  numbers_read p (suc n) = numbers_read p n ++ (read_at i v).element p n ∷ []

  -- those of the first n properties, at their sizes
  abbrev pub rows_read : ℕ → List (List ℕ)
  rows_read zero = []
  rows_read (suc n) = rows_read n ++ numbers_read n (slice_index i.sizes.now n) ∷ []
