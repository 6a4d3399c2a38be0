-- The bits of a solver: the first variables, by which the others are settled
use Rattle.std.specs.Prelude.{◌≡◌, ℕ, ◌+◌, ◌^◌, ◌<◌, ◌≤◌, false, List, length, Option, Some, None, slice_index_or}
use Rattle.svr_chain.specs.declared.clause.Lit.{Lit}
use Rattle.svr_chain.specs.Settled.{AreSettled}

-- the literals of the variables 1, 2, 3 and so on
abbrev pub AreFirst : List Lit → Type 0
AreFirst bits = (i : ℕ) (l : Lit) → i < length bits → slice_index_or bits i l ≡ record { var = i + 1; neg = false }

-- that many bits are variables, and settle the others
abbrev pub AreBits : Option ℕ → ℕ → List (List Lit) → Type 0
AreBits None vars cs = Unit {0}
AreBits (Some n) vars cs = (n ≤ vars) × AreSettled n vars cs

-- the tree of the bits' values may have more nodes than the budget has steps
abbrev pub AreMany : Option ℕ → ℕ → Type 0
AreMany None budget = Unit {0}
AreMany (Some n) budget = budget < 2 ^ (n + 1)
