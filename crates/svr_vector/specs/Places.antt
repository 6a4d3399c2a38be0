-- Numbers and bits at a place that is a whole number
use Rattle.std.specs.Prelude.{◌≡◌, ◌==◌, ℕ, ◌/◌, ◌%◌, ◌^◌, Bool, false, ◌&&◌, nat_lt, if◌then◌else◌, ℤ, pos, negsuc, List, [], length, map, get_or, Vec}
use Rattle.std.specs.List.{All}
use Rattle.std.specs.declared.alloc.Global.{Global}
use Rattle.svr_chain.specs.declared.clause.Lit.{Lit}
use Rattle.svr_chain.specs.Clauses.{AreWithin}
use Rattle.svr_gate.specs.Numbers.{number}

-- there is none below 0
abbrev pub bit_at_place : ℤ → ℕ → Bool
bit_at_place (pos k) v = v / 2 ^ k % 2 == 1
bit_at_place (negsuc k) v = false

-- the bits before n
abbrev pub bit_below : ℕ → ℤ → ℕ → Bool
bit_below n (pos k) v = nat_lt k n && (v / 2 ^ k % 2 == 1)
bit_below n (negsuc k) v = false

-- the vectors as lists
abbrev pub rows : List (Vec Lit Global) → List (List Lit)
rows vs = map (λ v. v.items) vs

-- vectors of one width
abbrev pub AreVectors : ℕ → ℕ → List (List Lit) → Type 0
AreVectors vars w xs = All (λ ls. AreWithin vars ls × (length ls ≡ w)) xs

-- what the vector at a place reads as; there is none below 0 or past the last
abbrev pub number_at : (ℕ → Bool) → List (List Lit) → ℤ → ℕ
number_at a xs (pos k) = number a (get_or xs k [])
number_at a xs (negsuc k) = 0

-- the vectors before n
abbrev pub number_below : ℕ → (ℕ → Bool) → List (List Lit) → ℤ → ℕ
number_below n a xs (pos k) = if nat_lt k n then number a (get_or xs k []) else 0
number_below n a xs (negsuc k) = 0
