-- Literals read as a binary number under a valuation
use Rattle.std.specs.Prelude.{ℕ, ◌+◌, ◌*◌, Bool, true, false, List, [], ◌∷◌}
use Rattle.svr_chain.specs.declared.clause.Lit.{Lit}
use Rattle.svr_chain.specs.Valuations.{lit_value}

-- 1 or 0
abbrev pub bit : Bool → ℕ
bit true = 1
bit false = 0

-- the number that literals read as, least bit first
unfoldable pub number : (ℕ → Bool) → List Lit → ℕ
number a [] = 0
number a (l ∷ ls) = bit (lit_value a l) + 2 * number a ls
