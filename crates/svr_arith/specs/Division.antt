-- Long division, bit by bit
use Rattle.std.specs.Prelude.{◌≡◌, ◌==◌, ℕ, ◌-◌, ◌/◌, ◌%◌, ◌<◌, Bool, List, length, drop, get_or}
use Rattle.svr_chain.specs.declared.clause.Lit.{Lit}
use Rattle.svr_chain.specs.Clauses.{AreWithin}
use Rattle.svr_chain.specs.Valuations.{Meets}
use Rattle.svr_gate.specs.Numbers.{number}
use Rattle.svr_gate.specs.Circuit.{Circuit, Tells}

-- literal t tells that the t highest literals of y read as 0
abbrev pub TellHighZeros : Circuit → List Lit → List Lit → Type 0
TellHighZeros c v y = (t : ℕ) (d : Lit) → t < length v → Tells c (get_or v t d) (λ a. number a (drop (length y - t) y) == 0)

-- literals that read as quotient and rest of m by n, wherever n is not 0
pub record Divides (c : Circuit) (quotient rest : List Lit) (width : ℕ) (m n : (ℕ → Bool) → ℕ) : Type 0 where
  pub quotient_within : AreWithin c.vars quotient
  pub quotient_len : length quotient ≡ width
  pub rest_within : AreWithin c.vars rest
  pub rest_len : length rest ≡ width
  pub value : (a : ℕ → Bool) → Meets a c.clauses → 0 < n a → (number a quotient ≡ m a / n a) × (number a rest ≡ m a % n a)
