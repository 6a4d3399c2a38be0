-- Variables that are each settled by the variables below them
use Rattle.std.specs.Prelude.{◌≡◌, ℕ, ◌<◌, ◌≤◌, Bool, false, List, ◌⊎◌}
use Rattle.std.specs.List.{All, Contains}
use Rattle.svr_chain.specs.declared.clause.Lit.{Lit}
use Rattle.svr_chain.specs.Valuations.{lit_value}

-- the clause forces the variable v: one literal of v is left, and all others are false and of variables below v
pub record Forces (a : ℕ → Bool) (v : ℕ) (c : List Lit) : Type 0 where
  pub sign : Bool
  pub has : Contains c (record { var = v; neg = sign })
  pub others : All (λ l. (l ≡ record { var = v; neg = sign }) ⊎ ((l.var < v) × (lit_value a l ≡ false))) c

-- under each valuation some clause forces each variable after the first n
abbrev pub AreSettled : ℕ → ℕ → List (List Lit) → Type 0
AreSettled n vars cs = (v : ℕ) → n < v → v ≤ vars → (a : ℕ → Bool) → (c : List Lit) × Contains cs c × Forces a v c
