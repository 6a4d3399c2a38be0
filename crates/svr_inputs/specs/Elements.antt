-- Vectors for elements in a row
use Rattle.std.specs.Prelude.{◌≡◌, ℕ, ◌+◌, ◌<◌, Bool, List, [], length, get_or}
use Rattle.svr_chain.specs.declared.clause.Lit.{Lit}
use Rattle.svr_gate.specs.Circuit.{Circuit, GivesNumber}

-- so many vectors, each of which reads as its number
pub record GiveNumbers (c : Circuit) (xs : List (List Lit)) (count width : ℕ) (f : (ℕ → Bool) → ℕ → ℕ) : Type 0 where
  pub len : length xs ≡ count
  pub each : (k : ℕ) → k < count → GivesNumber c (get_or xs k []) width (λ a. f a k)
