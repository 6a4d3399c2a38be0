-- Cores: what is left of a list that cannot hold as a whole, when each place without which the others cannot hold either is left out, from the last place to the first
use Rattle.std.specs.Prelude.{◌≡◌, ℕ, zero, suc, ◌<◌, ◌≤◌, List, ◌∷◌, length, map, ◌⊎◌}
use Rattle.std.specs.List.{All}
use Rattle.std.specs.List.Sorted.{IsStrictlyIncreasing}
use Rattle.svr_chain.specs.declared.clause.Lit.{Lit}
use Rattle.svr_query.specs.Answer.{IsModel}
use Rattle.svr_soft.specs.Kept.{HaveValuation}
use Rattle.svr_core.specs.declared.search.Needed.{Needed}
use Rattle.svr_core.specs.Groups.{with_groups, asked, others}

-- `core` is what is left of the places below n, behind which `kept` is needed. `Hold p places`: what stands before place p can hold together with these places
abbrev pub IsCore : (ℕ → List ℕ → Type 0) → ℕ → List ℕ → List ℕ → Type 0
IsCore Hold zero kept core = core ≡ kept
IsCore Hold (suc p) kept core = ((Hold p kept → ⊥) × IsCore Hold p kept core) ⊎ (Hold p kept × IsCore Hold p (p ∷ kept) core)

-- some valuation meets the clauses, the base, the groups before place p, and those at these places
abbrev pub CanHold : List (List Lit) → List Lit → List (List Lit) → ℕ → List ℕ → Type 0
CanHold ks base groups p places = HaveValuation ks (asked base groups p places)

-- places from `low` on and below `high`, each once, in their order
pub record ArePlaces (low high : ℕ) (places : List ℕ) : Type 0 where
  pub within : All (λ p. (low ≤ p) × (p < high)) places
  pub rising : IsStrictlyIncreasing places

abbrev pub place_of : Needed → ℕ
place_of c = c.place

abbrev pub places_of : List Needed → List ℕ
places_of core = map place_of core

-- each group of the core has values of all variables that meet the clauses, the base and all other groups of the core
abbrev pub AreNeeded : ℕ → List (List Lit) → List Lit → List (List Lit) → List Needed → Type 0
AreNeeded vars ks base groups core = All (λ (c : Needed). (length c.values ≡ vars) × IsModel ks (with_groups base groups (others c.place (places_of core))) c.values) core
