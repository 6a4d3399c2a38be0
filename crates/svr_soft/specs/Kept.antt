-- Which soft literals are kept. Their ranks are their places, counted from 1, and a lower rank has the higher priority (IEEE 1800-2017, 18.5.14.1)
use Rattle.std.specs.Prelude.{◌≡◌, ℕ, zero, suc, ◌+◌, ◌-◌, ◌<◌, ◌≤◌, Bool, true, false, nat_lt, List, [], ◌∷◌, ◌++◌, map, filter, slice_index_or}
use Rattle.std.specs.List.{list_all, All}
use Rattle.std.specs.List.Sorted.{IsStrictlyIncreasing}
use Rattle.svr_chain.specs.declared.clause.Lit.{Lit}
use Rattle.svr_chain.specs.Views.{RefutationView}
use Rattle.svr_chain.specs.Lists.{is_among}
use Rattle.svr_chain.specs.Valuations.{lit_value, Meets, HaveNoValuation}
use Rattle.svr_query.specs.Answer.{IsRefutation}

-- some valuation meets the clauses and the literals
abbrev pub HaveValuation : List (List Lit) → List Lit → Type 0
HaveValuation ks lits = (a : ℕ → Bool) × Meets a ks × (list_all (lit_value a) lits ≡ true)

-- the soft literal of a rank
abbrev pub lit_at : List Lit → ℕ → Lit
lit_at soft r = slice_index_or soft (r - 1) (record { var = 0; neg = false })

-- the base and the kept literals
abbrev pub with_kept : List Lit → List Lit → List ℕ → List Lit
with_kept base soft kept = base ++ map (lit_at soft) kept

-- the base, the kept literals of higher priority, and the literal of the rank itself
abbrev pub assumed_at : List Lit → List Lit → List ℕ → ℕ → List Lit
assumed_at base soft kept r = with_kept base soft (filter (λ k. nat_lt k r) kept) ++ lit_at soft r ∷ []

-- these ranks from 1 to n, in their order
pub record AreRanks (n : ℕ) (ranks : List ℕ) : Type 0 where
  pub within : All (λ r. (0 < r) × (r ≤ n)) ranks
  pub rising : IsStrictlyIncreasing ranks

-- of the ranks 1 to n just those are kept whose literal holds together with the base and the kept ones of higher priority
pub record IsKept (ks : List (List Lit)) (base soft : List Lit) (n : ℕ) (kept : List ℕ) : Type 0 where
  pub ranks : AreRanks n kept
  pub stands : (r : ℕ) → 0 < r → r ≤ n → is_among r kept ≡ true → HaveValuation ks (assumed_at base soft kept r)
  pub falls : (r : ℕ) → 0 < r → r ≤ n → is_among r kept ≡ false → HaveNoValuation ks (assumed_at base soft kept r)

abbrev pub rank_of : ℕ × RefutationView → ℕ
rank_of d = d.0

-- the ranks that are not kept, each with a refutation of its literal together with the base and the kept ones of higher priority
pub record AreDropped (ks : List (List Lit)) (base soft : List Lit) (n : ℕ) (kept : List ℕ) (dropped : List (ℕ × RefutationView)) : Type 0 where
  pub ranks : AreRanks n (map rank_of dropped)
  pub all : (r : ℕ) → 0 < r → r ≤ n → is_among r kept ≡ false → is_among r (map rank_of dropped) ≡ true
  pub refuted : All (λ d. (is_among (rank_of d) kept ≡ false) × IsRefutation ks (assumed_at base soft kept (rank_of d)) d.1) dropped

-- the ranks 1 to n
abbrev pub ranks_to : ℕ → List ℕ
ranks_to zero = []
ranks_to (suc n) = ranks_to n ++ (n + 1) ∷ []
