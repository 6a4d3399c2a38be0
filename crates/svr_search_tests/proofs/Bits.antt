-- The first variables, one more at a time.
use Rattle.std.proofs.Common.{◌≡◌, ℕ, ◌+◌, ◌<◌, ◌≤◌, List, [], ◌∷◌, ◌++◌, length, subst, sym, ap, ◌∙◌, inl, inr, arith, get_or, false}
use Rattle.std.proofs.lemmas.Bool.{cases_lt}
use Rattle.std.proofs.lemmas.List.{get_or_append_left, get_or_push, length_push}
use Rattle.svr_chain.specs.declared.clause.Lit.{Lit}
use Rattle.svr_chain.specs.Clauses.{AreWithin}
use Rattle.svr_query.specs.Bits.{AreFirst}

abbrev pub variable : ℕ → Lit
variable n = record { var = n; neg = false }

pub first_more : (bits : List Lit) (n : ℕ) → length bits ≡ n → AreFirst bits → AreFirst (bits ++ variable (n + 1) ∷ [])
first_more bits n e f i d h =
    elim (cases_lt i (length bits)) [
      | inl below ↦ get_or_append_left bits (variable (n + 1) ∷ []) d i below ∙ f i d below
      | inr past ↦
          let l : length (bits ++ variable (n + 1) ∷ []) ≡ length bits + 1 = length_push bits (variable (n + 1)) in
          let at : length bits ≡ i = omega (arith, past, h, l) in
          let last : n ≡ i = omega (arith, at, e) in
          get_or_push bits (variable (n + 1)) d i at ∙ ap (λ k. variable (k + 1)) last
    ]

pub within_more : (few many : ℕ) (bits : List Lit) → few ≤ many → AreWithin few bits → AreWithin many bits
within_more few many bits h w i d k = let e = w i d k in (e.0, omega (arith, e.1, h))
