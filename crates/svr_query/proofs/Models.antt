-- Given values that meet the clauses and the assumed literals, or do not
use Rattle.std.proofs.Common.{◌≡◌, ℕ, Bool, true, false, ◌&&◌, List, length, ap, sym, ◌∙◌, subst}
use Rattle.std.specs.List.{list_all}
use Rattle.std.proofs.lemmas.Bool.{and_parts, and_from, both_ways}
use Rattle.svr_chain.specs.declared.clause.Lit.{Lit}
use Rattle.svr_chain.specs.Valuations.{lit_value, clause_value, Meets}
use Rattle.svr_query.specs.Logged.{valuation_of}
use Rattle.svr_query.specs.Answer.{IsModel}

module _ (ks cs : List (List Lit)) (assume : List Lit) (wishes : List Bool) (e : cs ≡ ks) where
  pub model-given : (vars : ℕ) (values : List Bool) → values ≡ wishes → length wishes ≡ vars
      → (list_all (clause_value (valuation_of wishes)) cs && list_all (lit_value (valuation_of wishes)) assume) ≡ true → (length values ≡ vars) × IsModel ks assume values
  unfolding Meets
  model-given vars values v l h =
      let p = and_parts (list_all (clause_value (valuation_of wishes)) cs) (list_all (lit_value (valuation_of wishes)) assume) h in
      let m : list_all (clause_value (valuation_of wishes)) ks ≡ true = subst (λ z. list_all (clause_value (valuation_of wishes)) z ≡ true) e p.0 in (
        ap (λ z. length z) v ∙ l,
        (subst (λ z. list_all (clause_value (valuation_of z)) ks ≡ true) (sym v) m, subst (λ z. list_all (lit_value (valuation_of z)) assume ≡ true) (sym v) p.1),
      )

  pub model-not : IsModel ks assume wishes → (list_all (clause_value (valuation_of wishes)) cs && list_all (lit_value (valuation_of wishes)) assume) ≡ false → ⊥
  unfolding Meets
  model-not m f =
      let c : list_all (clause_value (valuation_of wishes)) cs ≡ true = subst (λ z. list_all (clause_value (valuation_of wishes)) z ≡ true) (sym e) m.0 in
      both_ways (list_all (clause_value (valuation_of wishes)) cs && list_all (lit_value (valuation_of wishes)) assume) f
      (and_from (list_all (clause_value (valuation_of wishes)) cs) (list_all (lit_value (valuation_of wishes)) assume) c m.1)
