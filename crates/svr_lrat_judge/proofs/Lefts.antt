-- What is left of a clause, literal by literal
use Rattle.std.proofs.Common.{◌≡◌, Bool, true, false, cond, List, [], ◌∷◌, fold, refl, inl, inr}
use Rattle.std.specs.List.{list_all}
use Rattle.std.proofs.lemmas.Bool.{cases_Bool}
use Rattle.std.proofs.lemmas.List.Folds.{fold_stays}
use Rattle.svr_chain.specs.declared.clause.Lit.{Lit}
use Rattle.svr_chain.specs.Clauses.{same_lit, flip, has}
use Rattle.svr_lrat_judge.specs.declared.verdict.LratReason.{LratReason}
use Rattle.svr_lrat_judge.specs.declared.verdict.LratReason.TheVariants as reason
use Rattle.svr_lrat_judge.specs.declared.hints.Hinted.TheVariants as h
use Rattle.svr_lrat_judge.specs.Left.{left_step}
use Rattle.svr_lrat_judge.specs.Verdict.{left, left_of}

either : {A : Type 0} (b : Bool) (x : A) → cond b x x ≡ x
either true x = refl
either false x = refl

module _ (known : List Lit) where
  fault_stays : (r : LratReason) (c : List Lit) → fold (left_step known) (h.Fault r) c ≡ h.Fault r
  fault_stays r c = fold_stays (left_step known) (h.Fault r) (λ x. either (has known (flip x)) (h.Fault r)) c

  from_unit : (x : Lit) (c : List Lit) → fold (left_step known) (h.Unit x) c ≡ cond (list_all (same_lit x) (left known c)) (h.Unit x) (h.Fault reason.TwoLeft)
  from_unit x [] = refl
  from_unit x (y ∷ c) =
      elim (cases_Bool (has known (flip y))) [
        | inl e ↦ rw e (from_unit x c)
        | inr e ↦ rw e (elim (cases_Bool (same_lit x y)) [
          | inl s ↦ rw s (from_unit x c)
          | inr s ↦ rw s (fault_stays reason.TwoLeft c)
        ])
      ]

  pub left_so_far : (c : List Lit) → fold (left_step known) h.Shown c ≡ left_of known c
  left_so_far [] = refl
  left_so_far (y ∷ c) =
      elim (cases_Bool (has known (flip y))) [
        | inl e ↦ rw e (left_so_far c)
        | inr e ↦ rw e (from_unit y c)
      ]
