-- The reason of a literal stands at its place
use Rattle.std.proofs.Common.{◌≡◌, ℕ, suc, zero, ◌-◌, ◌<◌, Bool, true, false, nat_eq, List, [], ◌∷◌, length, refl, ap, sym, ◌∙◌, arith, Option, Some, None, get_or, inl, inr}
use Rattle.std.specs.Option.{option_map}
use Rattle.std.proofs.lemmas.Bool.{and_from, cases_Bool, cond-true, cond-false, eq-eqb, eqb-true}
use Rattle.svr_chain.specs.declared.clause.Lit.{Lit}
use Rattle.svr_chain.specs.Clauses.{same_sign, same_lit}
use Rattle.svr_chain.proofs.Sound.{same_lit-true}
use Rattle.svr_chain.proofs.Same.{lit-self}
use Rattle.svr_trail.specs.declared.Entry.{Entry}
use Rattle.svr_trail.specs.Table.{ArePlaces}
use Rattle.svr_trail.specs.Trail.{sign_at, value_in, reason_in}
use Rattle.svr_trail.proofs.TableLemmas.{set-from_value, set-at}

sign-index : (es : List Entry) (i : ℕ) (d : Entry) (v : ℕ) → i < length es → (get_or es i d).lit.var ≡ v → ((j : ℕ) → j < i → (get_or es j d).lit.var ≡ v → ⊥)
    → sign_at es v ≡ Some (get_or es i d).lit.neg
sign-index [] i d v h q f = absurd (omega arith)
sign-index (e ∷ es) zero d v h q f = cond-true _ _ _ (eq-eqb e.lit.var v q)
sign-index (e ∷ es) (suc i) d v h q f =
    elim (cases_Bool (nat_eq e.lit.var v)) [
      | inl t ↦ absurd (f zero (omega arith) (eqb-true e.lit.var v t))
      | inr t ↦ cond-false _ _ _ t ∙ sign-index es i d v (omega arith) q (λ j o. f (suc j) (omega arith))
    ]

reason-index : (es : List Entry) (i : ℕ) (d : Entry) (l : Lit) → i < length es → (get_or es i d).lit ≡ l → ((j : ℕ) → j < i → (get_or es j d).lit ≡ l → ⊥)
    → reason_in es l ≡ (get_or es i d).reason
reason-index [] i d l h q f = absurd (omega arith)
reason-index (e ∷ es) zero d l h q f = cond-true _ _ _ (ap (λ z. same_lit z l) q ∙ lit-self l)
reason-index (e ∷ es) (suc i) d l h q f =
    elim (cases_Bool (same_lit e.lit l)) [
      | inl t ↦ absurd (f zero (omega arith) (same_lit-true e.lit l t))
      | inr t ↦ cond-false _ _ _ t ∙ reason-index es i d l (omega arith) q (λ j o. f (suc j) (omega arith))
    ]

none-there : (es : List Entry) (d : Entry) (l : Lit) → ((j : ℕ) → j < length es → (get_or es j d).lit ≡ l → ⊥) → reason_in es l ≡ None
none-there [] d l f = refl
none-there (e ∷ es) d l f =
    elim (cases_Bool (same_lit e.lit l)) [
      | inl t ↦ absurd (f zero (omega arith) (same_lit-true e.lit l t))
      | inr t ↦ cond-false _ _ _ t ∙ none-there es d l (λ j o. f (suc j) (omega arith))
    ]

module _ (places : List ℕ) (es : List Entry) (p : ArePlaces places es) where
  -- no two entries set one variable
  once : (i j : ℕ) (d : Entry) (v : ℕ) → i < length es → j < i → (get_or es i d).lit.var ≡ v → (get_or es j d).lit.var ≡ v → ⊥
  once i j d v h o q r =
      let a : get_or places (v - 1) 0 ≡ i = ap (λ z. get_or places (z - 1) 0) (sym q) ∙ p i d h in
      let b : get_or places (v - 1) 0 ≡ j = ap (λ z. get_or places (z - 1) 0) (sym r) ∙ p j d (omega arith) in
      omega arith

  -- a literal that was set is true
  pub true-there : (j : ℕ) (d : Entry) (l : Lit) → j < length es → (get_or es j d).lit ≡ l → value_in es l ≡ Some true
  true-there j d l h q =
      let v : (get_or es j d).lit.var ≡ l.var = ap (λ z. z.var) q in
      let s : sign_at es l.var ≡ Some (get_or es j d).lit.neg = sign-index es j d l.var h v (λ k o r. once j k d l.var h o v r) in
      ap (option_map (λ n. same_sign n l.neg)) (s ∙ ap (λ z. Some z.neg) q) ∙ same l.neg
    where
      same : (b : Bool) → option_map (λ n. same_sign n b) (Some b) ≡ Some true
      same true = refl
      same false = refl

  pub no-reason : (d : Entry) (l : Lit) → (value_in es l ≡ Some true → ⊥) → reason_in es l ≡ None
  no-reason d l n = none-there es d l (λ j h q. n (true-there j d l h q))

  -- a true literal has the reason of the entry at its place
  pub reason-there : (i : ℕ) (d : Entry) (l : Lit) → i < length es → (get_or es i d).lit ≡ l → reason_in es l ≡ (get_or es i d).reason
  reason-there i d l h q = reason-index es i d l h q (λ j o r. once i j d l.var h o (ap (λ z. z.var) q) (ap (λ z. z.var) r))

  -- where a true literal stands
  pub lit-there : (d : Entry) (l : Lit) → value_in es l ≡ Some true → (get_or places (l.var - 1) 0 < length es) × ((get_or es (get_or places (l.var - 1) 0) d).lit ≡ l)
  lit-there d l h =
      let s = set-from_value es l true h in
      let r = set-at es l.var s.0 s.1 in
      let i : ℕ = r.0 in
      let at : get_or places (l.var - 1) 0 ≡ i = ap (λ z. get_or places (z - 1) 0) (sym (r.2 d)) ∙ p i d r.1 in
      let n : sign_at es l.var ≡ Some (get_or es i d).lit.neg = sign-index es i d l.var r.1 (r.2 d) (λ k o q. once i k d l.var r.1 o (r.2 d) q) in
      let a : option_map (λ b. same_sign b l.neg) (Some (get_or es i d).lit.neg) ≡ Some true = ap (option_map (λ b. same_sign b l.neg)) (sym n) ∙ h in
      let t : same_lit (get_or es i d).lit l ≡ true
      = and_from (same_sign (get_or es i d).lit.neg l.neg) (nat_eq (get_or es i d).lit.var l.var) (agree (get_or es i d).lit.neg l.neg a) (eq-eqb (get_or es i d).lit.var l.var (r.2 d)) in
      let b : i < length es = r.1 in
      (omega arith, ap (λ z. (get_or es z d).lit) at ∙ same_lit-true (get_or es i d).lit l t)
    where
      agree : (a b : Bool) → option_map (λ n. same_sign n b) (Some a) ≡ Some true → same_sign a b ≡ true
      agree true true h = refl
      agree true false h = cc
      agree false true h = cc
      agree false false h = refl
