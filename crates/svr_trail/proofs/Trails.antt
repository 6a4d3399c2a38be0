-- What a trail says, and what a change of places in the clauses leaves of it
use Rattle.std.proofs.Common.{◌≡◌, ℕ, suc, zero, ◌<◌, ◌≤◌, ◌⊎◌, Bool, true, false, ◌&&◌, ◌||◌, not, nat_eq, List, [], ◌∷◌, ◌++◌, length, refl, ap, sym, ◌∙◌, arith, cond, Option, Some, None, All, get_or, take, inl, inr}
use Rattle.std.specs.Prelude.{IsSome, is_none, Contains}
use Rattle.std.specs.Option.{option_map}
use Rattle.std.proofs.lemmas.Bool.{and_parts, and_from, or_cases, or_left, or_right, cases_Bool, cases_lt, cond_both, cond-true, cond-false, eq-eqb, eqb-true, both_ways, false≢true}
use Rattle.std.proofs.lemmas.List.{length_push, take-append-le, get_or_append_left, take_at, get_or_at}
use Rattle.std.proofs.lemmas.List.Elements.{All-cons, All-head, All-tail}
use Rattle.std.proofs.lemmas.Option.{same_Some}
use Rattle.svr_chain.specs.declared.clause.Lit.{Lit}
use Rattle.svr_chain.specs.Clauses.{same_sign, same_lit, flip, IsWithin, AreWithin}
use Rattle.svr_chain.specs.Same.{SameLits, SameClauses}
use Rattle.svr_chain.proofs.ClauseLemmas.{All-has, all-weaker}
use Rattle.svr_chain.proofs.Same.{all-same, has-at}
use Rattle.svr_chain.proofs.Sound.{same_lit-true}
use Rattle.svr_trail.specs.declared.Entry.{Entry}
use Rattle.svr_trail.specs.Trail.{sign_at, value_in, is_false, is_falsified, is_false_but, Each, IsQuiet, IsClosed}

pub Each-push : (P : List Entry → Entry → Type 0) (es : List Entry) (e : Entry) → Each P es → P es e → Each P (es ++ e ∷ [])
Each-push P es e a p i d h =
    let l = length_push es e in
    elim (cases_lt i (length es)) [
      | inl q ↦
          let t : take i (es ++ e ∷ []) ≡ take i es = take-append-le i es (e ∷ []) (omega arith) in
          let g : get_or (es ++ e ∷ []) i d ≡ get_or es i d = get_or_append_left es (e ∷ []) d i q in
          rw (t, g) (a i d q)
      | inr q ↦
          let n : length es ≡ i = omega arith in
          let t : take i (es ++ e ∷ []) ≡ es = take_at es (e ∷ []) i n in
          let g : get_or (es ++ e ∷ []) i d ≡ e = get_or_at es e [] d i n in
          rw (t, g) p
    ]

pub not_none : (o : Option ℕ) → IsSome o → o ≡ None → ⊥
not_none None h e = cc
not_none (Some n) h e = cc

abbrev pub or_else : Option Bool → Option Bool → Option Bool
or_else None b = b
or_else (Some a) b = Some a

-- one more entry sets its variable, and no other
pub sign_at-push : (es : List Entry) (e : Entry) (v : ℕ) → sign_at (es ++ e ∷ []) v ≡ or_else (sign_at es v) (cond (nat_eq e.lit.var v) (Some e.lit.neg) None)
sign_at-push [] e v = refl
sign_at-push (f ∷ es) e v =
    cond_both (nat_eq f.lit.var v) (Some f.lit.neg) (sign_at es v) (λ y. cond (nat_eq f.lit.var v) (Some f.lit.neg) (sign_at (es ++ e ∷ []) v) ≡ or_else y (cond (nat_eq e.lit.var v) (Some e.lit.neg) None))
    (λ h. cond-true _ _ _ h)
    (λ h. cond-false _ _ _ h ∙ sign_at-push es e v)

pub sign_at-push_same : (es : List Entry) (e : Entry) (v : ℕ) → sign_at es v ≡ None → e.lit.var ≡ v → sign_at (es ++ e ∷ []) v ≡ Some e.lit.neg
sign_at-push_same es e v o h = sign_at-push es e v ∙ ap (λ y. or_else y (cond (nat_eq e.lit.var v) (Some e.lit.neg) None)) o ∙ cond-true _ _ _ (eq-eqb e.lit.var v h)

none-from_map : (f : Bool → Bool) (o : Option Bool) → option_map f o ≡ None → o ≡ None
none-from_map f None e = refl
none-from_map f (Some b) e = cc

pub sign_at-open : (es : List Entry) (l : Lit) → value_in es l ≡ None → sign_at es l.var ≡ None
sign_at-open es l e = none-from_map (λ n. same_sign n l.neg) (sign_at es l.var) e

-- signs stay as the trail grows
pub sign_at-take : (es : List Entry) (j k v : ℕ) (b : Bool) → j ≤ k → sign_at (take j es) v ≡ Some b → sign_at (take k es) v ≡ Some b
sign_at-take es zero k v b o h = cc
sign_at-take [] (suc j) k v b o h = cc
sign_at-take (e ∷ es) (suc j) zero v b o h = absurd (omega arith)
sign_at-take (e ∷ es) (suc j) (suc k) v b o h =
    elim (cases_Bool (nat_eq e.lit.var v)) [
      | inl q ↦ cond-true _ _ _ q ∙ (sym (cond-true _ _ _ q) ∙ h)
      | inr q ↦ cond-false _ _ _ q ∙ sign_at-take es j k v b (omega arith) (sym (cond-false _ _ _ q) ∙ h)
    ]

pub sign_at-of_take : (es : List Entry) (j v : ℕ) (b : Bool) → sign_at (take j es) v ≡ Some b → sign_at es v ≡ Some b
sign_at-of_take es zero v b h = absurd (let z : None ≡ Some b = h in cc)
sign_at-of_take [] (suc j) v b h = absurd (let z : None ≡ Some b = h in cc)
sign_at-of_take (e ∷ es) (suc j) v b h =
    elim (cases_Bool (nat_eq e.lit.var v)) [
      | inl t ↦ cond-true _ _ _ t ∙ (sym (cond-true _ _ _ t) ∙ h)
      | inr t ↦ cond-false _ _ _ t ∙ sign_at-of_take es j v b (sym (cond-false _ _ _ t) ∙ h)
    ]

-- no clause is both quiet and false
pub quiet-not_false : (es : List Entry) (c : List Lit) → IsQuiet es c → is_falsified es c ≡ true → ⊥
quiet-not_false es c q a =
    let all : (p : Lit) → is_false_but es p c ≡ true
    = λ p. all-weaker (λ x. is_false (value_in es x)) (λ x. same_lit x p || is_false (value_in es x)) c (λ x h. or_right (same_lit x p) (is_false (value_in es x)) h) a in
    let p : Lit = record { var = 0; neg = false } in
    both (sign_at es 0) (q p (all p)) (q (flip p) (all (flip p)))
  where
    both : (s : Option Bool) → option_map (λ n. same_sign n false) s ≡ Some true → option_map (λ n. same_sign n true) s ≡ Some true → ⊥
    both None h g = cc
    both (Some true) h g = let w : false ≡ true = same_Some _ _ h in cc
    both (Some false) h g = let w : false ≡ true = same_Some _ _ g in cc

-- a clause stays quiet where its literals change places
pub same-quiet : (es : List Entry) (c d : List Lit) → SameLits c d → IsQuiet es c → IsQuiet es d
same-quiet es c d s q p h = q p (all-same (λ x. same_lit x p || is_false (value_in es x)) c d s ∙ h)

pub same-closed : (es : List Entry) (ks ls : List (List Lit)) → SameClauses ks ls → IsClosed es ks → IsClosed es ls
same-closed es [] [] s q = q
same-closed es [] (l ∷ ls) s q = absurd s
same-closed es (k ∷ ks) [] s q = absurd s
same-closed es (k ∷ ks) (l ∷ ls) s q =
    All-cons (IsQuiet es) l ls (same-quiet es k l s.0 (All-head (IsQuiet es) k ks q)) (same-closed es ks ls s.1 (All-tail (IsQuiet es) k ks q))

same-in : (vars : ℕ) (c d : List Lit) → SameLits c d → AreWithin vars c → AreWithin vars d
same-in vars c d s a = λ k e h. All-has (IsWithin vars) c (get_or d k e) a (s (get_or d k e) ∙ has-at d k e h)

pub same-are_in : (vars : ℕ) (ks ls : List (List Lit)) → SameClauses ks ls → All (AreWithin vars) ks → All (AreWithin vars) ls
same-are_in vars [] [] s a = a
same-are_in vars [] (l ∷ ls) s a = absurd s
same-are_in vars (k ∷ ks) [] s a = absurd s
same-are_in vars (k ∷ ks) (l ∷ ls) s a =
    All-cons (λ c. AreWithin vars c) l ls (same-in vars k l s.0 (All-head (λ c. AreWithin vars c) k ks a)) (same-are_in vars ks ls s.1 (All-tail (λ c. AreWithin vars c) k ks a))

module _ (es : List Entry) (e : Entry) where
  -- what an entry makes false is its negation
  pub false-back : (x : Lit) → is_false (value_in (es ++ e ∷ []) x) ≡ true → (is_false (value_in es x) ≡ true) ⊎ (same_lit x (flip e.lit) ≡ true)
  false-back x h =
      goes (sign_at es x.var) (nat_eq e.lit.var x.var) refl (ap (λ z. is_false (option_map (λ n. same_sign n x.neg) z)) (sym (sign_at-push es e x.var)) ∙ h)
    where
      opposite : (a b : Bool) → not (same_sign a b) ≡ true → same_sign b (not a) ≡ true
      opposite true true g = absurd (false≢true g)
      opposite true false g = refl
      opposite false true g = refl
      opposite false false g = absurd (false≢true g)

      goes : (s : Option Bool) (t : Bool) → nat_eq e.lit.var x.var ≡ t → is_false (option_map (λ n. same_sign n x.neg) (or_else s (cond t (Some e.lit.neg) None))) ≡ true
          → (is_false (option_map (λ n. same_sign n x.neg) s) ≡ true) ⊎ (same_lit x (flip e.lit) ≡ true)
      goes (Some b) t q g = inl g
      goes None true q g =
          inr (and_from (same_sign x.neg (not e.lit.neg)) (nat_eq x.var e.lit.var) (opposite e.lit.neg x.neg g) (eq-eqb x.var e.lit.var (sym (eqb-true e.lit.var x.var q))))
      goes None false q g = absurd (false≢true g)

  pub true-kept : (x : Lit) → value_in es x ≡ Some true → value_in (es ++ e ∷ []) x ≡ Some true
  true-kept x h = ap (option_map (λ n. same_sign n x.neg)) (sign_at-push es e x.var) ∙ goes (sign_at es x.var) h
    where
      goes : (s : Option Bool) → option_map (λ n. same_sign n x.neg) s ≡ Some true → option_map (λ n. same_sign n x.neg) (or_else s (cond (nat_eq e.lit.var x.var) (Some e.lit.neg) None)) ≡ Some true
      goes None g = absurd (let z : None ≡ Some true = g in cc)
      goes (Some b) g = g
