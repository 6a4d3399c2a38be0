-- The clauses of accepted steps are new
use Rattle.std.proofs.Common.{◌≡◌, ℕ, suc, zero, ◌+◌, ◌<◌, false, List, [], ◌∷◌, ◌++◌, length, refl, ap, sym, ◌∙◌, arith, Option, Some, None, Result, Ok, Err, cond, inl, inr}
use Rattle.std.specs.List.{slice_get}
use Rattle.std.proofs.lemmas.Bool.{or_parts, cases_Bool, cond-true, cond-false}
use Rattle.std.proofs.lemmas.Option.{slice_get_within}
use Rattle.svr_chain.specs.declared.clause.Lit.{Lit}
use Rattle.svr_chain.specs.declared.log.Reason.{Reason}
use Rattle.svr_chain.specs.declared.log.Reason.TheVariants.{Repeated, Tautology}
use Rattle.svr_chain.specs.declared.log.Verdict.TheVariants.{Accepted, Rejected}
use Rattle.svr_chain.specs.Views.{StepView}
use Rattle.svr_chain.specs.Clauses.{is_within, is_tautology}
use Rattle.svr_chain.specs.Log.{is_repeated, derived, judged, step_result, after_steps, goal_verdict, verdict_of}
use Rattle.svr_chain.specs.New.{AreNewFrom, DeriveNew}
use Rattle.svr_chain.proofs.Indexed.{get-push}

not-part : (ks : List (List Lit)) (d c : List Lit) (i : ℕ) → is_repeated ks d ≡ false → slice_get ks i ≡ Some c → is_within c d ≡ false
not-part [] d c i f h = absurd (let z : None ≡ Some c = h in cc)
not-part (k ∷ ks) d c zero f h = let w : k ≡ c = (let z : Some k ≡ Some c = h in cc) in ap (λ z. is_within z d) (sym w) ∙ (or_parts (is_within k d) (is_repeated ks d) f).0
not-part (k ∷ ks) d c (suc i) f h = not-part ks d c i (or_parts (is_within k d) (is_repeated ks d) f).1 h

new-push : (n : ℕ) (ks : List (List Lit)) (k : List Lit) → AreNewFrom n ks → is_repeated ks k ≡ false → AreNewFrom n (ks ++ k ∷ [])
new-push n ks k w f i j c d h o g e =
    elim (get-push ks k d j e) [
      | inl y ↦ elim (get-push ks k c i g) [
        | inl x ↦ w i j c d h o x y
        | inr x ↦
            let l : length ks ≡ i = x.0 in
            let b : j < length ks = slice_get_within ks j d y in
            absurd (omega (arith, h, l, b))
      ]
      | inr y ↦ elim (get-push ks k c i g) [
        | inl x ↦ ap (is_within c) (sym y.1) ∙ not-part ks k c i f x
        | inr x ↦
            let l : length ks ≡ i = x.0 in
            let m : length ks ≡ j = y.0 in
            absurd (omega (arith, h, l, m))
      ]
    ]

new-start : (ks : List (List Lit)) → AreNewFrom (length ks) ks
new-start ks i j c d h o g e = let b : j < length ks = slice_get_within ks j d e in absurd (omega (arith, o, b))

not-repeated : (ks : List (List Lit)) (r : Result (List Lit) Reason) (c : List Lit) → judged ks r ≡ Ok c → is_repeated ks c ≡ false
not-repeated ks (Err e) c h = absurd (let z : Err e ≡ Ok c = h in cc)
not-repeated ks (Ok b) c h =
    elim (cases_Bool (is_tautology b)) [
      | inl t ↦ absurd (let z : Err Tautology ≡ Ok c = sym (cond-true (is_tautology b) (Err Tautology) (cond (is_repeated ks b) (Err Repeated) (Ok b)) t) ∙ h in cc)
      | inr t ↦
          let g : cond (is_repeated ks b) (Err Repeated) (Ok b) ≡ Ok c = sym (cond-false (is_tautology b) (Err Tautology) (cond (is_repeated ks b) (Err Repeated) (Ok b)) t) ∙ h in
          elim (cases_Bool (is_repeated ks b)) [
            | inl r ↦ absurd (let z : Err Repeated ≡ Ok c = sym (cond-true (is_repeated ks b) (Err Repeated) (Ok b) r) ∙ g in cc)
            | inr r ↦
                let z : Ok b ≡ Ok c = sym (cond-false (is_repeated ks b) (Err Repeated) (Ok b) r) ∙ g in
                let w : b ≡ c = cc in
                ap (is_repeated ks) (sym w) ∙ r
          ]
    ]

new-after : (m : ℕ) (ss : List StepView) (ks known : List (List Lit)) (n : ℕ) → after_steps ks n ss ≡ Ok known → AreNewFrom m ks → AreNewFrom m known
new-after m [] ks known n e w = let z : ks ≡ known = cc in rw (← z) w
new-after m (s ∷ ss) ks known n e w = next (step_result ks s) refl e (λ c g. new-after m ss (ks ++ c ∷ []) known (n + 1) g)
  where
    next : (r : Result (List Lit) Reason) → step_result ks s ≡ r
        → (elim r as (λ w. Result (List (List Lit)) (ℕ × Reason)) [ Ok c ↦ after_steps (ks ++ c ∷ []) (n + 1) ss | Err f ↦ Err (n, f) ]) ≡ Ok known
        → ((c : List Lit) → after_steps (ks ++ c ∷ []) (n + 1) ss ≡ Ok known → AreNewFrom m (ks ++ c ∷ []) → AreNewFrom m known) → AreNewFrom m known
    next (Ok c) q g h = h c g (new-push m ks c w (not-repeated ks (derived ks s) c q))
    next (Err f) q g h = absurd (let z : Err (n, f) ≡ Ok known = g in cc)

derives_new : (ks : List (List Lit)) (steps : List StepView) (n : ℕ) (assume : List Lit) (goal : Option ℕ) (r : Result (List (List Lit)) (ℕ × Reason)) → after_steps ks 1 steps ≡ r
    → (elim r [ Ok known ↦ goal_verdict known n assume goal | Err f ↦ Rejected f.0 f.1 ]) ≡ Accepted → DeriveNew ks steps
derives_new ks steps n assume goal (Ok known) e h = (known, e, new-after (length ks) steps ks known 1 e (new-start ks))
derives_new ks steps n assume goal (Err f) e h = absurd (let z : Rejected f.0 f.1 ≡ Accepted = h in cc)

-- the clauses of an accepted log are new
pub new-from_accepted : (ks : List (List Lit)) (assume : List Lit) (steps : List StepView) (goal : Option ℕ) → verdict_of ks assume steps goal ≡ Accepted → DeriveNew ks steps
new-from_accepted ks assume steps goal e = derives_new ks steps (length steps + 1) assume goal (after_steps ks 1 steps) refl e
