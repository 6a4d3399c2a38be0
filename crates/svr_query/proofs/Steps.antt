-- Logs, one step at a time
use Rattle.std.proofs.Common.{◌≡◌, ℕ, suc, arith, ◌+◌, ◌-◌, ◌*◌, ◌<◌, ◌≤◌, true, List, [], ◌∷◌, ◌++◌, length, take, ap, sym, ◌∙◌, Some, Result, Ok, Err}
use Rattle.std.specs.List.{list_all}
use Rattle.std.proofs.Math.Nat.{suc-mul, mul-le-mul_right}
use Rattle.std.proofs.lemmas.Bool.{cond-true}
use Rattle.std.proofs.lemmas.List.{take-take}
use Rattle.svr_chain.specs.declared.clause.Lit.{Lit}
use Rattle.svr_chain.specs.Views.{StepView}
use Rattle.svr_chain.specs.declared.log.Reason.{Reason}
use Rattle.svr_chain.specs.declared.log.Verdict.TheVariants.{Accepted, Rejected}
use Rattle.svr_chain.specs.Clauses.{flip, has}
use Rattle.svr_chain.specs.Log.{named, step_result, after_steps, is_denied, goal_verdict, verdict_of}

-- a log with one accepted step more
pub after_steps-push : (ss : List StepView) (ks : List (List Lit)) (n : ℕ) (s : StepView) (known : List (List Lit)) (c : List Lit)
    → after_steps ks n ss ≡ Ok known → step_result known s ≡ Ok c → after_steps ks n (ss ++ s ∷ []) ≡ Ok (known ++ c ∷ [])
after_steps-push [] ks n s known c e f = last (step_result ks s) (let w : ks ≡ known = cc in ap (λ z. step_result z s) w ∙ f) (let w : ks ≡ known = cc in w)
  where
    last : (r : Result (List Lit) Reason) → r ≡ Ok c → ks ≡ known → (elim r as (λ x. Result (List (List Lit)) (ℕ × Reason)) [ Ok d ↦ Ok (ks ++ d ∷ []) | Err x ↦ Err (n, x) ]) ≡ Ok (known ++ c ∷ [])
    last (Ok d) g w = let z : d ≡ c = cc in ap (λ y. Ok (ks ++ y ∷ [])) z ∙ ap (λ y. Ok (y ++ c ∷ [])) w
    last (Err x) g w = cc
after_steps-push (x ∷ ss) ks n s known c e f = next (step_result ks x) e (λ d g. after_steps-push ss (ks ++ d ∷ []) (n + 1) s known c g f)
  where
    next : (r : Result (List Lit) Reason)
        → (elim r as (λ x. Result (List (List Lit)) (ℕ × Reason)) [ Ok d ↦ after_steps (ks ++ d ∷ []) (n + 1) ss | Err y ↦ Err (n, y) ]) ≡ Ok known
        → ((d : List Lit) → after_steps (ks ++ d ∷ []) (n + 1) ss ≡ Ok known → after_steps (ks ++ d ∷ []) (n + 1) (ss ++ s ∷ []) ≡ Ok (known ++ c ∷ []))
        → (elim r as (λ x. Result (List (List Lit)) (ℕ × Reason)) [ Ok d ↦ after_steps (ks ++ d ∷ []) (n + 1) (ss ++ s ∷ []) | Err y ↦ Err (n, y) ]) ≡ Ok (known ++ c ∷ [])
    next (Ok d) g h = h d g
    next (Err y) g h = cc

-- the goal of a log that is accepted step by step
pub accepted-goal : (ks : List (List Lit)) (assume : List Lit) (ss : List StepView) (known : List (List Lit)) (g : ℕ) (c : List Lit)
    → after_steps ks 1 ss ≡ Ok known → named known g ≡ Some c → list_all (λ x. has assume (flip x)) c ≡ true → verdict_of ks assume ss (Some g) ≡ Accepted
accepted-goal ks assume ss known g c e m d =
    ap (λ r. elim r [ Ok z ↦ goal_verdict z (length ss + 1) assume (Some g) | Err f ↦ Rejected f.0 f.1 ]) e
    ∙ cond-true _ _ _ (ap (is_denied assume) m ∙ d)

-- what one list begins with, a longer one that begins with it does too
pub begins-then : (n : ℕ) (xs ys zs : List StepView) → n ≤ length ys → take n ys ≡ xs → take (length ys) zs ≡ ys → take n zs ≡ xs
begins-then n xs ys zs o e f = sym (take-take n (length ys) zs o) ∙ (ap (take n) f ∙ e)

-- one step more leaves less to do, however short the trail is then
pub one_step_more : (budget made vars len rest : ℕ) → made < budget → (budget - (made + 1)) * (vars + 1) + (vars - len) < (budget - made) * (vars + 1) + rest
one_step_more budget made vars len rest h =
    let n : ℕ = budget - (made + 1) in
    let e : budget - made ≡ suc n = omega (arith, h) in
    let m : suc n * (vars + 1) ≡ n * (vars + 1) + (vars + 1) = suc-mul n (vars + 1) in
    rw (e, m) (omega arith)

-- one node less leaves less to do, however short the trail is then
pub one_node_less : (u w vars v len rest : ℕ) → u < w → vars ≡ v → u * (vars + 1) + (vars - len) < w * (v + 1) + rest
one_node_less u w vars v len rest h e =
    let n : ℕ = w - 1 in
    let p : w ≡ suc n = omega (arith, h) in
    let q : u ≤ n = omega (arith, h) in
    let m : suc n * (v + 1) ≡ n * (v + 1) + (v + 1) = suc-mul n (v + 1) in
    let o : u * (v + 1) ≤ n * (v + 1) = mul-le-mul_right (v + 1) q in
    rw (e, p, m) (omega (arith, o))

-- one decision more leaves fewer open variables
pub one_decision_more : (u w vars v len before : ℕ) → u ≡ w → vars ≡ v → before < len → len ≤ vars → u * (vars + 1) + (vars - len) < w * (v + 1) + (v - before)
one_decision_more u w vars v len before e f h o =
    let b : len ≤ v = omega (arith, o, f) in
    let m : u * (vars + 1) ≡ w * (v + 1) = ap (λ z. z * (vars + 1)) e ∙ ap (λ z. w * (z + 1)) f in
    omega (arith, m, f, h, b)
