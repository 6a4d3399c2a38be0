-- Where the variables after the bits are settled by lower ones, a closed trail that sets the bits sets all
use Rattle.std.proofs.Common.{◌≡◌, ℕ, zero, suc, ◌+◌, ◌-◌, ◌<◌, ◌≤◌, Bool, true, false, ◌||◌, not, cond, List, [], ◌∷◌, ◌++◌, refl, ap, sym, ◌∙◌, subst, arith, Option, Some, None, get_or, ◌⊎◌, inl, inr, Result, Ok, Err}
use Rattle.std.specs.Prelude.{IsSome, is_some}
use Rattle.std.specs.Option.{option_map}
use Rattle.std.specs.List.{All}
use Rattle.std.proofs.lemmas.Bool.{or_left, or_right, cases_lt, cases_eq}
use Rattle.std.proofs.lemmas.List.Elements.{All-head, All-tail, All-cons}
use Rattle.svr_chain.specs.declared.clause.Lit.{Lit}
use Rattle.svr_chain.specs.declared.log.Reason.{Reason}
use Rattle.svr_chain.specs.Views.{StepView}
use Rattle.svr_chain.specs.Clauses.{same_sign, same_lit, IsWithin, AreWithin}
use Rattle.svr_chain.specs.Log.{step_result, after_steps}
use Rattle.svr_chain.specs.Valuations.{lit_value}
use Rattle.svr_chain.proofs.Same.{lit-self, all-from, same-back}
use Rattle.svr_trail.specs.declared.Entry.{Entry}
use Rattle.svr_trail.specs.Trail.{sign_at, value_in, is_false, is_false_but, IsQuiet, IsClosed}
use Rattle.svr_cdcl.specs.Search.{SearchView, IsSearch}
use Rattle.svr_chain.specs.Settled.{Forces, AreSettled}
use Rattle.svr_query.specs.Logged.{IsLogged, AreSet}
use Rattle.svr_chain.proofs.ClauseLemmas.{All-has}
use Rattle.svr_trail.proofs.Trails.{same-are_in, same-closed}

-- what holds of all clauses that the steps give holds of the first ones
all-first : (P : List Lit → Type 0) (ss : List StepView) (ks known : List (List Lit)) (n : ℕ) → after_steps ks n ss ≡ Ok known → All P known → All P ks
all-first P [] ks known n e a = let w : known ≡ ks = cc in subst (All P) w a
all-first P (x ∷ ss) ks known n e a = next (step_result ks x) e (λ c g. all-first P ss (ks ++ c ∷ []) known (n + 1) g a)
  where
    front : (xs ys : List (List Lit)) → All P (xs ++ ys) → All P xs
    front [] ys a = λ k d h. absurd (omega (arith, h))
    front (x ∷ xs) ys a = All-cons P x xs (All-head P x (xs ++ ys) a) (front xs ys (All-tail P x (xs ++ ys) a))

    next : (r : Result (List Lit) Reason)
        → (elim r as (λ w. Result (List (List Lit)) (ℕ × Reason)) [ Ok c ↦ after_steps (ks ++ c ∷ []) (n + 1) ss | Err f ↦ Err (n, f) ]) ≡ Ok known
        → ((c : List Lit) → after_steps (ks ++ c ∷ []) (n + 1) ss ≡ Ok known → All P (ks ++ c ∷ [])) → All P ks
    next (Ok c) g h = front ks (c ∷ []) (h c g)
    next (Err f) g h = cc

logged-closed : (cnf : List (List Lit)) (steps : List StepView) (s : SearchView) → IsLogged cnf steps s → IsClosed s.entries s.clauses → IsClosed s.entries cnf
logged-closed cnf steps s l q = all-first (IsQuiet s.entries) steps cnf l.0 1 l.1 (same-closed s.entries s.clauses l.0 (same-back l.0 s.clauses l.2) q)

logged-within : (cnf : List (List Lit)) (steps : List StepView) (s : SearchView) → IsLogged cnf steps s → IsSearch s → All (AreWithin s.vars) cnf
logged-within cnf steps s l k = all-first (λ c. AreWithin s.vars c) steps cnf l.0 1 l.1 (same-are_in s.vars s.clauses l.0 (same-back l.0 s.clauses l.2) k.within)

-- the valuation of the trail, whatever where variables are open
abbrev value_or : Option Bool → Bool
value_or None = true
value_or (Some neg) = not neg

false-there : (o : Option Bool) (n : Bool) → IsSome o → cond n (not (value_or o)) (value_or o) ≡ false → is_false (option_map (λ b. same_sign b n) o) ≡ true
false-there None n h f = cc
false-there (Some true) true h f = cc
false-there (Some true) false h f = refl
false-there (Some false) true h f = refl
false-there (Some false) false h f = cc

module _ (n vars : ℕ) (cnf : List (List Lit)) (es : List Entry) (settled : AreSettled n vars cnf) (within : All (AreWithin vars) cnf) (closed : IsClosed es cnf)
    (bits : (v : ℕ) → v < n → IsSome (sign_at es (v + 1))) where
  abbrev a : ℕ → Bool
  a v = value_or (sign_at es v)

  -- one variable, where those below it are set
  set-next : (v : ℕ) → v < vars → ((u : ℕ) → u < v → IsSome (sign_at es (u + 1))) → IsSome (sign_at es (v + 1))
  unfolding lit_value
  set-next v h lower =
      elim (cases_lt v n) [
        | inl q ↦ bits v q
        | inr q ↦
            let r = settled (v + 1) (omega (arith, q)) (omega (arith, h)) a in
            let c : List Lit = r.0 in
            let f : Forces a (v + 1) c = r.2 in
            let p : Lit = record { var = v + 1; neg = f.sign } in
            let at : get_or cnf r.1.0 c ≡ c = r.1.2 in
            let quiet : IsQuiet es c = subst (IsQuiet es) at (closed r.1.0 c r.1.1) in
            let inside : AreWithin vars c = subst (λ z. AreWithin vars z) at (within r.1.0 c r.1.1) in
            goes (sign_at es (v + 1)) refl p refl c quiet inside f.others
      ]
    where
      below : (c : List Lit) (p : Lit) → p.var ≡ v + 1 → AreWithin vars c → All (λ l. (l ≡ p) ⊎ ((l.var < v + 1) × (lit_value a l ≡ false))) c → is_false_but es p c ≡ true
      below c p e w o = all-from (λ x. same_lit x p || is_false (value_in es x)) c (λ x h.
          elim (All-has (λ l. (l ≡ p) ⊎ ((l.var < v + 1) × (lit_value a l ≡ false))) c x o h) [
            | inl g ↦ or_left (same_lit x p) (is_false (value_in es x)) (ap (same_lit x) (sym g) ∙ lit-self x)
            | inr g ↦
                let g0 : x.var < v + 1 = g.0 in
                let x0 : 0 < x.var = (All-has (IsWithin vars) c x w h).0 in
                let m : x.var - 1 + 1 ≡ x.var = omega (arith, x0) in
                let u : IsSome (sign_at es x.var) = subst (λ z. IsSome (sign_at es z)) m (lower (x.var - 1) (omega (arith, g0, x0))) in
                or_right (same_lit x p) (is_false (value_in es x)) (false-there (sign_at es x.var) x.neg u g.1)
          ])

      goes : (o : Option Bool) → sign_at es (v + 1) ≡ o → (p : Lit) → p.var ≡ v + 1 → (c : List Lit) → IsQuiet es c → AreWithin vars c
          → All (λ l. (l ≡ p) ⊎ ((l.var < v + 1) × (lit_value a l ≡ false))) c → IsSome (sign_at es (v + 1))
      goes (Some b) e p g c q w o = ap (λ z. is_some z) e
      goes None e p g c q w o =
          let t : value_in es p ≡ Some true = q p (below c p g w o) in
          let u : value_in es p ≡ None = ap (λ z. option_map (λ b. same_sign b p.neg) (sign_at es z)) g ∙ ap (option_map (λ b. same_sign b p.neg)) e in
          let z : None ≡ Some true = sym u ∙ t in
          absurd (cc)

  set-below : (m : ℕ) → m ≤ vars → (v : ℕ) → v < m → IsSome (sign_at es (v + 1))
  set-below zero o v h = absurd (omega (arith, h))
  set-below (suc m) o v h =
      elim (cases_eq v m) [
        | inl e ↦ set-next v (omega (arith, h, o)) (λ u g. set-below m (omega (arith, o)) u (omega (arith, g, e)))
        | inr e ↦ set-below m (omega (arith, o)) v (omega (arith, h, e))
      ]

pub all-set : (n : ℕ) (cnf : List (List Lit)) (steps : List StepView) (s : SearchView) → AreSettled n s.vars cnf → IsLogged cnf steps s → IsSearch s → IsClosed s.entries s.clauses
    → ((v : ℕ) → v < n → IsSome (sign_at s.entries (v + 1))) → AreSet s
all-set n cnf steps s settled l k q bits v h =
    set-below n s.vars cnf s.entries settled (logged-within cnf steps s l k) (logged-closed cnf steps s l q) bits s.vars (omega arith) v h
