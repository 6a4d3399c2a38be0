-- Clauses that hold just where the output is the table settle the output: a clause that is false with the wrong output holds the output
use Rattle.std.proofs.Common.{◌≡◌, ℕ, zero, suc, ◌+◌, ◌<◌, ◌≤◌, ◌⊎◌, inl, inr, ⊎_elim, Bool, true, false, cond, not, eqb, List, [], ◌∷◌, get_or, refl, sym, ◌∙◌, ap, arith, subst}
use Rattle.std.specs.List.{All, Contains, list_any, list_all}
use Rattle.std.proofs.lemmas.Bool.{cases_eq, cases_Bool, cond-true, cond-false, eq-eqb, ne_eqb, and_from, and_parts, or_parts, false≢true, true≢false}
use Rattle.std.proofs.lemmas.List.Elements.{All-cons, All-nil, All-contains}
use Rattle.svr_chain.specs.declared.clause.Lit.{Lit}
use Rattle.svr_chain.specs.Clauses.{AreWithin}
use Rattle.svr_chain.specs.Settled.{Forces}
use Rattle.svr_chain.specs.Valuations.{lit_value, clause_value, Meets, AgreeUpTo}
use Rattle.svr_chain.proofs.ValuationLemmas.{lit_value-agree, clause_value-agree}
use Rattle.svr_gate.specs.Numbers.{number}
use Rattle.svr_gate.specs.Gates.{table_value}
use Rattle.svr_gate.specs.Covers.{Defines}
use Rattle.svr_gate.proofs.NumberLemmas.{number-agree}

-- the valuation that gives the variable v this value
abbrev pub with_value : (ℕ → Bool) → ℕ → Bool → ℕ → Bool
with_value a v b u = cond (eqb u v) b (a u)

pub with_value-agree : (n : ℕ) (a : ℕ → Bool) (b : Bool) → AgreeUpTo n a (with_value a (n + 1) b)
with_value-agree n a b v h = cond-false (eqb v (n + 1)) b (a v) (ne_eqb v (n + 1) (λ e. omega arith))

pub with_value-at : (a : ℕ → Bool) (v : ℕ) (b : Bool) → with_value a v b v ≡ b
with_value-at a v b = cond-true (eqb v v) b (a v) (eq-eqb v v refl)

head_in : {X : Type 0} (x : X) (xs : List X) → Contains (x ∷ xs) x
head_in x xs = (0, omega arith, refl)

tail_in : {X : Type 0} (y x : X) (xs : List X) → Contains xs x → Contains (y ∷ xs) x
tail_in y x xs h = (suc h.0, omega (arith, h.1), h.2)

-- a clause that is false, among clauses that are not all met
false_clause : (a : ℕ → Bool) (cs : List (List Lit)) → (Meets a cs → ⊥) → (c : List Lit) × Contains cs c × (clause_value a c ≡ false)
unfolding Meets
false_clause a [] h = absurd (h refl)
false_clause a (c ∷ cs) h =
    ⊎_elim
    (λ (e : clause_value a c ≡ true).
    let r = false_clause a cs (λ m. h (and_from (clause_value a c) (list_all (clause_value a) cs) e m)) in
    (r.0, tail_in c r.0 cs r.1, r.2))
    (λ (e : clause_value a c ≡ false). (c, head_in c cs, e))
    (cases_Bool (clause_value a c))

all_false : (a : ℕ → Bool) (c : List Lit) → clause_value a c ≡ false → All (λ l. lit_value a l ≡ false) c
unfolding clause_value
all_false a [] e = All-nil (λ l. lit_value a l ≡ false)
all_false a (l ∷ c) e = let p = or_parts (lit_value a l) (list_any (lit_value a) c) e in All-cons (λ l. lit_value a l ≡ false) l c p.0 (all_false a c p.1)

-- a literal of v in the clause, or none
literal_in : (v : ℕ) (c : List Lit) → ((l : Lit) × Contains c l × (l.var ≡ v)) ⊎ All (λ l. l.var ≡ v → ⊥) c
literal_in v [] = inr (All-nil (λ l. l.var ≡ v → ⊥))
literal_in v (l ∷ c) =
    ⊎_elim
    (λ (e : l.var ≡ v). inl (l, head_in l c, e))
    (λ (n : l.var ≡ v → ⊥).
    ⊎_elim
    (λ (f : (m : Lit) × Contains c m × (m.var ≡ v)). inl (f.0, tail_in l f.0 c f.1, f.2))
    (λ (f : All (λ m. m.var ≡ v → ⊥) c). inr (All-cons (λ m. m.var ≡ v → ⊥) l c n f))
    (literal_in v c))
    (cases_eq l.var v)

same_neg : (a : ℕ → Bool) (l m : Lit) → l.var ≡ m.var → lit_value a l ≡ false → lit_value a m ≡ false → l.neg ≡ m.neg
unfolding lit_value
same_neg a l m e f g = signs l.neg m.neg (a m.var) (ap (λ v. cond l.neg (not (a v)) (a v)) (sym e) ∙ f) g where
  signs : (p q v : Bool) → cond p (not v) v ≡ false → cond q (not v) v ≡ false → p ≡ q
  signs true true v h k = refl
  signs true false true h k = absurd (true≢false k)
  signs true false false h k = absurd (true≢false h)
  signs false true true h k = absurd (true≢false h)
  signs false true false h k = absurd (true≢false k)
  signs false false v h k = refl

same_parts : (l m : Lit) → l.var ≡ m.var → l.neg ≡ m.neg → l ≡ m
same_parts l m e f =
    let mk : ℕ → Bool → Lit = λ v s. record { var = v; neg = s } in
    ap (λ v. mk v l.neg) e ∙ ap (λ s. mk m.var s) f

all_met : (a : ℕ → Bool) (cs : List (List Lit)) → Meets a cs → All (λ c. clause_value a c ≡ true) cs
unfolding Meets
all_met a [] m = All-nil (λ c. clause_value a c ≡ true)
all_met a (c ∷ cs) m = let p = and_parts (clause_value a c) (list_all (clause_value a) cs) m in All-cons (λ c. clause_value a c ≡ true) c cs p.0 (all_met a cs p.1)

not_same : (b : Bool) → not b ≡ b → ⊥
not_same true h = false≢true h
not_same false h = true≢false h

module _ (table : ℕ) (ins : List Lit) (n : ℕ) (cs : List (List Lit)) (w : AreWithin n ins) (d : Defines table ins (n + 1) cs) where
  abbrev value_at : (ℕ → Bool) → Bool
  value_at a = table_value table (number a ins)

  early : (a b : ℕ → Bool) → AgreeUpTo n a b → value_at b ≡ value_at a
  early a b g = ap (table_value table) (number-agree n a b ins g w)

  pub gate_forces : (a : ℕ → Bool) → (c : List Lit) × Contains cs c × Forces a (n + 1) c
  gate_forces a =
      let t = value_at a in
      let wrong = with_value a (n + 1) (not t) in
      let right = with_value a (n + 1) t in
      let wrong_agrees = with_value-agree n a (not t) in
      let right_agrees = with_value-agree n a t in
      let f = false_clause wrong cs (λ m. not_same t (sym (with_value-at a (n + 1) (not t)) ∙ d.tells wrong m ∙ early a wrong wrong_agrees)) in
      let lits = all_false wrong f.0 f.2 in
      let inside : AreWithin (n + 1) f.0 = All-contains (AreWithin (n + 1)) cs f.0 (d.within n w (omega arith)) f.1 in
      ⊎_elim
      (λ (o : (l : Lit) × Contains f.0 l × (l.var ≡ n + 1)).
      let out : Lit = record { var = n + 1; neg = o.0.neg } in
      let false_at : lit_value wrong o.0 ≡ false = All-contains (λ l. lit_value wrong l ≡ false) f.0 o.0 lits o.1 in (
        f.0,
        f.1,
        record {
          sign = o.0.neg;
          has = subst (λ (l : Lit). Contains f.0 l) (same_parts o.0 out o.2 refl) o.1;
          others = λ k z lt.
              let m = get_or f.0 k z in
              ⊎_elim
              (λ (e : m.var ≡ n + 1). inl (same_parts m out e (same_neg wrong m o.0 (e ∙ sym o.2) (lits k z lt) false_at)))
              (λ (e : m.var ≡ n + 1 → ⊥).
              let low : m.var ≤ n = omega (arith, (inside k z lt).1) in
              inr (omega arith, sym (lit_value-agree n a wrong m wrong_agrees low) ∙ lits k z lt))
              (cases_eq m.var (n + 1));
        },
      ))
      (λ (none : All (λ l. l.var ≡ n + 1 → ⊥) f.0).
      let low : AreWithin n f.0 = λ k z lt. ((inside k z lt).0, omega (arith, (inside k z lt).1, none k z lt)) in
      let m = d.holds right (with_value-at a (n + 1) t ∙ sym (early a right right_agrees)) in
      let yes : clause_value right f.0 ≡ true = All-contains (λ c. clause_value right c ≡ true) cs f.0 (all_met right cs m) f.1 in
      let same : clause_value wrong f.0 ≡ clause_value right f.0 = clause_value-agree n a wrong f.0 wrong_agrees low ∙ sym (clause_value-agree n a right f.0 right_agrees low) in
      absurd (false≢true (sym f.2 ∙ same ∙ yes)))
      (literal_in (n + 1) f.0)
