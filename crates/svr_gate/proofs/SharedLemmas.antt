-- Gates that are kept by their keys
use Rattle.std.proofs.Common.{◌≡◌, ℕ, Bool, true, false, cond, eqb, ◌&&◌, List, [], ◌∷◌, Option, Some, None, ⊎_elim, refl, sym, ◌∙◌, ap, subst, arith}
use Rattle.std.specs.List.{All}
use Rattle.std.specs.Map.{lookup}
use Rattle.std.specs.Bool.{Decides}
use Rattle.std.specs.Cmp.Lexicographic.{pointwise}
use Rattle.std.proofs.lemmas.Bool.{and_parts, and_from, eqb-true, eq-eqb, false≢true, cases_Bool, cond-true, cond-false}
use Rattle.std.proofs.lemmas.List.Elements.{All-nil, All-cons, All-head, All-tail}
use Rattle.std.proofs.lemmas.Slice.Eq.{slice_eq-Decides}
use Rattle.std.proofs.lemmas.Map.Entries.{lookup_head, lookup_tail}
use mathlib.Core.Bool.{beq}
use Rattle.indexmap.specs.IndexMap.{insert_entry}
use Rattle.svr_chain.specs.declared.clause.Lit.{Lit}
use Rattle.svr_gate.specs.declared.gate.Gate.{Gate}
use Rattle.svr_gate.specs.contracts.gate.GatePartialEq.TheImpl.{eq-value}
use Rattle.svr_gate.specs.Circuit.{literal_of}
use Rattle.svr_gate.proofs.BitLemmas.{beq_refl}

abbrev same : Gate → Gate → Bool
same = (eq-value).it

lit_Decides : (a b : Lit) → Decides (eqb a.var b.var && beq a.neg b.neg) (a ≡ b)
lit_Decides a b = (λ h. let p = and_parts (eqb a.var b.var) (beq a.neg b.neg) h in same_lit (eqb-true a.var b.var p.0) (bools a.neg b.neg p.1), λ e. and_from (eqb a.var b.var) (beq a.neg b.neg) (eq-eqb a.var b.var (ap (λ (l : Lit). l.var) e)) (ap (λ (l : Lit). beq a.neg l.neg) (sym e) ∙ beq_refl a.neg)) where
  bools : (p q : Bool) → beq p q ≡ true → p ≡ q
  bools true true h = refl
  bools true false h = absurd (false≢true h)
  bools false true h = absurd (false≢true h)
  bools false false h = refl

  same_lit : a.var ≡ b.var → a.neg ≡ b.neg → a ≡ b
  same_lit e f =
      let mk : ℕ → Bool → Lit = λ v s. record { var = v; neg = s } in
      ap (λ v. mk v a.neg) e ∙ ap (λ s. mk b.var s) f

-- keys that are equal are one gate
pub gate_same : (k x : Gate) → same k x ≡ true → k ≡ x
gate_same k x h =
    let g : (eqb k.count x.count && (eqb k.table x.table && pointwise (λ a b. eqb a.var b.var && beq a.neg b.neg) k.places x.places)) ≡ true = h in
    let p = and_parts (eqb k.count x.count) (eqb k.table x.table && pointwise (λ a b. eqb a.var b.var && beq a.neg b.neg) k.places x.places) g in
    let q = and_parts (eqb k.table x.table) (pointwise (λ a b. eqb a.var b.var && beq a.neg b.neg) k.places x.places) p.1 in
    let mk : ℕ → ℕ → List Lit → Gate = λ c t i. record { count = c; table = t; places = i } in
    ap (λ c. mk c k.table k.places) (eqb-true k.count x.count p.0)
    ∙ ap (λ t. mk x.count t k.places) (eqb-true k.table x.table q.0)
    ∙ ap (λ i. mk x.count x.table i) ((slice_eq-Decides lit_Decides k.places x.places (pointwise (λ a b. eqb a.var b.var && beq a.neg b.neg) k.places x.places) refl).0 q.1)

module _ (P : Gate → Lit → Type 0) where
  -- what is looked up has what every entry has
  pub found : (k : Gate) (es : List (Gate × Lit)) (l : Lit) → Some l ≡ literal_of es k → All (λ e. P e.0 e.1) es → P k l
  found k [] l h s = cc
  found k (e ∷ es) l h s =
      ⊎_elim
      (λ (t : same k e.0 ≡ true).
      let r : Some l ≡ Some e.1 = h ∙ lookup_head (same k) e es t in
      let v : l ≡ e.1 = cc in
      subst (λ (g : Gate). P g l) (sym (gate_same k e.0 t)) (subst (λ (m : Lit). P e.0 m) (sym v) (All-head (λ (e : Gate × Lit). P e.0 e.1) e es s)))
      (λ (t : same k e.0 ≡ false). found k es l (h ∙ lookup_tail (same k) e es t) (All-tail (λ (e : Gate × Lit). P e.0 e.1) e es s))
      (cases_Bool (same k e.0))

  -- and so has every entry after an insert
  pub inserted : (k : Gate) (l : Lit) (es : List (Gate × Lit)) → P k l → All (λ e. P e.0 e.1) es → All (λ e. P e.0 e.1) (insert_entry same es k l)
  inserted k l [] p s = All-cons (λ (e : Gate × Lit). P e.0 e.1) (k, l) [] p (All-nil (λ (e : Gate × Lit). P e.0 e.1))
  inserted k l (e ∷ es) p s =
      ⊎_elim
      (λ (t : same k e.0 ≡ true). rw t (All-cons (λ (e : Gate × Lit). P e.0 e.1) (e.0, l) es (subst (λ (g : Gate). P g l) (gate_same k e.0 t) p) (All-tail (λ (e : Gate × Lit). P e.0 e.1) e es s)))
      (λ (t : same k e.0 ≡ false). rw t (All-cons (λ (e : Gate × Lit). P e.0 e.1) e (insert_entry same es k l) (All-head (λ (e : Gate × Lit). P e.0 e.1) e es s) (inserted k l es p (All-tail (λ (e : Gate × Lit). P e.0 e.1) e es s))))
      (cases_Bool (same k e.0))

-- a gate that was there stays where a new one is entered
pub stays : (old new : List (Gate × Lit)) (k : Gate) (l : Lit) → ((q : Gate) → literal_of new q ≡ cond (same k q) (Some l) (literal_of old q)) → literal_of old k ≡ None → (q : Gate) (m : Lit) → literal_of old q ≡ Some m → literal_of new q ≡ Some m
stays old new k l updates absent q m h =
    ⊎_elim
    (λ (t : same k q ≡ true). let e : None ≡ Some m = sym absent ∙ ap (literal_of old) (gate_same k q t) ∙ h in absurd (none_some m e))
    (λ (t : same k q ≡ false). updates q ∙ cond-false (same k q) (Some l) (literal_of old q) t ∙ h)
    (cases_Bool (same k q)) where
      none_some : (m : Lit) → None ≡ Some m → ⊥
      none_some m e = cc
