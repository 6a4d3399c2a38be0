-- Marked literals between two places
use Rattle.std.proofs.Common.{◌≡◌, ℕ, suc, zero, ◌+◌, ◌-◌, ◌<◌, ◌≤◌, Bool, true, false, ◌&&◌, ◌||◌, not, nat_eq, List, [], ◌∷◌, length, refl, ap, sym, ◌∙◌, arith, Some, None, get_or, take, inl, inr}
use Rattle.std.specs.Prelude.{◌⊎◌, is_some}
use Rattle.std.proofs.lemmas.Bool.{and_parts, and_from, or_cases, or_left, or_right, not-true, both_ways, cases_Bool, cond-true, cond-false, eq-eqb, eqb-true, false≢true}
use Rattle.svr_chain.specs.declared.clause.Lit.{Lit}
use Rattle.svr_chain.specs.Clauses.{same_lit}
use Rattle.svr_trail.specs.declared.Entry.{Entry}
use Rattle.svr_trail.specs.Trail.{value_in, is_false}
use Rattle.svr_watch.proofs.Values.{false-whole}
use Rattle.svr_cdcl.specs.Marks.{AreFalse, is_last, is_marked}
use Rattle.svr_cdcl.proofs.Walk.{false-one}

marked-more : (m : Entry) (ms : List Entry) (v : ℕ) → is_marked ms v ≡ true → is_marked (m ∷ ms) v ≡ true
marked-more m ms v h =
    elim (cases_Bool (nat_eq m.lit.var v)) [
      | inl t ↦ ap is_some (cond-true _ _ _ t)
      | inr t ↦ ap is_some (cond-false _ _ _ t) ∙ h
    ]

marked-first : (m : Entry) (ms : List Entry) → is_marked (m ∷ ms) m.lit.var ≡ true
marked-first m ms = ap is_some (cond-true _ _ _ (eq-eqb m.lit.var m.lit.var refl))

pub marked-rest : (m : Entry) (ms : List Entry) (v : ℕ) → nat_eq m.lit.var v ≡ false → is_marked (m ∷ ms) v ≡ true → is_marked ms v ≡ true
marked-rest m ms v t h = ap is_some (sym (cond-false _ _ _ t)) ∙ h

-- no marked literal but the pivot is left of the level
pub last-from : (es : List Entry) (base left : ℕ) (p : Lit) (ms : List Entry) (x : Lit) → AreFalse es ms → is_last es base left p ms ≡ true → is_marked ms x.var ≡ true
    → is_false (value_in (take left es) x) ≡ true → (same_lit x p || is_false (value_in (take base es) x)) ≡ true
last-from es base left p [] x a l h f = absurd (false≢true h)
last-from es base left p (m ∷ ms) x a l h f =
    let b = and_parts (same_lit m.lit p || (is_false (value_in (take base es) m.lit) || not (is_false (value_in (take left es) m.lit)))) (is_last es base left p ms) l in
    elim (cases_Bool (nat_eq m.lit.var x.var)) [
      | inl t ↦
          let q : m.lit ≡ x = false-one es m.lit x (a zero m (omega arith)) (false-whole es left x f) (eqb-true m.lit.var x.var t) in
          let g : (same_lit x p || (is_false (value_in (take base es) x) || not (is_false (value_in (take left es) x)))) ≡ true
          = ap (λ z. same_lit z p || (is_false (value_in (take base es) z) || not (is_false (value_in (take left es) z)))) (sym q) ∙ b.0 in
          elim (or_cases (same_lit x p) (is_false (value_in (take base es) x) || not (is_false (value_in (take left es) x))) g) [
            | inl s ↦ or_left (same_lit x p) (is_false (value_in (take base es) x)) s
            | inr s ↦ elim (or_cases (is_false (value_in (take base es) x)) (not (is_false (value_in (take left es) x))) s) [
              | inl r ↦ or_right (same_lit x p) (is_false (value_in (take base es) x)) r
              | inr r ↦ absurd (both_ways (is_false (value_in (take left es) x)) (not-true (is_false (value_in (take left es) x)) r) f)
            ]
          ]
      | inr t ↦ last-from es base left p ms x (λ i d o. a (suc i) d (omega arith)) b.1 (marked-rest m ms x.var t h) f
    ]

pub last-to : (es : List Entry) (base left : ℕ) (p : Lit) (ms : List Entry)
    → ((x : Lit) → is_marked ms x.var ≡ true → is_false (value_in (take left es) x) ≡ true → (same_lit x p || is_false (value_in (take base es) x)) ≡ true) → is_last es base left p ms ≡ true
last-to es base left p [] f = refl
last-to es base left p (m ∷ ms) f =
    and_from (same_lit m.lit p || (is_false (value_in (take base es) m.lit) || not (is_false (value_in (take left es) m.lit)))) (is_last es base left p ms)
    first
    (last-to es base left p ms (λ x h g. f x (marked-more m ms x.var h) g))
  where
    first : (same_lit m.lit p || (is_false (value_in (take base es) m.lit) || not (is_false (value_in (take left es) m.lit)))) ≡ true
    first =
        elim (cases_Bool (is_false (value_in (take left es) m.lit))) [
          | inl g ↦ elim (or_cases (same_lit m.lit p) (is_false (value_in (take base es) m.lit)) (f m.lit (marked-first m ms) g)) [
            | inl s ↦ or_left (same_lit m.lit p) (is_false (value_in (take base es) m.lit) || not (is_false (value_in (take left es) m.lit))) s
            | inr s ↦ or_right (same_lit m.lit p) (is_false (value_in (take base es) m.lit) || not (is_false (value_in (take left es) m.lit)))
                (or_left (is_false (value_in (take base es) m.lit)) (not (is_false (value_in (take left es) m.lit))) s)
          ]
          | inr g ↦ or_right (same_lit m.lit p) (is_false (value_in (take base es) m.lit) || not (is_false (value_in (take left es) m.lit)))
              (or_right (is_false (value_in (take base es) m.lit)) (not (is_false (value_in (take left es) m.lit))) (ap not g))
        ]
