-- What is left of a derived clause when needless literals are resolved
use Rattle.std.proofs.Common.{◌≡◌, ℕ, ◌+◌, ◌-◌, ◌<◌, ◌≤◌, Bool, true, false, ◌&&◌, ◌||◌, List, [], ◌∷◌, ◌++◌, length, refl, ap, sym, ◌∙◌, arith, Some, None, Ok, get_or, take, inl, inr}
use Rattle.std.specs.List.{list_all}
use Rattle.std.proofs.lemmas.Bool.{and_from, and_parts, both_ways, or_cases, or_left, or_right}
use Rattle.svr_chain.specs.declared.clause.Lit.{Lit}
use Rattle.svr_chain.specs.declared.log.Link.{Link}
use Rattle.svr_chain.specs.Views.{StepView}
use Rattle.svr_chain.specs.Clauses.{flip, has, same_lit}
use Rattle.svr_chain.proofs.Same.{all-from, all-has, iff_eq, lit-self}
use Rattle.svr_chain.proofs.Sound.{same_lit-true}
use Rattle.svr_trail.proofs.Quiet.{all-push}
use Rattle.svr_trail.specs.declared.Entry.{Entry}
use Rattle.svr_trail.specs.Trail.{is_false, is_false_but, is_falsified, value_in, IsClosed, IsUnit}
use Rattle.svr_watch.proofs.Values.{false-later, false-whole}
use Rattle.svr_cdcl.specs.Learned.{Accepts, Derives}
use Rattle.svr_cdcl.specs.Marks.{AreFalse, Marks, are_below, are_marked, is_last, is_marked, touches}
use Rattle.svr_cdcl.proofs.Apart.{last-from}
use Rattle.svr_cdcl.proofs.Walk.{touches-from}

-- a clause whose other literals are marked marks nothing besides
pub marks-same : (ms : List Entry) (l : Lit) (c : List Lit) → are_marked ms (Some l) c ≡ true → Marks ms ms (Some l) c
marks-same ms l c h v =
    iff_eq (is_marked ms v) (is_marked ms v || touches (Some l) c v)
    (λ g. or_left (is_marked ms v) (touches (Some l) c v) g)
    (λ g. elim (or_cases (is_marked ms v) (touches (Some l) c v) g) [
      | inl q ↦ q
      | inr q ↦
          let t = touches-from (Some l) c v q in
          elim (or_cases (same_lit t.0 l) (is_marked ms (t.0).var) (all-has (λ x. same_lit x l || is_marked ms x.var) c t.0 h t.1)) [
            | inl s ↦ absurd (both_ways (same_lit t.0 l) t.2 s)
            | inr s ↦ ap (is_marked ms) (sym t.3) ∙ s
          ]
    ])

-- one literal more behind the others
pub below-push : (es : List Entry) (place : ℕ) (p : Lit) (ms : List Entry) (c : List Lit) (x : Lit) → are_below es place p ms c ≡ true → is_false (value_in (take place es) x) ≡ true → is_marked ms x.var ≡ true
    → are_below es place p ms (c ++ x ∷ []) ≡ true
below-push es place p ms c x a f m =
    all-push (λ y. same_lit y p || (is_false (value_in (take place es) y) && is_marked ms y.var)) c x a
    (or_right (same_lit x p) (is_false (value_in (take place es) x) && is_marked ms x.var) (and_from (is_false (value_in (take place es) x)) (is_marked ms x.var) f m))

-- a clause of the pivot and marked literals of lower levels is a unit clause at the end of the level below
module _ (es : List Entry) (base left : ℕ) (p : Lit) (ms : List Entry) (c : List Lit)
    (a : AreFalse es ms) (l : is_last es base left p ms ≡ true) (s : 0 < left) (h : has c p ≡ true) (o : value_in (take base es) p ≡ None) (f : is_false (value_in es p) ≡ true)
    (b : are_below es (left - 1) p ms c ≡ true) where
  at : (x : Lit) → has c x ≡ true → (same_lit x p || (is_false (value_in (take (left - 1) es) x) && is_marked ms x.var)) ≡ true
  at x q = all-has (λ y. same_lit y p || (is_false (value_in (take (left - 1) es) y) && is_marked ms y.var)) c x b q

  pub needless-unit : IsUnit (take base es) c p
  needless-unit = (
    o,
    h,
    all-from (λ x. same_lit x p || is_false (value_in (take base es) x)) c
        (λ x q. elim (or_cases (same_lit x p) (is_false (value_in (take (left - 1) es) x) && is_marked ms x.var) (at x q)) [
          | inl t ↦ or_left (same_lit x p) (is_false (value_in (take base es) x)) t
          | inr t ↦
              let y = and_parts (is_false (value_in (take (left - 1) es) x)) (is_marked ms x.var) t in
              last-from es base left p ms x a l y.1 (false-later es (left - 1) left x (omega arith) y.0)
        ]),
  )

  pub needless-false : is_falsified es c ≡ true
  needless-false = all-from (λ x. is_false (value_in es x)) c
      (λ x q. elim (or_cases (same_lit x p) (is_false (value_in (take (left - 1) es) x) && is_marked ms x.var) (at x q)) [
        | inl t ↦ ap (λ z. is_false (value_in es z)) (same_lit-true x p t) ∙ f
        | inr t ↦ false-whole es (left - 1) x (and_parts (is_false (value_in (take (left - 1) es) x)) (is_marked ms x.var) t).0
      ])
