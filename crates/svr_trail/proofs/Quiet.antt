-- Clauses that unit propagation has nothing to do with
use Rattle.std.proofs.Common.{◌≡◌, ℕ, suc, zero, Bool, true, false, ◌&&◌, ◌||◌, not, List, [], ◌∷◌, ◌++◌, refl, ap, sym, ◌∙◌, Option, Some, None, MatchOption, take, inl, inr}
use Rattle.std.specs.List.{list_all}
use Rattle.std.proofs.lemmas.Bool.{and_from, or_cases, or_left, or_right, false≢true, both_ways}
use Rattle.std.specs.Option.{option_map}
use Rattle.std.proofs.lemmas.List.Folds.{list_any-append, list_all-append}
use Rattle.svr_chain.specs.declared.clause.Lit.{Lit}
use Rattle.svr_chain.specs.Clauses.{same_sign, same_lit, flip, has, is_tautology}
use Rattle.svr_chain.proofs.Sound.{same_lit-true}
use Rattle.svr_chain.proofs.Same.{all-has, any-some, lit-self}
use Rattle.svr_trail.specs.declared.Entry.{Entry}
use Rattle.svr_trail.specs.Trail.{sign_at, value_in, is_false, is_falsified, IsQuiet, IsUnit}
use Rattle.svr_chain.proofs.ClauseLemmas.{all-weaker}

left-true : (a b : Bool) → (a || b) ≡ true → b ≡ false → a ≡ true
left-true true b h f = refl
left-true false b h f = absurd (both_ways b f h)

-- a clause with two open literals is quiet
pub quiet-two : (es : List Entry) (c : List Lit) (x y : Lit) → has c x ≡ true → has c y ≡ true → value_in es x ≡ None → value_in es y ≡ None
    → same_lit x y ≡ false → IsQuiet es c
quiet-two es c x y hx hy ox oy d p a =
    let ax : (same_lit x p || is_false (value_in es x)) ≡ true = all-has (λ z. same_lit z p || is_false (value_in es z)) c x a hx in
    let ay : (same_lit y p || is_false (value_in es y)) ≡ true = all-has (λ z. same_lit z p || is_false (value_in es z)) c y a hy in
    let sx : same_lit x p ≡ true = left-true _ _ ax (ap is_false ox) in
    let sy : same_lit y p ≡ true = left-true _ _ ay (ap is_false oy) in
    let e : x ≡ y = same_lit-true x p sx ∙ sym (same_lit-true y p sy) in
    absurd (both_ways (same_lit x y) d (ap (λ z. same_lit x z) (sym e) ∙ lit-self x))

-- the literals seen so far, with the open one among them
abbrev pub Seen : List Entry → List Lit → Option Lit → Type 0
Seen es c o = MatchOption o (is_falsified es c ≡ true) (λ p. IsUnit es c p)

has-push : (c : List Lit) (x p : Lit) → has c p ≡ true → has (c ++ x ∷ []) p ≡ true
has-push c x p h = list_any-append (λ z. same_lit z p) c (x ∷ []) ∙ or_left (has c p) (same_lit x p || false) h

pub has-last : (c : List Lit) (x : Lit) → has (c ++ x ∷ []) x ≡ true
has-last c x = list_any-append (λ z. same_lit z x) c (x ∷ []) ∙ or_right (has c x) (same_lit x x || false) (or_left (same_lit x x) false (lit-self x))

pub all-push : (p : Lit → Bool) (c : List Lit) (x : Lit) → list_all p c ≡ true → p x ≡ true → list_all p (c ++ x ∷ []) ≡ true
all-push p c x a h = list_all-append p c (x ∷ []) ∙ and_from (list_all p c) (p x && true) a (and_from (p x) true h refl)

pub seen-false : (es : List Entry) (c : List Lit) (x : Lit) (o : Option Lit) → value_in es x ≡ Some false → Seen es c o → Seen es (c ++ x ∷ []) o
seen-false es c x None f s = all-push (λ z. is_false (value_in es z)) c x s (ap is_false f)
seen-false es c x (Some p) f s =
    (s.0, has-push c x p s.1, all-push (λ z. same_lit z p || is_false (value_in es z)) c x s.2 (or_right (same_lit x p) (is_false (value_in es x)) (ap is_false f)))

pub seen-open : (es : List Entry) (c : List Lit) (x : Lit) → value_in es x ≡ None → is_falsified es c ≡ true → IsUnit es (c ++ x ∷ []) x
seen-open es c x f s = (
  f,
  has-last c x,
  all-push (λ z. same_lit z x || is_false (value_in es z)) c x
      (all-weaker (λ z. is_false (value_in es z)) (λ z. same_lit z x || is_false (value_in es z)) c (λ z h. or_right (same_lit z x) (is_false (value_in es z)) h) s)
      (or_left (same_lit x x) (is_false (value_in es x)) (lit-self x)),
)

pub seen-same : (es : List Entry) (c : List Lit) (x p : Lit) → same_lit x p ≡ true → IsUnit es c p → IsUnit es (c ++ x ∷ []) p
seen-same es c x p f s =
    (s.0, has-push c x p s.1, all-push (λ z. same_lit z p || is_false (value_in es z)) c x s.2 (or_left (same_lit x p) (is_false (value_in es x)) f))

pub has-take : (c : List Lit) (i : ℕ) (p : Lit) → has (take i c) p ≡ true → has c p ≡ true
has-take c zero p h = cc
has-take [] (suc i) p h = cc
has-take (x ∷ c) (suc i) p h =
    elim (or_cases (same_lit x p) (has (take i c) p) h) [
      | inl e ↦ or_left (same_lit x p) (has c p) e
      | inr e ↦ or_right (same_lit x p) (has c p) (has-take c i p e)
    ]

-- a tautology is always quiet
pub quiet-tautology : (es : List Entry) (c : List Lit) → is_tautology c ≡ true → IsQuiet es c
quiet-tautology es c t p a =
    let r = any-some (λ x. has c (flip x)) c t in
    let x : Lit = r.0 in
    let ax : (same_lit x p || is_false (value_in es x)) ≡ true = all-has (λ z. same_lit z p || is_false (value_in es z)) c x a r.1 in
    let ay : (same_lit (flip x) p || is_false (value_in es (flip x))) ≡ true = all-has (λ z. same_lit z p || is_false (value_in es z)) c (flip x) a r.2 in
    elim (or_cases (same_lit x p) (is_false (value_in es x)) ax) [
      | inl e ↦
          let xp : x ≡ p = same_lit-true x p e in
          elim (or_cases (same_lit (flip x) p) (is_false (value_in es (flip x))) ay) [
            | inl f ↦ absurd (not_flip x (xp ∙ sym (same_lit-true (flip x) p f)))
            | inr f ↦ ap (value_in es) (sym xp) ∙ true-from_flip (sign_at es x.var) x.neg f
          ]
      | inr e ↦
          elim (or_cases (same_lit (flip x) p) (is_false (value_in es (flip x))) ay) [
            | inl f ↦ ap (value_in es) (sym (same_lit-true (flip x) p f)) ∙ flip-true_from (sign_at es x.var) x.neg e
            | inr f ↦ absurd (both_false (sign_at es x.var) x.neg e f)
          ]
    ]
  where
    not_same : (b : Bool) → b ≡ not b → ⊥
    not_same true h = absurd (false≢true (sym h))
    not_same false h = absurd (false≢true h)

    not_flip : (x : Lit) → x ≡ flip x → ⊥
    not_flip x h = not_same x.neg (ap (λ z. z.neg) h)

    true-from_flip : (s : Option Bool) (n : Bool) → is_false (option_map (λ b. same_sign b (not n)) s) ≡ true → option_map (λ b. same_sign b n) s ≡ Some true
    true-from_flip None n h = absurd (false≢true h)
    true-from_flip (Some true) true h = refl
    true-from_flip (Some true) false h = absurd (false≢true h)
    true-from_flip (Some false) true h = absurd (false≢true h)
    true-from_flip (Some false) false h = refl

    flip-true_from : (s : Option Bool) (n : Bool) → is_false (option_map (λ b. same_sign b n) s) ≡ true → option_map (λ b. same_sign b (not n)) s ≡ Some true
    flip-true_from None n h = absurd (false≢true h)
    flip-true_from (Some true) true h = absurd (false≢true h)
    flip-true_from (Some true) false h = refl
    flip-true_from (Some false) true h = refl
    flip-true_from (Some false) false h = absurd (false≢true h)

    both_false : (s : Option Bool) (n : Bool) → is_false (option_map (λ b. same_sign b n) s) ≡ true → is_false (option_map (λ b. same_sign b (not n)) s) ≡ true → ⊥
    both_false None n h g = absurd (false≢true h)
    both_false (Some true) true h g = absurd (false≢true h)
    both_false (Some true) false h g = absurd (false≢true g)
    both_false (Some false) true h g = absurd (false≢true g)
    both_false (Some false) false h g = absurd (false≢true h)

-- a clause with a true literal is quiet
pub quiet-true : (es : List Entry) (c : List Lit) (x : Lit) → has c x ≡ true → value_in es x ≡ Some true → IsQuiet es c
quiet-true es c x h t p a =
    elim (or_cases (same_lit x p) (is_false (value_in es x)) (all-has (λ z. same_lit z p || is_false (value_in es z)) c x a h)) [
      | inl e ↦ ap (value_in es) (sym (same_lit-true x p e)) ∙ t
      | inr e ↦ absurd (false≢true (sym (ap is_false t) ∙ e))
    ]
