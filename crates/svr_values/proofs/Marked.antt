-- A test of the items that are needed, as far as a loop has come.
use Rattle.std.proofs.Common.{◌≡◌, ◌<◌, ◌≤◌, ◌+◌, ℕ, zero, suc, Bool, true, false, not, ◌&&◌, ◌||◌, List, [], ◌∷◌, map, length, take, get_or, refl, sym, ap, ◌∙◌, arith}
use Rattle.std.specs.List.{list_all}
use Rattle.std.proofs.lemmas.List.{get_or-map, length-map, take_all}
use Rattle.svr_typed.specs.declared.expr.TExpr.{TExpr}
use Rattle.svr_typed.specs.ExprTerm.{ExprTerm, expr_term}
use Rattle.svr_values.specs.Needed.{needed_of}

and_true : (b : Bool) → (b && true) ≡ b
and_true true = refl
and_true false = refl

and_false : (b : Bool) → (b && false) ≡ false
and_false true = refl
and_false false = refl

and_and : (a b c : Bool) → (a && (b && c)) ≡ (a && b && c)
and_and true b c = refl
and_and false b c = refl

-- one item more, which counts where it is marked
test_more : {A : Type 0} (g : A → Bool) (xs : List A) (marks : List Bool) (i : ℕ) (d : A) → i < length xs
    → list_all g (needed_of (take (suc i) xs) marks) ≡ (list_all g (needed_of (take i xs) marks) && (not (get_or marks i false) || g (get_or xs i d)))
test_more g [] marks i d lt = absurd (omega (arith, lt))
test_more g (x ∷ xs) [] zero d lt = refl
test_more g (x ∷ xs) [] (suc i) d lt = refl
test_more g (x ∷ xs) (true ∷ marks) zero d lt = and_true (g x)
test_more g (x ∷ xs) (false ∷ marks) zero d lt = refl
test_more g (x ∷ xs) (true ∷ marks) (suc i) d lt =
    ap (λ b. g x && b) (test_more g xs marks i d (omega (arith, lt))) ∙ and_and (g x) (list_all g (needed_of (take i xs) marks)) (not (get_or marks i false) || g (get_or xs i d))
test_more g (x ∷ xs) (false ∷ marks) (suc i) d lt = test_more g xs marks i d (omega (arith, lt))

-- one that is marked and fails settles all
test_fails : {A : Type 0} (g : A → Bool) (xs : List A) (marks : List Bool) (i : ℕ) (d : A) → i < length xs → (not (get_or marks i false) || g (get_or xs i d)) ≡ false → list_all g (needed_of xs marks) ≡ false
test_fails g [] marks i d lt h = absurd (omega (arith, lt))
test_fails g (x ∷ xs) [] zero d lt h = absurd (let no : true ≡ false = h in cc)
test_fails g (x ∷ xs) [] (suc i) d lt h = absurd (let no : true ≡ false = h in cc)
test_fails g (x ∷ xs) (true ∷ marks) zero d lt h = ap (λ b. b && list_all g (needed_of xs marks)) h
test_fails g (x ∷ xs) (false ∷ marks) zero d lt h = absurd (let no : true ≡ false = h in cc)
test_fails g (x ∷ xs) (true ∷ marks) (suc i) d lt h = ap (λ b. g x && b) (test_fails g xs marks i d (omega (arith, lt)) h) ∙ and_false (g x)
test_fails g (x ∷ xs) (false ∷ marks) (suc i) d lt h = test_fails g xs marks i d (omega (arith, lt)) h

module _ (g : ExprTerm → Bool) (items : List TExpr) (marks : List Bool) where
  abbrev terms : List ExprTerm
  terms = map expr_term items

  module _ (i : ℕ) (x : TExpr) (lt : i < length items) (is : x ≡ get_or items i x) where
    within : i < length terms
    within = let long : length terms ≡ length items = length-map items expr_term in omega (arith, lt, long)

    here : get_or terms i (expr_term x) ≡ expr_term x
    here = get_or-map expr_term items i x (expr_term x) lt ∙ ap expr_term (sym is)

    -- the first ones that are needed hold, and this one if it is needed
    pub needed_more : (not (get_or marks i false) || g (expr_term x)) ≡ true → list_all g (needed_of (take i (map expr_term items)) marks) ≡ true → list_all g (needed_of (take (i + 1) (map expr_term items)) marks) ≡ true
    needed_more holds before =
        ap (λ n. list_all g (needed_of (take n terms) marks)) (let e : i + 1 ≡ suc i = omega arith in e)
        ∙ test_more g terms marks i (expr_term x) within
        ∙ (λ k. before k && (not (get_or marks i false) || g (here k)))
        ∙ holds

    -- this one is needed and does not hold
    pub needed_fails : (not (get_or marks i false) || g (expr_term x)) ≡ false → list_all g (needed_of (map expr_term items) marks) ≡ false
    needed_fails fails = test_fails g terms marks i (expr_term x) within (ap (λ e. not (get_or marks i false) || g e) here ∙ fails)

  -- all of them
  pub needed_all : (i : ℕ) → length items ≤ i → list_all g (needed_of (take i (map expr_term items)) marks) ≡ true → true ≡ list_all g (needed_of (map expr_term items) marks)
  needed_all i past before =
      let long : length terms ≡ length items = length-map items expr_term in
      sym before ∙ ap (λ es. list_all g (needed_of es marks)) (take_all i terms (omega (arith, past, long)))
