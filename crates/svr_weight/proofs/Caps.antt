-- Sums and products up to the last value of a weight.
use Rattle.svr_typed.specs.declared.item.TItem.{TItem, Foreach, the_lemmas}
use Rattle.svr_typed.specs.ItemTerm.{foreach, item_term, item_terms}
use Rattle.std.proofs.Common.{rules, List, ◌∷◌, length, drop, get_or, ◌<◌, ◌≡◌, ℕ, zero, suc, ◌+◌, ◌-◌, ◌*◌, ◌/◌, ◌^◌, Bool, true, false, Option, None, Some, refl, sym, ap, subst, ◌∙◌, arith, ⊎_elim}
use Rattle.std.specs.Prelude.{if◌then◌else◌}
use Rattle.std.proofs.lemmas.Bool.{cases_lt}
use Rattle.std.proofs.lemmas.List.{at_drop_more}
use Rattle.svr_typed.specs.declared.expr.TExpr.{TExpr, fold_out-TExpr}
use Rattle.svr_typed.specs.ExprTerm.{ExprTerm, NodeTerm, RangeTerm, BoundTerm, typed, expr_term, node_term, bound_step, node_step, range_step, expr_step}
use Rattle.svr_eval.specs.Value.{size_of}
use Rattle.svr_eval.specs.Typed.{IsTyped}
use Rattle.svr_frame.specs.declared.part.Part.{Part}
use Rattle.svr_weight.specs.declared.around.Mentions.{Mentions}
use Rattle.svr_weight.specs.declared.around.Tests.{Tests}
use Rattle.svr_weight.specs.declared.around.Around.{Around}
use Rattle.svr_frame.specs.Weight.{capped}
use Rattle.svr_weight.specs.Weighing.{joined, pair_number, is_counted, tested, guarded_weight, leaf_weight}

pub mul_capped : (n x : ℕ) → capped (n * capped x) ≡ capped (n * x)
mul_capped zero x = omega arith
mul_capped (suc m) x =
    ⊎_elim (λ low. let same : capped x ≡ x = omega (arith, low) in ap (λ y. capped (suc m * y)) same)
    (λ high. let most : capped x ≡ 2 ^ 128 - 1 = omega (arith, high) in ap (λ y. capped (suc m * y)) most ∙ omega (arith, high))
    (cases_lt x (2 ^ 128 - 1))

pub mul_same : (n x y : ℕ) → capped x ≡ capped y → capped (n * x) ≡ capped (n * y)
mul_same n x y h = sym (mul_capped n x) ∙ ap (λ k. capped (n * k)) h ∙ mul_capped n y

-- so many turns of a loop, each of a capped weight
pub loop_capped : (r t each s n m k x : ℕ) → r ≡ capped (t * each) → t ≡ (s / m) * k → s ≡ n → each ≡ capped x → r ≡ capped ((n / m) * k * x)
loop_capped r t each s n m k x h i j e = h ∙ (λ q. capped ((i ∙ ap (λ y. (y / m) * k) j) q * e q)) ∙ mul_capped ((n / m) * k) x

-- what a loop stands for
pub foreach_term : (p m names : ℕ) (body : List TItem) → item_term (Foreach p m names body) ≡ foreach p m names (item_terms body)
foreach_term p m names body = search (rules, the_lemmas)

tests_capped : (own width : ℕ) → tested None (capped own) width ≡ tested None own width
tests_capped own width = let same : capped (capped own) ≡ capped own = omega arith in λ k. record { width = width; weight = same k }

-- tests and items whose own weight is capped weigh the same up to the cap
pub tested_capped : (t : Option Tests) (own width : ℕ) → tested t (capped own) width ≡ tested t own width
tested_capped None own width = tests_capped own width
tested_capped (Some t) own width = let same : capped (t.width + width + t.weight + capped own) ≡ capped (t.width + width + t.weight + own) = omega arith in λ k. record { width = 1; weight = same k }

pub guarded_capped : (t : Option Tests) (own width : ℕ) → capped (guarded_weight t (capped own) width) ≡ capped (guarded_weight t own width)
guarded_capped None own width = omega arith
guarded_capped (Some t) own width = omega arith

pub leaf_capped : (part : Part) (c : Around) (soft : Bool) (m : Mentions) (own width : ℕ) → capped (leaf_weight part c soft m (capped own) width) ≡ capped (leaf_weight part c soft m own width)
leaf_capped part c soft m own width = by (is_counted part soft c.in_loop (joined c.mentions m))
  where
    by : (b : Bool) → capped (if b then guarded_weight c.tests (capped own) width else 0) ≡ capped (if b then guarded_weight c.tests own width else 0)
    by true = guarded_capped c.tests own width
    by false = refl

-- ---- what calls answer, put together

pub sum_from : (a b x y r : ℕ) → r ≡ capped (a + b) → a ≡ capped x → b ≡ capped y → r ≡ capped (x + y)
sum_from a b x y r h i e = omega (arith, h, i, e)

-- where the first is exact
pub exact_from : (n m a x r : ℕ) → r ≡ capped (n + a) → n ≡ m → a ≡ capped x → r ≡ capped (m + x)
exact_from n m a x r h i e = omega (arith, h, i, e)

pub regrouped : (a b c : ℕ) → capped (a + (b + c)) ≡ capped (a + b + c)
regrouped a b c = let same : a + (b + c) ≡ a + b + c = omega arith in ap capped same

pub if_so : (b : Bool) (x y : ℕ) → b ≡ true → x ≡ (if b then x else y)
if_so b x y h = rw h refl

pub if_not : (b : Bool) (x y : ℕ) → b ≡ false → y ≡ (if b then x else y)
if_not b x y h = rw h refl

pub times_from : (n m own x r : ℕ) → r ≡ capped (n * own) → n ≡ m → own ≡ capped x → r ≡ capped (m * x)
times_from n m own x r h i e = h ∙ (λ k. capped (i k * e k)) ∙ mul_capped m x

pub leaf_from : (part : Part) (c : Around) (soft : Bool) (m n : Mentions) (own x width w r : ℕ)
    → r ≡ capped (leaf_weight part c soft m own width) → m ≡ n → own ≡ capped x → width ≡ w → r ≡ capped (leaf_weight part c soft n x w)
leaf_from part c soft m n own x width w r h i e k = h ∙ (λ j. capped (leaf_weight part c soft (i j) (e j) (k j))) ∙ leaf_capped part c soft n x w

-- one more turn of a loop that adds what the elements weigh
pub turn_added : {X : Type 0} (f : List X → ℕ) (x : ℕ) (es : List X) (i : ℕ) (e : X) (sum own next : ℕ)
    → i < length es → e ≡ get_or es i e → f (e ∷ drop (i + 1) es) ≡ x + f (drop (i + 1) es) → next ≡ capped (sum + own) → own ≡ capped x
    → capped (sum + f (drop i es)) ≡ capped (f es) → capped (next + f (drop (i + 1) es)) ≡ capped (f es)
turn_added f x es i e sum own next less at one h k told =
    let here : f (drop i es) ≡ x + f (drop (i + 1) es) = at_drop_more f es i e less ∙ ap (λ z. f (z ∷ drop (i + 1) es)) (sym at) ∙ one in
    added (f (drop (i + 1) es)) (f (drop i es)) here ∙ told
  where
    added : (r s : ℕ) → s ≡ x + r → capped (next + r) ≡ capped (sum + s)
    added r s e = omega (arith, e, h, k)

-- ---- the size that stands at an expression

pub own_width : (t : TExpr) → IsTyped (expr_term t) → size_of (expr_term t) ≡ t.width
own_width t h = ap size_of (stored t) ∙ (subst IsTyped (stored t) h).2
  where
    stored : (t : TExpr) → expr_term t ≡ typed t.width t.signed (node_term t.node)
    stored t = fold_out-TExpr BoundTerm NodeTerm RangeTerm ExprTerm bound_step node_step range_step expr_step t

-- ---- pairs

-- twice the pairs of one more than n
twice : (n : ℕ) → 2 * pair_number (suc n) ≡ suc n * n
twice zero = refl
twice (suc n) =
    let before = twice n in
    let rows : suc (suc n) * suc n ≡ suc n * suc n + suc n = grind arith in
    let columns : suc n * suc n ≡ suc n * n + suc n = grind arith in
    omega (arith, before, rows, columns)

pub pair_number_is : (n : ℕ) → n * (n - 1) / 2 ≡ pair_number n
pair_number_is zero = refl
pair_number_is (suc n) =
    let two = twice n in
    let less : suc n - 1 ≡ n = omega arith in
    rw less (omega (arith, two))
