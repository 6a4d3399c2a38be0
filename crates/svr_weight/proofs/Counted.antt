-- Counting the members that stand behind each weighs the pairs that they make.
use Rattle.std.proofs.Common.{◌≡◌, ◌≤◌, ◌<◌, ◌==◌, ◌&&◌, ℕ, zero, suc, ◌+◌, ◌*◌, max, Bool, true, false, refl, sym, ◌∙◌, ap, subst, List, [], ◌∷◌, Option, None, Some, length, drop, get_or, drop-cons, add-one, arith}
use Rattle.std.specs.Prelude.{if◌then◌else◌}
use Rattle.std.proofs.Math.Nat.{mul_comm}
use Rattle.std.proofs.lemmas.Bool.{and_parts, eqb-true, eq-eqb}
use Rattle.std.proofs.lemmas.List.{drop_all}
use Rattle.svr_typed.specs.declared.expr.TExpr.{TExpr}
use Rattle.svr_typed.specs.ExprTerm.{ExprTerm, ExprTerms, no_exprs, more_exprs, expr_term, expr_terms}
use Rattle.svr_eval.specs.Value.{size_of}
use Rattle.svr_eval.specs.Typed.{IsTyped, AreTyped}
use Rattle.svr_frame.specs.declared.part.Part.{Part}
use Rattle.svr_frame.specs.Frame.{FrameTerm}
use Rattle.svr_frame.specs.Weight.{capped}
use Rattle.svr_weight.specs.declared.around.Mentions.{Mentions}
use Rattle.svr_weight.specs.declared.around.Tests.{Tests}
use Rattle.svr_weight.specs.declared.around.Around.{Around}
use Rattle.svr_weight.specs.declared.tally.Member.{Member}
use Rattle.svr_weight.specs.declared.tally.Tally.{Tally}
use Rattle.svr_weight.specs.declared.tally.Tallies.{Tallies}
use Rattle.svr_weight.specs.Costs.{own_cost, cost, pair_cost}
use Rattle.svr_weight.specs.Weighing.{nothing, joined, mentioned_by, member_count, pair_number, is_counted, guarded_weight, leaf_weight, pair_weight, against_weight, group_weight, unique_weight}
use Rattle.svr_weight.specs.Tallied.{all_have, none, tallied, counts, tallied_beside, nobody, with_member, beside, half_weight, own_weight, beside_weight, counted_weight}
use Rattle.svr_weight.proofs.Caps.{mul_same, own_width}

-- ---- sums and products up to the cap

same_sum : (a b c d : ℕ) → capped a ≡ capped c → capped b ≡ capped d → capped (a + b) ≡ capped (c + d)
same_sum a b c d h k = omega (arith, h, k)

same_product : (a b c d : ℕ) → capped a ≡ capped c → capped b ≡ capped d → capped (a * b) ≡ capped (c * d)
same_product a b c d h k = mul_same a b d k ∙ ap capped (mul_comm a d) ∙ mul_same d a c h ∙ ap capped (mul_comm d c)

capped_twice : (a b : ℕ) → a ≡ capped b → capped a ≡ capped b
capped_twice a b h = omega (arith, h)

same_guarded : (t : Option Tests) (a b : ℕ) → capped a ≡ capped b → capped (guarded_weight t a 1) ≡ capped (guarded_weight t b 1)
same_guarded None a b h = h
same_guarded (Some t) a b h = omega (arith, h)

same_leaf : (part : Part) (c : Around) (m : Mentions) (a b : ℕ) → capped a ≡ capped b → capped (leaf_weight part c false m a 1) ≡ capped (leaf_weight part c false m b 1)
same_leaf part c m a b h = by (is_counted part false c.in_loop (joined c.mentions m))
  where
    by : (b' : Bool) → capped (if b' then guarded_weight c.tests a 1 else 0) ≡ capped (if b' then guarded_weight c.tests b 1 else 0)
    by true = same_guarded c.tests a b h
    by false = refl

guarded_sum : (t : Option Tests) (a b : ℕ) → guarded_weight t (a + b) 1 ≡ guarded_weight t a 1 + b
guarded_sum None a b = refl
guarded_sum (Some t) a b = omega arith

with_one : (n g o k s : ℕ) → n * (g + o) + (k * g + s) ≡ (k + n) * g + (s + n * o)
with_one n g o k s = grind arith

without_one : (n g k s : ℕ) → n * 0 + (k * g + s) ≡ (k + 0) * g + (s + 0)
without_one n g k s = grind arith

is_size : (n w : ℕ) (b : Bool) → ((n == w) && b) ≡ true → (n ≡ w) × (b ≡ true)
is_size n w b h = let both = and_parts (n == w) b h in (eqb-true n w both.0, both.1)

turned_sum : (a b c d : ℕ) → capped a ≡ capped c → capped b ≡ capped d → capped (a + b) ≡ capped (d + c)
turned_sum a b c d h k = omega (arith, h, k)

-- ---- lists from a place on

cut : (es : List TExpr) (k j : ℕ) (x : TExpr) → k < length es → k + 1 ≡ j → x ≡ get_or es k x → drop k es ≡ x ∷ drop j es
cut es k j x lt up is = drop-cons es k x lt ∙ (λ i. sym is i ∷ drop ((sym (add-one k) ∙ up) i) es)

even_from : (w : ℕ) (es : List TExpr) (k : ℕ) → all_have w (expr_terms es) ≡ true → all_have w (expr_terms (drop k es)) ≡ true
even_from w es zero h = h
even_from w [] (suc k) h = refl
even_from w (e ∷ es) (suc k) h = even_from w es k (is_size (size_of (expr_term e)) w (all_have w (expr_terms es)) h).1

pub typed_from : (es : List TExpr) (k : ℕ) → AreTyped (expr_terms es) → AreTyped (expr_terms (drop k es))
typed_from es zero h = h
typed_from [] (suc k) h = tt
typed_from (e ∷ es) (suc k) h = typed_from es k h.1

pub one_typed : (es : List TExpr) (k : ℕ) (x : TExpr) → k < length es → x ≡ get_or es k x → AreTyped (expr_terms es) → IsTyped (expr_term x)
one_typed es k x lt is h = (subst (λ (xs : List TExpr). AreTyped (expr_terms xs)) (cut es k (k + 1) x lt refl is) (typed_from es k h)).0

-- one member more of this size
pub have_more : (w : ℕ) (es : List TExpr) (i : ℕ) (e : TExpr) → i < length es → e ≡ get_or es i e → e.width ≡ w → AreTyped (expr_terms es)
    → all_have w (expr_terms (drop i es)) ≡ all_have w (expr_terms es) → all_have w (expr_terms (drop (i + 1) es)) ≡ all_have w (expr_terms es)
have_more w es i e less at wide h so_far =
    by (size_of (expr_term e)) (all_have w (expr_terms (drop (i + 1) es))) (own_width e (one_typed es i e less at h) ∙ wide)
    ∙ ap (λ (xs : List TExpr). all_have w (expr_terms xs)) (sym (cut es i (i + 1) e less refl at))
    ∙ so_far
  where
    by : (n : ℕ) (b : Bool) → n ≡ w → b ≡ ((n == w) && b)
    by n b same = rw (eq-eqb n w same) refl

module _ (f : FrameTerm) (part : Part) (ns : List ℕ) (c : Around) where
  -- ---- the members that count beside one that mentions so: how many they are, and what they weigh

  abbrev pub count_beside : Mentions → ExprTerms → ℕ
  count_beside m no_exprs = 0
  count_beside m (more_exprs y es) = count_beside m es + (if counts part c (joined m (mentioned_by f part y)) then member_count f ns y else 0)

  abbrev pub cost_beside : Mentions → ExprTerms → ℕ
  cost_beside m no_exprs = 0
  cost_beside m (more_exprs y es) = cost_beside m es + (if counts part c (joined m (mentioned_by f part y)) then member_count f ns y * own_cost f part ns y else 0)

  abbrev pub IsTally : Tally → Mentions → ExprTerms → Type 0
  IsTally t m es = (t.count ≡ capped (count_beside m es)) × (t.weight ≡ capped (cost_beside m es))

  pub record AreTallies (t : Tallies) (es : ExprTerms) : Type 0 where
    pub neither : IsTally t.neither nothing es
    pub wanted : IsTally t.wanted (record { wanted = true; barred = false }) es
    pub barred : IsTally t.barred (record { wanted = false; barred = true }) es
    pub both : IsTally t.both (record { wanted = true; barred = true }) es

  pub record IsMember (x : Member) (e : ExprTerm) : Type 0 where
    pub mentions : x.mentions ≡ mentioned_by f part e
    pub count : x.count ≡ member_count f ns e
    pub own : x.own ≡ capped (own_cost f part ns e)

  pub none_tallied : AreTallies nobody no_exprs
  none_tallied = record { neither = (refl, refl); wanted = (refl, refl); barred = (refl, refl); both = (refl, refl) }

  one_more : (t : Tally) (m : Mentions) (x : Member) (e : ExprTerm) (es : ExprTerms) → IsMember x e → IsTally t m es → IsTally (tallied_beside part c t m x) m (more_exprs e es)
  one_more t m x e es is h = by (counts part c (joined m x.mentions)) (counts part c (joined m (mentioned_by f part e))) (ap (λ k. counts part c (joined m k)) is.mentions)
    where
      by : (b d : Bool) → b ≡ d
          → ((if b then tallied t x.count x.own else t).count ≡ capped (count_beside m es + (if d then member_count f ns e else 0)))
          × ((if b then tallied t x.count x.own else t).weight ≡ capped (cost_beside m es + (if d then member_count f ns e * own_cost f part ns e else 0)))
      by true true same = (
        same_sum t.count x.count (count_beside m es) (member_count f ns e) (capped_twice t.count (count_beside m es) h.0) (ap capped is.count),
        same_sum t.weight (x.count * x.own) (cost_beside m es) (member_count f ns e * own_cost f part ns e) (capped_twice t.weight (cost_beside m es) h.1)
            (same_product x.count x.own (member_count f ns e) (own_cost f part ns e) (ap capped is.count) (capped_twice x.own (own_cost f part ns e) is.own)),
      )
      by true false same = absurd (cc)
      by false true same = absurd (cc)
      by false false same = (omega (arith, h.0), omega (arith, h.1))

  pub more_tallied : (t : Tallies) (x : Member) (e : ExprTerm) (es : ExprTerms) → IsMember x e → AreTallies t es → AreTallies (with_member part c t x) (more_exprs e es)
  more_tallied t x e es is h = record {
    neither = one_more t.neither nothing x e es is h.neither;
    wanted = one_more t.wanted (record { wanted = true; barred = false }) x e es is h.wanted;
    barred = one_more t.barred (record { wanted = false; barred = true }) x e es is h.barred;
    both = one_more t.both (record { wanted = true; barred = true }) x e es is h.both;
  }

  tally_of : (t : Tallies) (m : Mentions) (es : ExprTerms) → AreTallies t es → IsTally (beside t m) m es
  tally_of t m es h = by m.wanted m.barred
    where
      by : (w b : Bool) → IsTally (beside t (record { wanted = w; barred = b })) (record { wanted = w; barred = b }) es
      by true true = h.both
      by true false = h.wanted
      by false true = h.barred
      by false false = h.neither

  -- ---- pairs of members of w bits

  pair_even : (w : ℕ) (x y : ExprTerm) → size_of x ≡ w → size_of y ≡ w → pair_cost f part ns x y ≡ w + own_cost f part ns x + own_cost f part ns y
  pair_even w x y h k =
      let first : max (size_of x) (size_of y) ≡ w = omega (arith, h, k) in
      let left : max (size_of x) (size_of y) ≡ size_of x = omega (arith, h, k) in
      let right : max (size_of x) (size_of y) ≡ size_of y = omega (arith, h, k) in
      λ i. first i + cost f part ns x (left i) + cost f part ns y (right i)

  -- one member with all behind it
  against_even : (w : ℕ) (x : ExprTerm) (es : ExprTerms) → size_of x ≡ w → all_have w es ≡ true
      → against_weight f part ns c x es ≡ count_beside (mentioned_by f part x) es * guarded_weight c.tests (w + own_cost f part ns x) 1 + cost_beside (mentioned_by f part x) es
  against_even w x no_exprs h k = omega arith
  against_even w x (more_exprs y es) h k =
      let even = is_size (size_of y) w (all_have w es) k in
      let rest = against_even w x es h even.1 in
      let pair = pair_even w x y h even.0 in
      let half = guarded_sum c.tests (w + own_cost f part ns x) (own_cost f part ns y) in
      by (counts part c (joined (mentioned_by f part x) (mentioned_by f part y))) rest (ap (λ n. guarded_weight c.tests n 1) pair ∙ half)
    where
      by : (b : Bool) → against_weight f part ns c x es ≡ count_beside (mentioned_by f part x) es * guarded_weight c.tests (w + own_cost f part ns x) 1 + cost_beside (mentioned_by f part x) es
          → guarded_weight c.tests (pair_cost f part ns x y) 1 ≡ guarded_weight c.tests (w + own_cost f part ns x) 1 + own_cost f part ns y
          → member_count f ns y * (if b then guarded_weight c.tests (pair_cost f part ns x y) 1 else 0) + against_weight f part ns c x es
          ≡ (count_beside (mentioned_by f part x) es + (if b then member_count f ns y else 0)) * guarded_weight c.tests (w + own_cost f part ns x) 1
          + (cost_beside (mentioned_by f part x) es + (if b then member_count f ns y * own_cost f part ns y else 0))
      by true rest pair = rw (rest, pair) (with_one (member_count f ns y) (guarded_weight c.tests (w + own_cost f part ns x) 1) (own_cost f part ns y) (count_beside (mentioned_by f part x) es) (cost_beside (mentioned_by f part x) es))
      by false rest pair = rw rest (without_one (member_count f ns y) (guarded_weight c.tests (w + own_cost f part ns x) 1) (count_beside (mentioned_by f part x) es) (cost_beside (mentioned_by f part x) es))

  -- ---- one member more

  own_is : (w : ℕ) (x : Member) (e : ExprTerm) → size_of e ≡ w → IsMember x e → capped (own_weight part c w x) ≡ capped (pair_number (member_count f ns e) * pair_weight f part ns c e e)
  own_is w x e h is =
      let own = capped_twice x.own (own_cost f part ns e) is.own in
      let both = same_sum (w + x.own) x.own (w + own_cost f part ns e) (own_cost f part ns e) (same_sum w x.own w (own_cost f part ns e) refl own) own in
      let cost_is : capped (w + x.own + x.own) ≡ capped (pair_cost f part ns e e) = both ∙ ap capped (sym (pair_even w e e h h)) in
      ap (λ n. capped (pair_number n * leaf_weight part c false (joined x.mentions x.mentions) (w + x.own + x.own) 1)) is.count
      ∙ ap (λ m. capped (pair_number (member_count f ns e) * leaf_weight part c false (joined m m) (w + x.own + x.own) 1)) is.mentions
      ∙ mul_same (pair_number (member_count f ns e)) (leaf_weight part c false (joined (mentioned_by f part e) (mentioned_by f part e)) (w + x.own + x.own) 1) (pair_weight f part ns c e e)
      (same_leaf part c (joined (mentioned_by f part e) (mentioned_by f part e)) (w + x.own + x.own) (pair_cost f part ns e e) cost_is)

  beside_is : (w : ℕ) (x : Member) (e : ExprTerm) (t : Tally) (es : ExprTerms) → size_of e ≡ w → all_have w es ≡ true → IsMember x e → IsTally t (mentioned_by f part e) es
      → capped (beside_weight c w x t) ≡ capped (against_weight f part ns c e es)
  beside_is w x e t es h k is told =
      let own = capped_twice x.own (own_cost f part ns e) is.own in
      let half = same_guarded c.tests (w + x.own) (w + own_cost f part ns e) (same_sum w x.own w (own_cost f part ns e) refl own) in
      same_sum (t.count * half_weight c w x) t.weight (count_beside (mentioned_by f part e) es * guarded_weight c.tests (w + own_cost f part ns e) 1) (cost_beside (mentioned_by f part e) es)
      (same_product t.count (half_weight c w x) (count_beside (mentioned_by f part e) es) (guarded_weight c.tests (w + own_cost f part ns e) 1) (capped_twice t.count (count_beside (mentioned_by f part e) es) told.0) half)
      (capped_twice t.weight (cost_beside (mentioned_by f part e) es) told.1)
      ∙ ap capped (sym (against_even w e es h k))

  counted_is : (w : ℕ) (x : Member) (e : ExprTerm) (t : Tallies) (es : ExprTerms) → size_of e ≡ w → all_have w es ≡ true → IsMember x e → AreTallies t es
      → capped (counted_weight part c w x t) ≡ capped (group_weight f part ns c e es)
  counted_is w x e t es h k is told =
      let those : IsTally (beside t x.mentions) (mentioned_by f part e) es = subst (λ m. IsTally (beside t m) (mentioned_by f part e) es) (sym is.mentions) (tally_of t (mentioned_by f part e) es told) in
      same_sum (own_weight part c w x) (x.count * beside_weight c w x (beside t x.mentions)) (pair_number (member_count f ns e) * pair_weight f part ns c e e) (member_count f ns e * against_weight f part ns c e es)
      (own_is w x e h is)
      (same_product x.count (beside_weight c w x (beside t x.mentions)) (member_count f ns e) (against_weight f part ns c e es) (ap capped is.count) (beside_is w x e (beside t x.mentions) es h k is those))

  -- ---- the members from a place on

  pub start_weighed : (es : List TExpr) (k : ℕ) → length es ≤ k → 0 ≡ capped (unique_weight f part ns c (expr_terms (drop k es)))
  start_weighed es k le = ap (λ (xs : List TExpr). capped (unique_weight f part ns c (expr_terms xs))) (sym (drop_all k es le))

  pub start_tallied : (es : List TExpr) (k : ℕ) (t : Tallies) → length es ≤ k → t ≡ nobody → AreTallies t (expr_terms (drop k es))
  start_tallied es k t le is = subst (λ (x : Tallies). AreTallies x (expr_terms (drop k es))) (sym is) (subst (λ (xs : List TExpr). AreTallies nobody (expr_terms xs)) (sym (drop_all k es le)) none_tallied)

  pub weighed_all : (es : List TExpr) (k : ℕ) → k ≡ 0 → (sum : ℕ) → sum ≡ capped (unique_weight f part ns c (expr_terms (drop k es))) → sum ≡ capped (unique_weight f part ns c (expr_terms es))
  weighed_all es k none sum h = h ∙ ap (λ n. capped (unique_weight f part ns c (expr_terms (drop n es)))) none

  pub tallied_next : (es : List TExpr) (k j : ℕ) (e : TExpr) → k < length es → k + 1 ≡ j → e ≡ get_or es k e → (x : Member) → IsMember x (expr_term e) → (t : Tallies) → AreTallies t (expr_terms (drop j es))
      → (more : Tallies) → more ≡ with_member part c t x → AreTallies more (expr_terms (drop k es))
  tallied_next es k j e lt up at x is t told more made =
      subst (λ (y : Tallies). AreTallies y (expr_terms (drop k es))) (sym made)
      (subst (λ (xs : List TExpr). AreTallies (with_member part c t x) (expr_terms xs)) (sym (cut es k j e lt up at)) (more_tallied t x (expr_term e) (expr_terms (drop j es)) is told))

  pub weighed_next : (w : ℕ) (es : List TExpr) (k j : ℕ) (e : TExpr) → k < length es → k + 1 ≡ j → e ≡ get_or es k e → all_have w (expr_terms es) ≡ true → (x : Member) → IsMember x (expr_term e) → (t : Tallies) → AreTallies t (expr_terms (drop j es))
      → (sum own : ℕ) → own ≡ capped (counted_weight part c w x t) → sum ≡ capped (unique_weight f part ns c (expr_terms (drop j es))) → capped (sum + own) ≡ capped (unique_weight f part ns c (expr_terms (drop k es)))
  weighed_next w es k j e lt up at even x is t told sum own mine before =
      let here : all_have w (more_exprs (expr_term e) (expr_terms (drop j es))) ≡ true = subst (λ (xs : List TExpr). all_have w (expr_terms xs) ≡ true) (cut es k j e lt up at) (even_from w es k even) in
      let sizes = is_size (size_of (expr_term e)) w (all_have w (expr_terms (drop j es))) here in
      let group = counted_is w x (expr_term e) t (expr_terms (drop j es)) sizes.0 sizes.1 is told in
      turned_sum sum own (unique_weight f part ns c (expr_terms (drop j es))) (group_weight f part ns c (expr_term e) (expr_terms (drop j es)))
      (capped_twice sum (unique_weight f part ns c (expr_terms (drop j es))) before)
      (capped_twice own (counted_weight part c w x t) mine ∙ group)
      ∙ ap (λ (xs : List TExpr). capped (unique_weight f part ns c (expr_terms xs))) (sym (cut es k j e lt up at))
