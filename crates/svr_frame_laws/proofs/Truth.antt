-- The closed expression of an occurrence is not 0 exactly where the occurrence holds, and items hold exactly where their hard occurrences do.
use Rattle.std.proofs.Common.{◌≡◌, ◌/◌, ◌<◌, ◌^◌, ◌-◌, ◌==◌, ℕ, zero, suc, ◌+◌, pos, negsuc, cond, Bool, true, false, not, ◌&&◌, ◌||◌, refl, sym, ◌∙◌, ap, List, [], ◌∷◌, ◌++◌, map, Option, None, Some, arith}
use Rattle.std.specs.Prelude.{filter, if◌then◌else◌, max, ⊤}
use Rattle.std.specs.List.{list_all, list_any}
use Rattle.std.proofs.Math.Bool.{and-true}
use Rattle.std.proofs.lemmas.List.Elements.{filter-append}
use Rattle.std.proofs.lemmas.List.Folds.{list_all-append, list_any-append, list_all-map}
use Rattle.std.proofs.lemmas.List.{map-append}
use Rattle.std.proofs.lemmas.Bool.{lt-ltb}
use Rattle.std.proofs.Math.Nat.{mod-eq_of_lt}
use Rattle.svr_num.specs.Num.{extend_of, read_of, residue}
use Rattle.svr_operator.specs.declared.Share.{Share}
use Rattle.svr_operator.specs.declared.BinOp.TheVariants as bin
use Rattle.svr_typed.specs.ExprTerm.{ExprTerm, typed, NodeTerm, number, prop, element, cell, size, script, loop_index, reduce, of_object, bit_select, part_select, unary, binary, choice, inside, join, copies, sign, ExprTerms, no_exprs, more_exprs, RangeTerm, ranges_of}
use Rattle.svr_typed.specs.ItemTerm.{DistTerm, ItemTerm, plain, unique, implies, branch, foreach, disable, solve, ItemTerms, no_items, more_items, ElseTerm, no_else, else_items}
use Rattle.svr_eval.specs.Reading.{Reading}
use Rattle.svr_eval.specs.Value.{Operand, element_operand, element_at, are_equal, is_set, alone, truth, operand_of, property_of, node_property, size_of, sign_of, fits, fits_some, val}
use Rattle.svr_eval.specs.Holds as h
use Rattle.svr_eval.specs.Holds.{all_below, each_in_row, are_distinct, member_operands, operands, has_weight, is_dealt, holds, all_hold, else_holds}
use Rattle.svr_frame.specs.Closed.{index_number, closed, closed_range}
use Rattle.svr_frame.specs.Occurrences.{Guard, Place, Fact, stated, dealt, disabled, Occurrence, Shape, outside, under, within, elements_from, member_exprs, members, unequal, pairs, each_below, each_of_row, fact_of, occurrence, occur, all_occur, else_occur, occurrences, is_met, are_met, is_fact, is_true, all_true, is_hard, guard_expr, and_also, condition, guarded, closed_members, fact_expr, are_weighed, closed_of}
use Rattle.svr_frame.proofs.Closing.{alone_closed, operand_closed, range_closed}

-- ---- truths as values

set_truth : (b : Bool) → is_set (truth 1 false b) ≡ b
set_truth true = refl
set_truth false = refl

and_comm : (b c : Bool) → (b && c) ≡ (c && b)
and_comm true true = refl
and_comm true false = refl
and_comm false true = refl
and_comm false false = refl

-- ---- closed expressions

-- the weights of a distribution are 0 in one reading where they are in the other
abbrev pub SameWeights : Reading → Reading → List ℕ → List DistTerm → Type 0
SameWeights state a env [] = ⊤
SameWeights state a env (d ∷ ds) = (has_weight state env d.weight ≡ has_weight a env d.weight) × SameWeights state a env ds

abbrev pub FactSameWeights : Reading → Reading → List ℕ → Fact → Type 0
FactSameWeights state a env (stated e) = ⊤
FactSameWeights state a env (dealt e ds) = SameWeights state a env ds
FactSameWeights state a env (disabled target) = ⊤

module _ (state a : Reading) where
  guard_met : (t : ExprTerm) (wanted : Bool) (env : List ℕ) → is_set (alone a [] (guard_expr (record { test = t; wanted = wanted; env = env }))) ≡ is_met a (record { test = t; wanted = wanted; env = env })
  guard_met t true env = ap is_set (alone_closed a env t)
  guard_met t false env = set_truth (alone a [] (closed env t) == 0) ∙ ap (λ v. v == 0) (alone_closed a env t) ∙ not_not (alone a env t == 0)
    where
      not_not : (b : Bool) → b ≡ not (not b)
      not_not true = refl
      not_not false = refl

  abbrev condition_met : Option ExprTerm → Bool
  condition_met None = true
  condition_met (Some c) = is_set (alone a [] c)

  and_also_met : (c : Option ExprTerm) (x : ExprTerm) → is_set (alone a [] (and_also c x)) ≡ (condition_met c && is_set (alone a [] x))
  and_also_met None x = refl
  and_also_met (Some c) x = set_truth (is_set (alone a [] c) && is_set (alone a [] x))

  condition_all : (gs : List Guard) → condition_met (condition gs) ≡ are_met a gs
  condition_all [] = refl
  condition_all (g ∷ gs) = and_also_met (condition gs) (guard_expr g) ∙ rw (condition_all gs, guard_met g.test g.wanted g.env) (and_comm (are_met a gs) (is_met a g))

  guarded_met : (c : Option ExprTerm) (x : ExprTerm) → is_set (alone a [] (guarded c x)) ≡ (not (condition_met c) || is_set (alone a [] x))
  guarded_met None x = refl
  guarded_met (Some c) x = set_truth (not (is_set (alone a [] c)) || is_set (alone a [] x))

  dealt_met : (env : List ℕ) (e : ExprTerm) (ds : List DistTerm) → SameWeights state a env ds
      → fits_some a [] (operand_of a [] (closed env e)) (ranges_of (closed_members env (filter (are_weighed state env) ds))) ≡ is_dealt a env e ds
  dealt_met env e [] same = refl
  dealt_met env e (d ∷ ds) same = by_weight (has_weight state env d.weight) refl (dealt_met env e ds same.1)
    where
      by_weight : (b : Bool) → has_weight state env d.weight ≡ b
          → fits_some a [] (operand_of a [] (closed env e)) (ranges_of (closed_members env (filter (are_weighed state env) ds))) ≡ is_dealt a env e ds
          → fits_some a [] (operand_of a [] (closed env e)) (ranges_of (closed_members env (filter (are_weighed state env) (d ∷ ds)))) ≡ is_dealt a env e (d ∷ ds)
      by_weight true h rest = rw (h, sym (same.0) ∙ h) (λ k. range_closed a env e d.range k || rest k)
      by_weight false h rest = rw (h, sym (same.0) ∙ h) rest

  fact_met : (env : List ℕ) (f : Fact) → FactSameWeights state a env f → is_set (alone a [] (fact_expr (are_weighed state) env f)) ≡ is_fact a env f
  fact_met env (stated e) same = ap is_set (alone_closed a env e)
  fact_met env (dealt e ds) same = set_truth _ ∙ dealt_met env e ds same
  fact_met env (disabled target) same = refl

  -- what expansion is for
  pub closed_is_true : (o : Occurrence) → FactSameWeights state a o.place.env o.fact → is_set (alone a [] (closed_of state o)) ≡ is_true a o
  closed_is_true o same = guarded_met (condition o.place.guards) (fact_expr (are_weighed state) o.place.env o.fact) ∙ rw (condition_all o.place.guards, fact_met o.place.env o.fact same) refl

-- ---- items and their hard occurrences

-- every array has fewer than 2^31 elements, and a scalar has one
pub record HasSizes (sh : Shape) (a : Reading) : Type 0 where
  pub same : (p : ℕ) → a.size p ≡ sh.size p
  pub below : (p : ℕ) → sh.size p < 2 ^ 31
  pub scalar : (p : ℕ) → sh.is_array p ≡ false → sh.size p ≡ 1

module _ (a : Reading) where
  -- each hard one holds
  abbrev pub hard_true : List Occurrence → Bool
  hard_true os = all_true a (filter is_hard os)

  hard_true-append : (os ps : List Occurrence) → hard_true (os ++ ps) ≡ (hard_true os && hard_true ps)
  hard_true-append os ps = ap (all_true a) (filter-append is_hard os ps) ∙ list_all-append (is_true a) (filter is_hard os) (filter is_hard ps)

  nothing_under : (g : Bool) → true ≡ (not g || true)
  nothing_under true = refl
  nothing_under false = refl

  both_under : (g x y : Bool) → ((not g || x) && (not g || y)) ≡ (not g || (x && y))
  both_under true x y = refl
  both_under false x y = refl

  test_under : (t g x : Bool) → (not (t && g) || x) ≡ (not g || (not t || x))
  test_under true true x = refl
  test_under true false x = refl
  test_under false true x = refl
  test_under false false x = refl

  tests_under : (t g x y : Bool) → ((not (t && g) || x) && (not (not t && g) || y)) ≡ (not g || (if t then x else y))
  tests_under true true x y = and-true x
  tests_under true false x y = refl
  tests_under false true x y = refl
  tests_under false false x y = refl

  each_all : (gs : List Guard) (f : ℕ → List Occurrence) (g : ℕ → Bool) → ((i : ℕ) → hard_true (f i) ≡ (not (are_met a gs) || g i))
      → (n : ℕ) → hard_true (each_below n f) ≡ (not (are_met a gs) || all_below n g)
  each_all gs f g h zero = nothing_under (are_met a gs)
  each_all gs f g h (suc n) = hard_true-append (each_below n f) (f n) ∙ rw (each_all gs f g h n, h n) (both_under (are_met a gs) (all_below n g) (g n))

  -- ---- `unique`

  abbrev pub leaf : Place → ExprTerm → Occurrence
  leaf at e = occurrence at false (stated e)

  unequal_true : (at : Place) (x y : ExprTerm) → is_true a (leaf at (unequal x y)) ≡ (not (are_met a at.guards) || not (are_equal (operand_of a at.env x) (operand_of a at.env y)))
  unequal_true at x y = ap (λ b. not (are_met a at.guards) || b) (set_truth (not (are_equal (operand_of a at.env x) (operand_of a at.env y))))

  against_true : (at : Place) (x : ExprTerm) (ys : List ExprTerm)
      → hard_true (map (leaf at) (map (unequal x) ys)) ≡ (not (are_met a at.guards) || not (list_any (are_equal (operand_of a at.env x)) (map (operand_of a at.env) ys)))
  against_true at x [] = nothing_under (are_met a at.guards)
  against_true at x (y ∷ ys) =
      rw (unequal_true at x y, against_true at x ys)
      (both_under (are_met a at.guards) (not (are_equal (operand_of a at.env x) (operand_of a at.env y))) (not (list_any (are_equal (operand_of a at.env x)) (map (operand_of a at.env) ys)))
      ∙ ap (λ b. not (are_met a at.guards) || b) (none_of (are_equal (operand_of a at.env x) (operand_of a at.env y)) (list_any (are_equal (operand_of a at.env x)) (map (operand_of a at.env) ys))))
    where
      none_of : (b c : Bool) → (not b && not c) ≡ not (b || c)
      none_of true c = refl
      none_of false c = refl

  pairs_true : (at : Place) (xs : List ExprTerm) → hard_true (map (leaf at) (pairs xs)) ≡ (not (are_met a at.guards) || are_distinct (map (operand_of a at.env) xs))
  pairs_true at [] = nothing_under (are_met a at.guards)
  pairs_true at (x ∷ xs) =
      ap hard_true (map-append (leaf at) (map (unequal x) xs) (pairs xs)) ∙ hard_true-append (map (leaf at) (map (unequal x) xs)) (map (leaf at) (pairs xs))
      ∙ rw (against_true at x xs, pairs_true at xs) (both_under (are_met a at.guards) (not (list_any (are_equal (operand_of a at.env x)) (map (operand_of a at.env) xs))) (are_distinct (map (operand_of a at.env) xs)))

  -- ---- the members of `unique` are those of the occurrences

  index_is : (i : ℕ) → i < 2 ^ 31 → read_of true 32 (extend_of true 32 32 i) ≡ pos i
  index_is i lt = ap (read_of true 32) (ap (residue 32) (as_signed) ∙ mod-eq_of_lt (omega (arith, lt))) ∙ as_signed
    where
      as_signed : read_of true 32 i ≡ pos i
      as_signed = ap (λ b. cond b (pos i) (negsuc (2 ^ 32 - suc i))) (lt-ltb i (2 ^ 31) lt)

  module _ (sh : Shape) (sized : HasSizes sh a) (env : List ℕ) where
    element_is : (p w : ℕ) (s : Bool) (i : ℕ) → i < 2 ^ 31 → operand_of a env (typed w s (element p (index_number i))) ≡ element_operand a p w s i
    element_is p w s i lt = λ k. record { size = w; sign = s; value = λ n t. extend_of t n w (element_at a p (index_is i lt k)) }

    elements_are : (p w : ℕ) (s : Bool) (i n : ℕ) → i + n < 2 ^ 31 → map (operand_of a env) (elements_from p w s i n) ≡ h.elements_from a p w s i n
    elements_are p w s i zero lt = refl
    elements_are p w s i (suc n) lt = λ k. element_is p w s i (omega (arith, lt)) k ∷ elements_are p w s (suc i) n (omega (arith, lt)) k

    property_is : (p w : ℕ) (s c : Bool) → sh.is_array p ≡ c
        → map (operand_of a env) (if c then elements_from p w s 0 (sh.size p) else typed w s (prop p) ∷ []) ≡ h.elements_from a p w s 0 (a.size p)
    property_is p w s true e = elements_are p w s 0 (sh.size p) (omega (arith, sized.below p)) ∙ ap (h.elements_from a p w s 0) (sym (sized.same p))
    property_is p w s false e = ap (h.elements_from a p w s 0) (sym (sized.same p ∙ sized.scalar p e))

    member_is : (w : ℕ) (s : Bool) (n : NodeTerm) → map (operand_of a env) (member_exprs sh (typed w s n) (node_property n)) ≡ member_operands a (node_property n) (operand_of a env (typed w s n))
    member_is w s (number v every) = refl
    member_is w s (prop p) = property_is p w s (sh.is_array p) refl
    member_is w s (element p e) = refl
    member_is w s (cell p m first second) = refl
    member_is w s (size p m) = refl
    member_is w s (script v) = refl
    member_is w s (loop_index k) = refl
    member_is w s (reduce p op body) = refl
    member_is w s (of_object o e) = refl
    member_is w s (bit_select base first low) = refl
    member_is w s (part_select base first last low) = refl
    member_is w s (unary op e) = refl
    member_is w s (binary op l r) = refl
    member_is w s (choice t met unmet) = refl
    member_is w s (inside l rs) = refl
    member_is w s (join parts) = refl
    member_is w s (copies count parts) = refl
    member_is w s (sign as_signed e) = refl

    members_are : (es : ExprTerms) → map (operand_of a env) (members sh es) ≡ operands a env es
    members_are no_exprs = refl
    members_are (more_exprs (typed w s n) es) =
        map-append (operand_of a env) (member_exprs sh (typed w s n) (node_property n)) (members sh es) ∙ (λ k. member_is w s n k ++ members_are es k)

  -- ---- all items

  -- a second loop variable
  row_by_parts : (p m names : ℕ) (f : Place → List Occurrence) (g : List ℕ → Bool) → ((at : Place) → hard_true (f at) ≡ (not (are_met a at.guards) || g at.env))
      → (at : Place) → hard_true (each_of_row p m names f at) ≡ (not (are_met a at.guards) || each_in_row m names g at.env)
  row_by_parts p m names f g h at = by (names == 2)
    where
      by : (b : Bool) → hard_true (if b then each_below m (λ j. f (within p j at)) else f at) ≡ (not (are_met a at.guards) || (if b then all_below m (λ j. g (at.env ++ j ∷ [])) else g at.env))
      by true = each_all at.guards (λ j. f (within p j at)) (λ j. g (at.env ++ j ∷ [])) (λ j. h (within p j at)) m
      by false = h at

  module _ (sh : Shape) (sized : HasSizes sh a) where
    mutual
      -- an item holds under its tests exactly where its hard occurrences do
      pub item_by_parts : (at : Place) (i : ItemTerm) → hard_true (occur sh at i) ≡ (not (are_met a at.guards) || holds a at.env i)
      item_by_parts at (plain true e dist) = nothing_under (are_met a at.guards)
      item_by_parts at (plain false e None) = and-true (not (are_met a at.guards) || is_set (alone a at.env e))
      item_by_parts at (plain false e (Some ds)) = and-true (not (are_met a at.guards) || is_dealt a at.env e ds)
      item_by_parts at (unique es) = pairs_true at (members sh es) ∙ ap (λ (x : List Operand). not (are_met a at.guards) || are_distinct x) (members_are sh sized at.env es)
      item_by_parts at (implies t body) = items_by_parts (under t true at) body ∙ test_under (is_set (alone a at.env t)) (are_met a at.guards) (all_hold a at.env body)
      item_by_parts at (branch t met unmet) =
          hard_true-append (all_occur sh (under t true at) met) (else_occur sh (under t false at) unmet)
          ∙ rw (items_by_parts (under t true at) met, else_by_parts (under t false at) unmet)
          (tests_under (is_set (alone a at.env t)) (are_met a at.guards) (all_hold a at.env met) (else_holds a at.env unmet))
      item_by_parts at (foreach p m names body) =
          each_all at.guards (λ i. each_of_row p m names (λ inner. all_occur sh inner body) (within p i at)) (λ i. each_in_row m names (λ env. all_hold a env body) (at.env ++ i ∷ []))
          (λ i. row_by_parts p m names (λ inner. all_occur sh inner body) (λ env. all_hold a env body) (λ inner. items_by_parts inner body) (within p i at)) (sh.size p / m)
          ∙ ap (λ n. not (are_met a at.guards) || all_below (n / m) (λ i. each_in_row m names (λ env. all_hold a env body) (at.env ++ i ∷ []))) (sym (sized.same p))
      item_by_parts at (disable target) = nothing_under (are_met a at.guards)
      item_by_parts at (solve first later) = nothing_under (are_met a at.guards)

      pub items_by_parts : (at : Place) (is : ItemTerms) → hard_true (all_occur sh at is) ≡ (not (are_met a at.guards) || all_hold a at.env is)
      items_by_parts at no_items = nothing_under (are_met a at.guards)
      items_by_parts at (more_items i is) =
          hard_true-append (occur sh at i) (all_occur sh at is)
          ∙ rw (item_by_parts at i, items_by_parts at is) (both_under (are_met a at.guards) (holds a at.env i) (all_hold a at.env is))

      else_by_parts : (at : Place) (e : ElseTerm) → hard_true (else_occur sh at e) ≡ (not (are_met a at.guards) || else_holds a at.env e)
      else_by_parts at no_else = nothing_under (are_met a at.guards)
      else_by_parts at (else_items is) = items_by_parts at is

    -- all items hold exactly where all their hard occurrences do
    pub items_hold : (is : ItemTerms) → hard_true (occurrences sh is) ≡ all_hold a [] is
    items_hold is = items_by_parts outside is
