-- Items that are added up without their occurrences weigh what the occurrences weigh.
use Rattle.std.proofs.Math.Nat.{mul_assoc}
use Rattle.std.proofs.Common.{◌≡◌, ◌==◌, ◌/◌, ℕ, zero, suc, ◌+◌, ◌*◌, Bool, true, false, not, ◌&&◌, ◌||◌, refl, sym, ◌∙◌, ap, subst, List, [], ◌∷◌, ◌++◌, map, Option, None, Some, arith}
use Rattle.std.specs.Prelude.{⊤, max, filter, if◌then◌else◌, slice_index}
use Rattle.std.specs.List.{list_any}
use Rattle.std.proofs.lemmas.List.{map-append}
use Rattle.std.proofs.lemmas.List.Folds.{list_any-append}
use Rattle.svr_operator.specs.declared.UnOp.TheVariants as un
use Rattle.svr_typed.specs.ExprTerm.{ExprTerm, typed, number, prop, element, cell, size, script, loop_index, reduce, of_object, bit_select, part_select, unary, binary, choice, inside, join, copies, sign, ExprTerms, no_exprs, more_exprs, ranges_of}
use Rattle.svr_typed.specs.ItemTerm.{DistTerm, ItemTerm, plain, unique, implies, branch, foreach, disable, solve, ItemTerms, no_items, more_items, ElseTerm, no_else, else_items}
use Rattle.svr_eval.specs.Value.{size_of, sign_of, property_of}
use Rattle.svr_frame.specs.declared.part.Part.{Part}
use Rattle.svr_frame.specs.declared.part.Part.TheVariants.{Randc, Sizes, All}
use Rattle.svr_frame.specs.declared.sought.Sought.{Sought}
use Rattle.svr_frame.specs.declared.sought.Sought.TheVariants.{Random, NotCyclic, RandomElement}
use Rattle.svr_weight.specs.declared.around.Mentions.{Mentions}
use Rattle.svr_weight.specs.declared.around.Tests.{Tests}
use Rattle.svr_weight.specs.declared.around.Around.{Around}
use Rattle.svr_frame.specs.Frame.{FrameTerm, is_array}
use Rattle.svr_frame.specs.Closed.{index_number, closed}
use Rattle.svr_frame.specs.Occurrences.{Place, Fact, stated, dealt, disabled, Occurrence, outside, under, within, has_index, elements_from, member_exprs, members, unequal, pairs, fact_of, occurrence, is_disable, is_hard, occur, all_occur, else_occur, and_also, condition, guarded, closed_members, fact_expr}
use Rattle.svr_frame.specs.Reads.{Read, of_size, reads, fact_reads, dist_reads, guards_read, reads_of}
use Rattle.svr_frame.specs.Phases.{shape_at, sought_sizes, active_at, belongs, is_soft_of}
use Rattle.svr_frame.specs.Weight as weight
use Rattle.svr_frame.specs.Weight.{capped, every_member, occurrence_cost, counts}
use Rattle.svr_frame.specs.Finds.{is_one, finds, finds_in_members, finds_size, finds_element}
use Rattle.svr_weight.specs.Costs.{array_of, cost, own_cost, members_cost, pair_cost}
use Rattle.svr_weight.specs.Weighing.{joined, nothing, pair_number, mentioned_by, members_mention, size_mentions, in_loop_over, count_for, member_count, row_turns, is_counted, tested, guarded_weight, leaf_weight, everywhere, with_test, pair_weight, against_weight, unique_weight, plain_weight, item_weight, items_weight, else_weight}
use Rattle.svr_frame.proofs.Closing.{size_closed}
use Rattle.svr_weight.proofs.Weights.{cost_closed, range_cost_closed, first_in_row, weighs, weighs-append, foreach_weighs}
use Rattle.svr_weight.proofs.Loops.{counts_even}
use Rattle.svr_frame.proofs.Found.{found, members_found, size_found}
use Rattle.svr_weight.proofs.Caps.{mul_same}

-- ---- truths

last_first : (a b c : Bool) → ((a || b) || c) ≡ ((b || c) || a)
last_first true true true = refl
last_first true true false = refl
last_first true false true = refl
last_first true false false = refl
last_first false true true = refl
last_first false true false = refl
last_first false false true = refl
last_first false false false = refl

or_one : (a b c : Bool) → (a || (b || (c || false))) ≡ ((a || b) || c)
or_one true b c = refl
or_one false true c = refl
or_one false false true = refl
or_one false false false = refl

in_randc : (s w b : Bool) → (((not s && true) && (w && not b)) || false) ≡ ((not s && w) && not b)
in_randc true w b = refl
in_randc false true true = refl
in_randc false true false = refl
in_randc false false b = refl

in_sizes : (s b l : Bool) → (((not s && true) && (not b && not l)) || (s && (not b && not l))) ≡ (not b && not l)
in_sizes true b l = refl
in_sizes false true l = refl
in_sizes false false true = refl
in_sizes false false false = refl

in_all : (s : Bool) → (((not s && true) && true) || s) ≡ true
in_all true = refl
in_all false = refl

-- ---- sums up to the cap

same_sum : (a b c d : ℕ) → capped a ≡ capped c → capped b ≡ capped d → capped (a + b) ≡ capped (c + d)
same_sum a b c d h k = omega (arith, h, k)

module _ (f : FrameTerm) (part : Part) (ns : List ℕ) where
  abbrev is_of : Occurrence → Bool
  is_of o = counts f part ns o

  abbrev pub sums : List Occurrence → ℕ
  sums os = weighs (shape_at f ns) (sought_sizes f part) (counts f part ns) os

  -- ---- what stands around a place

  abbrev pub SameTests : Option Tests → Option ExprTerm → Type 0
  SameTests None None = ⊤
  SameTests None (Some c) = ⊥
  SameTests (Some t) None = ⊥
  SameTests (Some t) (Some c) = (t.width ≡ size_of c) × (t.weight ≡ capped (own_cost f part ns c))

  abbrev pub place_finds : Sought → Place → Bool
  place_finds s at = list_any (is_one f s) (guards_read (shape_at f ns) at.guards ++ map of_size at.over)

  abbrev pub place_mentions : Part → Place → Mentions
  place_mentions Randc at = record { wanted = place_finds Random at; barred = place_finds NotCyclic at }
  place_mentions Sizes at = record { wanted = false; barred = place_finds RandomElement at }
  place_mentions All at = nothing

  pub record Stands (c : Around) (at : Place) : Type 0 where
    pub tests : SameTests c.tests (condition at.guards)
    pub mentions : c.mentions ≡ place_mentions part at
    pub in_loop : c.in_loop ≡ has_index at.env

  -- ---- what is mentioned

  under_finds : (s : Sought) (t : ExprTerm) (wanted : Bool) (at : Place) → place_finds s (under t wanted at) ≡ (place_finds s at || finds f s t)
  under_finds s t wanted at =
      list_any-append (is_one f s) (reads (shape_at f ns) at.env t ++ guards_read (shape_at f ns) at.guards) (map of_size at.over)
      ∙ ap (λ b. b || list_any (is_one f s) (map of_size at.over)) (list_any-append (is_one f s) (reads (shape_at f ns) at.env t) (guards_read (shape_at f ns) at.guards))
      ∙ last_first (list_any (is_one f s) (reads (shape_at f ns) at.env t)) (list_any (is_one f s) (guards_read (shape_at f ns) at.guards)) (list_any (is_one f s) (map of_size at.over))
      ∙ (λ i. sym (list_any-append (is_one f s) (guards_read (shape_at f ns) at.guards) (map of_size at.over)) i || found f ns s at.env t i)

  within_finds : (s : Sought) (p i : ℕ) (at : Place) → place_finds s (within p i at) ≡ (place_finds s at || finds_size f s p)
  within_finds s p i at =
      list_any-append (is_one f s) (guards_read (shape_at f ns) at.guards) (map of_size (at.over ++ p ∷ []))
      ∙ ap (λ (rs : List Read). list_any (is_one f s) (guards_read (shape_at f ns) at.guards) || list_any (is_one f s) rs) (map-append of_size at.over (p ∷ []))
      ∙ ap (λ b. list_any (is_one f s) (guards_read (shape_at f ns) at.guards) || b) (list_any-append (is_one f s) (map of_size at.over) (of_size p ∷ []))
      ∙ or_one (list_any (is_one f s) (guards_read (shape_at f ns) at.guards)) (list_any (is_one f s) (map of_size at.over)) (is_one f s (of_size p))
      ∙ (λ k. sym (list_any-append (is_one f s) (guards_read (shape_at f ns) at.guards) (map of_size at.over)) k || size_found f ns s p k)

  leaf_finds : (s : Sought) (at : Place) (soft : Bool) (fact : Fact) (b : Bool) → list_any (is_one f s) (fact_reads (shape_at f ns) at.env fact) ≡ b
      → list_any (is_one f s) (reads_of (shape_at f ns) (occurrence at soft fact)) ≡ (place_finds s at || b)
  leaf_finds s at soft fact b h =
      list_any-append (is_one f s) (fact_reads (shape_at f ns) at.env fact ++ guards_read (shape_at f ns) at.guards) (map of_size at.over)
      ∙ ap (λ x. x || list_any (is_one f s) (map of_size at.over)) (list_any-append (is_one f s) (fact_reads (shape_at f ns) at.env fact) (guards_read (shape_at f ns) at.guards))
      ∙ last_first (list_any (is_one f s) (fact_reads (shape_at f ns) at.env fact)) (list_any (is_one f s) (guards_read (shape_at f ns) at.guards)) (list_any (is_one f s) (map of_size at.over))
      ∙ (λ i. sym (list_any-append (is_one f s) (guards_read (shape_at f ns) at.guards) (map of_size at.over)) i || h i)

  under_mentions : (p : Part) (t : ExprTerm) (wanted : Bool) (at : Place) → joined (place_mentions p at) (mentioned_by f p t) ≡ place_mentions p (under t wanted at)
  under_mentions Randc t wanted at = λ i. record { wanted = sym (under_finds Random t wanted at) i; barred = sym (under_finds NotCyclic t wanted at) i }
  under_mentions Sizes t wanted at = λ i. record { wanted = false; barred = sym (under_finds RandomElement t wanted at) i }
  under_mentions All t wanted at = refl

  within_mentions : (q : Part) (p i : ℕ) (at : Place) → joined (place_mentions q at) (size_mentions f q p) ≡ place_mentions q (within p i at)
  within_mentions Randc p i at = λ k. record { wanted = sym (within_finds Random p i at) k; barred = sym (within_finds NotCyclic p i at) k }
  within_mentions Sizes p i at = λ k. record { wanted = false; barred = sym (within_finds RandomElement p i at) k }
  within_mentions All p i at = refl

  -- ---- whether a leaf counts

  abbrev MentionIs : Part → Mentions → List ℕ → Fact → Type 0
  MentionIs Randc m env fact = (list_any (is_one f Random) (fact_reads (shape_at f ns) env fact) ≡ m.wanted) × (list_any (is_one f NotCyclic) (fact_reads (shape_at f ns) env fact) ≡ m.barred)
  MentionIs Sizes m env fact = list_any (is_one f RandomElement) (fact_reads (shape_at f ns) env fact) ≡ m.barred
  MentionIs All m env fact = ⊤

  stated_mentions : (q : Part) (env : List ℕ) (e : ExprTerm) → MentionIs q (mentioned_by f q e) env (stated e)
  stated_mentions Randc env e = (found f ns Random env e, found f ns NotCyclic env e)
  stated_mentions Sizes env e = found f ns RandomElement env e
  stated_mentions All env e = tt

  dealt_finds : (s : Sought) (env : List ℕ) (e : ExprTerm) (ds : List DistTerm) → list_any (is_one f s) (fact_reads (shape_at f ns) env (dealt e ds)) ≡ (finds f s e || finds_in_members f s ds)
  dealt_finds s env e ds = list_any-append (is_one f s) (reads (shape_at f ns) env e) (dist_reads (shape_at f ns) env ds) ∙ (λ i. found f ns s env e i || members_found f ns s env ds i)

  dealt_mentions : (q : Part) (env : List ℕ) (e : ExprTerm) (ds : List DistTerm) → MentionIs q (joined (mentioned_by f q e) (members_mention f q ds)) env (dealt e ds)
  dealt_mentions Randc env e ds = (dealt_finds Random env e ds, dealt_finds NotCyclic env e ds)
  dealt_mentions Sizes env e ds = dealt_finds RandomElement env e ds
  dealt_mentions All env e ds = tt

  -- neither hard nor soft is a `disable soft`
  abbrev counts_in : Part → Occurrence → Bool
  counts_in q o = (is_hard o && belongs f q ns o) || is_soft_of f q ns o

  leaf_counts : (q : Part) (at : Place) (soft : Bool) (fact : Fact) (m : Mentions) → is_disable fact ≡ false → MentionIs q m at.env fact
      → counts_in q (occurrence at soft fact) ≡ is_counted q soft (has_index at.env) (joined (place_mentions q at) m)
  leaf_counts Randc at soft fact m none h =
      (λ i. ((not soft && not (none i)) && (leaf_finds Random at soft fact m.wanted h.0 i && not (leaf_finds NotCyclic at soft fact m.barred h.1 i))) || false)
      ∙ in_randc soft (place_finds Random at || m.wanted) (place_finds NotCyclic at || m.barred)
  leaf_counts Sizes at soft fact m none h =
      (λ i. ((not soft && not (none i)) && (not (leaf_finds RandomElement at soft fact m.barred h i) && not (has_index at.env))) || (soft && (not (leaf_finds RandomElement at soft fact m.barred h i) && not (has_index at.env))))
      ∙ in_sizes soft (place_finds RandomElement at || m.barred) (has_index at.env)
  leaf_counts All at soft fact m none h = (λ i. ((not soft && not (none i)) && true) || soft) ∙ in_all soft

  -- ---- what a leaf weighs

  guarded_is : (t : Option Tests) (c : Option ExprTerm) (x : ExprTerm) (own width : ℕ) → SameTests t c → own_cost f part ns x ≡ own → size_of x ≡ width
      → capped (own_cost f part ns (guarded c x)) ≡ capped (guarded_weight t own width)
  guarded_is None None x own width same h k = ap capped h
  guarded_is None (Some c) x own width same h k = absurd same
  guarded_is (Some t) None x own width same h k = absurd same
  guarded_is (Some t) (Some c) x own width same h k = omega (arith, same.0, same.1, h, k)

  -- one that is counted, and one that is not
  one_weighs : (o : Occurrence) (b : Bool) → counts f part ns o ≡ b → sums (o ∷ []) ≡ (if b then occurrence_cost (shape_at f ns) (sought_sizes f part) o else 0)
  one_weighs o true h = rw h (omega arith)
  one_weighs o false h = rw h refl

  leaf_is : (c : Around) (at : Place) → Stands c at → (soft : Bool) (fact : Fact) (m : Mentions) (own width : ℕ) → is_disable fact ≡ false → MentionIs part m at.env fact
      → own_cost f part ns (fact_expr (every_member (shape_at f ns) (sought_sizes f part)) at.env fact) ≡ own
      → size_of (fact_expr (every_member (shape_at f ns) (sought_sizes f part)) at.env fact) ≡ width
      → capped (sums (occurrence at soft fact ∷ [])) ≡ capped (leaf_weight part c soft m own width)
  leaf_is c at stands soft fact m own width none h weighs_so wide = by (is_counted part soft c.in_loop (joined c.mentions m)) refl
    where
      same : counts f part ns (occurrence at soft fact) ≡ is_counted part soft c.in_loop (joined c.mentions m)
      same = leaf_counts part at soft fact m none h ∙ (λ i. is_counted part soft (sym stands.in_loop i) (joined (sym stands.mentions i) m))

      by : (b : Bool) → is_counted part soft c.in_loop (joined c.mentions m) ≡ b → capped (sums (occurrence at soft fact ∷ [])) ≡ capped (if b then guarded_weight c.tests own width else 0)
      by true e =
          ap capped (one_weighs (occurrence at soft fact) true (same ∙ e))
          ∙ guarded_is c.tests (condition at.guards) (fact_expr (every_member (shape_at f ns) (sought_sizes f part)) at.env fact) own width stands.tests weighs_so wide
      by false e = ap capped (one_weighs (occurrence at soft fact) false (same ∙ e))

  -- ---- expressions and distributions as leaves

  closed_weighs : (env : List ℕ) (e : ExprTerm) → own_cost f part ns (closed env e) ≡ own_cost f part ns e
  closed_weighs env e = cost_closed (shape_at f ns) (sought_sizes f part) env 0 e (size_of (closed env e)) ∙ ap (λ w. cost f part ns e w) (size_closed env 0 e)

  members_weigh : (env : List ℕ) (n : ℕ) (ds : List DistTerm)
      → weight.ranges_cost (shape_at f ns) (sought_sizes f part) n (ranges_of (closed_members env (filter (every_member (shape_at f ns) (sought_sizes f part) env) ds))) ≡ members_cost f part ns n ds
  members_weigh env n [] = refl
  members_weigh env n (d ∷ ds) = λ i. range_cost_closed (shape_at f ns) (sought_sizes f part) env 0 n d.range i + members_weigh env n ds i

  stated_is : (c : Around) (at : Place) → Stands c at → (soft : Bool) (e : ExprTerm) → capped (sums (occurrence at soft (stated e) ∷ [])) ≡ capped (leaf_weight part c soft (mentioned_by f part e) (own_cost f part ns e) (size_of e))
  stated_is c at stands soft e = leaf_is c at stands soft (stated e) (mentioned_by f part e) (own_cost f part ns e) (size_of e) refl (stated_mentions part at.env e) (closed_weighs at.env e) (size_closed at.env 0 e)

  dealt_is : (c : Around) (at : Place) → Stands c at → (soft : Bool) (e : ExprTerm) (ds : List DistTerm)
      → capped (sums (occurrence at soft (dealt e ds) ∷ [])) ≡ capped (plain_weight f part ns c soft e (Some ds))
  dealt_is c at stands soft e ds =
      leaf_is c at stands soft (dealt e ds) (joined (mentioned_by f part e) (members_mention f part ds)) (own_cost f part ns e + members_cost f part ns (size_of e) ds) 1 refl (dealt_mentions part at.env e ds)
      ((λ i. closed_weighs at.env e i + members_weigh at.env (size_of (closed at.env e)) ds i) ∙ ap (λ n. own_cost f part ns e + members_cost f part ns n ds) (size_closed at.env 0 e))
      refl

  plain_is : (c : Around) (at : Place) → Stands c at → (soft : Bool) (e : ExprTerm) (dist : Option (List DistTerm))
      → capped (sums (occurrence at soft (fact_of e dist) ∷ [])) ≡ capped (plain_weight f part ns c soft e dist)
  plain_is c at stands soft e None = stated_is c at stands soft e
  plain_is c at stands soft e (Some ds) = dealt_is c at stands soft e ds

  -- ---- tests

  and_is : (t : Option Tests) (c : Option ExprTerm) (x : ExprTerm) (own width : ℕ) → SameTests t c → own_cost f part ns x ≡ own → size_of x ≡ width → SameTests (Some (tested t own width)) (Some (and_also c x))
  and_is None None x own width same h k = (sym k, ap capped (sym h))
  and_is None (Some c) x own width same h k = absurd same
  and_is (Some t) None x own width same h k = absurd same
  and_is (Some t) (Some c) x own width same h k = (refl, omega (arith, same.0, same.1, h, k))

  test_stands : (c : Around) (at : Place) → Stands c at → (t : ExprTerm) (wanted : Bool) → Stands (with_test f part ns c t wanted) (under t wanted at)
  test_stands c at stands t true = record {
    tests = and_is c.tests (condition at.guards) (closed at.env t) (own_cost f part ns t) (size_of t) stands.tests (closed_weighs at.env t) (size_closed at.env 0 t);
    mentions = ap (λ m. joined m (mentioned_by f part t)) stands.mentions ∙ under_mentions part t true at;
    in_loop = stands.in_loop;
  }
  test_stands c at stands t false = record {
    tests = and_is c.tests (condition at.guards) (typed 1 false (unary un.LogicalNot (closed at.env t))) (size_of t + own_cost f part ns t) 1 stands.tests (λ i. size_closed at.env 0 t i + closed_weighs at.env t i) refl;
    mentions = ap (λ m. joined m (mentioned_by f part t)) stands.mentions ∙ under_mentions part t false at;
    in_loop = stands.in_loop;
  }

  has_more : (is : List ℕ) (i : ℕ) → has_index (is ++ i ∷ []) ≡ true
  has_more [] i = refl
  has_more (j ∷ is) i = refl

  loop_stands : (c : Around) (at : Place) → Stands c at → (p : ℕ) → Stands (in_loop_over f part c p) (within p 0 at)
  loop_stands c at stands p = record {
    tests = stands.tests;
    mentions = ap (λ m. joined m (size_mentions f part p)) stands.mentions ∙ within_mentions part p 0 at;
    in_loop = sym (has_more at.env 0);
  }

  twice : (a b : Bool) → ((a || b) || b) ≡ (a || b)
  twice true b = refl
  twice false true = refl
  twice false false = refl

  -- a second loop over an array mentions nothing more
  loop_again : (q : Part) (c : Around) (p : ℕ) → in_loop_over f q (in_loop_over f q c p) p ≡ in_loop_over f q c p
  loop_again Randc c p = λ k. record { tests = c.tests; mentions = record { wanted = twice c.mentions.wanted (finds_size f Random p) k; barred = twice c.mentions.barred (finds_size f NotCyclic p) k }; in_loop = true }
  loop_again Sizes c p = λ k. record { tests = c.tests; mentions = record { wanted = twice c.mentions.wanted false k; barred = twice c.mentions.barred (finds_size f RandomElement p) k }; in_loop = true }
  loop_again All c p = λ k. record { tests = c.tests; mentions = record { wanted = twice c.mentions.wanted false k; barred = twice c.mentions.barred false k }; in_loop = true }

  loops_stand : (c : Around) (at : Place) → Stands c at → (p names : ℕ) → Stands (in_loop_over f part c p) (first_in_row p names (within p 0 at))
  loops_stand c at stands p names = by (names == 2)
    where
      by : (b : Bool) → Stands (in_loop_over f part c p) (if b then within p 0 (within p 0 at) else within p 0 at)
      by true = subst (λ (x : Around). Stands x (within p 0 (within p 0 at))) (loop_again part c p) (loop_stands (in_loop_over f part c p) (within p 0 at) (loop_stands c at stands p) p)
      by false = loop_stands c at stands p

  -- ---- pairs

  module _ (c : Around) (at : Place) (stands : Stands c at) where
    abbrev leaves : List ExprTerm → List Occurrence
    leaves es = map (λ e. occurrence at false (stated e)) es

    abbrev one_pair : ExprTerm → ExprTerm → ℕ
    one_pair x y = pair_weight f part ns c x y

    abbrev sum_against : ExprTerm → List ExprTerm → ℕ
    sum_against x [] = 0
    sum_against x (y ∷ ys) = one_pair x y + sum_against x ys

    abbrev sum_pairs : List ExprTerm → ℕ
    sum_pairs [] = 0
    sum_pairs (x ∷ xs) = sum_against x xs + sum_pairs xs

    pair_mentions : (q : Part) (x y : ExprTerm) → mentioned_by f q (unequal x y) ≡ joined (mentioned_by f q x) (mentioned_by f q y)
    pair_mentions Randc x y = refl
    pair_mentions Sizes x y = refl
    pair_mentions All x y = refl

    pair_is : (x y : ExprTerm) → capped (sums (occurrence at false (stated (unequal x y)) ∷ [])) ≡ capped (one_pair x y)
    pair_is x y = stated_is c at stands false (unequal x y) ∙ ap (λ m. capped (leaf_weight part c false m (pair_cost f part ns x y) 1)) (pair_mentions part x y)

    against_is : (x : ExprTerm) (ys : List ExprTerm) → capped (sums (leaves (map (unequal x) ys))) ≡ capped (sum_against x ys)
    against_is x [] = refl
    against_is x (y ∷ ys) =
        ap capped (weighs-append (shape_at f ns) (sought_sizes f part) (counts f part ns) (occurrence at false (stated (unequal x y)) ∷ []) (leaves (map (unequal x) ys)))
        ∙ same_sum (sums (occurrence at false (stated (unequal x y)) ∷ [])) (sums (leaves (map (unequal x) ys))) (one_pair x y) (sum_against x ys) (pair_is x y) (against_is x ys)

    pairs_are : (xs : List ExprTerm) → capped (sums (leaves (pairs xs))) ≡ capped (sum_pairs xs)
    pairs_are [] = refl
    pairs_are (x ∷ xs) =
        ap (λ (os : List Occurrence). capped (sums os)) (map-append (λ e. occurrence at false (stated e)) (map (unequal x) xs) (pairs xs))
        ∙ ap capped (weighs-append (shape_at f ns) (sought_sizes f part) (counts f part ns) (leaves (map (unequal x) xs)) (leaves (pairs xs)))
        ∙ same_sum (sums (leaves (map (unequal x) xs))) (sums (leaves (pairs xs))) (sum_against x xs) (sum_pairs xs) (against_is x xs) (pairs_are xs)

    -- one that weighs as another in each pair
    record IsLike (e x : ExprTerm) : Type 0 where
      mentions : (q : Part) → mentioned_by f q x ≡ mentioned_by f q e
      size : size_of x ≡ size_of e
      cost : (w : ℕ) → cost f part ns x w ≡ cost f part ns e w

    pair_like : (e e' x x' : ExprTerm) → IsLike e x → IsLike e' x' → one_pair x x' ≡ one_pair e e'
    pair_like e e' x x' h k =
        λ i. leaf_weight part c false (joined (h.mentions part i) (k.mentions part i)) (max (h.size i) (k.size i) + h.cost (max (h.size i) (k.size i)) i + k.cost (max (h.size i) (k.size i)) i) 1

    like_itself : (e : ExprTerm) → IsLike e e
    like_itself e = record { mentions = λ q. refl; size = refl; cost = λ w. refl }

    abbrev AllLike : ExprTerm → List ExprTerm → Type 0
    AllLike e [] = ⊤
    AllLike e (x ∷ xs) = IsLike e x × AllLike e xs

    abbrev long : List ExprTerm → ℕ
    long [] = 0
    long (x ∷ xs) = suc (long xs)

    like_against : (e e' x : ExprTerm) (xs : List ExprTerm) → IsLike e x → AllLike e' xs → sum_against x xs ≡ long xs * one_pair e e'
    like_against e e' x [] h k = omega arith
    like_against e e' x (y ∷ ys) h k = let rest = like_against e e' x ys h k.1 in let first = pair_like e e' x y h k.0 in omega (arith, rest, first)

    like_pairs : (e : ExprTerm) (xs : List ExprTerm) → AllLike e xs → sum_pairs xs ≡ pair_number (long xs) * one_pair e e
    like_pairs e [] h = omega arith
    like_pairs e (x ∷ xs) h = let rest = like_pairs e xs h.1 in let first = like_against e e x xs h.0 h.1 in first_rest (long xs) (pair_number (long xs)) (one_pair e e) (sum_against x xs) (sum_pairs xs) first rest
      where
        first_rest : (n m v a b : ℕ) → a ≡ n * v → b ≡ m * v → a + b ≡ (n + m) * v
        first_rest n m v a b h k = omega (arith, h, k)

    against_append : (x : ExprTerm) (ys zs : List ExprTerm) → sum_against x (ys ++ zs) ≡ sum_against x ys + sum_against x zs
    against_append x [] zs = omega arith
    against_append x (y ∷ ys) zs = omega (arith, against_append x ys zs)

    same_against : (e x : ExprTerm) (ys : List ExprTerm) → IsLike e x → sum_against x ys ≡ sum_against e ys
    same_against e x [] h = refl
    same_against e x (y ∷ ys) h = λ i. pair_like e y x y h (like_itself y) i + same_against e x ys h i

    -- a group of alike ones before others
    group_pairs : (e : ExprTerm) (xs ys : List ExprTerm) → AllLike e xs → sum_pairs (xs ++ ys) ≡ sum_pairs xs + long xs * sum_against e ys + sum_pairs ys
    group_pairs e [] ys h = omega arith
    group_pairs e (x ∷ xs) ys h =
        let rest = group_pairs e xs ys h.1 in
        let front = against_append x xs ys in
        let alike = same_against e x ys h.0 in
        omega (arith, rest, front, alike)

    -- ---- members

    element_mentions : (q : Part) (w p i : ℕ) (s : Bool) → is_array f p ≡ true → mentioned_by f q (typed w s (element p (index_number i))) ≡ mentioned_by f q (typed w s (prop p))
    element_mentions Randc w p i s h = λ k. record { wanted = or_none (finds_element f Random p) k; barred = or_none (finds_element f NotCyclic p) k }
      where
        or_none : (b : Bool) → (b || false) ≡ b
        or_none true = refl
        or_none false = refl
    element_mentions Sizes w p i s h = rw h (λ k. record { wanted = false; barred = or_none (finds_element f RandomElement p) k })
      where
        or_none : (b : Bool) → (b || false) ≡ b
        or_none true = refl
        or_none false = refl
    element_mentions All w p i s h = refl

    elements_like : (w p i n : ℕ) (s : Bool) → is_array f p ≡ true → AllLike (typed w s (prop p)) (elements_from p w s i n)
    elements_like w p i zero s h = tt
    elements_like w p i (suc n) s h = (record { mentions = λ q. element_mentions q w p i s h; size = refl; cost = λ v. refl }, elements_like w p (suc i) n s h)

    long_elements : (w p i n : ℕ) (s : Bool) → long (elements_from p w s i n) ≡ n
    long_elements w p i zero s = refl
    long_elements w p i (suc n) s = ap (λ k. suc k) (long_elements w p (suc i) n s)

    -- what an expression stands for: so many that are like it
    abbrev group : ExprTerm → List ExprTerm
    group e = member_exprs (shape_at f ns) e (property_of e)

    prop_like : (w p : ℕ) (s : Bool) (b : Bool) → is_array f p ≡ b → AllLike (typed w s (prop p)) (if b then elements_from p w s 0 (slice_index ns p) else typed w s (prop p) ∷ [])
    prop_like w p s true h = elements_like w p 0 (slice_index ns p) s h
    prop_like w p s false h = (like_itself (typed w s (prop p)), tt)

    group_like : (e : ExprTerm) → AllLike e (group e)
    group_like (typed w s (number v every)) = (like_itself (typed w s (number v every)), tt)
    group_like (typed w s (prop p)) = prop_like w p s (is_array f p) refl
    group_like (typed w s (element p e)) = (like_itself (typed w s (element p e)), tt)
    group_like (typed w s (cell p m first second)) = (like_itself (typed w s (cell p m first second)), tt)
    group_like (typed w s (size p m)) = (like_itself (typed w s (size p m)), tt)
    group_like (typed w s (script v)) = (like_itself (typed w s (script v)), tt)
    group_like (typed w s (loop_index k)) = (like_itself (typed w s (loop_index k)), tt)
    group_like (typed w s (reduce p op body)) = (like_itself (typed w s (reduce p op body)), tt)
    group_like (typed w s (of_object o e)) = (like_itself (typed w s (of_object o e)), tt)
    group_like (typed w s (bit_select base first low)) = (like_itself (typed w s (bit_select base first low)), tt)
    group_like (typed w s (part_select base first last low)) = (like_itself (typed w s (part_select base first last low)), tt)
    group_like (typed w s (unary op e)) = (like_itself (typed w s (unary op e)), tt)
    group_like (typed w s (binary op l r)) = (like_itself (typed w s (binary op l r)), tt)
    group_like (typed w s (choice t met unmet)) = (like_itself (typed w s (choice t met unmet)), tt)
    group_like (typed w s (inside l rs)) = (like_itself (typed w s (inside l rs)), tt)
    group_like (typed w s (join parts)) = (like_itself (typed w s (join parts)), tt)
    group_like (typed w s (copies count parts)) = (like_itself (typed w s (copies count parts)), tt)
    group_like (typed w s (sign as_signed e)) = (like_itself (typed w s (sign as_signed e)), tt)

    array_long : (e : ExprTerm) (p : ℕ) (b : Bool) → is_array f p ≡ b
        → long (if b then elements_from p (size_of e) (sign_of e) 0 (slice_index ns p) else e ∷ []) ≡ count_for ns (if b then Some p else None)
    array_long e p true h = long_elements (size_of e) p 0 (slice_index ns p) (sign_of e)
    array_long e p false h = refl

    option_long : (e : ExprTerm) (o : Option ℕ) → long (member_exprs (shape_at f ns) e o) ≡ count_for ns (array_of f o)
    option_long e None = refl
    option_long e (Some p) = array_long e p (is_array f p) refl

    group_long : (e : ExprTerm) → long (group e) ≡ member_count f ns e
    group_long e = option_long e (property_of e)

    members_against : (x : ExprTerm) (es : ExprTerms) → sum_against x (members (shape_at f ns) es) ≡ against_weight f part ns c x es
    members_against x no_exprs = refl
    members_against x (more_exprs y es) =
        against_append x (group y) (members (shape_at f ns) es)
        ∙ (λ i. like_against x y x (group y) (like_itself x) (group_like y) i + members_against x es i)
        ∙ ap (λ n. n * one_pair x y + against_weight f part ns c x es) (group_long y)

    unique_is : (es : ExprTerms) → sum_pairs (members (shape_at f ns) es) ≡ unique_weight f part ns c es
    unique_is no_exprs = refl
    unique_is (more_exprs x es) =
        group_pairs x (group x) (members (shape_at f ns) es) (group_like x)
        ∙ (λ i. like_pairs x (group x) (group_like x) i + long (group x) * members_against x es i + unique_is es i)
        ∙ ap (λ n. pair_number n * one_pair x x + n * against_weight f part ns c x es + unique_weight f part ns c es) (group_long x)

  -- ---- items

  mutual
    item_is : (c : Around) (at : Place) → Stands c at → (i : ItemTerm) → capped (sums (occur (shape_at f ns) at i)) ≡ capped (item_weight f part ns c i)
    item_is c at stands (plain soft e dist) = plain_is c at stands soft e dist
    item_is c at stands (unique es) = pairs_are c at stands (members (shape_at f ns) es) ∙ ap capped (unique_is c at stands es)
    item_is c at stands (implies t body) = items_are (with_test f part ns c t true) (under t true at) (test_stands c at stands t true) body
    item_is c at stands (branch t met unmet) =
        ap capped (weighs-append (shape_at f ns) (sought_sizes f part) (counts f part ns) (all_occur (shape_at f ns) (under t true at) met) (else_occur (shape_at f ns) (under t false at) unmet))
        ∙ same_sum (sums (all_occur (shape_at f ns) (under t true at) met)) (sums (else_occur (shape_at f ns) (under t false at) unmet)) (items_weight f part ns (with_test f part ns c t true) met) (else_weight f part ns (with_test f part ns c t false) unmet)
        (items_are (with_test f part ns c t true) (under t true at) (test_stands c at stands t true) met)
        (else_is (with_test f part ns c t false) (under t false at) (test_stands c at stands t false) unmet)
    item_is c at stands (foreach p m names body) =
        ap capped (foreach_weighs (shape_at f ns) (sought_sizes f part) (counts f part ns) (counts_even f (shape_at f ns) (sought_sizes f part) part ns) at p m names body
        ∙ sym (mul_assoc (slice_index ns p / m) (row_turns m names) (sums (all_occur (shape_at f ns) (first_in_row p names (within p 0 at)) body))))
        ∙ mul_same ((slice_index ns p / m) * row_turns m names) (sums (all_occur (shape_at f ns) (first_in_row p names (within p 0 at)) body)) (items_weight f part ns (in_loop_over f part c p) body)
        (items_are (in_loop_over f part c p) (first_in_row p names (within p 0 at)) (loops_stand c at stands p names) body)
    item_is c at stands (disable target) = ap capped (one_weighs (occurrence at false (disabled target)) false (none part))
      where
        none : (q : Part) → counts_in q (occurrence at false (disabled target)) ≡ false
        none Randc = refl
        none Sizes = refl
        none All = refl
    item_is c at stands (solve first later) = refl

    pub items_are : (c : Around) (at : Place) → Stands c at → (is : ItemTerms) → capped (sums (all_occur (shape_at f ns) at is)) ≡ capped (items_weight f part ns c is)
    items_are c at stands no_items = refl
    items_are c at stands (more_items i is) =
        ap capped (weighs-append (shape_at f ns) (sought_sizes f part) (counts f part ns) (occur (shape_at f ns) at i) (all_occur (shape_at f ns) at is))
        ∙ same_sum (sums (occur (shape_at f ns) at i)) (sums (all_occur (shape_at f ns) at is)) (item_weight f part ns c i) (items_weight f part ns c is) (item_is c at stands i) (items_are c at stands is)

    else_is : (c : Around) (at : Place) → Stands c at → (e : ElseTerm) → capped (sums (else_occur (shape_at f ns) at e)) ≡ capped (else_weight f part ns c e)
    else_is c at stands no_else = refl
    else_is c at stands (else_items is) = items_are c at stands is

  outside_stands : Stands everywhere outside
  outside_stands = record { tests = tt; mentions = by part; in_loop = refl }
    where
      by : (q : Part) → nothing ≡ place_mentions q outside
      by Randc = refl
      by Sizes = refl
      by All = refl

  -- all active items
  pub active_weigh : capped (sums (active_at f ns)) ≡ capped (items_weight f part ns everywhere f.items)
  active_weigh = items_are everywhere outside outside_stands f.items
