-- What occurrences weigh does not depend on the indexes of their loops: a loop weighs its size times its body.
use Rattle.std.proofs.Common.{◌≡◌, ◌==◌, ℕ, ◌/◌, zero, suc, ◌+◌, ◌-◌, ◌*◌, Bool, true, false, refl, sym, ◌∙◌, ap, subst, List, [], ◌∷◌, ◌++◌, map, Option, None, Some, arith}
use Rattle.std.specs.Prelude.{⊤, max, filter, nat_lt, if◌then◌else◌}
use Rattle.std.proofs.lemmas.List.Elements.{filter-append}
use Rattle.svr_typed.specs.ExprTerm.{ExprTerm, typed, NodeTerm, number, prop, element, cell, size, script, loop_index, reduce, of_object, bit_select, part_select, unary, binary, choice, inside, join, copies, sign, ExprTerms, no_exprs, more_exprs, RangeTerm, one, span, RangeTerms, no_ranges, more_ranges, BoundTerm, value, dollar, ranges_of}
use Rattle.svr_typed.specs.ItemTerm.{DistTerm, ItemTerm, plain, unique, implies, branch, foreach, disable, solve, ItemTerms, no_items, more_items, ElseTerm, no_else, else_items}
use Rattle.svr_eval.specs.Value.{size_of, index_of}
use Rattle.svr_frame.specs.Closed.{index_number, closed_within, closed_node, closed_exprs, closed_ranges, closed_range, closed_bound, closed}
use Rattle.svr_frame.specs.Occurrences.{Guard, Place, Fact, stated, dealt, disabled, Occurrence, Shape, under, within, has_index, members, pairs, each_below, each_of_row, occurrence, occur, all_occur, else_occur, guard_expr, and_also, condition, guarded, closed_members, fact_expr}
use Rattle.svr_frame.specs.Reads.{is_free_size, is_sought, has_free_size_in, is_open}
use Rattle.svr_frame.specs.Weight.{cost, node_cost, exprs_cost, ranges_cost, range_cost, bound_cost, own_cost, every_member, occurrence_cost, total}
use Rattle.svr_weight.specs.Weighing.{row_turns}
use Rattle.svr_frame.proofs.Closing.{size_closed, property_closed}
use Rattle.svr_frame.proofs.Blind.{IsBlind, any_reads}

-- ---- a closed expression weighs what the one weighs that it was made of

module _ (sh : Shape) (free : ℕ → Bool) where
  sought_is_blind : IsBlind (is_sought sh free)
  sought_is_blind = (λ p env env' e e'. refl, λ p m env env' e e' g g'. refl)

  free_size_is_blind : IsBlind (is_free_size sh free)
  free_size_is_blind = (λ p env env' e e'. refl, λ p m env env' e e' g g'. refl)

  module _ (env : List ℕ) where
    pub open_closed : (own : ℕ) (e : ExprTerm) → is_open sh free (closed_within env own e) ≡ is_open sh free e
    open_closed own e = any_reads sh sh (λ p. refl) (is_sought sh free) sought_is_blind env [] [] own e

    sized_closed : (own : ℕ) (e : ExprTerm) → has_free_size_in sh free (closed_within env own e) ≡ has_free_size_in sh free e
    sized_closed own e = any_reads sh sh (λ p. refl) (is_free_size sh free) free_size_is_blind env [] [] own e

    loop_cost : (c : Bool) (w : ℕ) (s : Bool) (k i v : ℕ) → cost sh free (if c then typed w s (loop_index k) else index_number i) v ≡ 1
    loop_cost true w s k i v = refl
    loop_cost false w s k i v = refl

    mutual
      pub cost_closed : (own : ℕ) (e : ExprTerm) (w : ℕ) → cost sh free (closed_within env own e) w ≡ cost sh free e w
      cost_closed own (typed from s n) w = node_cost_closed own from s n w

      node_cost_closed : (own : ℕ) (from : ℕ) (s : Bool) (n : NodeTerm) (w : ℕ) → cost sh free (closed_node env own from s n) w ≡ node_cost sh free from n w
      node_cost_closed own from s (number v every) w = refl
      node_cost_closed own from s (prop p) w = refl
      node_cost_closed own from s (element p e) w = rw (open_closed own e, size_closed env own e, cost_closed own e (size_of e)) refl
      node_cost_closed own from s (cell p m first second) w =
          rw (open_closed own first, open_closed own second, size_closed env own first, size_closed env own second, cost_closed own first (size_of first), cost_closed own second (size_of second)) refl
      node_cost_closed own from s (size p m) w = refl
      node_cost_closed own from s (script v) w = refl
      node_cost_closed own from s (loop_index k) w = loop_cost (nat_lt k own) from s k (index_of env (k - own)) w
      node_cost_closed own from s (reduce p op body) w = rw (size_closed env (suc own) body, cost_closed (suc own) body (size_of body)) refl
      node_cost_closed own from s (of_object o e) w = cost_closed own e w
      node_cost_closed own from s (bit_select base first low) w =
          rw (sized_closed own first, size_closed env own base, size_closed env own first, cost_closed own base (size_of base), cost_closed own first (size_of first)) refl
      node_cost_closed own from s (part_select base first last low) w =
          rw (size_closed env own base, size_closed env own first, size_closed env own last, cost_closed own base (size_of base), cost_closed own first (size_of first), cost_closed own last (size_of last)) refl
      node_cost_closed own from s (unary op e) w = simp (size_closed env own e, cost_closed own e)
      node_cost_closed own from s (binary op l r) w = simp (size_closed env own l, size_closed env own r, cost_closed own l, cost_closed own r)
      node_cost_closed own from s (choice t met unmet) w = simp (size_closed env own t, cost_closed own t, cost_closed own met, cost_closed own unmet)
      node_cost_closed own from s (inside l rs) w = rw (size_closed env own l, cost_closed own l (size_of l), ranges_cost_closed own (size_of l) rs) refl
      node_cost_closed own from s (join parts) w = rw (exprs_cost_closed own parts) refl
      node_cost_closed own from s (copies count parts) w = rw (size_closed env own count, cost_closed own count (size_of count), exprs_cost_closed own parts) refl
      node_cost_closed own from s (sign as_signed e) w = rw (size_closed env own e, cost_closed own e (size_of e)) refl

      exprs_cost_closed : (own : ℕ) (es : ExprTerms) → exprs_cost sh free (closed_exprs env own es) ≡ exprs_cost sh free es
      exprs_cost_closed own no_exprs = refl
      exprs_cost_closed own (more_exprs e es) = rw (size_closed env own e, cost_closed own e (size_of e), exprs_cost_closed own es) refl

      ranges_cost_closed : (own : ℕ) (n : ℕ) (rs : RangeTerms) → ranges_cost sh free n (closed_ranges env own rs) ≡ ranges_cost sh free n rs
      ranges_cost_closed own n no_ranges = refl
      ranges_cost_closed own n (more_ranges r rs) = rw (range_cost_closed own n r, ranges_cost_closed own n rs) refl

      pub range_cost_closed : (own : ℕ) (n : ℕ) (r : RangeTerm) → range_cost sh free n (closed_range env own r) ≡ range_cost sh free n r
      range_cost_closed own n (one e) = rw (property_closed env own e, size_closed env own e, cost_closed own e (max n (size_of e))) refl
      range_cost_closed own n (span low high) = rw (bound_cost_closed own n low, bound_cost_closed own n high) refl

      bound_cost_closed : (own : ℕ) (n : ℕ) (b : BoundTerm) → bound_cost sh free n (closed_bound env own b) ≡ bound_cost sh free n b
      bound_cost_closed own n (value e) = rw (size_closed env own e, cost_closed own e (max n (size_of e))) refl
      bound_cost_closed own n dollar = refl

-- ---- occurrences that differ in the indexes of their loops alone

abbrev pub AlikeGuards : List Guard → List Guard → Type 0
AlikeGuards [] [] = ⊤
AlikeGuards [] (h ∷ hs) = ⊥
AlikeGuards (g ∷ gs) [] = ⊥
AlikeGuards (g ∷ gs) (h ∷ hs) = (g.test ≡ h.test) × (g.wanted ≡ h.wanted) × AlikeGuards gs hs

pub record AlikePlaces (at at' : Place) : Type 0 where
  pub guards : AlikeGuards at.guards at'.guards
  pub loops : has_index at.env ≡ has_index at'.env
  pub over : at.over ≡ at'.over

pub record AlikeOccurrences (o o' : Occurrence) : Type 0 where
  pub place : AlikePlaces o.place o'.place
  pub soft : o.soft ≡ o'.soft
  pub fact : o.fact ≡ o'.fact

abbrev pub AllAlike : List Occurrence → List Occurrence → Type 0
AllAlike [] [] = ⊤
AllAlike [] (p ∷ ps) = ⊥
AllAlike (o ∷ os) [] = ⊥
AllAlike (o ∷ os) (p ∷ ps) = AlikeOccurrences o p × AllAlike os ps

AllAlike-append : (os os' ps ps' : List Occurrence) → AllAlike os os' → AllAlike ps ps' → AllAlike (os ++ ps) (os' ++ ps')
AllAlike-append [] [] ps ps' h k = k
AllAlike-append [] (o ∷ os) ps ps' h k = absurd h
AllAlike-append (o ∷ os) [] ps ps' h k = absurd h
AllAlike-append (o ∷ os) (o' ∷ os') ps ps' h k = (h.0, AllAlike-append os os' ps ps' h.1 k)

pub same_guards : (gs : List Guard) → AlikeGuards gs gs
same_guards [] = tt
same_guards (g ∷ gs) = (refl, refl, same_guards gs)

has_more : (is : List ℕ) (i : ℕ) → has_index (is ++ i ∷ []) ≡ true
has_more [] i = refl
has_more (j ∷ is) i = refl

alike_under : (at at' : Place) → AlikePlaces at at' → (t : ExprTerm) (wanted : Bool) → AlikePlaces (under t wanted at) (under t wanted at')
alike_under at at' h t wanted = record { guards = (refl, refl, h.guards); loops = h.loops; over = h.over }

alike_within : (at at' : Place) → AlikePlaces at at' → (p i j : ℕ) → AlikePlaces (within p i at) (within p j at')
alike_within at at' h p i j = record { guards = h.guards; loops = has_more at.env i ∙ sym (has_more at'.env j); over = ap (λ (x : List ℕ). x ++ p ∷ []) h.over }

module _ (sh : Shape) where
  leaves_alike : (at at' : Place) → AlikePlaces at at' → (es : List ExprTerm) → AllAlike (map (λ e. occurrence at false (stated e)) es) (map (λ e. occurrence at' false (stated e)) es)
  leaves_alike at at' h [] = tt
  leaves_alike at at' h (e ∷ es) = (record { place = h; soft = refl; fact = refl }, leaves_alike at at' h es)

  each_alike : (f g : ℕ → List Occurrence) → ((i : ℕ) → AllAlike (f i) (g i)) → (n : ℕ) → AllAlike (each_below n f) (each_below n g)
  each_alike f g h zero = tt
  each_alike f g h (suc n) = AllAlike-append (each_below n f) (each_below n g) (f n) (g n) (each_alike f g h n) (h n)

  row_alike : (p m names : ℕ) (f : Place → List Occurrence) → ((at at' : Place) → AlikePlaces at at' → AllAlike (f at) (f at'))
      → (at at' : Place) → AlikePlaces at at' → AllAlike (each_of_row p m names f at) (each_of_row p m names f at')
  row_alike p m names f h at at' k = by (names == 2)
    where
      by : (b : Bool) → AllAlike (if b then each_below m (λ j. f (within p j at)) else f at) (if b then each_below m (λ j. f (within p j at')) else f at')
      by true = each_alike (λ j. f (within p j at)) (λ j. f (within p j at')) (λ j. h (within p j at) (within p j at') (alike_within at at' k p j j)) m
      by false = h at at' k

  mutual
    item_alike : (at at' : Place) → AlikePlaces at at' → (i : ItemTerm) → AllAlike (occur sh at i) (occur sh at' i)
    item_alike at at' h (plain soft e dist) = (record { place = h; soft = refl; fact = refl }, tt)
    item_alike at at' h (unique es) = leaves_alike at at' h (pairs (members sh es))
    item_alike at at' h (implies t body) = items_alike (under t true at) (under t true at') (alike_under at at' h t true) body
    item_alike at at' h (branch t met unmet) =
        AllAlike-append (all_occur sh (under t true at) met) (all_occur sh (under t true at') met) (else_occur sh (under t false at) unmet) (else_occur sh (under t false at') unmet)
        (items_alike (under t true at) (under t true at') (alike_under at at' h t true) met) (else_alike (under t false at) (under t false at') (alike_under at at' h t false) unmet)
    item_alike at at' h (foreach p m names body) =
        each_alike (λ i. each_of_row p m names (λ inner. all_occur sh inner body) (within p i at)) (λ i. each_of_row p m names (λ inner. all_occur sh inner body) (within p i at'))
        (λ i. row_alike p m names (λ inner. all_occur sh inner body) (λ x y k. items_alike x y k body) (within p i at) (within p i at') (alike_within at at' h p i i)) (sh.size p / m)
    item_alike at at' h (disable target) = (record { place = h; soft = refl; fact = refl }, tt)
    item_alike at at' h (solve first later) = tt

    pub items_alike : (at at' : Place) → AlikePlaces at at' → (is : ItemTerms) → AllAlike (all_occur sh at is) (all_occur sh at' is)
    items_alike at at' h no_items = tt
    items_alike at at' h (more_items i is) = AllAlike-append (occur sh at i) (occur sh at' i) (all_occur sh at is) (all_occur sh at' is) (item_alike at at' h i) (items_alike at at' h is)

    else_alike : (at at' : Place) → AlikePlaces at at' → (e : ElseTerm) → AllAlike (else_occur sh at e) (else_occur sh at' e)
    else_alike at at' h no_else = tt
    else_alike at at' h (else_items is) = items_alike at at' h is

-- the place of the body of a loop at the first indexes
abbrev pub first_in_row : ℕ → ℕ → Place → Place
first_in_row p names at = if names == 2 then within p 0 at else at

-- ---- they weigh the same

module _ (sh : Shape) (free : ℕ → Bool) where
  abbrev SameCost : ExprTerm → ExprTerm → Type 0
  SameCost x y = ((w : ℕ) → cost sh free x w ≡ cost sh free y w) × (size_of x ≡ size_of y)

  closed_same : (env env' : List ℕ) (e : ExprTerm) → SameCost (closed env e) (closed env' e)
  closed_same env env' e = (λ w. cost_closed sh free env 0 e w ∙ sym (cost_closed sh free env' 0 e w), size_closed env 0 e ∙ sym (size_closed env' 0 e))

  own_same : (x y : ExprTerm) → SameCost x y → own_cost sh free x ≡ own_cost sh free y
  own_same x y h = λ k. h.0 (h.1 k) k

  guard_same : (t : ExprTerm) (wanted : Bool) (env env' : List ℕ) → SameCost (guard_expr (record { test = t; wanted = wanted; env = env })) (guard_expr (record { test = t; wanted = wanted; env = env' }))
  guard_same t true env env' = closed_same env env' t
  guard_same t false env env' =
      let same = closed_same env env' t in
      (λ w k. same.1 k + same.0 (same.1 k) k, refl)

  abbrev SameTests : Option ExprTerm → Option ExprTerm → Type 0
  SameTests None None = ⊤
  SameTests None (Some d) = ⊥
  SameTests (Some c) None = ⊥
  SameTests (Some c) (Some d) = SameCost c d

  and_same : (c d : Option ExprTerm) (x y : ExprTerm) → SameTests c d → SameCost x y → SameCost (and_also c x) (and_also d y)
  and_same None None x y h k = k
  and_same None (Some d) x y h k = absurd h
  and_same (Some c) None x y h k = absurd h
  and_same (Some c) (Some d) x y h k = (λ w i. h.1 i + k.1 i + h.0 (h.1 i) i + k.0 (k.1 i) i, refl)

  tests_same : (gs hs : List Guard) → AlikeGuards gs hs → SameTests (condition gs) (condition hs)
  tests_same [] [] h = tt
  tests_same [] (g ∷ hs) h = absurd h
  tests_same (g ∷ gs) [] h = absurd h
  tests_same (g ∷ gs) (g' ∷ hs) h =
      let one = guard_same g.test g.wanted g.env g'.env in
      let moved : guard_expr (record { test = g.test; wanted = g.wanted; env = g'.env }) ≡ guard_expr g' = λ k. guard_expr (record { test = h.0 k; wanted = h.1 k; env = g'.env }) in
      and_same (condition gs) (condition hs) (guard_expr g) (guard_expr g') (tests_same gs hs h.2) (subst (SameCost (guard_expr g)) moved one)

  guarded_same : (c d : Option ExprTerm) (x y : ExprTerm) → SameTests c d → SameCost x y → own_cost sh free (guarded c x) ≡ own_cost sh free (guarded d y)
  guarded_same None None x y h k = own_same x y k
  guarded_same None (Some d) x y h k = absurd h
  guarded_same (Some c) None x y h k = absurd h
  guarded_same (Some c) (Some d) x y h k = λ i. h.1 i + k.1 i + h.0 (h.1 i) i + k.0 (k.1 i) i

  members_same : (env env' : List ℕ) (n : ℕ) (ds : List DistTerm) → ranges_cost sh free n (ranges_of (closed_members env (filter (every_member sh free env) ds))) ≡ ranges_cost sh free n (ranges_of (closed_members env' (filter (every_member sh free env') ds)))
  members_same env env' n [] = refl
  members_same env env' n (d ∷ ds) =
      λ k. (range_cost_closed sh free env 0 n d.range ∙ sym (range_cost_closed sh free env' 0 n d.range)) k + members_same env env' n ds k

  fact_same : (env env' : List ℕ) (f : Fact) → SameCost (fact_expr (every_member sh free) env f) (fact_expr (every_member sh free) env' f)
  fact_same env env' (stated e) = closed_same env env' e
  fact_same env env' (dealt e ds) =
      let same = closed_same env env' e in
      (λ w k. same.0 (same.1 k) k + (members_same env env' (size_of (closed env e)) ds ∙ ap (λ n. ranges_cost sh free n (ranges_of (closed_members env' (filter (every_member sh free env') ds)))) same.1) k, refl)
  fact_same env env' (disabled target) = (λ w. refl, refl)

  pub cost_alike : (o o' : Occurrence) → AlikeOccurrences o o' → occurrence_cost sh free o ≡ occurrence_cost sh free o'
  cost_alike o o' h =
      guarded_same (condition o.place.guards) (condition o'.place.guards) (fact_expr (every_member sh free) o.place.env o.fact) (fact_expr (every_member sh free) o'.place.env o'.fact)
      (tests_same o.place.guards o'.place.guards h.place.guards)
      (subst (λ (f : Fact). SameCost (fact_expr (every_member sh free) o.place.env o.fact) (fact_expr (every_member sh free) o'.place.env f)) h.fact (fact_same o.place.env o'.place.env o.fact))

  -- ---- a loop

  -- those that pass a test weigh so much together
  abbrev pub weighs : (Occurrence → Bool) → List Occurrence → ℕ
  weighs test os = total sh free (filter test os)

  total-append : (os ps : List Occurrence) → total sh free (os ++ ps) ≡ total sh free os + total sh free ps
  total-append [] ps = omega arith
  total-append (o ∷ os) ps = omega (arith, total-append os ps)

  pub weighs-append : (test : Occurrence → Bool) (os ps : List Occurrence) → weighs test (os ++ ps) ≡ weighs test os + weighs test ps
  weighs-append test os ps = ap (total sh free) (filter-append test os ps) ∙ total-append (filter test os) (filter test ps)

  abbrev pub IsEven : (Occurrence → Bool) → Type 0
  IsEven test = (o o' : Occurrence) → AlikeOccurrences o o' → test o ≡ test o'

  pub weighs_alike : (test : Occurrence → Bool) → IsEven test → (os ps : List Occurrence) → AllAlike os ps → weighs test os ≡ weighs test ps
  weighs_alike test even [] [] h = refl
  weighs_alike test even [] (p ∷ ps) h = absurd h
  weighs_alike test even (o ∷ os) [] h = absurd h
  weighs_alike test even (o ∷ os) (p ∷ ps) h = by_test (test o) refl (weighs_alike test even os ps h.1)
    where
      by_test : (b : Bool) → test o ≡ b → weighs test os ≡ weighs test ps → weighs test (o ∷ os) ≡ weighs test (p ∷ ps)
      by_test true e rest = rw (e, sym (even o p h.0) ∙ e) (λ k. cost_alike o p h.0 k + rest k)
      by_test false e rest = rw (e, sym (even o p h.0) ∙ e) rest

  each_weighs : (test : Occurrence → Bool) (f : ℕ → List Occurrence) (c : ℕ) → ((i : ℕ) → weighs test (f i) ≡ c) → (n : ℕ) → weighs test (each_below n f) ≡ n * c
  each_weighs test f c h zero = omega arith
  each_weighs test f c h (suc n) = weighs-append test (each_below n f) (f n) ∙ omega (arith, each_weighs test f c h n, h n)

  row_weighs : (test : Occurrence → Bool) → IsEven test → (at at' : Place) (p m names : ℕ) (body : ItemTerms) → AlikePlaces at at'
      → weighs test (each_of_row p m names (λ inner. all_occur sh inner body) at) ≡ row_turns m names * weighs test (all_occur sh (first_in_row p names at') body)
  row_weighs test even at at' p m names body alike = by (names == 2)
    where
      by : (b : Bool) → weighs test (if b then each_below m (λ j. all_occur sh (within p j at) body) else all_occur sh at body)
          ≡ (if b then m else 1) * weighs test (all_occur sh (if b then within p 0 at' else at') body)
      by true =
          each_weighs test (λ j. all_occur sh (within p j at) body) (weighs test (all_occur sh (within p 0 at') body))
          (λ j. weighs_alike test even (all_occur sh (within p j at) body) (all_occur sh (within p 0 at') body) (items_alike sh (within p j at) (within p 0 at') (alike_within at at' alike p j 0) body)) m
      by false = let same = weighs_alike test even (all_occur sh at body) (all_occur sh at' body) (items_alike sh at at' alike body) in omega (arith, same)

  -- a loop weighs its turns times its body
  pub foreach_weighs : (test : Occurrence → Bool) → IsEven test → (at : Place) (p m names : ℕ) (body : ItemTerms)
      → weighs test (occur sh at (foreach p m names body)) ≡ (sh.size p / m) * (row_turns m names * weighs test (all_occur sh (first_in_row p names (within p 0 at)) body))
  foreach_weighs test even at p m names body =
      each_weighs test (λ i. each_of_row p m names (λ inner. all_occur sh inner body) (within p i at)) (row_turns m names * weighs test (all_occur sh (first_in_row p names (within p 0 at)) body))
      (λ i. row_weighs test even (within p i at) (within p 0 at) p m names body (alike_within at at (record { guards = same_guards at.guards; loops = refl; over = refl }) p i 0))
      (sh.size p / m)
