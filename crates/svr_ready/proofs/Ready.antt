-- The closed expressions of the occurrences of a sound frame's items are typed, can be read with no loop around them, and stand in the frame.
use Rattle.std.proofs.Common.{◌≡◌, ◌<◌, ◌≤◌, ◌==◌, ◌^◌, ℕ, zero, suc, ◌+◌, ◌-◌, ◌*◌, ◌/◌, Bool, true, false, not, ◌||◌, ◌⊎◌, inl, inr, refl, sym, ◌∙◌, ap, subst, List, [], ◌∷◌, ◌++◌, map, length, length-append, Option, None, Some, arith}
use Rattle.std.specs.Prelude.{⊤, filter, slice_index, nat_lt, if◌then◌else◌}
use Rattle.std.proofs.Math.Nat.{div-mul-le_self, div-le_self}
use Rattle.svr_limits.specs.declared.limit.TheConstants.{LOOP_LIMIT, ELEMENT_LIMIT}
use Rattle.svr_operator.specs.declared.BinOp.TheVariants as bin
use Rattle.svr_operator.specs.declared.UnOp.TheVariants as un
use Rattle.svr_typed.specs.ExprTerm.{ExprTerm, typed, NodeTerm, number, prop, element, cell, size, script, loop_index, reduce, of_object, bit_select, part_select, unary, binary, choice, inside, join, copies, sign, ExprTerms, no_exprs, more_exprs, RangeTerm, one, span, RangeTerms, no_ranges, more_ranges, ranges_of}
use Rattle.svr_typed.specs.ItemTerm.{DistTerm, ItemTerm, plain, unique, implies, branch, foreach, disable, solve, ItemTerms, no_items, more_items, ElseTerm, no_else, else_items}
use Rattle.svr_eval.specs.Reading.{Reading}
use Rattle.svr_eval.specs.Value.{index_of, node_property}
use Rattle.svr_eval.specs.Typed.{IsTyped, AreTyped, RangesAreTyped, RangeIsTyped, CanRead, AllCanRead, RangesCanRead, RangeCanRead}
use Rattle.svr_eval.specs.Holds.{MembersAreTyped, ItemIsTyped, ItemsAreTyped, ElseIsTyped, MembersCanRead, ItemCanRead, ItemsCanRead, ElseCanRead}
use Rattle.svr_frame.specs.Frame.{FrameTerm, is_array}
use Rattle.svr_frame.specs.Closed.{index_number, closed, closed_range}
use Rattle.svr_frame.specs.Occurrences.{Guard, Place, Fact, stated, dealt, disabled, Occurrence, outside, under, within, elements_from, member_exprs, members, unequal, pairs, each_below, each_of_row, occurrence, occur, all_occur, else_occur, is_disable, guard_expr, and_also, condition, guarded, closed_members, fact_expr, are_weighed, closed_of}
use Rattle.svr_frame.specs.Phases.{shape_at, active_at}
use Rattle.svr_frame.specs.Sound.{HasType, ExprIsIn, NodeIsIn, ExprsAreIn, RangesAreIn, RangeIsIn, MembersAreIn, ItemIsIn, ItemsAreIn, ElseIsIn, TargetIsIn, IsSound, SizesFit}
use Rattle.svr_ready.specs.Ready.{IsReady}
use Rattle.svr_ready.proofs.Closes.{typed_closed, range_typed, reads_closed, range_read, in_closed, range_in}

-- ---- the indexes of loops are ints

abbrev AllSmall : List ℕ → Type 0
AllSmall [] = ⊤
AllSmall (i ∷ is) = (i < 2 ^ 32) × AllSmall is

small_more : (is : List ℕ) (i : ℕ) → AllSmall is → i < 2 ^ 32 → AllSmall (is ++ i ∷ [])
small_more [] i h lt = (lt, tt)
small_more (x ∷ is) i h lt = (h.0, small_more is i h.1 lt)

small_at : (is : List ℕ) (k : ℕ) → AllSmall is → slice_index is k < 2 ^ 32
small_at [] k h = omega arith
small_at (i ∷ is) zero h = h.0
small_at (i ∷ is) (suc k) h = small_at is k h.1

small_index : (is : List ℕ) → AllSmall is → (k : ℕ) → index_of is k < 2 ^ 32
small_index is h k = by_place (nat_lt k (length is))
  where
    by_place : (b : Bool) → (if b then slice_index is (length is - 1 - k) else 0) < 2 ^ 32
    by_place true = small_at is (length is - 1 - k) h
    by_place false = omega arith

rows_below : (i n m : ℕ) → i < n / m → m ≤ n
rows_below i n m lt = let whole = div-mul-le_self n m in nonzero (n / m) lt whole
  where
    nonzero : (q : ℕ) → i < q → q * m ≤ n → m ≤ n
    nonzero zero h le = absurd (omega (arith, h))
    nonzero (suc q) h le = omega (arith, le)

module _ (f : FrameTerm) (a : Reading) where
  -- with the indexes of the loops around it
  pub record ExprIsReady (env : List ℕ) (e : ExprTerm) : Type 0 where
    pub typed : IsTyped e
    pub reads : CanRead a (length env) e
    pub is_in : ExprIsIn f false e

  pub closed_ready : (env : List ℕ) (e : ExprTerm) → AllSmall env → ExprIsReady env e → IsReady f a (closed env e)
  closed_ready env e small h = record {
    typed = typed_closed env (small_index env small) 0 e h.typed;
    reads = reads_closed env a (length env) 0 (omega arith) e h.reads;
    is_in = in_closed env f 0 false e h.is_in;
  }

  abbrev MembersAreReady : List ℕ → List DistTerm → Type 0
  MembersAreReady env [] = ⊤
  MembersAreReady env (d ∷ ds) = RangeIsTyped d.range × RangeCanRead a (length env) d.range × RangeIsIn f false d.range × MembersAreReady env ds

  abbrev GuardsAreReady : List Guard → Type 0
  GuardsAreReady [] = ⊤
  GuardsAreReady (g ∷ gs) = AllSmall g.env × ExprIsReady g.env g.test × GuardsAreReady gs

  abbrev FactIsReady : List ℕ → Fact → Type 0
  FactIsReady env (stated e) = ExprIsReady env e
  FactIsReady env (dealt e ds) = ExprIsReady env e × MembersAreReady env ds
  FactIsReady env (disabled target) = ⊤

  pub record OccurrenceIsReady (o : Occurrence) : Type 0 where
    pub small : AllSmall o.place.env
    pub guards : GuardsAreReady o.place.guards
    pub fact : FactIsReady o.place.env o.fact

  -- ---- its closed expression

  guard_ready : (env : List ℕ) (e : ExprTerm) (wanted : Bool) → AllSmall env → ExprIsReady env e → IsReady f a (if wanted then closed env e else typed 1 false (unary un.LogicalNot (closed env e)))
  guard_ready env e true small h = closed_ready env e small h
  guard_ready env e false small h =
      let c = closed_ready env e small h in
      record { typed = (omega arith, omega arith, refl, refl, c.typed); reads = c.reads; is_in = c.is_in }

  abbrev ConditionIsReady : Option ExprTerm → Type 0
  ConditionIsReady None = ⊤
  ConditionIsReady (Some c) = IsReady f a c

  and_ready : (o : Option ExprTerm) (x : ExprTerm) → ConditionIsReady o → IsReady f a x → IsReady f a (and_also o x)
  and_ready None x h k = k
  and_ready (Some c) x h k = record { typed = (omega arith, omega arith, refl, refl, (h.typed, k.typed)); reads = (h.reads, k.reads); is_in = (h.is_in, k.is_in) }

  condition_ready : (gs : List Guard) → GuardsAreReady gs → ConditionIsReady (condition gs)
  condition_ready [] h = tt
  condition_ready (g ∷ gs) h = and_ready (condition gs) (guard_expr g) (condition_ready gs h.2) (guard_ready g.env g.test g.wanted h.0 h.1)

  guarded_ready : (o : Option ExprTerm) (x : ExprTerm) → ConditionIsReady o → IsReady f a x → IsReady f a (guarded o x)
  guarded_ready None x h k = k
  guarded_ready (Some c) x h k = record { typed = (omega arith, omega arith, refl, refl, (h.typed, k.typed)); reads = (h.reads, k.reads); is_in = (h.is_in, k.is_in) }

  -- an array may stand where one may not need to
  whole_in : (e : ExprTerm) → ExprIsIn f false e → ExprIsIn f true e
  whole_in (typed w s (number v every)) h = h
  whole_in (typed w s (prop p)) h = (h.0, λ k. refl)
  whole_in (typed w s (element p e)) h = h
  whole_in (typed w s (cell p m first second)) h = h
  whole_in (typed w s (size p m)) h = h
  whole_in (typed w s (script v)) h = h
  whole_in (typed w s (loop_index k)) h = h
  whole_in (typed w s (reduce p op body)) h = h
  whole_in (typed w s (of_object o e)) h = h
  whole_in (typed w s (bit_select base first low)) h = h
  whole_in (typed w s (part_select base first last low)) h = h
  whole_in (typed w s (unary op e)) h = h
  whole_in (typed w s (binary op l r)) h = h
  whole_in (typed w s (choice t met unmet)) h = h
  whole_in (typed w s (inside l rs)) h = h
  whole_in (typed w s (join parts)) h = h
  whole_in (typed w s (copies count parts)) h = h
  whole_in (typed w s (sign as_signed e)) h = h

  whole_range : (r : RangeTerm) → RangeIsIn f false r → RangeIsIn f true r
  whole_range (one e) h = whole_in e h
  whole_range (span low high) h = h

  abbrev RangesAreReady : List RangeTerm → Type 0
  RangesAreReady rs = RangesAreTyped (ranges_of rs) × RangesCanRead a 0 (ranges_of rs) × RangesAreIn f (ranges_of rs)

  members_ready : (env : List ℕ) (counts : DistTerm → Bool) (ds : List DistTerm) → AllSmall env → MembersAreReady env ds → RangesAreReady (closed_members env (filter counts ds))
  members_ready env counts [] small h = (tt, tt, tt)
  members_ready env counts (d ∷ ds) small h = by_test (counts d) refl (members_ready env counts ds small h.3)
    where
      by_test : (b : Bool) → counts d ≡ b → RangesAreReady (closed_members env (filter counts ds)) → RangesAreReady (closed_members env (filter counts (d ∷ ds)))
      by_test true e rest =
          subst (λ (t : Bool). RangesAreReady (closed_members env (if t then d ∷ filter counts ds else filter counts ds))) (sym e) (
            (range_typed env (small_index env small) 0 d.range h.0, rest.0),
            (range_read env a (length env) 0 (omega arith) d.range h.1, rest.1),
            (whole_range (closed_range env 0 d.range) (range_in env f 0 false d.range h.2), rest.2),
          )
      by_test false e rest = subst (λ (t : Bool). RangesAreReady (closed_members env (if t then d ∷ filter counts ds else filter counts ds))) (sym e) rest

  fact_ready : (counts : List ℕ → DistTerm → Bool) (env : List ℕ) (x : Fact) → AllSmall env → FactIsReady env x → IsReady f a (fact_expr counts env x)
  fact_ready counts env (stated e) small h = closed_ready env e small h
  fact_ready counts env (dealt e ds) small h =
      let c = closed_ready env e small h.0 in
      let rs = members_ready env (counts env) ds small h.1 in
      record { typed = (omega arith, omega arith, refl, refl, (c.typed, rs.0)); reads = (c.reads, rs.1); is_in = (c.is_in, rs.2) }
  fact_ready counts env (disabled target) small h = record { typed = (omega arith, omega arith, refl, refl, omega arith); reads = tt; is_in = tt }

  pub occurrence_ready : (state : Reading) (o : Occurrence) → OccurrenceIsReady o → IsReady f a (closed_of state o)
  occurrence_ready state o h = guarded_ready (condition o.place.guards) (fact_expr (are_weighed state) o.place.env o.fact) (condition_ready o.place.guards h.guards) (fact_ready (are_weighed state) o.place.env o.fact h.small h.fact)

  -- ---- lists of occurrences

  abbrev pub AllAreReady : List Occurrence → Type 0
  AllAreReady [] = ⊤
  AllAreReady (o ∷ os) = OccurrenceIsReady o × AllAreReady os

  pub ready_append : (os ps : List Occurrence) → AllAreReady os → AllAreReady ps → AllAreReady (os ++ ps)
  ready_append [] ps h k = k
  ready_append (o ∷ os) ps h k = (h.0, ready_append os ps h.1 k)

  pub ready_kept : (t : Occurrence → Bool) (os : List Occurrence) → AllAreReady os → AllAreReady (filter t os)
  ready_kept t [] h = tt
  ready_kept t (o ∷ os) h = by_test (t o) refl (ready_kept t os h.1)
    where
      by_test : (b : Bool) → t o ≡ b → AllAreReady (filter t os) → AllAreReady (filter t (o ∷ os))
      by_test true e rest = subst (λ (c : Bool). AllAreReady (if c then o ∷ filter t os else filter t os)) (sym e) (h.0, rest)
      by_test false e rest = subst (λ (c : Bool). AllAreReady (if c then o ∷ filter t os else filter t os)) (sym e) rest

  -- ---- those of items

  module _ (ns : List ℕ) (most : (p : ℕ) → slice_index ns p ≤ ELEMENT_LIMIT) where
    abbrev AllExprsReady : List ℕ → List ExprTerm → Type 0
    AllExprsReady env [] = ⊤
    AllExprsReady env (e ∷ es) = ExprIsReady env e × AllExprsReady env es

    exprs_append : (env : List ℕ) (xs ys : List ExprTerm) → AllExprsReady env xs → AllExprsReady env ys → AllExprsReady env (xs ++ ys)
    exprs_append env [] ys h k = k
    exprs_append env (x ∷ xs) ys h k = (h.0, exprs_append env xs ys h.1 k)

    elements_ready : (env : List ℕ) (p w : ℕ) (s : Bool) (i n : ℕ) → i + n ≤ ELEMENT_LIMIT → (1 ≤ w) → (w ≤ 64) → ((j : ℕ) → a.element p j < 2 ^ w) → HasType f p w s → is_array f p ≡ true → AllExprsReady env (elements_from p w s i n)
    elements_ready env p w s i zero le low high below t arr = tt
    elements_ready env p w s i (suc n) le low high below t arr = (
      record { typed = (low, high, refl, refl, (omega arith, omega arith, refl, refl, omega (arith, le))); reads = (tt, below); is_in = (t, arr, tt) },
      elements_ready env p w s (suc i) n (omega (arith, le)) low high below t arr,
    )

    property_ready : (env : List ℕ) (p w : ℕ) (s c : Bool) → is_array f p ≡ c → IsTyped (typed w s (prop p)) → ((j : ℕ) → a.element p j < 2 ^ w) → HasType f p w s
        → AllExprsReady env (if c then elements_from p w s 0 (slice_index ns p) else typed w s (prop p) ∷ [])
    property_ready env p w s true e t below h = elements_ready env p w s 0 (slice_index ns p) (omega (arith, most p)) t.0 t.1 below h e
    property_ready env p w s false e t below h = (record { typed = t; reads = below; is_in = (h, λ k. let no : false ≡ true = sym e ∙ k in cc) }, tt)

    member_ready : (env : List ℕ) (w : ℕ) (s : Bool) (n : NodeTerm) → IsTyped (typed w s n) → CanRead a (length env) (typed w s n) → NodeIsIn f true w s n → AllExprsReady env (member_exprs (shape_at f ns) (typed w s n) (node_property n))
    member_ready env w s (number v every) t r h = (record { typed = t; reads = r; is_in = h }, tt)
    member_ready env w s (prop p) t r h = property_ready env p _ _ (is_array f p) refl (t.0, t.1, t.2, t.3, t.4) r h.0
    member_ready env w s (element p e) t r h = (record { typed = t; reads = r; is_in = h }, tt)
    member_ready env w s (cell p m first second) t r h = (record { typed = t; reads = r; is_in = h }, tt)
    member_ready env w s (size p m) t r h = (record { typed = t; reads = r; is_in = h }, tt)
    member_ready env w s (script v) t r h = (record { typed = t; reads = r; is_in = h }, tt)
    member_ready env w s (loop_index k) t r h = (record { typed = t; reads = r; is_in = h }, tt)
    member_ready env w s (reduce p op body) t r h = (record { typed = t; reads = r; is_in = h }, tt)
    member_ready env w s (of_object o e) t r h = absurd h
    member_ready env w s (bit_select base first low) t r h = (record { typed = t; reads = r; is_in = h }, tt)
    member_ready env w s (part_select base first last low) t r h = (record { typed = t; reads = r; is_in = h }, tt)
    member_ready env w s (unary op e) t r h = (record { typed = t; reads = r; is_in = h }, tt)
    member_ready env w s (binary op l r) t k h = (record { typed = t; reads = k; is_in = h }, tt)
    member_ready env w s (choice test met unmet) t r h = (record { typed = t; reads = r; is_in = h }, tt)
    member_ready env w s (inside l rs) t r h = (record { typed = t; reads = r; is_in = h }, tt)
    member_ready env w s (join parts) t r h = (record { typed = t; reads = r; is_in = h }, tt)
    member_ready env w s (copies count parts) t r h = (record { typed = t; reads = r; is_in = h }, tt)
    member_ready env w s (sign as_signed e) t r h = (record { typed = t; reads = r; is_in = h }, tt)

    all_members_ready : (env : List ℕ) (es : ExprTerms) → AreTyped es → AllCanRead a (length env) es → ExprsAreIn f true es → AllExprsReady env (members (shape_at f ns) es)
    all_members_ready env no_exprs t r h = tt
    all_members_ready env (more_exprs (typed w s n) es) t r h =
        exprs_append env (member_exprs (shape_at f ns) (typed w s n) (node_property n)) (members (shape_at f ns) es) (member_ready env w s n t.0 r.0 h.0) (all_members_ready env es t.1 r.1 h.1)

    against_ready : (env : List ℕ) (x : ExprTerm) → ExprIsReady env x → (ys : List ExprTerm) → AllExprsReady env ys → AllExprsReady env (map (unequal x) ys)
    against_ready env x hx [] h = tt
    against_ready env x hx (y ∷ ys) h =
        (record { typed = (omega arith, omega arith, refl, refl, (hx.typed, h.0.typed)); reads = (hx.reads, h.0.reads); is_in = (hx.is_in, h.0.is_in) }, against_ready env x hx ys h.1)

    pairs_ready : (env : List ℕ) (xs : List ExprTerm) → AllExprsReady env xs → AllExprsReady env (pairs xs)
    pairs_ready env [] h = tt
    pairs_ready env (x ∷ xs) h = exprs_append env (map (unequal x) xs) (pairs xs) (against_ready env x h.0 xs h.1) (pairs_ready env xs h.1)

    pub record PlaceIsReady (at : Place) : Type 0 where
      pub small : AllSmall at.env
      pub guards : GuardsAreReady at.guards

    leaves_ready : (at : Place) → PlaceIsReady at → (es : List ExprTerm) → AllExprsReady at.env es → AllAreReady (map (λ e. occurrence at false (stated e)) es)
    leaves_ready at g [] h = tt
    leaves_ready at g (e ∷ es) h = (record { small = g.small; guards = g.guards; fact = h.0 }, leaves_ready at g es h.1)

    each_ready : (k : ℕ → List Occurrence) (n : ℕ) → ((i : ℕ) → i < n → AllAreReady (k i)) → AllAreReady (each_below n k)
    each_ready k zero h = tt
    each_ready k (suc n) h = ready_append (each_below n k) (k n) (each_ready k n (λ i lt. h i (omega (arith, lt)))) (h n (omega arith))

    dist_ready : (env : List ℕ) (ds : List DistTerm) → MembersAreTyped ds → MembersCanRead a (length env) ds → MembersAreIn f ds → MembersAreReady env ds
    dist_ready env [] t r h = tt
    dist_ready env (d ∷ ds) t r h = (t.0, r.0, h.0, dist_ready env ds t.2 r.2 h.2)

    under_ready : (at : Place) (t : ExprTerm) (wanted : Bool) → PlaceIsReady at → ExprIsReady at.env t → PlaceIsReady (under t wanted at)
    under_ready at t wanted g h = record { small = g.small; guards = (g.small, h, g.guards) }

    within_ready : (at : Place) (p i : ℕ) → PlaceIsReady at → i < 2 ^ 32 → PlaceIsReady (within p i at)
    within_ready at p i g lt = record { small = small_more at.env i g.small lt; guards = g.guards }

    one_more : (at : Place) (p i d : ℕ) → d ≡ length at.env → d + 1 ≡ length (within p i at).env
    one_more at p i d e = ap (λ k. k + 1) e ∙ sym (length-append at.env (i ∷ []))

    index_below : (p m i : ℕ) → i < slice_index ns p / m → i < 2 ^ 32
    index_below p m i lt = let fewer = div-le_self (slice_index ns p) m in omega (arith, lt, fewer, most p)

    -- the body of a loop over one dimension, or over two, where the body is ready in every place
    row_ready : (body : ItemTerms) → ((inner : Place) (depth : ℕ) → depth ≡ length inner.env → PlaceIsReady inner → ItemsCanRead a depth body → AllAreReady (all_occur (shape_at f ns) inner body))
        → (at : Place) (d : ℕ) → d ≡ length at.env → PlaceIsReady at → (p m names : ℕ) → ((names ≡ 1) ⊎ (names ≡ 2)) → ItemsCanRead a (d + names) body → (i : ℕ) → i < slice_index ns p / m
        → AllAreReady (each_of_row p m names (λ inner. all_occur (shape_at f ns) inner body) (within p i at))
    row_ready body k at d len g p m names (inl e) reads i lt =
        subst (λ (n : ℕ). AllAreReady (each_of_row p m n (λ inner. all_occur (shape_at f ns) inner body) (within p i at))) (sym e)
        (k (within p i at) (d + 1) (one_more at p i d len) (within_ready at p i g (index_below p m i lt)) (subst (λ (n : ℕ). ItemsCanRead a (d + n) body) e reads))
    row_ready body k at d len g p m names (inr e) reads i lt =
        subst (λ (n : ℕ). AllAreReady (each_of_row p m n (λ inner. all_occur (shape_at f ns) inner body) (within p i at))) (sym e)
        (each_ready (λ j. all_occur (shape_at f ns) (within p j (within p i at)) body) m
        (λ j below. k (within p j (within p i at)) (d + 1 + 1) (one_more (within p i at) p j (d + 1) (one_more at p i d len))
        (within_ready (within p i at) p j (within_ready at p i g (index_below p m i lt)) (let rows = rows_below i (slice_index ns p) m lt in omega (arith, below, rows, most p)))
        (subst (λ (n : ℕ). ItemsCanRead a n body) (let s : d + 2 ≡ d + 1 + 1 = omega arith in s) (subst (λ (n : ℕ). ItemsCanRead a (d + n) body) e reads))))

    mutual
      item_ready : (at : Place) (d : ℕ) → d ≡ length at.env → PlaceIsReady at → (i : ItemTerm) → ItemIsTyped i → ItemCanRead a d i → ItemIsIn f i → AllAreReady (occur (shape_at f ns) at i)
      item_ready at d len g (plain soft e None) t r h =
          (record { small = g.small; guards = g.guards; fact = record { typed = t.0; reads = subst (λ k. CanRead a k e) len r.0; is_in = h.0 } }, tt)
      item_ready at d len g (plain soft e (Some ds)) t r h =
          (record { small = g.small; guards = g.guards; fact = (record { typed = t.0; reads = subst (λ k. CanRead a k e) len r.0; is_in = h.0 }, dist_ready at.env ds t.1 (subst (λ k. MembersCanRead a k ds) len r.1) h.1) }, tt)
      item_ready at d len g (unique es) t r h =
          leaves_ready at g (pairs (members (shape_at f ns) es)) (pairs_ready at.env (members (shape_at f ns) es) (all_members_ready at.env es t (subst (λ k. AllCanRead a k es) len r) h))
      item_ready at d len g (implies test body) t r h =
          all_ready (under test true at) d len (under_ready at test true g (record { typed = t.0; reads = subst (λ k. CanRead a k test) len r.0; is_in = h.0 })) body t.1 r.1 h.2
      item_ready at d len g (branch test met unmet) t r h =
          let test_ready : ExprIsReady at.env test = record { typed = t.0; reads = subst (λ k. CanRead a k test) len r.0; is_in = h.0 } in
          ready_append (all_occur (shape_at f ns) (under test true at) met) (else_occur (shape_at f ns) (under test false at) unmet)
          (all_ready (under test true at) d len (under_ready at test true g test_ready) met t.1 r.1 h.3) (else_ready (under test false at) d len (under_ready at test false g test_ready) unmet t.2 r.2 h.4)
      item_ready at d len g (foreach p m names body) t r h =
          each_ready (λ i. each_of_row p m names (λ inner. all_occur (shape_at f ns) inner body) (within p i at)) (slice_index ns p / m)
          (λ i lt. row_ready body (λ inner depth e k reads. all_ready inner depth e k body t.2 reads h.3) at d len g p m names t.1 r.1 i lt)
      item_ready at d len g (disable target) t r h = (record { small = g.small; guards = g.guards; fact = tt }, tt)
      item_ready at d len g (solve first later) t r h = tt

      all_ready : (at : Place) (d : ℕ) → d ≡ length at.env → PlaceIsReady at → (is : ItemTerms) → ItemsAreTyped is → ItemsCanRead a d is → ItemsAreIn f is → AllAreReady (all_occur (shape_at f ns) at is)
      all_ready at d len g no_items t r h = tt
      all_ready at d len g (more_items i is) t r h =
          ready_append (occur (shape_at f ns) at i) (all_occur (shape_at f ns) at is) (item_ready at d len g i t.0 r.0 h.0) (all_ready at d len g is t.1 r.1 h.1)

      else_ready : (at : Place) (d : ℕ) → d ≡ length at.env → PlaceIsReady at → (e : ElseTerm) → ElseIsTyped e → ElseCanRead a d e → ElseIsIn f e → AllAreReady (else_occur (shape_at f ns) at e)
      else_ready at d len g no_else t r h = tt
      else_ready at d len g (else_items is) t r h = all_ready at d len g is t r h

    pub active_ready : IsSound f → ItemsCanRead a 0 f.items → AllAreReady (active_at f ns)
    active_ready sound reads = all_ready outside 0 refl (record { small = tt; guards = tt }) f.items sound.typed reads sound.items
