-- Constraint items that stand in a class fit the frames of its objects, and of objects of classes that extend it.
use Rattle.std.proofs.Common.{◌≡◌, ◌<◌, ◌^◌, ℕ, ◌+◌, Bool, true, false, not, ◌&&◌, ◌||◌, refl, sym, ◌∙◌, ap, subst, List, [], ◌∷◌, length, Option, None, Some}
use Rattle.std.specs.Prelude.{slice_get, slice_index}
use Rattle.std.proofs.lemmas.Option.{slice_get_within}
use Rattle.svr_operator.specs.declared.Share.{Share}
use Rattle.svr_typed.specs.declared.Prop.{Prop}
use Rattle.svr_typed.specs.declared.EnumType.{EnumType}
use Rattle.svr_typed.specs.declared.TVar.{TVar}
use Rattle.svr_typed.specs.ExprTerm.{ExprTerm, typed, NodeTerm, number, prop, element, cell, size, script, loop_index, reduce, of_object, bit_select, part_select, unary, binary, choice, inside, join, copies, sign, ExprTerms, no_exprs, more_exprs, RangeTerm, one, span, RangeTerms, no_ranges, more_ranges, BoundTerm, value, dollar}
use Rattle.svr_typed.specs.ItemTerm.{DistTerm, ItemTerm, plain, unique, implies, branch, foreach, disable, solve, ItemTerms, no_items, more_items, ElseTerm, no_else, else_items}
use Rattle.svr_typed.specs.ClassTerm.{FlatTerm}
use Rattle.svr_eval.specs.declared.Assign.{Assign}
use Rattle.svr_eval.specs.Reading.{Reading, reading_of}
use Rattle.svr_eval.specs.Value.{size_of, sign_of}
use Rattle.svr_eval.specs.Typed.{CanRead, NodeCanRead, AllCanRead, RangesCanRead, RangeCanRead, BoundCanRead}
use Rattle.svr_eval.specs.Holds.{ItemsAreTyped, WeightCanRead, MembersCanRead, DistCanRead, ItemCanRead, ItemsCanRead, ElseCanRead}
use Rattle.svr_frame.specs.Frame.{FrameTerm, is_scalar_kind, inner_of, state_sizes}
use Rattle.svr_frame.specs.Frame as frame
use Rattle.svr_frame.specs.Reads.{property_read, is_size_read}
use Rattle.svr_frame.specs.Phases.{shape_at}
use Rattle.svr_frame.specs.Sound.{stands_still, is_of_state, HasType, ExprIsIn, NodeIsIn, ExprsAreIn, RangesAreIn, RangeIsIn, BoundIsIn, WeightIsIn, MembersAreIn, DistIsIn, TargetIsIn, has_disable, have_disable, else_has_disable, ItemIsIn, ItemsAreIn, ElseIsIn, TargetCanRead, TargetsCanRead, ElseTargetsCanRead}
use Rattle.svr_frame_laws.proofs.Unmentioned.{none_of}
use Rattle.svr_frame_of.specs.Callable.{widest, ItemsFit}
use Rattle.svr_design.specs.Types.{is_array, HasKind, VariableIs}
use Rattle.svr_design.specs.Mentions.{can_of, can_be_random, never, is_random, is_open, reads_cyclic, is_cyclic_one}
use Rattle.svr_design.specs.Constraints.{Stands, NodeStands, AllStand, RangesStand, RangeStands, MemberStands, BoundStands, AreMembers, AreUnique, IsTarget, WeightStands, DealtRange, AreDealt, DistStands, ItemStands, ItemsStand, ElseStands}
use Rattle.svr_run_laws.proofs.Ways.{by_way, and_false, or_ways, both_true}
use Rattle.svr_run_laws.proofs.Found.{mapped_at, scalar_there, array_there, some_array_there, rows_there, second_there, WholeArray, member_way}
use Rattle.svr_run_laws.proofs.Typing.{kind_array}
use Rattle.svr_run_laws.proofs.Quiet.{quiet}

-- ---- a `disable soft` stands under no guard that is open

module _ (f : FrameTerm) (ps : List Prop) (vs : List TVar) where
  mutual
    shut : (depth : ℕ) (opened cyclic : Bool) (i : ItemTerm) → ItemStands ps vs depth opened cyclic i → has_disable f i ≡ true → opened ≡ false
    shut depth opened cyclic (plain soft e ds) h k = cc
    shut depth opened cyclic (unique es) h k = cc
    shut depth opened cyclic (implies t is) h k = (none_of opened (is_open ps t) (all_shut depth (opened || is_open ps t) (cyclic || reads_cyclic ps t) is h.1 k)).0
    shut depth opened cyclic (branch t met unmet) h k =
        by_way (λ g. (none_of opened (is_open ps t) (all_shut depth (opened || is_open ps t) (cyclic || reads_cyclic ps t) met h.1 g)).0)
        (λ g. (none_of opened (is_open ps t) (else_shut depth (opened || is_open ps t) (cyclic || reads_cyclic ps t) unmet h.2 g)).0)
        (or_ways (have_disable f met) (else_has_disable f unmet) k)
    shut depth opened cyclic (foreach p m names is) h k = all_shut (depth + names) opened (cyclic || is_cyclic_one ps p) is h.3 k
    shut depth opened cyclic (disable e) h k = h.1
    shut depth opened cyclic (solve xs ys) h k = cc

    all_shut : (depth : ℕ) (opened cyclic : Bool) (is : ItemTerms) → ItemsStand ps vs depth opened cyclic is → have_disable f is ≡ true → opened ≡ false
    all_shut depth opened cyclic no_items h k = cc
    all_shut depth opened cyclic (more_items i is) h k = by_way (shut depth opened cyclic i h.0) (all_shut depth opened cyclic is h.1) (or_ways (has_disable f i) (have_disable f is) k)

    else_shut : (depth : ℕ) (opened cyclic : Bool) (e : ElseTerm) → ElseStands ps vs depth opened cyclic e → else_has_disable f e ≡ true → opened ≡ false
    else_shut depth opened cyclic no_else h k = cc
    else_shut depth opened cyclic (else_items is) h k = all_shut depth opened cyclic is h k

-- `ps` are the properties where the items stand, and those of the frame's class go on from them. What the state has fits.
module _ (ps : List Prop) (vs : List TVar) (class : FlatTerm) (enums : List EnumType) (state : Assign) (same : (p : ℕ) (x : Prop) → slice_get ps p ≡ Some x → slice_get class.props p ≡ Some x) (of_width : (p : ℕ) (x : Prop) → slice_get class.props p ≡ Some x → (i : ℕ) → (reading_of state).element p i < 2 ^ x.kind.width) (of_length : (p : ℕ) → slice_index state.sizes p < 2 ^ 32) (of_script : (v w : ℕ) (s : Bool) → VariableIs (slice_get vs v) w s → (v < length state.script) × (slice_index state.script v < 2 ^ w)) where
  abbrev pub f : FrameTerm
  f = widest class enums state

  abbrev pub a : Reading
  a = reading_of state

  -- ---- a property

  within : (p : ℕ) (x : Prop) → slice_get ps p ≡ Some x → p < length class.props
  within p x at = slice_get_within class.props p x (same p x at)

  has_type : (p : ℕ) (x : Prop) (w : ℕ) (s : Bool) → slice_get ps p ≡ Some x → HasKind x.kind w s → HasType f p w s
  has_type p x w s at k = (
    within p x at,
    sym (mapped_at (λ (y : Prop). y.kind.width) 0 class.props p x (same p x at) ∙ k.0),
    sym (mapped_at (λ (y : Prop). y.kind.signed) false class.props p x (same p x at) ∙ k.1),
  )

  array_is : (p : ℕ) (x : Prop) → slice_get ps p ≡ Some x → frame.is_array f p ≡ is_array x.array
  array_is p x at = ap not (mapped_at (λ (y : Prop). is_scalar_kind y.array) false class.props p x (same p x at)) ∙ kind_array x.array

  below : (p : ℕ) (x : Prop) (w : ℕ) (s : Bool) → slice_get ps p ≡ Some x → HasKind x.kind w s → (i : ℕ) → a.element p i < 2 ^ w
  below p x w s at k i = subst (λ (n : ℕ). a.element p i < 2 ^ n) k.0 (of_width p x (same p x at) i)

  inner_is : (p : ℕ) (x : Prop) (m : ℕ) → slice_get ps p ≡ Some x → x.inner ≡ m → m ≡ inner_of f p
  inner_is p x m at h = sym (mapped_at (λ (y : Prop). y.inner) 1 class.props p x (same p x at) ∙ h)

  not_random : (p : ℕ) (x : Prop) → slice_get ps p ≡ Some x → can_be_random ps p ≡ false → frame.is_random f p ≡ false
  not_random p x at h = mapped_at (λ (y : Prop). y.can) false class.props p x (same p x at) ∙ sym (ap can_of at) ∙ h

  -- ---- what mentions nothing that can be random

  of_state : (depth : ℕ) (e : ExprTerm) → Stands ps vs depth e → is_open ps e ≡ false → is_of_state f e ≡ true
  of_state depth e h k =
      ap not
      (quiet ps vs (shape_at f (state_sizes f)) (λ r. frame.is_random f (property_read r)) (can_be_random ps) (can_be_random ps)
      (λ p x at g r is. ap (frame.is_random f) is ∙ not_random p x at g) (λ p x at g. not_random p x at g) depth [] e h k)

  still : (depth : ℕ) (e : ExprTerm) → Stands ps vs depth e → is_random ps e ≡ false → stands_still f e ≡ true
  still depth e h k =
      ap not
      (quiet ps vs (shape_at f (state_sizes f)) (λ r. not (is_size_read r) && frame.is_random f (property_read r)) (can_be_random ps) never
      (λ p x at g r is. and_false (not (is_size_read r)) (frame.is_random f (property_read r)) (ap (frame.is_random f) is ∙ not_random p x at g)) (λ p x at g. refl) depth [] e h k)

  -- ---- expressions

  wider : (w : ℕ) (s : Bool) (n : NodeTerm) → NodeIsIn f false w s n → NodeIsIn f true w s n
  wider w s (number v every) h = h
  wider w s (prop p) h = (h.0, λ e. refl)
  wider w s (element p i) h = h
  wider w s (cell p m i j) h = h
  wider w s (size p m) h = h
  wider w s (script v) h = h
  wider w s (loop_index k) h = h
  wider w s (reduce p op body) h = h
  wider w s (of_object o e) h = h
  wider w s (bit_select x i low) h = h
  wider w s (part_select x b c low) h = h
  wider w s (unary op x) h = h
  wider w s (binary op x y) h = h
  wider w s (choice t x y) h = h
  wider w s (inside x rs) h = h
  wider w s (join xs) h = h
  wider w s (copies n xs) h = h
  wider w s (sign t x) h = h

  abbrev Fits : Bool → ℕ → ExprTerm → Type 0
  Fits whole depth e = ExprIsIn f whole e × CanRead a depth e

  abbrev NodeFits : Bool → ℕ → ℕ → Bool → NodeTerm → Type 0
  NodeFits whole depth w s n = NodeIsIn f whole w s n × NodeCanRead a depth w n

  plain_fits : (depth w p : ℕ) (s : Bool) (x : Prop) → slice_get ps p ≡ Some x → HasKind x.kind w s → NodeFits true depth w s (prop p)
  plain_fits depth w p s x at k = ((has_type p x w s at k, λ e. refl), below p x w s at k)

  whole_fits : (depth w : ℕ) (s : Bool) (n : NodeTerm) → WholeArray ps vs w s n → NodeFits true depth w s n
  whole_fits depth w s n h =
      let x = array_there (slice_get ps h.0) w s h.2 in
      subst (λ (m : NodeTerm). NodeFits true depth w s m) (sym h.1) (plain_fits depth w h.0 s x.0 x.1 x.3)

  mutual
    fits : (depth : ℕ) (e : ExprTerm) → Stands ps vs depth e → Fits false depth e
    fits depth (typed w s n) h = node_fits depth w s n h

    node_fits : (depth w : ℕ) (s : Bool) (n : NodeTerm) → NodeStands ps vs depth w s n → NodeFits false depth w s n
    node_fits depth w s (number v every) h = (tt, tt)
    node_fits depth w s (prop p) h = let x = scalar_there (slice_get ps p) w s h in ((has_type p x.0 w s x.1 x.3, λ e. sym (array_is p x.0 x.1 ∙ x.2) ∙ e), below p x.0 w s x.1 x.3)
    node_fits depth w s (element p i) h =
        let x = array_there (slice_get ps p) w s h.0 in
        let r = fits depth i h.2 in
        ((has_type p x.0 w s x.1 x.3, array_is p x.0 x.1 ∙ x.2, r.0), (r.1, below p x.0 w s x.1 x.3))
    node_fits depth w s (cell p m i j) h =
        let x = rows_there (slice_get ps p) m w s h.0 in
        let r = fits depth i h.1 in
        let t = fits depth j h.2 in
        ((has_type p x.0 w s x.1 x.4, array_is p x.0 x.1 ∙ x.2, inner_is p x.0 m x.1 x.3, r.0, t.0), (r.1, t.1, below p x.0 w s x.1 x.4))
    node_fits depth w s (size p m) h = let x = second_there (slice_get ps p) m h in ((within p x.0 x.1, array_is p x.0 x.1 ∙ x.2, inner_is p x.0 m x.1 x.3), of_length p)
    node_fits depth w s (script v) h = let r = of_script v w s h in (r.0, r.1)
    node_fits depth w s (loop_index k) h = (tt, h)
    node_fits depth w s (reduce p op body) h =
        let x = some_array_there (slice_get ps p) h.1 in
        let r = fits (depth + 1) body h.2 in
        ((within p x.0 x.1, array_is p x.0 x.1 ∙ x.2, r.0), (h.0, r.1))
    node_fits depth w s (of_object o e) h = absurd h
    node_fits depth w s (bit_select x i low) h =
        let r = fits depth x h.0 in
        let t = fits depth i h.2 in
        ((r.0, t.0, still depth i h.2 h.3), (r.1, t.1))
    node_fits depth w s (part_select x b c low) h =
        let r = fits depth x h.0 in
        let t = fits depth b h.2 in
        let u = fits depth c h.3 in
        ((r.0, t.0, u.0), (r.1, t.1, u.1))
    node_fits depth w s (unary op x) h = fits depth x h
    node_fits depth w s (binary op x y) h =
        let r = fits depth x h.0 in
        let t = fits depth y h.1 in
        ((r.0, t.0), (r.1, t.1))
    node_fits depth w s (choice t x y) h =
        let r = fits depth t h.0 in
        let q = fits depth x h.1 in
        let u = fits depth y h.2 in
        ((r.0, q.0, u.0), (r.1, q.1, u.1))
    node_fits depth w s (inside x rs) h =
        let r = fits depth x h.0 in
        let t = ranges_fit depth rs h.1 in
        ((r.0, t.0), (r.1, t.1))
    node_fits depth w s (join xs) h = all_fit depth xs h
    node_fits depth w s (copies n xs) h =
        let r = fits depth n h.0 in
        let t = all_fit depth xs h.1 in
        ((r.0, t.0), (r.1, t.1))
    node_fits depth w s (sign t x) h = fits depth x h

    all_fit : (depth : ℕ) (es : ExprTerms) → AllStand ps vs depth es → ExprsAreIn f false es × AllCanRead a depth es
    all_fit depth no_exprs h = (tt, tt)
    all_fit depth (more_exprs e es) h =
        let r = fits depth e h.0 in
        let t = all_fit depth es h.1 in
        ((r.0, t.0), (r.1, t.1))

    ranges_fit : (depth : ℕ) (rs : RangeTerms) → RangesStand ps vs depth rs → RangesAreIn f rs × RangesCanRead a depth rs
    ranges_fit depth no_ranges h = (tt, tt)
    ranges_fit depth (more_ranges r rs) h =
        let x = range_fits depth r h.0 in
        let t = ranges_fit depth rs h.1 in
        ((x.0, t.0), (x.1, t.1))

    range_fits : (depth : ℕ) (r : RangeTerm) → RangeStands ps vs depth r → RangeIsIn f true r × RangeCanRead a depth r
    range_fits depth (one e) h = member_fits depth e h
    range_fits depth (span low high) h =
        let r = bound_fits depth low h.0 in
        let t = bound_fits depth high h.1 in
        ((r.0, t.0), (r.1, t.1))

    member_fits : (depth : ℕ) (e : ExprTerm) → MemberStands ps vs depth e → Fits true depth e
    member_fits depth (typed w s n) h = by_way (λ g. let r = node_fits depth w s n g in (wider w s n r.0, r.1)) (whole_fits depth w s n) (member_way ps vs depth w s n h)

    bound_fits : (depth : ℕ) (b : BoundTerm) → BoundStands ps vs depth b → BoundIsIn f b × BoundCanRead a depth b
    bound_fits depth (value e) h = fits depth e h
    bound_fits depth dollar h = (tt, tt)

  -- ---- distributions, members and targets

  weight_fits : (depth : ℕ) (w : Option (Share × ExprTerm)) → WeightStands ps vs depth w → WeightIsIn f w × WeightCanRead a depth w
  weight_fits depth None h = (tt, tt)
  weight_fits depth (Some w) h = let r = fits depth w.1 h.0 in ((r.0, of_state depth w.1 h.0 h.1), r.1)

  dealt_fits : (depth : ℕ) (r : RangeTerm) → DealtRange ps vs depth r → RangeIsIn f false r × RangeCanRead a depth r
  dealt_fits depth (one e) h = fits depth e h
  dealt_fits depth (span low high) h =
      let r = bound_fits depth low h.0 in
      let t = bound_fits depth high h.1 in
      ((r.0, t.0), (r.1, t.1))

  all_dealt_fit : (depth : ℕ) (ds : List DistTerm) → AreDealt ps vs depth ds → MembersAreIn f ds × MembersCanRead a depth ds
  all_dealt_fit depth [] h = (tt, tt)
  all_dealt_fit depth (d ∷ ds) h =
      let r = dealt_fits depth d.range h.0 in
      let w = weight_fits depth d.weight h.1 in
      let t = all_dealt_fit depth ds h.2 in
      ((r.0, w.0, t.0), (r.1, w.1, t.1))

  dist_fits : (depth : ℕ) (e : ExprTerm) (ds : Option (List DistTerm)) → DistStands ps vs depth e ds → DistIsIn f ds × DistCanRead a depth ds
  dist_fits depth e None h = (tt, tt)
  dist_fits depth e (Some ds) h = all_dealt_fit depth ds h.0

  members_fit : (depth w : ℕ) (s : Bool) (es : ExprTerms) → AreMembers ps vs depth w s es → ExprsAreIn f true es × AllCanRead a depth es
  members_fit depth w s no_exprs h = (tt, tt)
  members_fit depth w s (more_exprs e es) h =
      let r = member_fits depth e h.0 in
      let t = members_fit depth w s es h.4 in
      ((r.0, t.0), (r.1, t.1))

  unique_fit : (depth : ℕ) (es : ExprTerms) → AreUnique ps vs depth es → ExprsAreIn f true es × AllCanRead a depth es
  unique_fit depth no_exprs h = (tt, tt)
  unique_fit depth (more_exprs e es) h = members_fit depth (size_of e) (sign_of e) (more_exprs e es) h

  target_fits : (depth : ℕ) (e : ExprTerm) → IsTarget ps vs depth e → TargetIsIn f e × CanRead a depth e
  target_fits depth (typed w s (number v every)) h = absurd h
  target_fits depth (typed w s (prop p)) h = let r = member_fits depth (typed w s (prop p)) h in ((r.0, refl), r.1)
  target_fits depth (typed w s (element p i)) h =
      let r = node_fits depth w s (element p i) h.0 in
      ((r.0, still depth i h.0.2 h.1), r.1)
  target_fits depth (typed w s (cell p m i j)) h =
      let r = node_fits depth w s (cell p m i j) h.0 in
      ((r.0, both_true (stands_still f i) (stands_still f j) (still depth i h.0.1 h.1) (still depth j h.0.2 h.2)), r.1)
  target_fits depth (typed w s (size p m)) h = absurd h
  target_fits depth (typed w s (script v)) h = absurd h
  target_fits depth (typed w s (loop_index k)) h = absurd h
  target_fits depth (typed w s (reduce p op body)) h = absurd h
  target_fits depth (typed w s (of_object o e)) h = absurd h
  target_fits depth (typed w s (bit_select x i low)) h = absurd h
  target_fits depth (typed w s (part_select x b c low)) h = absurd h
  target_fits depth (typed w s (unary op x)) h = absurd h
  target_fits depth (typed w s (binary op x y)) h = absurd h
  target_fits depth (typed w s (choice t x y)) h = absurd h
  target_fits depth (typed w s (inside x rs)) h = absurd h
  target_fits depth (typed w s (join xs)) h = absurd h
  target_fits depth (typed w s (copies n xs)) h = absurd h
  target_fits depth (typed w s (sign t x)) h = absurd h

  -- ---- items

  -- a guard around a `disable soft` is one of the state
  guard_still : (depth : ℕ) (opened : Bool) (t : ExprTerm) → Stands ps vs depth t → (opened || is_open ps t) ≡ false → is_of_state f t ≡ true
  guard_still depth opened t h k = of_state depth t h (none_of opened (is_open ps t) k).1

  mutual
    item_fits : (depth : ℕ) (opened cyclic : Bool) (i : ItemTerm) → ItemStands ps vs depth opened cyclic i → ItemIsIn f i × ItemCanRead a depth i × TargetCanRead a depth i
    item_fits depth opened cyclic (plain soft e ds) h =
        let r = fits depth e h.0 in
        let d = dist_fits depth e ds h.1 in
        ((r.0, d.0), (r.1, d.1), tt)
    item_fits depth opened cyclic (unique es) h = let r = unique_fit depth es h in (r.0, r.1, tt)
    item_fits depth opened cyclic (implies t is) h =
        let r = fits depth t h.0 in
        let b = items_fit depth (opened || is_open ps t) (cyclic || reads_cyclic ps t) is h.1 in
        ((r.0, (λ k. guard_still depth opened t h.0 (all_shut f ps vs depth (opened || is_open ps t) (cyclic || reads_cyclic ps t) is h.1 k)), b.0), (r.1, b.1), b.2)
    item_fits depth opened cyclic (branch t met unmet) h =
        let r = fits depth t h.0 in
        let b = items_fit depth (opened || is_open ps t) (cyclic || reads_cyclic ps t) met h.1 in
        let c = else_fits depth (opened || is_open ps t) (cyclic || reads_cyclic ps t) unmet h.2 in (
          (
            r.0,
            (λ k. guard_still depth opened t h.0 (all_shut f ps vs depth (opened || is_open ps t) (cyclic || reads_cyclic ps t) met h.1 k)),
            (λ k. guard_still depth opened t h.0 (else_shut f ps vs depth (opened || is_open ps t) (cyclic || reads_cyclic ps t) unmet h.2 k)),
            b.0,
            c.0,
          ),
          (r.1, b.1, c.1),
          (b.2, c.2),
        )
    item_fits depth opened cyclic (foreach p m names is) h =
        let x = second_there (slice_get ps p) m h.0 in
        let b = items_fit (depth + names) opened (cyclic || is_cyclic_one ps p) is h.3 in
        ((within p x.0 x.1, array_is p x.0 x.1 ∙ x.2, inner_is p x.0 m x.1 x.3, b.0), (h.2, b.1), b.2)
    item_fits depth opened cyclic (disable e) h = let r = target_fits depth e h.0 in (r.0, tt, r.1)
    item_fits depth opened cyclic (solve xs ys) h = (tt, tt, tt)

    items_fit : (depth : ℕ) (opened cyclic : Bool) (is : ItemTerms) → ItemsStand ps vs depth opened cyclic is → ItemsAreIn f is × ItemsCanRead a depth is × TargetsCanRead a depth is
    items_fit depth opened cyclic no_items h = (tt, tt, tt)
    items_fit depth opened cyclic (more_items i is) h =
        let r = item_fits depth opened cyclic i h.0 in
        let t = items_fit depth opened cyclic is h.1 in
        ((r.0, t.0), (r.1, t.1), (r.2, t.2))

    else_fits : (depth : ℕ) (opened cyclic : Bool) (e : ElseTerm) → ElseStands ps vs depth opened cyclic e → ElseIsIn f e × ElseCanRead a depth e × ElseTargetsCanRead a depth e
    else_fits depth opened cyclic no_else h = (tt, tt, tt)
    else_fits depth opened cyclic (else_items is) h = items_fit depth opened cyclic is h

  pub all_items_fit : (is : ItemTerms) → ItemsAreTyped is → ItemsStand ps vs 0 false false is → ItemsFit f is
  all_items_fit is own h = let r = items_fit 0 false false is h in record { typed = own; read = r.1; targets = r.2; inside = r.0 }
