-- Items fit a frame in which fewer properties are random.
use Rattle.std.proofs.Common.{◌≡◌, ℕ, Bool, true, false, not, ◌&&◌, ◌||◌, refl, List, [], ◌∷◌, Option, None, Some}
use Rattle.std.specs.Prelude.{slice_index_or}
use Rattle.std.specs.List.{list_any}
use Rattle.std.proofs.lemmas.Bool.{and_parts, false≢true}
use Rattle.svr_operator.specs.declared.Share.{Share}
use Rattle.svr_typed.specs.declared.class.EnumType.{EnumType}
use Rattle.svr_typed.specs.ExprTerm.{ExprTerm, typed, NodeTerm, number, prop, element, cell, size, script, loop_index, reduce, of_object, bit_select, part_select, unary, binary, choice, inside, join, copies, sign, ExprTerms, no_exprs, more_exprs, RangeTerm, one, span, RangeTerms, no_ranges, more_ranges, BoundTerm, value, dollar}
use Rattle.svr_typed.specs.ItemTerm.{DistTerm, ItemTerm, plain, unique, implies, branch, foreach, disable, solve, ItemTerms, no_items, more_items, ElseTerm, no_else, else_items}
use Rattle.svr_typed.specs.ClassTerm.{FlatTerm}
use Rattle.svr_eval.specs.declared.assign.Assign.{Assign}
use Rattle.svr_frame.specs.Frame.{FrameTerm, is_random}
use Rattle.svr_frame.specs.Reads.{Read, property_read, is_size_read}
use Rattle.svr_frame.specs.Sound.{reads_in, stands_still, is_of_state, node_stands_still, ExprIsIn, NodeIsIn, ExprsAreIn, RangesAreIn, RangeIsIn, BoundIsIn, WeightIsIn, MembersAreIn, DistIsIn, TargetIsIn, ItemIsIn, ItemsAreIn, ElseIsIn}

-- ---- tests that pass for more

or_more : (b c d e : Bool) → (b ≡ true → d ≡ true) → (c ≡ true → e ≡ true) → (b || c) ≡ true → (d || e) ≡ true
or_more true c d e h k t = or_left d e (h refl)
  where
    or_left : (x y : Bool) → x ≡ true → (x || y) ≡ true
    or_left true y t = refl
    or_left false y t = cc
or_more false c true e h k t = refl
or_more false c false e h k t = k t

any_more : (s t : Read → Bool) → ((r : Read) → s r ≡ true → t r ≡ true) → (rs : List Read) → list_any s rs ≡ true → list_any t rs ≡ true
any_more s t h [] k = k
any_more s t h (r ∷ rs) k = or_more (s r) (list_any s rs) (t r) (list_any t rs) (h r) (any_more s t h rs) k

not_more : (b c : Bool) → (b ≡ true → c ≡ true) → not c ≡ true → not b ≡ true
not_more true true h k = k
not_more true false h k = absurd (false≢true (h refl))
not_more false c h k = refl

and_more : (b c d : Bool) → (c ≡ true → d ≡ true) → (b && c) ≡ true → (b && d) ≡ true
and_more true c d h k = h k
and_more false c d h k = k

both_more : (b c d e : Bool) → (b ≡ true → d ≡ true) → (c ≡ true → e ≡ true) → (b && c) ≡ true → (d && e) ≡ true
both_more b c true true h k t = refl
both_more b c true false h k t = k (and_parts b c t).1
both_more b c false e h k t = h (and_parts b c t).0

module _ (class : FlatTerm) (enums : List EnumType) (state : Assign) (wide few : List Bool) (free : List Bool) (its : ItemTerms) (fewer : (p : ℕ) → slice_index_or few p false ≡ true → slice_index_or wide p false ≡ true) where
  abbrev pub g : FrameTerm
  g = record { class = class; enums = enums; state = state; random = wide; free_size = []; items = no_items }

  abbrev pub f : FrameTerm
  f = record { class = class; enums = enums; state = state; random = few; free_size = free; items = its }

  still : (e : ExprTerm) → stands_still g e ≡ true → stands_still f e ≡ true
  still e h =
      not_more (list_any (λ r. not (is_size_read r) && is_random f (property_read r)) (reads_in f e)) (list_any (λ r. not (is_size_read r) && is_random g (property_read r)) (reads_in g e))
      (any_more (λ r. not (is_size_read r) && is_random f (property_read r)) (λ r. not (is_size_read r) && is_random g (property_read r))
      (λ r. and_more (not (is_size_read r)) (is_random f (property_read r)) (is_random g (property_read r)) (fewer (property_read r))) (reads_in f e)) h

  of_state : (e : ExprTerm) → is_of_state g e ≡ true → is_of_state f e ≡ true
  of_state e h =
      not_more (list_any (λ r. is_random f (property_read r)) (reads_in f e)) (list_any (λ r. is_random g (property_read r)) (reads_in g e))
      (any_more (λ r. is_random f (property_read r)) (λ r. is_random g (property_read r)) (λ r. fewer (property_read r)) (reads_in f e)) h

  mutual
    expr_in : (whole : Bool) (e : ExprTerm) → ExprIsIn g whole e → ExprIsIn f whole e
    expr_in whole (typed w s n) h = node_in whole w s n h

    node_in : (whole : Bool) (w : ℕ) (s : Bool) (n : NodeTerm) → NodeIsIn g whole w s n → NodeIsIn f whole w s n
    node_in whole w s (number v every) h = tt
    node_in whole w s (prop p) h = h
    node_in whole w s (element p e) h = (h.0, h.1, expr_in false e h.2)
    node_in whole w s (cell p m first second) h = (h.0, h.1, h.2, expr_in false first h.3, expr_in false second h.4)
    node_in whole w s (size p m) h = h
    node_in whole w s (script v) h = h
    node_in whole w s (loop_index k) h = tt
    node_in whole w s (reduce p op body) h = (h.0, h.1, expr_in false body h.2)
    node_in whole w s (of_object o e) h = h
    node_in whole w s (bit_select base first low) h = (expr_in false base h.0, expr_in false first h.1, still first h.2)
    node_in whole w s (part_select base first last low) h = (expr_in false base h.0, expr_in false first h.1, expr_in false last h.2)
    node_in whole w s (unary op e) h = expr_in false e h
    node_in whole w s (binary op l r) h = (expr_in false l h.0, expr_in false r h.1)
    node_in whole w s (choice t met unmet) h = (expr_in false t h.0, expr_in false met h.1, expr_in false unmet h.2)
    node_in whole w s (inside l rs) h = (expr_in false l h.0, ranges_in rs h.1)
    node_in whole w s (join parts) h = exprs_in false parts h
    node_in whole w s (copies count parts) h = (expr_in false count h.0, exprs_in false parts h.1)
    node_in whole w s (sign as_signed e) h = expr_in false e h

    exprs_in : (whole : Bool) (es : ExprTerms) → ExprsAreIn g whole es → ExprsAreIn f whole es
    exprs_in whole no_exprs h = tt
    exprs_in whole (more_exprs e es) h = (expr_in whole e h.0, exprs_in whole es h.1)

    ranges_in : (rs : RangeTerms) → RangesAreIn g rs → RangesAreIn f rs
    ranges_in no_ranges h = tt
    ranges_in (more_ranges r rs) h = (range_in true r h.0, ranges_in rs h.1)

    range_in : (whole : Bool) (r : RangeTerm) → RangeIsIn g whole r → RangeIsIn f whole r
    range_in whole (one e) h = expr_in whole e h
    range_in whole (span low high) h = (bound_in low h.0, bound_in high h.1)

    bound_in : (b : BoundTerm) → BoundIsIn g b → BoundIsIn f b
    bound_in (value e) h = expr_in false e h
    bound_in dollar h = tt

  weight_in : (w : Option (Share × ExprTerm)) → WeightIsIn g w → WeightIsIn f w
  weight_in None h = tt
  weight_in (Some w) h = (expr_in false w.1 h.0, of_state w.1 h.1)

  members_in : (ds : List DistTerm) → MembersAreIn g ds → MembersAreIn f ds
  members_in [] h = tt
  members_in (d ∷ ds) h = (range_in false d.range h.0, weight_in d.weight h.1, members_in ds h.2)

  dist_in : (d : Option (List DistTerm)) → DistIsIn g d → DistIsIn f d
  dist_in None h = tt
  dist_in (Some ds) h = members_in ds h

  node_still : (n : NodeTerm) → node_stands_still g n ≡ true → node_stands_still f n ≡ true
  node_still (number v every) h = refl
  node_still (prop p) h = refl
  node_still (element p e) h = still e h
  node_still (cell p m first second) h = both_more (stands_still g first) (stands_still g second) (stands_still f first) (stands_still f second) (still first) (still second) h
  node_still (size p m) h = refl
  node_still (script v) h = refl
  node_still (loop_index k) h = refl
  node_still (reduce p op body) h = refl
  node_still (of_object o e) h = refl
  node_still (bit_select base first low) h = refl
  node_still (part_select base first last low) h = refl
  node_still (unary op e) h = refl
  node_still (binary op l r) h = refl
  node_still (choice t met unmet) h = refl
  node_still (inside l rs) h = refl
  node_still (join parts) h = refl
  node_still (copies count parts) h = refl
  node_still (sign as_signed e) h = refl

  target_in : (e : ExprTerm) → TargetIsIn g e → TargetIsIn f e
  target_in (typed w s n) h = (node_in true w s n h.0, node_still n h.1)

  mutual
    item_in : (i : ItemTerm) → ItemIsIn g i → ItemIsIn f i
    item_in (plain soft e dist) h = (expr_in false e h.0, dist_in dist h.1)
    item_in (unique es) h = exprs_in true es h
    item_in (implies t body) h = (expr_in false t h.0, (λ k. of_state t (h.1 k)), items_in body h.2)
    item_in (branch t met unmet) h = (expr_in false t h.0, (λ k. of_state t (h.1 k)), (λ k. of_state t (h.2 k)), items_in met h.3, else_in unmet h.4)
    item_in (foreach p m names body) h = (h.0, h.1, h.2, items_in body h.3)
    item_in (disable target) h = target_in target h
    item_in (solve first later) h = tt

    pub items_in : (is : ItemTerms) → ItemsAreIn g is → ItemsAreIn f is
    items_in no_items h = tt
    items_in (more_items i is) h = (item_in i h.0, items_in is h.1)

    else_in : (e : ElseTerm) → ElseIsIn g e → ElseIsIn f e
    else_in no_else h = tt
    else_in (else_items is) h = items_in is h
