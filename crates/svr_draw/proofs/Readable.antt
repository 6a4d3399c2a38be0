-- The items of a sound frame can be read in each reading whose numbers are of their properties' types.
use Rattle.std.proofs.Common.{◌≡◌, ◌<◌, ◌≤◌, ◌^◌, ℕ, ◌+◌, Bool, true, false, refl, sym, subst, List, [], ◌∷◌, Option, None, Some, arith}
use Rattle.std.specs.Prelude.{slice_index, nat_lt, if◌then◌else◌}
use Rattle.svr_operator.specs.declared.Share.{Share}
use Rattle.svr_typed.specs.ExprTerm.{ExprTerm, typed, NodeTerm, number, prop, element, cell, size, script, loop_index, reduce, of_object, bit_select, part_select, unary, binary, choice, inside, join, copies, sign, ExprTerms, no_exprs, more_exprs, RangeTerm, one, span, RangeTerms, no_ranges, more_ranges, BoundTerm, value, dollar}
use Rattle.svr_typed.specs.ItemTerm.{DistTerm, ItemTerm, plain, unique, implies, branch, foreach, disable, solve, ItemTerms, no_items, more_items, ElseTerm, no_else, else_items}
use Rattle.svr_eval.specs.Reading.{Reading, reading_of}
use Rattle.svr_eval.specs.Typed.{CanRead, NodeCanRead, AllCanRead, RangesCanRead, RangeCanRead, BoundCanRead}
use Rattle.svr_eval.specs.Holds.{WeightCanRead, MembersCanRead, DistCanRead, ItemCanRead, ItemsCanRead, ElseCanRead}
use Rattle.svr_frame.specs.Frame.{FrameTerm, width_of, state_at}
use Rattle.svr_frame.specs.Sound.{HasType, ExprIsIn, NodeIsIn, ExprsAreIn, RangesAreIn, RangeIsIn, BoundIsIn, WeightIsIn, MembersAreIn, DistIsIn, ItemIsIn, ItemsAreIn, ElseIsIn, IsSound, SizesFit}

-- each number is of its property's type, sizes are below the limit of an int, and the script's variables are as in the state
pub record IsOfTypes (f : FrameTerm) (a : Reading) : Type 0 where
  pub numbers : (p i : ℕ) → a.element p i < 2 ^ width_of f p
  pub sizes : (p : ℕ) → a.size p < 2 ^ 32
  pub script : (v : ℕ) → a.script v ≡ (reading_of f.state).script v

module _ (f : FrameTerm) (a : Reading) (is : IsOfTypes f a) where
  of_type : (p w : ℕ) (s : Bool) → HasType f p w s → (i : ℕ) → a.element p i < 2 ^ w
  of_type p w s h i = subst (λ (v : ℕ). a.element p i < 2 ^ v) (sym h.1) (is.numbers p i)

  mutual
    can_read : (depth : ℕ) (whole : Bool) (e : ExprTerm) → ExprIsIn f whole e → CanRead (reading_of f.state) depth e → CanRead a depth e
    can_read depth whole (typed w s n) h k = node_can_read depth whole w s n h k

    node_can_read : (depth : ℕ) (whole : Bool) (w : ℕ) (s : Bool) (n : NodeTerm) → NodeIsIn f whole w s n → NodeCanRead (reading_of f.state) depth w n → NodeCanRead a depth w n
    node_can_read depth whole w s (number v every) h k = tt
    node_can_read depth whole w s (prop p) h k = of_type p w s h.0
    node_can_read depth whole w s (element p e) h k = (can_read depth false e h.2 k.0, of_type p w s h.0)
    node_can_read depth whole w s (cell p m first second) h k = (can_read depth false first h.3 k.0, can_read depth false second h.4 k.1, of_type p w s h.0)
    node_can_read depth whole w s (size p m) h k = is.sizes p
    node_can_read depth whole w s (script v) h k = subst (λ (x : ℕ). x < 2 ^ w) (sym (is.script v)) k
    node_can_read depth whole w s (loop_index i) h k = k
    node_can_read depth whole w s (reduce p op body) h k = (k.0, can_read (depth + 1) false body h.2 k.1)
    node_can_read depth whole w s (of_object o e) h k = absurd h
    node_can_read depth whole w s (bit_select base first low) h k = (can_read depth false base h.0 k.0, can_read depth false first h.1 k.1)
    node_can_read depth whole w s (part_select base first last low) h k = (can_read depth false base h.0 k.0, can_read depth false first h.1 k.1, can_read depth false last h.2 k.2)
    node_can_read depth whole w s (unary op e) h k = can_read depth false e h k
    node_can_read depth whole w s (binary op l r) h k = (can_read depth false l h.0 k.0, can_read depth false r h.1 k.1)
    node_can_read depth whole w s (choice t met unmet) h k = (can_read depth false t h.0 k.0, can_read depth false met h.1 k.1, can_read depth false unmet h.2 k.2)
    node_can_read depth whole w s (inside l rs) h k = (can_read depth false l h.0 k.0, ranges_can_read depth rs h.1 k.1)
    node_can_read depth whole w s (join parts) h k = exprs_can_read depth false parts h k
    node_can_read depth whole w s (copies count parts) h k = (can_read depth false count h.0 k.0, exprs_can_read depth false parts h.1 k.1)
    node_can_read depth whole w s (sign as_signed e) h k = can_read depth false e h k

    exprs_can_read : (depth : ℕ) (whole : Bool) (es : ExprTerms) → ExprsAreIn f whole es → AllCanRead (reading_of f.state) depth es → AllCanRead a depth es
    exprs_can_read depth whole no_exprs h k = tt
    exprs_can_read depth whole (more_exprs e es) h k = (can_read depth whole e h.0 k.0, exprs_can_read depth whole es h.1 k.1)

    ranges_can_read : (depth : ℕ) (rs : RangeTerms) → RangesAreIn f rs → RangesCanRead (reading_of f.state) depth rs → RangesCanRead a depth rs
    ranges_can_read depth no_ranges h k = tt
    ranges_can_read depth (more_ranges r rs) h k = (range_can_read depth true r h.0 k.0, ranges_can_read depth rs h.1 k.1)

    range_can_read : (depth : ℕ) (whole : Bool) (r : RangeTerm) → RangeIsIn f whole r → RangeCanRead (reading_of f.state) depth r → RangeCanRead a depth r
    range_can_read depth whole (one e) h k = can_read depth whole e h k
    range_can_read depth whole (span low high) h k = (bound_can_read depth low h.0 k.0, bound_can_read depth high h.1 k.1)

    bound_can_read : (depth : ℕ) (b : BoundTerm) → BoundIsIn f b → BoundCanRead (reading_of f.state) depth b → BoundCanRead a depth b
    bound_can_read depth (value e) h k = can_read depth false e h k
    bound_can_read depth dollar h k = tt

  weight_can_read : (depth : ℕ) (w : Option (Share × ExprTerm)) → WeightIsIn f w → WeightCanRead (reading_of f.state) depth w → WeightCanRead a depth w
  weight_can_read depth None h k = tt
  weight_can_read depth (Some w) h k = can_read depth false w.1 h.0 k

  members_can_read : (depth : ℕ) (ds : List DistTerm) → MembersAreIn f ds → MembersCanRead (reading_of f.state) depth ds → MembersCanRead a depth ds
  members_can_read depth [] h k = tt
  members_can_read depth (d ∷ ds) h k = (range_can_read depth false d.range h.0 k.0, weight_can_read depth d.weight h.1 k.1, members_can_read depth ds h.2 k.2)

  dist_can_read : (depth : ℕ) (d : Option (List DistTerm)) → DistIsIn f d → DistCanRead (reading_of f.state) depth d → DistCanRead a depth d
  dist_can_read depth None h k = tt
  dist_can_read depth (Some ds) h k = members_can_read depth ds h k

  mutual
    item_can_read : (depth : ℕ) (i : ItemTerm) → ItemIsIn f i → ItemCanRead (reading_of f.state) depth i → ItemCanRead a depth i
    item_can_read depth (plain soft e dist) h k = (can_read depth false e h.0 k.0, dist_can_read depth dist h.1 k.1)
    item_can_read depth (unique es) h k = exprs_can_read depth true es h k
    item_can_read depth (implies t body) h k = (can_read depth false t h.0 k.0, items_read depth body h.2 k.1)
    item_can_read depth (branch t met unmet) h k = (can_read depth false t h.0 k.0, items_read depth met h.3 k.1, else_can_read depth unmet h.4 k.2)
    item_can_read depth (foreach p m names body) h k = (k.0, items_read (depth + names) body h.3 k.1)
    item_can_read depth (disable target) h k = tt
    item_can_read depth (solve first later) h k = tt

    items_read : (depth : ℕ) (items : ItemTerms) → ItemsAreIn f items → ItemsCanRead (reading_of f.state) depth items → ItemsCanRead a depth items
    items_read depth no_items h k = tt
    items_read depth (more_items i items) h k = (item_can_read depth i h.0 k.0, items_read depth items h.1 k.1)

    else_can_read : (depth : ℕ) (e : ElseTerm) → ElseIsIn f e → ElseCanRead (reading_of f.state) depth e → ElseCanRead a depth e
    else_can_read depth no_else h k = tt
    else_can_read depth (else_items items) h k = items_read depth items h k

  -- all active items can be read
  pub items_can_read : IsSound f → ItemsCanRead a 0 f.items
  items_can_read sound = items_read 0 f.items sound.items sound.read

-- the state at sizes that fit is of its types
pub state_is_of_types : (f : FrameTerm) (ns : List ℕ) → IsSound f → SizesFit f ns → IsOfTypes f (state_at f ns)
state_is_of_types f ns sound fit = record {
  numbers = λ p i. of_state p i (nat_lt i (slice_index ns p));
  sizes = λ p. omega (arith, fit.most p);
  script = λ v. refl;
}
  where
    of_state : (p i : ℕ) (b : Bool) → (if b then (reading_of f.state).element p i else 0) < 2 ^ width_of f p
    of_state p i true = sound.state.below p i
    of_state p i false = omega (arith, sound.state.below p i)
