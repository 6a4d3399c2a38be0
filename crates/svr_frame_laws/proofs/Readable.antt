-- The items of a sound frame can be read under each assignment of a phase.
use Rattle.std.proofs.Common.{◌≡◌, ◌<◌, ◌≤◌, ◌==◌, ◌^◌, ℕ, zero, suc, ◌+◌, Bool, true, false, not, ◌&&◌, ◌||◌, refl, sym, ◌∙◌, ap, subst, List, [], ◌∷◌, ◌++◌, Option, None, Some, arith}
use Rattle.std.specs.Prelude.{⊤, slice_index, nat_lt, if◌then◌else◌}
use Rattle.std.specs.List.{list_any}
use Rattle.std.proofs.lemmas.Bool.{and_parts, eqb-true}
use Rattle.svr_operator.specs.declared.Share.{Share}
use Rattle.svr_typed.specs.ExprTerm.{ExprTerm, typed, NodeTerm, number, prop, element, cell, size, script, loop_index, reduce, of_object, bit_select, part_select, unary, binary, choice, inside, join, copies, sign, ExprTerms, no_exprs, more_exprs, RangeTerm, one, span, RangeTerms, no_ranges, more_ranges, BoundTerm, value, dollar}
use Rattle.svr_typed.specs.ItemTerm.{DistTerm, ItemTerm, plain, unique, implies, branch, foreach, disable, solve, ItemTerms, no_items, more_items, ElseTerm, no_else, else_items}
use Rattle.svr_eval.specs.Reading.{Reading, reading_of}
use Rattle.svr_eval.specs.Typed.{CanRead, NodeCanRead, AllCanRead, RangesCanRead, RangeCanRead, BoundCanRead}
use Rattle.svr_eval.specs.Holds.{WeightCanRead, MembersCanRead, DistCanRead, ItemCanRead, ItemsCanRead, ElseCanRead}
use Rattle.svr_frame.specs.declared.part.Part.{Part}
use Rattle.svr_frame.specs.declared.slot.Slot.{Slot}
use Rattle.svr_frame.specs.declared.slot.Slot.TheVariants.{Scalar, Element, Size}
use Rattle.svr_frame.specs.Frame.{FrameTerm, width_of, state_at}
use Rattle.svr_frame.specs.Phases.{unknowns_of}
use Rattle.svr_frame.specs.Satisfaction.{is_at, is_size_of, AllFit, IsAssignment}
use Rattle.svr_frame.specs.Sound.{HasType, ExprIsIn, NodeIsIn, ExprsAreIn, RangesAreIn, RangeIsIn, BoundIsIn, WeightIsIn, MembersAreIn, DistIsIn, ItemIsIn, ItemsAreIn, ElseIsIn, IsSound, SizesFit}

module _ (f : FrameTerm) (a : Reading) where
  slot_fits : (p i : ℕ) (ss : List Slot) → AllFit f a ss → list_any (is_at p i) ss ≡ true → a.element p i < 2 ^ width_of f p
  slot_fits p i [] h e = cc
  slot_fits p i (Scalar q ∷ ss) h e = by_test ((q == p) && (i == 0)) refl (slot_fits p i ss h.1)
    where
      by_test : (b : Bool) → ((q == p) && (i == 0)) ≡ b → (list_any (is_at p i) ss ≡ true → a.element p i < 2 ^ width_of f p) → a.element p i < 2 ^ width_of f p
      by_test true t rest =
          let two = and_parts (q == p) (i == 0) t in
          subst (λ (x : ℕ). a.element p x < 2 ^ width_of f p) (sym (eqb-true i 0 two.1)) (subst (λ (x : ℕ). a.element x 0 < 2 ^ width_of f x) (eqb-true q p two.0) h.0)
      by_test false t rest = rest (sym (ap (λ b. b || list_any (is_at p i) ss) t) ∙ e)
  slot_fits p i (Element q j ∷ ss) h e = by_test ((q == p) && (j == i)) refl (slot_fits p i ss h.1)
    where
      by_test : (b : Bool) → ((q == p) && (j == i)) ≡ b → (list_any (is_at p i) ss ≡ true → a.element p i < 2 ^ width_of f p) → a.element p i < 2 ^ width_of f p
      by_test true t rest =
          let two = and_parts (q == p) (j == i) t in
          subst (λ (x : ℕ). a.element p x < 2 ^ width_of f p) (eqb-true j i two.1) (subst (λ (x : ℕ). a.element x j < 2 ^ width_of f x) (eqb-true q p two.0) h.0)
      by_test false t rest = rest (sym (ap (λ b. b || list_any (is_at p i) ss) t) ∙ e)
  slot_fits p i (Size q ∷ ss) h e = slot_fits p i ss h.1 e

  size_fits : (p : ℕ) (ss : List Slot) → AllFit f a ss → list_any (is_size_of p) ss ≡ true → a.size p < 2 ^ 31
  size_fits p [] h e = cc
  size_fits p (Scalar q ∷ ss) h e = size_fits p ss h.1 e
  size_fits p (Element q j ∷ ss) h e = size_fits p ss h.1 e
  size_fits p (Size q ∷ ss) h e = by_test (q == p) refl (size_fits p ss h.1)
    where
      by_test : (b : Bool) → (q == p) ≡ b → (list_any (is_size_of p) ss ≡ true → a.size p < 2 ^ 31) → a.size p < 2 ^ 31
      by_test true t rest = subst (λ (x : ℕ). a.size x < 2 ^ 31) (eqb-true q p t) h.0
      by_test false t rest = rest (sym (ap (λ b. b || list_any (is_size_of p) ss) t) ∙ e)

  module _ (ns : List ℕ) (sound : IsSound f) (fit : SizesFit f ns) (part : Part) (fixed : List (ℕ × ℕ)) (is : IsAssignment f part ns fixed a) where
    -- each number is of its property's type
    pub number_fits : (p i : ℕ) → a.element p i < 2 ^ width_of f p
    number_fits p i = by_slot (list_any (is_at p i) (unknowns_of f part ns)) refl
      where
        of_state : (b : Bool) → (if b then (reading_of f.state).element p i else 0) < 2 ^ width_of f p
        of_state true = sound.state.below p i
        of_state false = omega (arith, sound.state.below p i)

        by_slot : (b : Bool) → list_any (is_at p i) (unknowns_of f part ns) ≡ b → a.element p i < 2 ^ width_of f p
        by_slot true e = slot_fits p i (unknowns_of f part ns) is.fits e
        by_slot false e = subst (λ (x : ℕ). x < 2 ^ width_of f p) (sym (is.same_numbers p i e)) (of_state (nat_lt i (slice_index ns p)))

    pub size_below : (p : ℕ) → a.size p < 2 ^ 32
    size_below p = by_slot (list_any (is_size_of p) (unknowns_of f part ns)) refl
      where
        by_slot : (b : Bool) → list_any (is_size_of p) (unknowns_of f part ns) ≡ b → a.size p < 2 ^ 32
        by_slot true e = omega (arith, size_fits p (unknowns_of f part ns) is.fits e)
        by_slot false e = omega (arith, is.same_sizes p e, fit.most p)

    of_type : (p w : ℕ) (s : Bool) → HasType f p w s → (i : ℕ) → a.element p i < 2 ^ w
    of_type p w s h i = subst (λ (v : ℕ). a.element p i < 2 ^ v) (sym h.1) (number_fits p i)

    mutual
      pub can_read : (depth : ℕ) (whole : Bool) (e : ExprTerm) → ExprIsIn f whole e → CanRead (reading_of f.state) depth e → CanRead a depth e
      can_read depth whole (typed w s n) h k = node_can_read depth whole w s n h k

      node_can_read : (depth : ℕ) (whole : Bool) (w : ℕ) (s : Bool) (n : NodeTerm) → NodeIsIn f whole w s n → NodeCanRead (reading_of f.state) depth w n → NodeCanRead a depth w n
      node_can_read depth whole w s (number v every) h k = tt
      node_can_read depth whole w s (prop p) h k = of_type p w s h.0
      node_can_read depth whole w s (element p e) h k = (can_read depth false e h.2 k.0, of_type p w s h.0)
      node_can_read depth whole w s (cell p m first second) h k = (can_read depth false first h.3 k.0, can_read depth false second h.4 k.1, of_type p w s h.0)
      node_can_read depth whole w s (size p m) h k = size_below p
      node_can_read depth whole w s (script v) h k = subst (λ (x : ℕ). x < 2 ^ w) (sym (is.same_script v)) k
      node_can_read depth whole w s (loop_index i) h k = k
      node_can_read depth whole w s (reduce p op body) h k = (k.0, can_read (depth + 1) false body h.2 k.1)
      node_can_read depth whole w s (of_object o e) h k = absurd h
      node_can_read depth whole w s (bit_select base first low) h k = (can_read depth false base h.0 k.0, can_read depth false first h.1 k.1)
      node_can_read depth whole w s (part_select base first last low) h k = (can_read depth false base h.0 k.0, can_read depth false first h.1 k.1, can_read depth false last h.2 k.2)
      node_can_read depth whole w s (unary op e) h k = can_read depth false e h k
      node_can_read depth whole w s (binary op l r) h k = (can_read depth false l h.0 k.0, can_read depth false r h.1 k.1)
      node_can_read depth whole w s (choice t met unmet) h k = (can_read depth false t h.0 k.0, can_read depth false met h.1 k.1, can_read depth false unmet h.2 k.2)
      node_can_read depth whole w s (inside l rs) h k = (can_read depth false l h.0 k.0, ranges_can_read depth rs h.1 k.1)
      node_can_read depth whole w s (join parts) h k = exprs_can_read depth false parts h k
      node_can_read depth whole w s (copies count parts) h k = (can_read depth false count h.0 k.0, exprs_can_read depth false parts h.1 k.1)
      node_can_read depth whole w s (sign as_signed e) h k = can_read depth false e h k

      exprs_can_read : (depth : ℕ) (whole : Bool) (es : ExprTerms) → ExprsAreIn f whole es → AllCanRead (reading_of f.state) depth es → AllCanRead a depth es
      exprs_can_read depth whole no_exprs h k = tt
      exprs_can_read depth whole (more_exprs e es) h k = (can_read depth whole e h.0 k.0, exprs_can_read depth whole es h.1 k.1)

      ranges_can_read : (depth : ℕ) (rs : RangeTerms) → RangesAreIn f rs → RangesCanRead (reading_of f.state) depth rs → RangesCanRead a depth rs
      ranges_can_read depth no_ranges h k = tt
      ranges_can_read depth (more_ranges r rs) h k = (range_can_read depth true r h.0 k.0, ranges_can_read depth rs h.1 k.1)

      range_can_read : (depth : ℕ) (whole : Bool) (r : RangeTerm) → RangeIsIn f whole r → RangeCanRead (reading_of f.state) depth r → RangeCanRead a depth r
      range_can_read depth whole (one e) h k = can_read depth whole e h k
      range_can_read depth whole (span low high) h k = (bound_can_read depth low h.0 k.0, bound_can_read depth high h.1 k.1)

      bound_can_read : (depth : ℕ) (b : BoundTerm) → BoundIsIn f b → BoundCanRead (reading_of f.state) depth b → BoundCanRead a depth b
      bound_can_read depth (value e) h k = can_read depth false e h k
      bound_can_read depth dollar h k = tt

    weight_can_read : (depth : ℕ) (w : Option (Share × ExprTerm)) → WeightIsIn f w → WeightCanRead (reading_of f.state) depth w → WeightCanRead a depth w
    weight_can_read depth None h k = tt
    weight_can_read depth (Some w) h k = can_read depth false w.1 h.0 k

    members_can_read : (depth : ℕ) (ds : List DistTerm) → MembersAreIn f ds → MembersCanRead (reading_of f.state) depth ds → MembersCanRead a depth ds
    members_can_read depth [] h k = tt
    members_can_read depth (d ∷ ds) h k = (range_can_read depth false d.range h.0 k.0, weight_can_read depth d.weight h.1 k.1, members_can_read depth ds h.2 k.2)

    dist_can_read : (depth : ℕ) (d : Option (List DistTerm)) → DistIsIn f d → DistCanRead (reading_of f.state) depth d → DistCanRead a depth d
    dist_can_read depth None h k = tt
    dist_can_read depth (Some ds) h k = members_can_read depth ds h k

    mutual
      item_can_read : (depth : ℕ) (i : ItemTerm) → ItemIsIn f i → ItemCanRead (reading_of f.state) depth i → ItemCanRead a depth i
      item_can_read depth (plain soft e dist) h k = (can_read depth false e h.0 k.0, dist_can_read depth dist h.1 k.1)
      item_can_read depth (unique es) h k = exprs_can_read depth true es h k
      item_can_read depth (implies t body) h k = (can_read depth false t h.0 k.0, items_read depth body h.2 k.1)
      item_can_read depth (branch t met unmet) h k = (can_read depth false t h.0 k.0, items_read depth met h.3 k.1, else_can_read depth unmet h.4 k.2)
      item_can_read depth (foreach p m names body) h k = (k.0, items_read (depth + names) body h.3 k.1)
      item_can_read depth (disable target) h k = tt
      item_can_read depth (solve first later) h k = tt

      items_read : (depth : ℕ) (is' : ItemTerms) → ItemsAreIn f is' → ItemsCanRead (reading_of f.state) depth is' → ItemsCanRead a depth is'
      items_read depth no_items h k = tt
      items_read depth (more_items i is') h k = (item_can_read depth i h.0 k.0, items_read depth is' h.1 k.1)

      else_can_read : (depth : ℕ) (e : ElseTerm) → ElseIsIn f e → ElseCanRead (reading_of f.state) depth e → ElseCanRead a depth e
      else_can_read depth no_else h k = tt
      else_can_read depth (else_items is') h k = items_read depth is' h k

    -- all active items can be read
    pub items_can_read : ItemsCanRead a 0 f.items
    items_can_read = items_read 0 f.items sound.items sound.read
