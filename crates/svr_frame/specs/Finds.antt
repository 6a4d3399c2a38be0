-- Whether an expression reads something that is sought, by recursion on the expression.
use Rattle.std.specs.Prelude.{ℕ, Bool, true, false, not, ◌&&◌, ◌||◌, List, [], ◌∷◌, Option, None, Some}
use Rattle.svr_operator.specs.declared.Share.{Share}
use Rattle.svr_typed.specs.ExprTerm.{ExprTerm, typed, NodeTerm, number, prop, element, cell, size, script, loop_index, reduce, of_object, bit_select, part_select, unary, binary, choice, inside, join, copies, sign, ExprTerms, no_exprs, more_exprs, RangeTerm, one, span, RangeTerms, no_ranges, more_ranges, BoundTerm, value, dollar}
use Rattle.svr_typed.specs.ItemTerm.{DistTerm}
use Rattle.svr_frame.specs.declared.sought.Sought.{Sought}
use Rattle.svr_frame.specs.declared.sought.Sought.TheVariants.{Random, NotCyclic, RandomElement, FreeSize, CanBeRandom}
use Rattle.svr_frame.specs.declared.part.Part.{Part}
use Rattle.svr_frame.specs.declared.part.Part.TheVariants.{Randc, Sizes, All}
use Rattle.svr_frame.specs.Frame.{FrameTerm, is_array, is_random, is_cyclic, has_free_size, can_be_random}
use Rattle.svr_frame.specs.Reads.{Read, property_read, is_element_read, is_size_read}

module _ (f : FrameTerm) where
  -- whether a read is one of those that are sought
  abbrev pub is_one : Sought → Read → Bool
  is_one Random r = is_random f (property_read r)
  is_one NotCyclic r = is_random f (property_read r) && not (is_cyclic f (property_read r))
  is_one RandomElement r = is_element_read r && is_random f (property_read r)
  is_one FreeSize r = is_size_read r && has_free_size f (property_read r)
  is_one CanBeRandom r = not (is_size_read r) && can_be_random f (property_read r)

  -- a node that is the property, an element of it, its size
  abbrev pub finds_property : Sought → ℕ → Bool
  finds_property Random p = is_random f p
  finds_property NotCyclic p = is_random f p && not (is_cyclic f p)
  finds_property RandomElement p = is_array f p && is_random f p
  finds_property FreeSize p = false
  finds_property CanBeRandom p = can_be_random f p

  abbrev pub finds_element : Sought → ℕ → Bool
  finds_element Random p = is_random f p
  finds_element NotCyclic p = is_random f p && not (is_cyclic f p)
  finds_element RandomElement p = is_random f p
  finds_element FreeSize p = false
  finds_element CanBeRandom p = can_be_random f p

  abbrev pub finds_size : Sought → ℕ → Bool
  finds_size Random p = is_random f p
  finds_size NotCyclic p = is_random f p && not (is_cyclic f p)
  finds_size RandomElement p = false
  finds_size FreeSize p = has_free_size f p
  finds_size CanBeRandom p = false

  module _ (s : Sought) where
    abbrev mutual
      -- an expression, its indexes included
      pub finds : ExprTerm → Bool
      finds (typed w t n) = node_finds n

      pub node_finds : NodeTerm → Bool
      node_finds (number v every) = false
      node_finds (prop p) = finds_property s p
      node_finds (element p e) = finds_element s p || finds e
      node_finds (cell p m first second) = finds_element s p || (finds first || finds second)
      node_finds (size p m) = finds_size s p
      node_finds (script v) = false
      node_finds (loop_index k) = false
      node_finds (reduce p op body) = finds_element s p || finds body
      node_finds (of_object o e) = finds e
      node_finds (bit_select base first low) = finds base || finds first
      node_finds (part_select base first last low) = (finds base || finds first) || finds last
      node_finds (unary op e) = finds e
      node_finds (binary op l r) = finds l || finds r
      node_finds (choice t met unmet) = (finds t || finds met) || finds unmet
      node_finds (inside l rs) = finds l || finds_in_ranges rs
      node_finds (join parts) = finds_in_exprs parts
      node_finds (copies count parts) = finds count || finds_in_exprs parts
      node_finds (sign as_signed e) = finds e

      pub finds_in_exprs : ExprTerms → Bool
      finds_in_exprs no_exprs = false
      finds_in_exprs (more_exprs e es) = finds e || finds_in_exprs es

      pub finds_in_ranges : RangeTerms → Bool
      finds_in_ranges no_ranges = false
      finds_in_ranges (more_ranges r rs) = finds_in_range r || finds_in_ranges rs

      pub finds_in_range : RangeTerm → Bool
      finds_in_range (one e) = finds e
      finds_in_range (span low high) = finds_in_bound low || finds_in_bound high

      pub finds_in_bound : BoundTerm → Bool
      finds_in_bound (value e) = finds e
      finds_in_bound dollar = false

    abbrev pub finds_in_weight : Option (Share × ExprTerm) → Bool
    finds_in_weight None = false
    finds_in_weight (Some w) = finds w.1

    abbrev pub finds_in_member : DistTerm → Bool
    finds_in_member d = finds_in_range d.range || finds_in_weight d.weight

    abbrev pub finds_in_members : List DistTerm → Bool
    finds_in_members [] = false
    finds_in_members (d ∷ ds) = finds_in_member d || finds_in_members ds

-- a range mentions a property that is random in this call
abbrev pub mentions_random : FrameTerm → RangeTerm → Bool
mentions_random f r = finds_in_range f Random r

-- an index that holds a property that can be random other than by a size, or in phase Sizes a size that the call chooses
abbrev pub is_found_open : FrameTerm → Part → ExprTerm → Bool
is_found_open f Randc e = finds f CanBeRandom e
is_found_open f Sizes e = finds f FreeSize e || finds f CanBeRandom e
is_found_open f All e = finds f CanBeRandom e

-- an expression that holds a size that the phase looks for
abbrev pub is_found_sized : FrameTerm → Part → ExprTerm → Bool
is_found_sized f Randc e = false
is_found_sized f Sizes e = finds f FreeSize e
is_found_sized f All e = false
