-- Items of the unknowns themselves, as closed expressions.
use Rattle.std.specs.Prelude.{ℕ, false, true, List, [], ◌∷◌, Option, None, Some, map, filter}
use Rattle.std.specs.List.{flat_map}
use Rattle.svr_operator.specs.declared.BinOp.TheVariants as bin
use Rattle.svr_typed.specs.ExprTerm.{ExprTerm, typed, NodeTerm, number, prop, element, inside, size, binary, RangeTerm, RangeTerms, one, ranges_of}
use Rattle.svr_frame.specs.declared.part.Part.{Part}
use Rattle.svr_frame.specs.declared.part.Part.TheVariants.{Randc, Sizes, All}
use Rattle.svr_frame.specs.declared.slot.Slot.{Slot}
use Rattle.svr_frame.specs.declared.slot.Slot.TheVariants.{Scalar, Element, Size}
use Rattle.svr_frame.specs.Frame.{FrameTerm, members_of, has_free_size, props_of}
use Rattle.svr_frame.specs.Closed.{index_number}
use Rattle.svr_frame.specs.Phases.{number_of}

-- `d.size() >= 0`
abbrev pub not_negative_expr : ℕ → ExprTerm
not_negative_expr p = typed 1 false (binary bin.AtLeast (typed 32 true (size p 1)) (index_number 0))

module _ (f : FrameTerm) where
  abbrev pub member_range : ℕ → ℕ → RangeTerm
  member_range p v = one (number_of f p (number v false))

  -- the members as numbers of a property
  abbrev pub member_ranges : ℕ → List ℕ → RangeTerms
  member_ranges p vs = ranges_of (map (member_range p) vs)

  -- a number of a property is one of its members
  abbrev pub among_exprs : ℕ → NodeTerm → Option (List ℕ) → List ExprTerm
  among_exprs p n None = []
  among_exprs p n (Some vs) = typed 1 false (inside (number_of f p n) (member_ranges p vs)) ∷ []

  abbrev pub slot_exprs : Slot → List ExprTerm
  slot_exprs (Scalar p) = among_exprs p (prop p) (members_of f p)
  slot_exprs (Element p i) = among_exprs p (element p (index_number i)) (members_of f p)
  slot_exprs (Size p) = []

  abbrev pub all_slot_exprs : List Slot → List ExprTerm
  all_slot_exprs slots = flat_map slot_exprs slots

  abbrev pub size_exprs : List ExprTerm
  size_exprs = map not_negative_expr (filter (has_free_size f) (props_of f))

  abbrev pub size_exprs_of : Part → List ExprTerm
  size_exprs_of Randc = []
  size_exprs_of Sizes = size_exprs
  size_exprs_of All = []
