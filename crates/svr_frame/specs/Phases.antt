-- The unknowns, the hard items and the live soft items of each phase of a call (IEEE 1800-2017, 18.4.2, 18.5.8 and 18.5.14).
use Rattle.std.specs.Prelude.{◌==◌, ℕ, ◌+◌, ◌*◌, ℤ, pos, negsuc, nat_lt, Bool, true, false, not, ◌&&◌, ◌||◌, if◌then◌else◌, List, [], ◌∷◌, ◌++◌, Option, None, Some, map, filter, slice_index, slice_index_or}
use Rattle.std.specs.List.{list_any, flat_map, range_with_len}
use Rattle.svr_operator.specs.declared.BinOp.{BinOp}
use Rattle.svr_operator.specs.declared.BinOp.TheVariants as bin
use Rattle.svr_typed.specs.declared.class.Prop.{Prop}
use Rattle.svr_typed.specs.ExprTerm.{ExprTerm, typed, NodeTerm, number, prop, element, cell, size, binary, inside, one, ranges_of}
use Rattle.svr_eval.specs.Reading.{Reading}
use Rattle.svr_eval.specs.Value.{index_read}
use Rattle.svr_frame.specs.declared.part.Part.{Part}
use Rattle.svr_frame.specs.declared.part.Part.TheVariants.{Randc, Sizes, All}
use Rattle.svr_frame.specs.declared.slot.Slot.{Slot}
use Rattle.svr_frame.specs.declared.slot.Slot.TheVariants.{Scalar, Element, Size}
use Rattle.svr_frame.specs.Frame.{FrameTerm, is_scalar_kind, props_of, is_array, is_random, is_cyclic, has_free_size, width_of, is_signed, members_of, state_at}
use Rattle.svr_frame.specs.Closed.{index_number}
use Rattle.svr_frame.specs.Occurrences.{Guard, Place, Fact, stated, dealt, disabled, Occurrence, Shape, outside, stands_in_loop, occurrence, occurrences, are_met, is_disable, is_hard}
use Rattle.svr_frame.specs.Reads.{Read, property_read, is_element_read, is_size_read, reads_of, has_free_size_in, mentions, mentions_element}

-- the arrays of a class, at these sizes
abbrev pub shape_of : List Prop → (ℕ → ℕ) → Shape
shape_of props sizes = record {
  is_array = λ p. not (slice_index_or (map (λ (x : Prop). is_scalar_kind x.array) props) p false);
  size = sizes;
  can = λ p. slice_index_or (map (λ (x : Prop). x.can) props) p false;
}

module _ (f : FrameTerm) where
  -- ---- unknowns

  abbrev pub cyclic_slots : List Slot
  cyclic_slots = map Scalar (filter (is_cyclic f) (props_of f))

  abbrev pub size_slots : List Slot
  size_slots = map Size (filter (has_free_size f) (props_of f))

  -- the random scalars that are not cyclic
  abbrev pub scalar_slots : List Slot
  scalar_slots = map Scalar (filter (λ p. is_random f p && not (is_array f p) && not (is_cyclic f p)) (props_of f))

  abbrev pub is_random_array : ℕ → Bool
  is_random_array p = is_random f p && is_array f p

  abbrev pub element_slots : List ℕ → List Slot
  element_slots sizes = flat_map (λ p. map (Element p) (range_with_len 0 (slice_index sizes p))) (filter is_random_array (props_of f))

  -- what a phase looks for, in this order; the cyclic ones are settled by their own phase
  abbrev pub unknowns_of : Part → List ℕ → List Slot
  unknowns_of Randc sizes = cyclic_slots
  unknowns_of Sizes sizes = cyclic_slots ++ size_slots ++ scalar_slots
  unknowns_of All sizes = cyclic_slots ++ scalar_slots ++ element_slots sizes

  -- ---- items of the unknowns themselves

  abbrev pub fact_item : ExprTerm → Occurrence
  fact_item e = occurrence outside false (stated e)

  abbrev pub number_of : ℕ → NodeTerm → ExprTerm
  number_of p n = typed (width_of f p) (is_signed f p) n

  abbrev pub among_members : ℕ → NodeTerm → Option (List ℕ) → List Occurrence
  among_members p n None = []
  among_members p n (Some vs) = fact_item (typed 1 false (inside (number_of p n) (ranges_of (map (λ v. one (number_of p (number v false))) vs)))) ∷ []

  -- an enum takes only its members (6.19.3)
  abbrev pub domain_item : Slot → List Occurrence
  domain_item (Scalar p) = among_members p (prop p) (members_of f p)
  domain_item (Element p i) = among_members p (element p (index_number i)) (members_of f p)
  domain_item (Size p) = []

  abbrev pub domain_items : Part → List ℕ → List Occurrence
  domain_items part sizes = flat_map domain_item (unknowns_of part sizes)

  abbrev pub size_expr : ℕ → ExprTerm
  size_expr p = typed 32 true (size p 1)

  -- `d.size() >= 0`
  abbrev pub not_negative : ℕ → Occurrence
  not_negative p = fact_item (typed 1 false (binary bin.AtLeast (size_expr p) (index_number 0)))

  -- `d.size() <= cap`
  abbrev pub at_most : ℕ → ℕ → Occurrence
  at_most cap p = fact_item (typed 1 false (binary bin.AtMost (size_expr p) (index_number cap)))

  abbrev pub size_items : Part → List Occurrence
  size_items Randc = []
  size_items Sizes = map not_negative (filter (has_free_size f) (props_of f))
  size_items All = []

  abbrev pub cap_items : ℕ → List Occurrence
  cap_items cap = map (at_most cap) (filter (has_free_size f) (props_of f))

  -- ---- the occurrences of a phase

  abbrev pub shape_at : List ℕ → Shape
  shape_at sizes = shape_of f.class.props (λ p. slice_index sizes p)

  -- of all active items
  abbrev pub active_at : List ℕ → List Occurrence
  active_at sizes = occurrences (shape_at sizes) f.items

  -- the sizes that a phase looks for
  abbrev pub sought_sizes : Part → ℕ → Bool
  sought_sizes Randc p = false
  sought_sizes Sizes p = has_free_size f p
  sought_sizes All p = false

  abbrev pub mentions_random : List ℕ → Occurrence → Bool
  mentions_random sizes o = list_any (λ r. is_random f (property_read r)) (reads_of (shape_at sizes) o)

  abbrev pub mentions_other_random : List ℕ → Occurrence → Bool
  mentions_other_random sizes o = list_any (λ r. is_random f (property_read r) && not (is_cyclic f (property_read r))) (reads_of (shape_at sizes) o)

  abbrev pub mentions_random_element : List ℕ → Occurrence → Bool
  mentions_random_element sizes o = list_any (λ r. is_element_read r && is_random f (property_read r)) (reads_of (shape_at sizes) o)

  -- phase Randc: cyclic random properties and no other random ones; phase Sizes: no element of a random array, and no loop
  abbrev pub belongs : Part → List ℕ → Occurrence → Bool
  belongs Randc sizes o = mentions_random sizes o && not (mentions_other_random sizes o)
  belongs Sizes sizes o = not (mentions_random_element sizes o) && not (stands_in_loop o.place)
  belongs All sizes o = true

  -- ---- hard items

  abbrev pub asked_of : Part → List ℕ → List Occurrence
  asked_of part sizes = filter (λ o. is_hard o && belongs part sizes o) (active_at sizes)

  abbrev pub hard_of : Part → List ℕ → List Occurrence
  hard_of part sizes = domain_items part sizes ++ size_items part ++ asked_of part sizes

  -- those of phase Sizes with the cap on each free size
  abbrev pub capped_hard_of : ℕ → List ℕ → List Occurrence
  capped_hard_of cap sizes = domain_items Sizes sizes ++ size_items Sizes ++ cap_items cap ++ asked_of Sizes sizes

  -- ---- soft items (18.5.14)

  -- phase Randc has none
  abbrev pub is_soft_of : Part → List ℕ → Occurrence → Bool
  is_soft_of Randc sizes o = false
  is_soft_of Sizes sizes o = o.soft && belongs Sizes sizes o
  is_soft_of All sizes o = o.soft

  module _ (part : Part) (sizes : List ℕ) where
    -- phase Sizes does not look at a `disable soft` in a loop, or of a target whose index holds a size that it looks for
    abbrev pub is_looked_at : Part → Place → ExprTerm → Bool
    is_looked_at Randc at target = true
    is_looked_at Sizes at target = not (stands_in_loop at) && not (has_free_size_in (shape_at sizes) (has_free_size f) target)
    is_looked_at All at target = true

    -- two indexes outside a dimension name no element
    abbrev pub is_named_by_cell : ℕ → ℕ → ℤ → ℤ → Occurrence → Bool
    is_named_by_cell p m (pos i) (pos j) o = nat_lt j m && mentions_element (shape_at sizes) (sought_sizes part) (state_at f sizes) p (pos (i * m + j)) o
    is_named_by_cell p m (pos i) (negsuc j) o = false
    is_named_by_cell p m (negsuc i) j o = false

    -- a target is a scalar, a whole array, or an element
    abbrev pub is_named_by : List ℕ → NodeTerm → Occurrence → Bool
    is_named_by env (prop p) o = mentions (shape_at sizes) p o
    is_named_by env (element p e) o = mentions_element (shape_at sizes) (sought_sizes part) (state_at f sizes) p (index_read (state_at f sizes) env e) o
    is_named_by env (cell p m first second) o = is_named_by_cell p m (index_read (state_at f sizes) env first) (index_read (state_at f sizes) env second) o
    is_named_by env n o = false

    abbrev pub node_of : ExprTerm → NodeTerm
    node_of (typed w s n) = n

    abbrev pub removes_by : Place → Fact → Occurrence → Bool
    removes_by at (stated e) o = false
    removes_by at (dealt e ds) o = false
    removes_by at (disabled target) o = is_looked_at part at target && are_met (state_at f sizes) at.guards && is_named_by at.env (node_of target) o

    -- a `disable soft` whose tests are true and whose target o mentions (18.5.14.2)
    abbrev pub removes : Occurrence → Occurrence → Bool
    removes d o = removes_by d.place d.fact o

    -- from the last to the first, without those that a later `disable soft` removes
    abbrev pub live : List Occurrence → List Occurrence
    live [] = []
    live (o ∷ os) = live os ++ (if is_soft_of part sizes o && not (list_any (λ d. removes d o) os) then o ∷ [] else [])

  -- the live soft items; the rank of one is its place, from 1
  abbrev pub live_of : Part → List ℕ → List Occurrence
  live_of part sizes = live part sizes (active_at sizes)
