-- What can be read under an assignment of a phase, and stands in the frame, can be read in the state.
use Rattle.std.proofs.Common.{◌≡◌, ◌<◌, ◌≤◌, ◌^◌, ℕ, ◌+◌, Bool, true, false, sym, ◌∙◌, ap, subst, List, [], ◌∷◌, arith}
use Rattle.std.specs.Prelude.{⊤, slice_index}
use Rattle.svr_limits.specs.declared.limit.TheConstants.{LOOP_LIMIT, ELEMENT_LIMIT}
use Rattle.svr_typed.specs.ExprTerm.{ExprTerm, typed, NodeTerm, number, prop, element, cell, size, script, loop_index, reduce, of_object, bit_select, part_select, unary, binary, choice, inside, join, copies, sign, ExprTerms, no_exprs, more_exprs, RangeTerm, one, span, RangeTerms, no_ranges, more_ranges, BoundTerm, value, dollar}
use Rattle.svr_eval.specs.Reading.{Reading, reading_of}
use Rattle.svr_eval.specs.Typed.{CanRead, NodeCanRead, AllCanRead, RangesCanRead, RangeCanRead, BoundCanRead}
use Rattle.svr_frame.specs.declared.part.Part.{Part}
use Rattle.svr_frame.specs.Frame.{FrameTerm, width_of}
use Rattle.svr_frame.specs.Satisfaction.{IsAssignment}
use Rattle.svr_frame.specs.Sound.{HasType, ExprIsIn, NodeIsIn, ExprsAreIn, RangesAreIn, RangeIsIn, BoundIsIn, IsSound}
use Rattle.svr_phase.proofs.Preferred.{state_sizes_fit}

module _ (f : FrameTerm) (a : Reading) (ns : List ℕ) (sound : IsSound f) (part : Part) (fixed : List (ℕ × ℕ)) (is : IsAssignment f part ns fixed a) where
  of_type : (p w : ℕ) (s : Bool) → HasType f p w s → (i : ℕ) → (reading_of f.state).element p i < 2 ^ w
  of_type p w s h i = subst (λ (v : ℕ). (reading_of f.state).element p i < 2 ^ v) (sym h.1) (sound.state.below p i)

  size_below : (p : ℕ) → slice_index f.state.sizes p < 2 ^ 32
  size_below p = omega (arith, (state_sizes_fit f sound).most p)

  mutual
    pub state_can_read : (depth : ℕ) (whole : Bool) (e : ExprTerm) → ExprIsIn f whole e → CanRead a depth e → CanRead (reading_of f.state) depth e
    state_can_read depth whole (typed w s n) h k = node_can_read depth whole w s n h k

    node_can_read : (depth : ℕ) (whole : Bool) (w : ℕ) (s : Bool) (n : NodeTerm) → NodeIsIn f whole w s n → NodeCanRead a depth w n → NodeCanRead (reading_of f.state) depth w n
    node_can_read depth whole w s (number v every) h k = tt
    node_can_read depth whole w s (prop p) h k = of_type p w s h.0
    node_can_read depth whole w s (element p e) h k = (state_can_read depth false e h.2 k.0, of_type p w s h.0)
    node_can_read depth whole w s (cell p m first second) h k = (state_can_read depth false first h.3 k.0, state_can_read depth false second h.4 k.1, of_type p w s h.0)
    node_can_read depth whole w s (size p m) h k = size_below p
    node_can_read depth whole w s (script v) h k = subst (λ (x : ℕ). x < 2 ^ w) (is.same_script v) k
    node_can_read depth whole w s (loop_index i) h k = k
    node_can_read depth whole w s (reduce p op body) h k = (k.0, state_can_read (depth + 1) false body h.2 k.1)
    node_can_read depth whole w s (of_object o e) h k = absurd h
    node_can_read depth whole w s (bit_select base first low) h k = (state_can_read depth false base h.0 k.0, state_can_read depth false first h.1 k.1)
    node_can_read depth whole w s (part_select base first last low) h k = (state_can_read depth false base h.0 k.0, state_can_read depth false first h.1 k.1, state_can_read depth false last h.2 k.2)
    node_can_read depth whole w s (unary op e) h k = state_can_read depth false e h k
    node_can_read depth whole w s (binary op l r) h k = (state_can_read depth false l h.0 k.0, state_can_read depth false r h.1 k.1)
    node_can_read depth whole w s (choice t met unmet) h k = (state_can_read depth false t h.0 k.0, state_can_read depth false met h.1 k.1, state_can_read depth false unmet h.2 k.2)
    node_can_read depth whole w s (inside l rs) h k = (state_can_read depth false l h.0 k.0, ranges_can_read depth rs h.1 k.1)
    node_can_read depth whole w s (join parts) h k = exprs_can_read depth false parts h k
    node_can_read depth whole w s (copies count parts) h k = (state_can_read depth false count h.0 k.0, exprs_can_read depth false parts h.1 k.1)
    node_can_read depth whole w s (sign as_signed e) h k = state_can_read depth false e h k

    exprs_can_read : (depth : ℕ) (whole : Bool) (es : ExprTerms) → ExprsAreIn f whole es → AllCanRead a depth es → AllCanRead (reading_of f.state) depth es
    exprs_can_read depth whole no_exprs h k = tt
    exprs_can_read depth whole (more_exprs e es) h k = (state_can_read depth whole e h.0 k.0, exprs_can_read depth whole es h.1 k.1)

    ranges_can_read : (depth : ℕ) (rs : RangeTerms) → RangesAreIn f rs → RangesCanRead a depth rs → RangesCanRead (reading_of f.state) depth rs
    ranges_can_read depth no_ranges h k = tt
    ranges_can_read depth (more_ranges r rs) h k = (range_can_read depth true r h.0 k.0, ranges_can_read depth rs h.1 k.1)

    range_can_read : (depth : ℕ) (whole : Bool) (r : RangeTerm) → RangeIsIn f whole r → RangeCanRead a depth r → RangeCanRead (reading_of f.state) depth r
    range_can_read depth whole (one e) h k = state_can_read depth whole e h k
    range_can_read depth whole (span low high) h k = (bound_can_read depth low h.0 k.0, bound_can_read depth high h.1 k.1)

    bound_can_read : (depth : ℕ) (b : BoundTerm) → BoundIsIn f b → BoundCanRead a depth b → BoundCanRead (reading_of f.state) depth b
    bound_can_read depth (value e) h k = state_can_read depth false e h k
    bound_can_read depth dollar h k = tt
