-- The trees that inputs can serve, with so many loops around them
use Rattle.std.specs.Prelude.{◌≡◌, ℕ, ◌+◌, ◌<◌, ◌^◌, ⊤, Option, None, Some}
use Rattle.svr_typed.specs.ExprTerm.{ExprTerm, typed, NodeTerm, number, prop, element, cell, size, script, loop_index, reduce, of_object, bit_select, part_select, unary, binary, choice, inside, join, copies, sign, ExprTerms, no_exprs, more_exprs, RangeTerm, one, span, RangeTerms, no_ranges, more_ranges, BoundTerm, value, dollar}
use Rattle.svr_limits.specs.declared.limit.TheConstants.{LOOP_LIMIT}
use Rattle.svr_eval.specs.Value.{property_of}
use Rattle.svr_inputs.specs.declared.inputs.Inputs.{Inputs}
use Rattle.svr_inputs.specs.Inputs.{state_of, size_bits, PlaceIsReady, NumbersAreReady}

module _ (i : Inputs) where
  -- a whole array as a member of a set has a size that is not looked for
  abbrev pub MemberIsServed : Option ℕ → Type 0
  MemberIsServed None = ⊤
  MemberIsServed (Some p) = size_bits i p ≡ None

  abbrev mutual
    pub IsServed : ℕ → ExprTerm → Type 0
    IsServed depth (typed w s n) = NodeIsServed depth w n

    pub NodeIsServed : ℕ → ℕ → NodeTerm → Type 0
    NodeIsServed depth w (number v every) = ⊤
    NodeIsServed depth w (prop p) = NumbersAreReady i w p
    NodeIsServed depth w (element p e) = IsServed depth e × NumbersAreReady i w p
    NodeIsServed depth w (cell p m first second) = IsServed depth first × IsServed depth second × NumbersAreReady i w p
    NodeIsServed depth w (size p m) = PlaceIsReady 32 ((state_of i).size p) (size_bits i p)
    NodeIsServed depth w (script v) = (state_of i).script v < 2 ^ w
    NodeIsServed depth w (loop_index k) = k < depth
    -- an array that is reduced has a size that is not looked for
    NodeIsServed depth w (reduce p op body) = (depth < LOOP_LIMIT) × (size_bits i p ≡ None) × IsServed (depth + 1) body
    NodeIsServed depth w (of_object o e) = IsServed depth e
    NodeIsServed depth w (bit_select base first low) = IsServed depth base × IsServed depth first
    NodeIsServed depth w (part_select base first last low) = IsServed depth base × IsServed depth first × IsServed depth last
    NodeIsServed depth w (unary op e) = IsServed depth e
    NodeIsServed depth w (binary op l r) = IsServed depth l × IsServed depth r
    NodeIsServed depth w (choice t met unmet) = IsServed depth t × IsServed depth met × IsServed depth unmet
    NodeIsServed depth w (inside l members) = IsServed depth l × RangesAreServed depth members
    NodeIsServed depth w (join parts) = AreServed depth parts
    NodeIsServed depth w (copies count parts) = IsServed depth count × AreServed depth parts
    NodeIsServed depth w (sign signed e) = IsServed depth e

    pub AreServed : ℕ → ExprTerms → Type 0
    AreServed depth no_exprs = ⊤
    AreServed depth (more_exprs e es) = IsServed depth e × AreServed depth es

    pub RangesAreServed : ℕ → RangeTerms → Type 0
    RangesAreServed depth no_ranges = ⊤
    RangesAreServed depth (more_ranges r rs) = RangeIsServed depth r × RangesAreServed depth rs

    pub RangeIsServed : ℕ → RangeTerm → Type 0
    RangeIsServed depth (one e) = IsServed depth e × MemberIsServed (property_of e)
    RangeIsServed depth (span low high) = BoundIsServed depth low × BoundIsServed depth high

    pub BoundIsServed : ℕ → BoundTerm → Type 0
    BoundIsServed depth (value e) = IsServed depth e
    BoundIsServed depth dollar = ⊤
