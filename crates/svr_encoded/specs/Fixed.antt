-- Trees in which no set has, and no reduction runs over, an array whose size is looked for
use Rattle.std.specs.Prelude.{◌≡◌, ℕ, Bool, false, ⊤, Option, None, Some}
use Rattle.svr_typed.specs.ExprTerm.{ExprTerm, typed, NodeTerm, number, prop, element, cell, size, script, loop_index, reduce, of_object, bit_select, part_select, unary, binary, choice, inside, join, copies, sign, ExprTerms, no_exprs, more_exprs, RangeTerm, one, span, RangeTerms, no_ranges, more_ranges, BoundTerm, value, dollar}
use Rattle.svr_eval.specs.Value.{property_of}

module _ (sought : ℕ → Bool) where
  abbrev pub MemberIsFixed : Option ℕ → Type 0
  MemberIsFixed None = ⊤
  MemberIsFixed (Some p) = sought p ≡ false

  abbrev mutual
    pub IsFixed : ExprTerm → Type 0
    IsFixed (typed w s n) = NodeIsFixed n

    pub NodeIsFixed : NodeTerm → Type 0
    NodeIsFixed (number v every) = ⊤
    NodeIsFixed (prop p) = ⊤
    NodeIsFixed (element p e) = IsFixed e
    NodeIsFixed (cell p m first second) = IsFixed first × IsFixed second
    NodeIsFixed (size p m) = ⊤
    NodeIsFixed (script v) = ⊤
    NodeIsFixed (loop_index k) = ⊤
    NodeIsFixed (reduce p op body) = (sought p ≡ false) × IsFixed body
    NodeIsFixed (of_object o e) = IsFixed e
    NodeIsFixed (bit_select base first low) = IsFixed base × IsFixed first
    NodeIsFixed (part_select base first last low) = IsFixed base × IsFixed first × IsFixed last
    NodeIsFixed (unary op e) = IsFixed e
    NodeIsFixed (binary op l r) = IsFixed l × IsFixed r
    NodeIsFixed (choice t met unmet) = IsFixed t × IsFixed met × IsFixed unmet
    NodeIsFixed (inside l rs) = IsFixed l × RangesAreFixed rs
    NodeIsFixed (join parts) = AreFixed parts
    NodeIsFixed (copies count parts) = IsFixed count × AreFixed parts
    NodeIsFixed (sign signed e) = IsFixed e

    pub AreFixed : ExprTerms → Type 0
    AreFixed no_exprs = ⊤
    AreFixed (more_exprs e es) = IsFixed e × AreFixed es

    pub RangesAreFixed : RangeTerms → Type 0
    RangesAreFixed no_ranges = ⊤
    RangesAreFixed (more_ranges r rs) = RangeIsFixed r × RangesAreFixed rs

    pub RangeIsFixed : RangeTerm → Type 0
    RangeIsFixed (one e) = IsFixed e × MemberIsFixed (property_of e)
    RangeIsFixed (span low high) = BoundIsFixed low × BoundIsFixed high

    pub BoundIsFixed : BoundTerm → Type 0
    BoundIsFixed (value e) = IsFixed e
    BoundIsFixed dollar = ⊤
