use Rattle.std.proofs.Common.{◌≡◌, ◌++◌, map, drop}
use Rattle.svr_typed.specs.ExprTerm.{expr_term, range_terms}
use Rattle.svr_eval.specs.Typed.{RangesAreTyped}
use Rattle.svr_encode.specs.Parts.{part_term, set_parts}
use Rattle.svr_encode.specs.Set.{IsSetOf}
use Rattle.svr_encode.proofs.set.set_parts.Given as goal

abbrev pub invariant-loop-range : goal.invariant-loop-range
invariant-loop-range l = record {
  typed : RangesAreTyped (range_terms (drop l.range-index l.ranges));
  set : IsSetOf (expr_term l.left) l.set;
  parts : (map part_term l.set.parts.items ++ set_parts (expr_term l.left) (range_terms (drop l.range-index l.ranges))) ≡ set_parts (expr_term l.left) (range_terms l.ranges);
}
