use Rattle.std.proofs.Common.{◌≡◌, ◌+◌, ◌*◌, ◌++◌, ◌∷◌, [], max, length, map, drop}
use Rattle.svr_typed.specs.declared.expr.TExpr.{size-TExpr}
use Rattle.svr_typed.specs.declared.expr.TRange.{size-TRange}
use Rattle.svr_typed.specs.declared.expr.TBound.{size-TBound}
use Rattle.svr_frame.specs.Occurrences.{each_below}
use Rattle.svr_typed.specs.ExprTerm.{expr_term, expr_terms, range_terms}
use Rattle.svr_eval.specs.Reading.{reading_of}
use Rattle.svr_eval.specs.Typed.{AreTyped, RangesAreTyped, AllCanRead, RangesCanRead}
use Rattle.svr_mention.specs.Mentioned.{mention_in, reads_in, all_reads_in, ranges_read_in}
use Rattle.svr_mention.proofs.gather.+gather.Given as goal

abbrev pub invariant-add_all_mentions-loop-e : goal.invariant-add_all_mentions-loop-e
invariant-add_all_mentions-loop-e l = record {
  typed : AreTyped (expr_terms (drop l.e-index l.parts));
  reads : AllCanRead (reading_of l.set.state.now) (length l.env) (expr_terms (drop l.e-index l.parts));
  told : l.out ++ map (mention_in l.set) (all_reads_in l.set l.env (expr_terms (drop l.e-index l.parts))) ≡ l.initial.out ++ map (mention_in l.set) (all_reads_in l.set l.env (expr_terms l.parts));
}

abbrev pub invariant-add_range_mentions-loop-range : goal.invariant-add_range_mentions-loop-range
invariant-add_range_mentions-loop-range l = record {
  typed : RangesAreTyped (range_terms (drop l.range-index l.members));
  reads : RangesCanRead (reading_of l.set.state.now) (length l.env) (range_terms (drop l.range-index l.members));
  told : l.out ++ map (mention_in l.set) (ranges_read_in l.set l.env (range_terms (drop l.range-index l.members))) ≡ l.initial.out ++ map (mention_in l.set) (ranges_read_in l.set l.env (range_terms l.members));
}

abbrev pub invariant-add_reduction-loop-i : goal.invariant-add_reduction-loop-i
invariant-add_reduction-loop-i l = l.out ≡ l.initial.out ++ map (mention_in l.set) (each_below l.i (λ i. reads_in l.set (l.env ++ i ∷ []) (expr_term l.body)))

abbrev pub decreases-add_mentions : goal.decreases-add_mentions
decreases-add_mentions l = 8 * size-TExpr l.e.now + 1

abbrev pub decreases-add_both : goal.decreases-add_both
decreases-add_both l = 8 * (max (size-TExpr l.first.now) (size-TExpr l.second.now)) + 2

abbrev pub decreases-add_three : goal.decreases-add_three
decreases-add_three l = 8 * (max (size-TExpr l.first.now) (max (size-TExpr l.second.now) (size-TExpr l.third.now))) + 3

abbrev pub decreases-add_element : goal.decreases-add_element
decreases-add_element l = 8 * size-TExpr l.index.now + 2

abbrev pub decreases-add_cell : goal.decreases-add_cell
decreases-add_cell l = 8 * (max (size-TExpr l.first.now) (size-TExpr l.second.now)) + 3

abbrev pub decreases-add_test : goal.decreases-add_test
decreases-add_test l = 8 * (max (size-TExpr l.left.now) (goal.size-add_test l)) + 5

abbrev pub decreases-add_copies : goal.decreases-add_copies
decreases-add_copies l = 8 * (max (size-TExpr l.count.now) (goal.size-add_copies l)) + 4

abbrev pub decreases-add_reduction : goal.decreases-add_reduction
decreases-add_reduction l = 8 * size-TExpr l.body.now + 2

abbrev pub decreases-add_all_mentions : goal.decreases-add_all_mentions
decreases-add_all_mentions l = 8 * goal.size-add_all_mentions l + 3

abbrev pub decreases-add_range_mentions : goal.decreases-add_range_mentions
decreases-add_range_mentions l = 8 * goal.size-add_range_mentions l + 4

abbrev pub decreases-add_mentions_of_range : goal.decreases-add_mentions_of_range
decreases-add_mentions_of_range l = 8 * size-TRange l.range.now + 3

abbrev pub decreases-add_mentions_of_bound : goal.decreases-add_mentions_of_bound
decreases-add_mentions_of_bound l = 8 * size-TBound l.bound.now + 2
