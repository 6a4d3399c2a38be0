use Rattle.std.proofs.Common.{◌≡◌, drop}
use Rattle.svr_typed.specs.ExprTerm.{expr_terms, range_terms}
use Rattle.svr_effect.specs.Mentions as spec
use Rattle.svr_effect.specs.Named.{mentioned}
use Rattle.svr_effect.proofs.mention.+mention.Given as goal

abbrev pub invariant-mention_all-loop-part : goal.invariant-mention_all-loop-part
invariant-mention_all-loop-part l = spec.all_mention (mentioned l.names) (expr_terms (drop l.part-index l.parts)) ≡ spec.all_mention (mentioned l.fn.names) (expr_terms l.parts)

abbrev pub invariant-mention_ranges-loop-range : goal.invariant-mention_ranges-loop-range
invariant-mention_ranges-loop-range l = spec.ranges_mention (mentioned l.names) (range_terms (drop l.range-index l.set)) ≡ spec.ranges_mention (mentioned l.fn.names) (range_terms l.set)
