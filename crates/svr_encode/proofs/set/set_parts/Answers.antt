use Rattle.std.proofs.Common.{◌∙◌, ◌++◌, ap, sym, map, arith, List}
use Rattle.std.proofs.lemmas.List.{append-nil, drop_all}
use Rattle.svr_typed.specs.declared.expr.TRange.{TRange}
use Rattle.svr_typed.specs.ExprTerm.{expr_term, range_terms}
use Rattle.svr_encode.specs.Parts.{part_term, set_parts}
use Rattle.svr_encode.proofs.PartLemmas.{set_more, ranges_typed}
use Rattle.svr_encode.proofs.set.set_parts.Goals as goal

pub loop-range-preserved : goal.loop-range-preserved
loop-range-preserved c = record {
  typed = (ranges_typed c.loop-range.range-index c.args.ranges.now c.range-item.result (omega arith) c.range-item.is c.loop-range.invariant.typed).1;
  set = c.in_ok-add_range.ensures.set;
  parts = set_more (map part_term c.loop-range.set.parts.items) _ (set_parts (expr_term c.args.left.now) (range_terms c.args.ranges.now)) (expr_term c.args.left.now) c.loop-range.range-index c.args.ranges.now c.range-item.result (omega arith) c.range-item.is
      c.in_ok-add_range.ensures.parts c.loop-range.invariant.parts;
}

pub add_range-requires : goal.add_range-requires
add_range-requires c = record {
  left_typed = c.requires.left_typed;
  typed = (ranges_typed c.loop-range.range-index c.args.ranges.now c.range-item.result (omega arith) c.range-item.is c.loop-range.invariant.typed).0;
  set = c.loop-range.invariant.set;
}

pub returns-clause-parts : goal.returns-clause-parts
returns-clause-parts c =
    let made = map part_term c.loop-range.set.parts.items in
    sym (append-nil made)
    ∙ ap (λ (rs : List TRange). made ++ set_parts (expr_term c.args.left.now) (range_terms rs)) (sym (drop_all c.loop-range.range-index c.args.ranges.now (omega arith)))
    ∙ c.loop-range.invariant.parts

pub returns-clause-repeats : goal.returns-clause-repeats
returns-clause-repeats c = c.loop-range.invariant.set.repeats
