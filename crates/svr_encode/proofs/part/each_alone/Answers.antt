use Rattle.std.proofs.Common.{◌+◌, ◌++◌, [], List, map, drop, ap, ◌∙◌, arith}
use Rattle.std.proofs.lemmas.List.{map_push}
use Rattle.svr_typed.specs.ExprTerm.{expr_terms}
use Rattle.svr_encode.specs.Parts.{PartTerm, part_term, alone_parts}
use Rattle.svr_encode.proofs.PartLemmas.{repeats_more, no_repeat, alone_more, exprs_typed}
use Rattle.svr_encode.proofs.part.each_alone.Goals as goal

pub loop-tree-preserved : goal.loop-tree-preserved
loop-tree-preserved c = record {
  typed = (exprs_typed c.loop-tree.tree-index c.args.trees.now c.tree-item.result (omega arith) c.tree-item.is c.loop-tree.invariant.typed).1;
  parts = rw c.in_ok-push.ensures.items
      (ap (λ (ts : List PartTerm). ts ++ alone_parts (expr_terms (drop (c.loop-tree.tree-index + 1) c.args.trees.now))) (map_push part_term c.loop-tree.parts.items c.alone.result)
      ∙ alone_more (map part_term c.loop-tree.parts.items) (alone_parts (expr_terms c.args.trees.now)) (part_term c.alone.result) c.loop-tree.tree-index c.args.trees.now c.tree-item.result (omega arith) c.tree-item.is c.alone.ensures.term c.loop-tree.invariant.parts);
  repeats = rw c.in_ok-push.ensures.items (repeats_more [] c.loop-tree.parts.items c.alone.result c.loop-tree.invariant.repeats (no_repeat _ c.alone.result c.alone.ensures.first));
}
