use Rattle.std.proofs.Common.{◌≡◌, ◌++◌, [], map, drop}
use Rattle.svr_typed.specs.ExprTerm.{expr_terms}
use Rattle.svr_eval.specs.Typed.{AreTyped}
use Rattle.svr_encode.specs.Parts.{part_term, alone_parts, AreRepeats}
use Rattle.svr_encode.proofs.part.each_alone.Given as goal

abbrev pub invariant-loop-tree : goal.invariant-loop-tree
invariant-loop-tree l = record {
  typed : AreTyped (expr_terms (drop l.tree-index l.trees));
  parts : (map part_term l.parts.items ++ alone_parts (expr_terms (drop l.tree-index l.trees))) ≡ alone_parts (expr_terms l.trees);
  repeats : AreRepeats [] l.parts.items;
}
