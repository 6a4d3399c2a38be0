use Rattle.std.proofs.Common.{◌≡◌, ◌++◌, length, map, drop}
use Rattle.svr_eval.specs.Reading.{reading_of}
use Rattle.svr_frame.specs.Occurrences.{unequal}
use Rattle.svr_expand.specs.Expanded.{place_of, findings, found_of}
use Rattle.svr_expand.specs.Operands.{operand_expr, operand_exprs, AllReady}
use Rattle.svr_expand.proofs.pairs.add_against.Given as goal

abbrev pub invariant-loop-y : goal.invariant-loop-y
invariant-loop-y l = record {
  ready : AllReady (reading_of l.set.state.now) (length l.env) (drop l.y-index l.others);
  told : findings l.out ++ found_of l.set (place_of l.at l.env) (map (unequal (operand_expr l.x)) (operand_exprs (drop l.y-index l.others)))
      ≡ findings l.initial.out ++ found_of l.set (place_of l.at l.env) (map (unequal (operand_expr l.x)) (operand_exprs l.others));
}
