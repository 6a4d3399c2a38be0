use Rattle.std.proofs.Common.{◌≡◌, [], map}
use Rattle.svr_typed.specs.ExprTerm.{expr_term}
use Rattle.svr_encode.specs.Parts.{part_term, body_parts, AreRepeats}
use Rattle.svr_encode.proofs.part.bodies.Given as goal

abbrev pub invariant-loop-i : goal.invariant-loop-i
invariant-loop-i l = record {
  parts : map part_term l.parts.items ≡ body_parts l.i (expr_term l.body);
  repeats : AreRepeats [] l.parts.items;
}
