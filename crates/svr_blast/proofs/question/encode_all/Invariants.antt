use Rattle.std.proofs.Common.{map, take}
use Rattle.svr_typed.specs.ExprTerm.{expr_term}
use Rattle.svr_gate.specs.Circuit.{Extends}
use Rattle.svr_inputs.specs.Inputs.{read_at}
use Rattle.svr_encoded.specs.Encodes.{AreRising, TellItems}
use Rattle.svr_blast.proofs.question.encode_all.Given as goal

abbrev pub invariant-loop-item : goal.invariant-loop-item
invariant-loop-item l = record {
  extends : Extends l.fn.b l.b;
  roots : TellItems l.b.clauses l.roots.items (λ v. read_at l.inputs v) (map expr_term (take l.item-index l.items));
  apart : AreRising l.fn.b.vars l.roots.items l.b.vars;
}
