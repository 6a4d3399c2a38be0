use Rattle.std.proofs.Common.{◌+◌, ◌*◌, map}
use Rattle.svr_typed.specs.ExprTerm.{expr_term}
use Rattle.svr_gate.specs.Circuit.{Extends}
use Rattle.svr_vector.specs.Places.{rows}
use Rattle.svr_inputs.specs.Inputs.{read_at}
use Rattle.svr_encode.specs.Parts.{part_term, alone_part}
use Rattle.svr_encode.proofs.FitLemmas.{term_size}
use Rattle.svr_encode.proofs.GivenLemmas.{Reads}
use Rattle.svr_encode.proofs.encode.+encode.Given as goal

abbrev pub decreases-encode_at : goal.decreases-encode_at
decreases-encode_at l = 2 * term_size (expr_term l.e.now)

abbrev pub decreases-part_at : goal.decreases-part_at
decreases-part_at l = 2 * term_size (expr_term l.part.now.tree.now) + 1

abbrev pub invariant-encode_at-loop-part : goal.invariant-encode_at-loop-part
invariant-encode_at-loop-part l = record {
  extends : Extends l.fn.b l.b;
  reads : Reads l.b (rows l.values.items) (λ v. read_at l.inputs v) l.env l.part-index (map part_term l.part-items) (alone_part (expr_term l.e));
}
