use Rattle.std.proofs.Common.{◌++◌, refl, arith}
use Rattle.svr_script.specs.ProofText.{clauses_text}
use Rattle.svr_stream.proofs.Rows.{left_all, row_more, row_none}
use Rattle.svr_printed.proofs.proof.put_clauses.Goals as goal

pub loop-clause-init : goal.loop-clause-init
loop-clause-init g c = left_all

pub loop-clause-preserved : goal.loop-clause-preserved
loop-clause-preserved g c =
    row_more (clauses_text) c.args.clauses.now c.loop-clause.clause-index c.clause-item.result c.loop-clause.invariant c.put_clause.ensures (omega arith) c.clause-item.is refl

pub returns : goal.returns
returns g c = row_none (clauses_text) c.args.clauses.now c.loop-clause.clause-index c.loop-clause.invariant (omega arith) refl
