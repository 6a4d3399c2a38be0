use Rattle.std.proofs.Common.{◌≡◌, ◌++◌, drop}
use Rattle.svr_script.specs.ProofText.{clauses_text}
use Rattle.svr_stream.specs.Puts.{place}
use Rattle.svr_stream.proofs.Rows.{HasLeft}
use Rattle.svr_printed.proofs.proof.put_clauses.Given as goal

abbrev pub invariant-loop-clause : goal.invariant-loop-clause
invariant-loop-clause g l = HasLeft (place (g.K.Sink.written l.initial.out) (g.K.Sink.faults l.initial.out) l.initial.text) (place (g.K.Sink.written l.out) (g.K.Sink.faults l.out) l.text)
    (clauses_text l.clauses) (clauses_text (drop l.clause-index l.clauses))
