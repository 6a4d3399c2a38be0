use Rattle.std.proofs.Common.{◌≡◌, ◌++◌, drop}
use Rattle.std.specs.Prelude.{codes}
use Rattle.std.specs.List.{flat_map}
use Rattle.svr_chain.specs.declared.clause.Lit.{Lit}
use Rattle.svr_script.specs.ProofText.{lit_text}
use Rattle.svr_stream.specs.Puts.{place}
use Rattle.svr_stream.proofs.Rows.{HasLeft}
use Rattle.svr_printed.proofs.proof.put_lits.Given as goal

abbrev pub invariant-loop-lit : goal.invariant-loop-lit
invariant-loop-lit g l = HasLeft (place (g.K.Sink.written l.initial.out) (g.K.Sink.faults l.initial.out) l.initial.text) (place (g.K.Sink.written l.out) (g.K.Sink.faults l.out) l.text)
    (flat_map (λ (x : Lit). codes " " ++ lit_text x) l.lits) (flat_map (λ (x : Lit). codes " " ++ lit_text x) (drop l.lit-index l.lits))
