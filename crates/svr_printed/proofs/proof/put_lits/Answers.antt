use Rattle.std.proofs.Common.{◌++◌, refl, arith}
use Rattle.std.specs.Prelude.{codes}
use Rattle.std.specs.List.{flat_map}
use Rattle.svr_chain.specs.declared.clause.Lit.{Lit}
use Rattle.svr_script.specs.ProofText.{lit_text}
use Rattle.svr_stream.proofs.Rows.{left_all, row_copy, row_none}
use Rattle.svr_printed.proofs.proof.put_lits.Goals as goal

pub loop-lit-init : goal.loop-lit-init
loop-lit-init g c = left_all

pub loop-lit-preserved : goal.loop-lit-preserved
loop-lit-preserved g c =
    row_copy (flat_map (λ (x : Lit). codes " " ++ lit_text x)) c.args.lits.now c.loop-lit.lit-index _ c.loop-lit.invariant c.put_spaced.ensures (omega arith) refl

pub returns : goal.returns
returns g c = row_none (flat_map (λ (x : Lit). codes " " ++ lit_text x)) c.args.lits.now c.loop-lit.lit-index c.loop-lit.invariant (omega arith) refl
