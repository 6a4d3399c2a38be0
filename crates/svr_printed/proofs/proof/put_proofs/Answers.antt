use Rattle.std.proofs.Common.{◌++◌, refl, arith}
use Rattle.svr_frame.specs.Frame.{frame_term}
use Rattle.svr_script.specs.ProofText.{proofs_text}
use Rattle.svr_stream.proofs.Rows.{left_all, row_more, row_none}
use Rattle.svr_printed.proofs.proof.put_proofs.Goals as goal

pub loop-proof-init : goal.loop-proof-init
loop-proof-init g c = left_all

pub loop-proof-preserved : goal.loop-proof-preserved
loop-proof-preserved g c =
    row_more (proofs_text (frame_term c.args.frame.now) c.args.encodings.now) c.args.proofs.now c.loop-proof.proof-index c.proof-item.result c.loop-proof.invariant c.put_proof.ensures (omega arith) c.proof-item.is refl

pub returns : goal.returns
returns g c = row_none (proofs_text (frame_term c.args.frame.now) c.args.encodings.now) c.args.proofs.now c.loop-proof.proof-index c.loop-proof.invariant (omega arith) refl
