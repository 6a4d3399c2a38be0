use Rattle.std.proofs.Common.{◌++◌, refl, arith}
use Rattle.std.specs.List.{flat_map}
use Rattle.svr_frame.specs.Frame.{frame_term}
use Rattle.svr_call.specs.declared.outcome.Dropped.{Dropped}
use Rattle.svr_script.specs.ProofText.{proof_text}
use Rattle.svr_stream.proofs.Rows.{left_all, row_more, row_none}
use Rattle.svr_printed.proofs.certificate.put_drop_proofs.Goals as goal

pub loop-one-init : goal.loop-one-init
loop-one-init g c = left_all

pub loop-one-preserved : goal.loop-one-preserved
loop-one-preserved g c =
    row_more (flat_map (λ (d : Dropped). proof_text (frame_term c.args.frame.now) c.args.encodings.now d.proof)) c.args.dropped.now c.loop-one.one-index c.one-item.result c.loop-one.invariant c.put_proof.ensures (omega arith) c.one-item.is refl

pub returns : goal.returns
returns g c = row_none (flat_map (λ (d : Dropped). proof_text (frame_term c.args.frame.now) c.args.encodings.now d.proof)) c.args.dropped.now c.loop-one.one-index c.loop-one.invariant (omega arith) refl
