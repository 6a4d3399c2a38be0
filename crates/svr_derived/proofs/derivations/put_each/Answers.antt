use Rattle.std.proofs.Common.{◌++◌, refl, arith}
use Rattle.svr_script.specs.Derived.{all_derived}
use Rattle.svr_frame.specs.Frame.{frame_term}
use Rattle.svr_derived.specs.Shown.{IsShown}
use Rattle.svr_derived.proofs.Fronts.{failed_with, gone_none, row_gone, row_all, row_front}
use Rattle.svr_derived.proofs.Showing.{shown_at}
use Rattle.svr_derived.proofs.derivations.put_each.Goals as goal

pub loop-proof-init : goal.loop-proof-init
loop-proof-init g c = gone_none

pub put_derivation-requires : goal.put_derivation-requires
put_derivation-requires g c = shown_at (IsShown c.args.encodings.now) c.args.proofs.now c.loop-proof.proof-index c.proof-item.result c.requires (omega arith) c.proof-item.is

pub loop-proof-preserved : goal.loop-proof-preserved
loop-proof-preserved g c =
    row_gone (all_derived (frame_term c.args.frame.now) c.args.encodings.now) c.args.proofs.now c.loop-proof.proof-index c.proof-item.result c.loop-proof.invariant c.in_ok-put_derivation.ensures.whole (omega arith) c.proof-item.is refl

pub returns-in_err-put_derivation-clause-front : goal.returns-in_err-put_derivation-clause-front
returns-in_err-put_derivation-clause-front g c =
    failed_with c.from_residual.result _
    (row_front (all_derived (frame_term c.args.frame.now) c.args.encodings.now) c.args.proofs.now c.loop-proof.proof-index c.proof-item.result c.loop-proof.invariant c.in_err-put_derivation.ensures.front (omega arith) c.proof-item.is refl)

pub returns-clause-whole : goal.returns-clause-whole
returns-clause-whole g c = row_all (all_derived (frame_term c.args.frame.now) c.args.encodings.now) c.args.proofs.now c.loop-proof.proof-index c.loop-proof.invariant (omega arith) refl
