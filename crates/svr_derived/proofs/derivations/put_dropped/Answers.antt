use Rattle.std.proofs.Common.{◌++◌, refl, arith}
use Rattle.std.specs.List.{flat_map}
use Rattle.svr_call.specs.declared.outcome.Dropped.{Dropped}
use Rattle.svr_script.specs.Derived.{derived_text}
use Rattle.svr_frame.specs.Frame.{frame_term}
use Rattle.svr_derived.specs.Shown.{IsShown}
use Rattle.svr_derived.proofs.Fronts.{failed_with, gone_none, row_gone, row_all, row_front}
use Rattle.svr_derived.proofs.Showing.{shown_at}
use Rattle.svr_derived.proofs.derivations.put_dropped.Goals as goal

pub loop-one-init : goal.loop-one-init
loop-one-init g c = gone_none

pub put_derivation-requires : goal.put_derivation-requires
put_derivation-requires g c = shown_at (λ (d : Dropped). IsShown c.args.encodings.now d.proof) c.args.dropped.now c.loop-one.one-index c.one-item.result c.requires (omega arith) c.one-item.is

pub loop-one-preserved : goal.loop-one-preserved
loop-one-preserved g c =
    row_gone (flat_map (λ (d : Dropped). derived_text (frame_term c.args.frame.now) c.args.encodings.now d.proof)) c.args.dropped.now c.loop-one.one-index c.one-item.result c.loop-one.invariant c.in_ok-put_derivation.ensures.whole (omega arith) c.one-item.is refl

pub returns-in_err-put_derivation-clause-front : goal.returns-in_err-put_derivation-clause-front
returns-in_err-put_derivation-clause-front g c =
    failed_with c.from_residual.result _
    (row_front (flat_map (λ (d : Dropped). derived_text (frame_term c.args.frame.now) c.args.encodings.now d.proof)) c.args.dropped.now c.loop-one.one-index c.one-item.result c.loop-one.invariant c.in_err-put_derivation.ensures.front (omega arith) c.one-item.is refl)

pub returns-clause-whole : goal.returns-clause-whole
returns-clause-whole g c = row_all (flat_map (λ (d : Dropped). derived_text (frame_term c.args.frame.now) c.args.encodings.now d.proof)) c.args.dropped.now c.loop-one.one-index c.loop-one.invariant (omega arith) refl
