use Rattle.std.proofs.Common.{◌++◌, refl, arith}
use Rattle.std.specs.List.{All, flat_map}
use Rattle.svr_phase.specs.declared.proof.Renewed.{Renewed}
use Rattle.svr_script.specs.Derived.{all_derived}
use Rattle.svr_frame.specs.Frame.{frame_term}
use Rattle.svr_derived.specs.Shown.{IsShown}
use Rattle.svr_derived.proofs.Fronts.{failed_with, gone_none, row_gone, row_all, row_front}
use Rattle.svr_derived.proofs.Showing.{shown_at}
use Rattle.svr_derived.proofs.derivations.put_cycles.Goals as goal

pub loop-renewed-init : goal.loop-renewed-init
loop-renewed-init g c = gone_none

pub put_renewed-requires : goal.put_renewed-requires
put_renewed-requires g c = shown_at (λ (r : Renewed). All (IsShown c.args.encodings.now) r.proofs) c.args.cycles.now c.loop-renewed.renewed-index c.renewed-item.result c.requires (omega arith) c.renewed-item.is

pub loop-renewed-preserved : goal.loop-renewed-preserved
loop-renewed-preserved g c =
    row_gone (flat_map (λ (r : Renewed). all_derived (frame_term c.args.frame.now) c.args.encodings.now r.proofs)) c.args.cycles.now c.loop-renewed.renewed-index c.renewed-item.result c.loop-renewed.invariant c.in_ok-put_renewed.ensures.whole (omega arith) c.renewed-item.is refl

pub returns-in_err-put_renewed-clause-front : goal.returns-in_err-put_renewed-clause-front
returns-in_err-put_renewed-clause-front g c =
    failed_with c.from_residual.result _
    (row_front (flat_map (λ (r : Renewed). all_derived (frame_term c.args.frame.now) c.args.encodings.now r.proofs)) c.args.cycles.now c.loop-renewed.renewed-index c.renewed-item.result c.loop-renewed.invariant c.in_err-put_renewed.ensures.front (omega arith) c.renewed-item.is refl)

pub returns-clause-whole : goal.returns-clause-whole
returns-clause-whole g c = row_all (flat_map (λ (r : Renewed). all_derived (frame_term c.args.frame.now) c.args.encodings.now r.proofs)) c.args.cycles.now c.loop-renewed.renewed-index c.loop-renewed.invariant (omega arith) refl
