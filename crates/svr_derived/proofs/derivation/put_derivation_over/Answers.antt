use Rattle.std.proofs.Common.{◌∙◌}
use Rattle.svr_frame.specs.Frame.{frame_term}
use Rattle.svr_stream.proofs.Putting.{puts_as}
use Rattle.svr_derived.proofs.Fronts.{front_none, failed_with}
use Rattle.svr_derived.proofs.Texts.{derived_as}
use Rattle.svr_derived.proofs.derivation.put_derivation_over.Goals as goal

pub returns-in_err-derivation-clause-front : goal.returns-in_err-derivation-clause-front
returns-in_err-derivation-clause-front g c = failed_with c.from_residual.result _ front_none

pub returns-clause-whole : goal.returns-clause-whole
returns-clause-whole g c =
    puts_as c.put_between.ensures
    (derived_as (frame_term c.args.frame.now) c.args.encoding.now c.args.proof.now c.as_slice-lines.result.now _ c.as_slice-lines.ensures.value c.in_ok-derivation.ensures)
