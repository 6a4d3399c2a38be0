use Rattle.std.proofs.Common.{◌∙◌, ap}
use Rattle.svr_eval.specs.declared.assign.Assign.{Assign}
use Rattle.svr_frame.specs.Frame.{frame_term}
use Rattle.svr_expand.specs.Cut.{cut_from}
use Rattle.svr_expand.proofs.Cuts.{cut_reading}
use Rattle.svr_expand.proofs.state.state_at.Goals as goal

pub returns : goal.returns
returns c =
    let a : Assign = record { values = c.in_ok-values.values; sizes = c.in_ok-sizes.sizes; script = c.in_ok-script.script } in
    cut_reading (frame_term c.args.frame.now) c.args.sizes.now a (c.in_ok-values.ensures ∙ ap (λ v. cut_from 0 v c.args.sizes.now) c.as_slice.ensures) c.in_ok-sizes.ensures (c.in_ok-script.ensures ∙ c.as_slice-2.ensures)
