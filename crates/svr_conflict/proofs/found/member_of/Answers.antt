use Rattle.std.proofs.Common.{Bool, List, refl, ap, ◌∙◌}
use Rattle.svr_frame.specs.Frame.{frame_term}
use Rattle.svr_conflict.specs.Read.{read_values}
use Rattle.svr_conflict.proofs.found.member_of.Goals as goal

pub returns : goal.returns
returns c =
    let f = frame_term c.args.frame.now in
    (refl, c.in_ok-without.ensures.reads ∙ ap (λ (vs : List Bool). read_values f c.args.sizes.now c.args.encoding.now vs) c.as_slice-values.ensures)
