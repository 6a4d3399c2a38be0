use Rattle.std.proofs.Common.{◌∙◌}
use Rattle.svr_typed.specs.ExprTerm.{expr_term}
use Rattle.svr_frame.specs.Frame.{frame_term}
use Rattle.svr_weight.specs.Weighing.{member_count, pair_weight}
use Rattle.svr_weight.proofs.Caps.{times_from}
use Rattle.svr_weight.proofs.unique.pairs_weight.Goals as goal

pub returns : goal.returns
returns c =
    let f = frame_term c.args.frame.now in
    let ns = c.args.sizes.now in
    let y = expr_term c.args.y.now in
    times_from _ (member_count f ns y) _ (pair_weight f c.args.part ns c.args.around (expr_term c.args.x.now) y) _ c.times.ensures (c.from-count.ensures ∙ c.member_count.ensures) c.pair_weight.ensures
