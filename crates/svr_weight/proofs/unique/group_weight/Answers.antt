use Rattle.std.proofs.Common.{◌*◌, ap, ◌∙◌}
use Rattle.svr_typed.specs.ExprTerm.{expr_term, expr_terms}
use Rattle.svr_frame.specs.Frame.{frame_term}
use Rattle.svr_weight.specs.Weighing.{member_count, pair_number, pair_weight, against_weight}
use Rattle.svr_weight.proofs.Caps.{sum_from, times_from}
use Rattle.svr_weight.proofs.unique.group_weight.Goals as goal

pub returns : goal.returns
returns c =
    let f = frame_term c.args.frame.now in
    let part = c.args.part in
    let ns = c.args.sizes.now in
    let x = expr_term c.args.x.now in
    let n = member_count f ns x in
    let each = pair_weight f part ns c.args.around x x in
    let against = against_weight f part ns c.args.around x (expr_terms c.args.others.now) in
    sum_from _ _ (pair_number n * each) (n * against) _ c.add.ensures
    (times_from _ (pair_number n) _ each _ c.times.ensures (c.pair_count.ensures ∙ ap pair_number c.member_count-count.ensures) c.pair_weight-each.ensures)
    (times_from _ n _ against _ c.times-2.ensures (c.from.ensures ∙ c.member_count-count.ensures) c.against_weight-against.ensures)
