use Rattle.std.proofs.Common.{◌*◌, ap, ◌∙◌}
use Rattle.svr_frame.specs.Weight.{capped}
use Rattle.svr_weight.specs.Tallied.{beside, own_weight, beside_weight}
use Rattle.svr_weight.proofs.Caps.{sum_from, times_from}
use Rattle.svr_weight.proofs.unique.counted_weight.Goals as goal

pub returns : goal.returns
returns c =
    let x = c.args.member in
    let against = beside_weight c.args.around c.args.width x (beside c.args.behind x.mentions) in
    sum_from _ _ (own_weight c.args.part c.args.around c.args.width x) (x.count * against) _ c.add.ensures c.own_weight.ensures
    (times_from _ x.count _ against _ c.times.ensures c.from.ensures (c.beside_weight-against.ensures ∙ ap (λ t. capped (beside_weight c.args.around c.args.width x t)) c.beside-others.ensures))
