use Rattle.std.proofs.Common.{◌≡◌, Ok, ap, option_map}
use Rattle.svr_elab_part.specs.Seen.{range_part_of}
use Rattle.svr_elab_item.specs.Seen.{dist_part, weight_part}
use Rattle.svr_elab_set.proofs.Forms.{and_dist_is}
use Rattle.svr_elab_set.proofs.dist.with_member.Goals as goal

pub returns : goal.returns
returns c =
    let range : c.dist_range-range.result ≡ Ok c.in_ok-dist.range = rw c.in_ok-dist.ensures.made at c.both-known.ensures.first in
    let weight : c.weight_at.result ≡ Ok c.in_ok-dist.weight = rw c.in_ok-dist.ensures.made at c.both-known.ensures.second in
    and_dist_is (dist_part c.in_ok-and_dist.field-0) (dist_part c.in_ok-dist.dist) (dist_part c.args.dist) (range_part_of c.in_ok-dist.range) _ (option_map weight_part c.in_ok-dist.weight) _
    c.in_ok-and_dist.ensures (ap dist_part c.in_ok-dist.ensures.held) (rw range at c.dist_range-range.ensures) (rw weight at c.weight_at.ensures)
