use Rattle.std.proofs.Common.{ap}
use Rattle.svr_frame.specs.Frame.{frame_term}
use Rattle.svr_frame_of.proofs.Chosen.{with_choice}
use Rattle.svr_frame_of.proofs.free.with_free_sizes.Goals as goal

pub returns : goal.returns
returns c =
    let x = c.in_ok-whole in
    with_choice (frame_term c.args.frame) (frame_term c.free_sizes-free.new.frame) (frame_term x.whole) c.len-count.result x.free (ap frame_term x.ensures.held)
    (rw x.ensures.made at c.free_sizes-free.ensures.same) (rw x.ensures.made at c.free_sizes-free.ensures.free) c.len-count.ensures
