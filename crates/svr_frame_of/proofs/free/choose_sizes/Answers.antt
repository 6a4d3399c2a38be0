use Rattle.std.proofs.Common.{refl}
use Rattle.svr_frame.specs.Frame.{frame_term}
use Rattle.svr_frame_of.proofs.Chosen.{with_choice}
use Rattle.svr_frame_of.proofs.free.choose_sizes.Goals as goal

pub returns : goal.returns
returns c =
    let g = frame_term c.free_sizes.new.frame in
    with_choice (frame_term c.args.frame.now) g g c.len-count.result c.in_ok-free.free refl c.in_ok-free.ensures.same c.in_ok-free.ensures.free c.len-count.ensures
