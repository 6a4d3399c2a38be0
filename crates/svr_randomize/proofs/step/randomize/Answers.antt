use Rattle.svr_frame.specs.Frame.{frame_term}
use Rattle.svr_randomize.proofs.step.randomize.Goals as goal

pub randomize_again-outcome-requires-clause-kept : goal.randomize_again-outcome-requires-clause-kept
randomize_again-outcome-requires-clause-kept c = c.new-kept.ensures (frame_term c.args.frame.now)
