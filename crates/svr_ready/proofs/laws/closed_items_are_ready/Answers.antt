use Rattle.svr_frame.specs.Frame.{frame_term}
use Rattle.svr_ready.proofs.Domains.{hard_ready, live_ready}
use Rattle.svr_ready.proofs.laws.closed_items_are_ready.Goals as goal

pub returns : goal.returns
returns c = record {
  hard = λ fixed a is. hard_ready (frame_term c.args.frame.now) c.args.sizes.now c.requires.sound c.requires.fit fixed a is;
  soft = λ fixed a is. live_ready (frame_term c.args.frame.now) c.args.sizes.now c.requires.sound c.requires.fit fixed a is;
}
