use Rattle.svr_frame.specs.Frame.{frame_term}
use Rattle.svr_frame_laws.proofs.Expressions.{hard_truths, live_truths}
use Rattle.svr_frame_laws.proofs.laws.closed_expressions_are_the_occurrences.Goals as goal

-- src/laws.rt:26:1
pub returns : goal.returns
returns c = record {
  hard = λ fixed a is. hard_truths (frame_term c.args.frame.now) c.args.sizes.now c.requires.sound c.requires.fit c.args.part fixed a is;
  soft = λ fixed a is. live_truths (frame_term c.args.frame.now) c.args.sizes.now c.requires.sound c.requires.fit c.args.part fixed a is;
}
