use Rattle.svr_frame.specs.Frame.{frame_term}
use Rattle.svr_frame_laws.proofs.Answers.{answer_holds}
use Rattle.svr_frame_laws.proofs.laws.hard_occurrences_are_the_items.Goals as goal

-- src/laws.rt:19:1
pub returns : goal.returns
returns c = record { items = λ fixed a is. answer_holds (frame_term c.args.frame.now) c.args.sizes.now c.requires.sound c.requires.fit fixed a is }
