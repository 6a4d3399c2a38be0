use Rattle.svr_frame.specs.Frame.{frame_term}
use Rattle.svr_randomize.proofs.Keeping.{kept_is_last}
use Rattle.svr_randomize.proofs.clauses.again.Goals as goal

pub returns-then-reads_again : goal.returns-then-reads_again
returns-then-reads_again c =
    kept_is_last (frame_term c.args.frame.now) c.args.sizes.now c.args.last c.requires.sound c.requires.fit (c.reads_again.ensures.sizes c.if-reads_again.true) (c.reads_again.ensures.read c.if-reads_again.true) c.requires.last
