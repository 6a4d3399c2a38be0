use Rattle.std.proofs.Common.{subst}
use Rattle.svr_frame.specs.Frame.{frame_term}
use Rattle.svr_randomize.specs.declared.kept.Form.{Form}
use Rattle.svr_randomize.specs.Kept.{AreItemsIn}
use Rattle.svr_randomize.proofs.clauses.encoded.Goals as goal

pub clauses_for-requires-clause-items : goal.clauses_for-requires-clause-items
clauses_for-requires-clause-items c = subst (λ (x : Form). AreItemsIn (frame_term c.args.frame.now) c.args.sizes.now x) c.in-Expressions.is c.requires.items

pub returns-in-Clauses : goal.returns-in-Clauses
returns-in-Clauses c = (subst (λ (x : Form). AreItemsIn (frame_term c.args.frame.now) c.args.sizes.now x) c.in-Clauses.is c.requires.items).1
