use Rattle.std.proofs.Common.{subst}
use Rattle.svr_frame.specs.Frame.{frame_term}
use Rattle.svr_randomize.specs.declared.kept.Form.{Form}
use Rattle.svr_randomize.specs.Kept.{AreItemsIn}
use Rattle.svr_randomize.proofs.values.are_met.Goals as goal

pub meet_items-requires-clause-items : goal.meet_items-requires-clause-items
meet_items-requires-clause-items c = subst (λ (x : Form). AreItemsIn (frame_term c.args.frame.now) c.args.sizes.now x) c.in-Expressions.is c.requires.items

pub meet_clauses-requires-clause-encodes : goal.meet_clauses-requires-clause-encodes
meet_clauses-requires-clause-encodes c = (subst (λ (x : Form). AreItemsIn (frame_term c.args.frame.now) c.args.sizes.now x) c.in-Clauses.is c.requires.items).1
