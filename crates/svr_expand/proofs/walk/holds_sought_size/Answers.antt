use Rattle.std.proofs.Common.{sym, ◌∙◌}
use Rattle.svr_typed.specs.ExprTerm.{expr_term}
use Rattle.svr_frame.specs.Frame.{frame_term}
use Rattle.svr_frame.proofs.Found.{free_size_found}
use Rattle.svr_expand.proofs.walk.holds_sought_size.Goals as goal

pub returns : goal.returns
returns c = c.holds_free_size.ensures ∙ sym (free_size_found (frame_term c.args.set.now.frame.now) c.args.set.now.part c.args.set.now.sizes.now (expr_term c.args.target.now))
