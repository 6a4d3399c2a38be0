use Rattle.std.proofs.Common.{sym, ◌∙◌}
use Rattle.svr_typed.specs.ExprTerm.{expr_term}
use Rattle.svr_frame.specs.Frame.{frame_term}
use Rattle.svr_frame.proofs.Found.{free_size_found}
use Rattle.svr_weight.proofs.cost.holds_size.Goals as goal

pub returns : goal.returns
returns c = c.holds_free_size.ensures ∙ sym (free_size_found (frame_term c.args.frame.now) c.args.part c.args.sizes.now (expr_term c.args.e.now))
