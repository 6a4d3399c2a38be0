use Rattle.std.proofs.Common.{sym, ◌∙◌}
use Rattle.svr_typed.specs.ExprTerm.{expr_term}
use Rattle.svr_frame.specs.Frame.{frame_term}
use Rattle.svr_frame.proofs.Found.{open_found}
use Rattle.svr_mention.proofs.setting.Setting.opens.Goals as goal

pub returns : goal.returns
returns c = c.is_open.ensures ∙ sym (open_found (frame_term c.args.self.now.frame.now) c.args.self.now.part c.args.self.now.sizes.now (expr_term c.args.index.now))
