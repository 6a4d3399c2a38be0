use Rattle.std.proofs.Common.{sym, ◌∙◌}
use Rattle.svr_typed.specs.ExprTerm.{expr_term}
use Rattle.svr_eval.specs.Reading.{reading_of}
use Rattle.svr_reads.proofs.AllTold.{open_told}
use Rattle.svr_reads.proofs.place.opens.Goals as goal

pub returns : goal.returns
returns c = c.tells.ensures ∙ sym (open_told c.args.set.now.props (reading_of c.args.set.now.state.now).size (expr_term c.args.index.now))
