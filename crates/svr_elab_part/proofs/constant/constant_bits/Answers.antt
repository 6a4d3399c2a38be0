use Rattle.std.proofs.Common.{◌≡◌, ◌∙◌}
use Rattle.svr_typed.specs.ExprTerm.{expr_term}
use Rattle.svr_eval.specs.Reading.{reading_of}
use Rattle.svr_eval.proofs.Constant.{constant_alone}
use Rattle.svr_elab_part.proofs.Constants.{reads_nothing}
use Rattle.svr_elab_part.proofs.constant.constant_bits.Goals as goal

pub value-requires-clause-reads : goal.value-requires-clause-reads
value-requires-clause-reads c = reads_nothing _ _ (expr_term c.args.tree.now) c.requires.constant

pub returns-clause-value : goal.returns-clause-value
returns-clause-value c = c.value.ensures.value ∙ constant_alone (reading_of c.args.nothing.now) c.args.env.now (expr_term c.args.tree.now) c.requires.constant
