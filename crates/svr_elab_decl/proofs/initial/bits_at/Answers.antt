use Rattle.std.proofs.Common.{◌∙◌}
use Rattle.svr_typed.specs.ExprTerm.{expr_term}
use Rattle.svr_eval.specs.Reading.{reading_of}
use Rattle.svr_eval.proofs.Constant.{constant_val}
use Rattle.svr_elab_part.proofs.Constants.{reads_nothing}
use Rattle.svr_elab_decl.proofs.initial.bits_at.Goals as goal

pub value_at-requires-clause-reads : goal.value_at-requires-clause-reads
value_at-requires-clause-reads c = reads_nothing _ _ (expr_term c.args.tree.now) c.requires.constant

pub returns-clause-value : goal.returns-clause-value
returns-clause-value c =
    c.value_at.ensures.value ∙ constant_val (reading_of c.args.nothing.now) c.args.env.now (expr_term c.args.tree.now) c.args.width c.args.tree.now.signed c.requires.constant
