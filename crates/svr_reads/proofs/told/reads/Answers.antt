use Rattle.std.proofs.Common.{sym, ◌∙◌}
use Rattle.svr_typed.specs.ExprTerm.{expr_term}
use Rattle.svr_reads.specs.declared.told.Told.TheVariants as told
use Rattle.svr_reads.proofs.AllTold.{found_alone}
use Rattle.svr_reads.proofs.told.reads.Goals as goal

pub returns : goal.returns
returns c = record {
  number = c.tells.ensures ∙ sym (found_alone (told.Number c.args.prop) (expr_term c.args.e.now));
  element = c.tells-2.ensures ∙ sym (found_alone (told.Element c.args.prop) (expr_term c.args.e.now));
  size = c.tells-3.ensures ∙ sym (found_alone (told.Size c.args.prop) (expr_term c.args.e.now));
}
