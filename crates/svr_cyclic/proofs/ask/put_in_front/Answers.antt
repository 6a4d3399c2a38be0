use Rattle.std.proofs.Common.{◌++◌, List, ap, ◌∙◌}
use Rattle.svr_chain.specs.declared.clause.Lit.{Lit}
use Rattle.svr_cyclic.proofs.ask.put_in_front.Goals as goal

pub returns : goal.returns
returns c = c.in_ok-extend_from_slice.ensures.items ∙ ap (λ (ls : List Lit). c.args.front.now.items ++ ls) (c.as_slice.ensures.value ∙ c.in_ok-literals.ensures)
