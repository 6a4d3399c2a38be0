use Rattle.std.proofs.Common.{not, ap, ◌∙◌}
use Rattle.svr_elab_target.proofs.Fitting.{got_at}
use Rattle.svr_elab_target.proofs.Chains.{alone_is}
use Rattle.svr_elab_target.proofs.chain.own_alone.Goals as goal

pub returns-then-is_none : goal.returns-then-is_none
returns-then-is_none c =
    let own = c.in-Some.own.now in
    alone_is c.args.classes.now c.args.class own (got_at c.args.classes.now c.args.class own c.in-Some.ensures.lookup.3.0 c.in-Some.ensures.lookup.1) (c.is_none.ensures ∙ ap not c.if-is_none.true)
