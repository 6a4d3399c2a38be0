use Rattle.std.specs.Rc.{rc_value}
use Rattle.svr_elab_block.proofs.Agreed.{of_base, got_at}
use Rattle.svr_elab_block.proofs.cycle.inherited_ranks.Goals as goal

pub returns-in-Some-get : goal.returns-in-Some-get
returns-in-Some-get c text h =
    of_base text c.args.chain.now c.args.at.base c.in-Some.base c.in-Some-get.class.now c.shared.result rc_value c.in-Some.is (got_at c.args.chain.now c.in-Some.base c.in-Some-get.class.now c.in-Some-get.ensures.lookup.3.0 c.in-Some-get.ensures.lookup.1) c.shared.ensures h
