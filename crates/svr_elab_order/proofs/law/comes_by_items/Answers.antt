use Rattle.svr_elab_order.proofs.Ways.{by_chains, by_loop}
use Rattle.svr_elab_order.proofs.law.comes_by_items.Goals as goal

pub returns-clause-chain : goal.returns-clause-chain
returns-clause-chain c = by_chains

pub returns-clause-cycle : goal.returns-clause-cycle
returns-clause-cycle c = by_loop
