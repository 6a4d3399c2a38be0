use Rattle.std.proofs.Common.{false}
use Rattle.svr_chain.specs.declared.clause.Lit.{Lit}
use Rattle.svr_chain.proofs.Same.{has-at}
use Rattle.svr_cyclic.proofs.single.ask_each.Goals as goal

pub ask_single-requires-clause-own : goal.ask_single-requires-clause-own
ask_single-requires-clause-own c =
    let d : Lit = record { var = 0; neg = false } in
    (c.args.own.now, c.requires.own, has-at c.args.own.now c.loop-lit.lit-index d c.loop-lit-test.true)
