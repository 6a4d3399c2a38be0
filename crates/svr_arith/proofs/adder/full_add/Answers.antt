use Rattle.svr_gate.proofs.Circuits.{later}
use Rattle.svr_arith.proofs.SumLemmas.{full_adder}
use Rattle.svr_arith.proofs.adder.full_add.Goals as goal

pub returns-in_err-carry-clause-extends : goal.returns-in_err-carry-clause-extends
returns-in_err-carry-clause-extends c = search later

pub returns-clause-extends : goal.returns-clause-extends
returns-clause-extends c = search later

pub returns-clause-value : goal.returns-clause-value
returns-clause-value c = full_adder c.define.new.self c.define-2.new.self c.args.p c.args.q c.args.r c.in_ok-sum.sum c.in_ok-carry.carry c.define-2.ensures.extends c.in_ok-sum.ensures.value c.in_ok-carry.ensures.value
