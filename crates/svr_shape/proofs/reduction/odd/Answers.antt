use Rattle.std.proofs.Common.{ap, arith, false, get_or, List, eqb, ◌%◌}
use Rattle.std.specs.List.{count_by}
use Rattle.std.proofs.lemmas.List.{take_all}
use Rattle.svr_chain.specs.declared.clause.Lit.{Lit}
use Rattle.svr_chain.specs.Valuations.{lit_value}
use Rattle.svr_gate.proofs.Circuits.{later, Tells-same, IsWithin-later, AreWithin-two}
use Rattle.svr_shape.proofs.ReductionLemmas.{odd_step}
use Rattle.svr_shape.proofs.reduction.odd.Goals as goal

pub returns-in_err-odd-2-clause-extends : goal.returns-in_err-odd-2-clause-extends
returns-in_err-odd-2-clause-extends c = search later

pub loop-lit-preserved : goal.loop-lit-preserved
loop-lit-preserved c = record {
  extends = search later;
  value = odd_step c.loop-lit.b c.define-in-loop-lit.new.self c.args.x.now c.loop-lit.odd c.in_ok-odd-2.odd (record { var = 0; neg = false }) c.loop-lit.lit-index c.define-in-loop-lit.ensures.extends c.loop-lit-test.true c.loop-lit.invariant.value c.in_ok-odd-2.ensures.value;
}

pub define-requires-in-loop-lit : goal.define-requires-in-loop-lit
define-requires-in-loop-lit c =
    let d : Lit = record { var = 0; neg = false } in
    let lit = get_or c.args.x.now c.loop-lit.lit-index d in
    let i = c.loop-lit.invariant in
    let w = AreWithin-two c.loop-lit.odd lit i.value.within (IsWithin-later lit i.extends (c.requires c.loop-lit.lit-index d c.loop-lit-test.true)) in (omega arith, (omega arith, w))

pub returns-clause-extends : goal.returns-clause-extends
returns-clause-extends c = c.loop-lit.invariant.extends

pub returns-clause-value : goal.returns-clause-value
returns-clause-value c = Tells-same (λ a. eqb (count_by (lit_value a) c.args.x.now % 2) 1) c.loop-lit.invariant.value (λ a m. ap (λ (ls : List Lit). eqb (count_by (lit_value a) ls % 2) 1) (take_all c.loop-lit.lit-index c.args.x.now (omega arith)))
