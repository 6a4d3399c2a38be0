use Rattle.std.proofs.Common.{ap, arith, false, get_or, List}
use Rattle.std.specs.List.{list_all}
use Rattle.std.proofs.lemmas.List.{take_all}
use Rattle.svr_chain.specs.declared.clause.Lit.{Lit}
use Rattle.svr_chain.specs.Valuations.{lit_value}
use Rattle.svr_gate.proofs.Circuits.{later, Tells-same, IsWithin-later, AreWithin-two}
use Rattle.svr_gate.proofs.TableLemmas.{Tells-always}
use Rattle.svr_shape.proofs.ReductionLemmas.{all_step}
use Rattle.svr_shape.proofs.reduction.all.Goals as goal

pub returns-in_err-all-2-clause-extends : goal.returns-in_err-all-2-clause-extends
returns-in_err-all-2-clause-extends c = search later

pub loop-lit-preserved : goal.loop-lit-preserved
loop-lit-preserved c = record {
  extends = search later;
  value = all_step c.loop-lit.b c.define-in-loop-lit.new.self c.args.x.now c.loop-lit.all c.in_ok-all-2.all (record { var = 0; neg = false }) c.loop-lit.lit-index c.define-in-loop-lit.ensures.extends c.loop-lit-test.true c.loop-lit.invariant.value c.in_ok-all-2.ensures.value;
}

pub loop-lit-init : goal.loop-lit-init
loop-lit-init c = record { extends = search later; value = Tells-always c.in_ok-all.ensures.value }

pub define-requires-in-loop-lit : goal.define-requires-in-loop-lit
define-requires-in-loop-lit c =
    let d : Lit = record { var = 0; neg = false } in
    let lit = get_or c.args.x.now c.loop-lit.lit-index d in
    let i = c.loop-lit.invariant in
    let w = AreWithin-two c.loop-lit.all lit i.value.within (IsWithin-later lit i.extends (c.requires c.loop-lit.lit-index d c.loop-lit-test.true)) in (omega arith, (omega arith, w))

pub returns-clause-extends : goal.returns-clause-extends
returns-clause-extends c = c.loop-lit.invariant.extends

pub returns-clause-value : goal.returns-clause-value
returns-clause-value c = Tells-same (λ a. list_all (lit_value a) c.args.x.now) c.loop-lit.invariant.value (λ a m. ap (λ (ls : List Lit). list_all (lit_value a) ls) (take_all c.loop-lit.lit-index c.args.x.now (omega arith)))
