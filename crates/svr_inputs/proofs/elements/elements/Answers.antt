use Rattle.std.proofs.Common.{◌≡◌, ◌+◌, ℕ, arith, subst}
use Rattle.svr_gate.proofs.Circuits.{later}
use Rattle.svr_vector.specs.Places.{rows}
use Rattle.svr_inputs.specs.Inputs.{read_at}
use Rattle.svr_inputs.specs.Elements.{GiveNumbers}
use Rattle.svr_inputs.proofs.ElementLemmas.{element_next}
use Rattle.svr_inputs.proofs.elements.elements.Goals as goal

pub returns-in_err-one-clause-extends : goal.returns-in_err-one-clause-extends
returns-in_err-one-clause-extends c = search later

pub returns-in_err-push-clause-extends : goal.returns-in_err-push-clause-extends
returns-in_err-push-clause-extends c = search later

pub loop-i-preserved : goal.loop-i-preserved
loop-i-preserved c = record {
  extends = search later;
  value = rw c.in_ok-push.ensures.items
      (element_next c.args.inputs.now c.loop-i.elements.items c.in_ok-one.one c.args.prop c.args.first c.loop-i.i c.args.own _
      c.element.ensures.extends c.loop-i.invariant.value c.in_ok-one.ensures.value (omega arith));
}

pub overflow_add-first : goal.overflow_add-first
overflow_add-first c = omega (arith, c.requires.first, c.from.ensures, c.loop-i-test.true)

pub element-requires-clause-ready : goal.element-requires-clause-ready
element-requires-clause-ready c = c.requires.ready

pub returns-clause-value : goal.returns-clause-value
returns-clause-value c =
    let end : c.loop-i.i ≡ c.args.count = omega arith in
    subst (λ (n : ℕ). GiveNumbers c.loop-i.b (rows c.loop-i.elements.items) n c.args.own (λ v k. (read_at c.args.inputs.now v).element c.args.prop (c.args.first + k))) end c.loop-i.invariant.value
