use Rattle.std.proofs.Common.{◌≡◌, ◌+◌, ◌==◌, ◌||◌, ap, sym, ◌∙◌, length, arith, add-one, ℕ}
use Rattle.std.specs.Prelude.{slice_index}
use Rattle.svr_chain.specs.Valuations.{lit_value}
use Rattle.svr_gate.specs.Numbers.{number}
use Rattle.svr_gate.proofs.Circuits.{later, Tells-same}
use Rattle.svr_num.specs.Num.{extend_of}
use Rattle.svr_eval.specs.Value.{any_below, has_element}
use Rattle.svr_inputs.specs.Inputs.{read_at, read_or, state_of}
use Rattle.svr_inputs.proofs.ElementLemmas.{found_more}
use Rattle.svr_inputs.proofs.elements.is_some_element.Goals as goal

pub returns-in_err-element-clause-extends : goal.returns-in_err-element-clause-extends
returns-in_err-element-clause-extends c = search later

pub returns-in_err-is_equal-clause-extends : goal.returns-in_err-is_equal-clause-extends
returns-in_err-is_equal-clause-extends c = search later

pub returns-in_err-found-2-clause-extends : goal.returns-in_err-found-2-clause-extends
returns-in_err-found-2-clause-extends c = search later

pub loop-i-preserved : goal.loop-i-preserved
loop-i-preserved c = record {
  extends = search later;
  value = found_more c.args.inputs.now c.args.prop c.from.result c.loop-i.i c.args.own c.args.signed c.args.x.now c.deref.result.now c.in_ok-is_equal.is_equal c.loop-i.found c.in_ok-found-2.found
      c.element_at.ensures.extends c.equal.ensures.extends c.of_bits.ensures.extends c.loop-i.invariant.value (rw c.deref.ensures.value c.in_ok-element.ensures.value)
      c.in_ok-is_equal.ensures.value c.in_ok-found-2.ensures.value (omega arith);
}

pub returns-clause-value : goal.returns-clause-value
unfolding has_element
returns-clause-value c =
    let end : c.loop-i.i ≡ slice_index c.args.inputs.now.sizes.now c.args.prop = omega arith in
    Tells-same (λ v. has_element (read_at c.args.inputs.now v) c.args.prop c.args.own (length c.args.x.now) c.args.signed (number v c.args.x.now)) c.loop-i.invariant.value
    (λ v m.
    ap (λ n. any_below n (λ i. number v c.args.x.now == extend_of c.args.signed (length c.args.x.now) c.args.own ((read_at c.args.inputs.now v).element c.args.prop i)))
    (end ∙ sym (ap (read_or ((state_of c.args.inputs.now).size c.args.prop) v) c.requires.fixed)))
