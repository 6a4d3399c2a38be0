use Rattle.std.proofs.Common.{◌≡◌, ◌++◌, ◌∷◌, [], length, arith, ap, sym, ◌∙◌}
use Rattle.std.specs.Prelude.{slice_index}
use Rattle.svr_typed.specs.ExprTerm.{expr_term}
use Rattle.svr_gate.proofs.Circuits.{later}
use Rattle.svr_eval.specs.Value.{alone, size_of}
use Rattle.svr_vector.specs.Places.{rows}
use Rattle.svr_inputs.specs.Inputs.{read_at, read_or, state_of}
use Rattle.svr_encode.specs.Parts.{body_parts}
use Rattle.svr_encode.proofs.NodeLemmas.{one_given, bodies_len, reduced_more, reduced_whole}
use Rattle.svr_encode.proofs.TreeLemmas.{own_width}
use Rattle.svr_encode.proofs.GivenLemmas.{given_len}
use Rattle.svr_encode.proofs.node.reduced.Goals as goal

pub value_at-one-requires : goal.value_at-one-requires
value_at-one-requires c =
    let g = c.args.given.now in
    let n = slice_index g.inputs.now.sizes.now c.args.prop in
    omega (arith, given_len (rows g.values.now) (λ v. read_at g.inputs.now v) g.env.now c.args.b.now 0 (body_parts n (expr_term c.args.body.now)) c.requires.parts, bodies_len n (expr_term c.args.body.now))

pub combined-requires-clause-len : goal.combined-requires-clause-len
combined-requires-clause-len c =
    let g = c.args.given.now in
    let one = one_given c.args.b.now c.loop-i.b (rows g.values.now) (λ v. read_at g.inputs.now v) g.env.now (slice_index g.inputs.now.sizes.now c.args.prop) c.loop-i.i c.args.body.now c.value_at-one.result.now c.requires.typed c.requires.parts (omega arith) c.loop-i.invariant.extends c.value_at-one.ensures in
    ap length c.deref.ensures.value ∙ c.loop-i.invariant.value.len ∙ sym one.len

pub combined-requires-clause-y_within : goal.combined-requires-clause-y_within
combined-requires-clause-y_within c =
    let g = c.args.given.now in
    let one = one_given c.args.b.now c.loop-i.b (rows g.values.now) (λ v. read_at g.inputs.now v) g.env.now (slice_index g.inputs.now.sizes.now c.args.prop) c.loop-i.i c.args.body.now c.value_at-one.result.now c.requires.typed c.requires.parts (omega arith) c.loop-i.invariant.extends c.value_at-one.ensures in
    one.within

pub loop-i-preserved : goal.loop-i-preserved
loop-i-preserved c =
    let g = c.args.given.now in
    let one = one_given c.args.b.now c.loop-i.b (rows g.values.now) (λ v. read_at g.inputs.now v) g.env.now (slice_index g.inputs.now.sizes.now c.args.prop) c.loop-i.i c.args.body.now c.value_at-one.result.now c.requires.typed c.requires.parts (omega arith) c.loop-i.invariant.extends c.value_at-one.ensures in
    record {
      extends = search later;
      value = reduced_more c.args.op c.fold_operator.result c.args.body.now.width c.loop-i.i c.deref.result.now c.value_at-one.result.now c.in_ok-total-2.total.items (λ v k. alone (read_at g.inputs.now v) (g.env.now ++ k ∷ []) (expr_term c.args.body.now))
          c.fold_operator.ensures c.combined.ensures.extends (rw c.deref.ensures.value c.loop-i.invariant.value) one c.in_ok-total-2.ensures.value;
    }

pub returns-in_err-total-2-clause-extends : goal.returns-in_err-total-2-clause-extends
returns-in_err-total-2-clause-extends c = search later

pub returns-in_err-extend-clause-extends : goal.returns-in_err-extend-clause-extends
returns-in_err-extend-clause-extends c = search later

pub returns-clause-extends : goal.returns-clause-extends
returns-clause-extends c = search later

pub returns-clause-value : goal.returns-clause-value
returns-clause-value c =
    let g = c.args.given.now in
    let e = expr_term c.args.body.now in
    let end : slice_index g.inputs.now.sizes.now c.args.prop ≡ c.loop-i.i = omega arith in
    reduced_whole (λ v. read_at g.inputs.now v) c.args.op (size_of e) c.args.body.now.width c.loop-i.i c.args.width c.args.signed c.args.prop c.deref-2.result.now c.in_ok-extend.field-0.items (λ v k. alone (read_at g.inputs.now v) (g.env.now ++ k ∷ []) e)
    c.extend.ensures.extends (rw c.deref-2.ensures.value c.loop-i.invariant.value) (sym (own_width c.args.body.now c.requires.typed)) (λ v. ap (read_or ((state_of g.inputs.now).size c.args.prop) v) c.requires.fixed ∙ end) c.in_ok-extend.ensures.value
