use Rattle.std.proofs.Common.{length, ap, sym, ◌∙◌, Vec, Global}
use Rattle.std.specs.Prelude.{◌-ℤ◌}
use Rattle.std.specs.Int.{w64}
use mir.Val.{to_z, of_z}
use Rattle.std.proofs.lemmas.Int.{to_z-of_z}
use Rattle.std.proofs.lemmas.Result.{IfOk-weaker}
use Rattle.svr_chain.specs.declared.clause.Lit.{Lit}
use Rattle.svr_typed.specs.ExprTerm.{expr_term}
use Rattle.svr_gate.specs.Numbers.{number}
use Rattle.svr_gate.specs.Circuit.{GivesNumber}
use Rattle.svr_gate.proofs.Vectors.{GivesNumber-same}
use Rattle.svr_num.specs.Num.{extend_of, read_of}
use Rattle.svr_eval.specs.Value as spec
use Rattle.svr_inputs.specs.Inputs.{read_at}
use Rattle.svr_encode.proofs.TreeLemmas.{own_signed}
use Rattle.svr_encode.proofs.node.selected.Goals as goal

pub returns-clause-value : goal.returns-clause-value
returns-clause-value c =
    let g = c.args.given.now in
    let x = c.value_at-whole.result.now in
    let y = c.value_at-at.result.now in
    let last = expr_term c.args.last.now in
    let base = expr_term c.args.base.now in
    let low = to_z w64 (of_z w64 c.args.low) in
    let s = c.args.last.now.signed in
    let own = c.args.own in
    IfOk-weaker c.selected_bits.result (λ (ls : Vec Lit Global). GivesNumber c.selected_bits.new.b ls.items c.args.width (λ v. extend_of c.args.signed c.args.width c.args.own (spec.bits_from (read_of c.args.last.now.signed (length y) (number v y) -ℤ to_z w64 (of_z w64 c.args.low)) c.args.own (number v x)))) _
    (λ ls h. GivesNumber-same (λ v. extend_of c.args.signed c.args.width c.args.own (spec.selected (read_at g.inputs.now v) g.env.now base last c.args.low c.args.own)) h
    (λ v m.
    let here = c.selected_bits.ensures.extends.keeps v m in
    ap (extend_of c.args.signed c.args.width c.args.own)
    (ap (λ n. spec.bits_from (read_of s n (number v y) -ℤ low) own (number v x)) (ap length c.value_at-at.ensures ∙ c.requires.parts.1.0.len)
    ∙ ap (λ n. spec.bits_from (read_of s (spec.size_of last) n -ℤ low) own (number v x)) (ap (number v) c.value_at-at.ensures ∙ c.requires.parts.1.0.value v here)
    ∙ ap (λ n. spec.bits_from (read_of s (spec.size_of last) (spec.alone (read_at g.inputs.now v) g.env.now last) -ℤ low) own n) (ap (number v) c.value_at-whole.ensures ∙ c.requires.parts.0.value v here)
    ∙ ap (λ z. spec.bits_from (read_of s (spec.size_of last) (spec.alone (read_at g.inputs.now v) g.env.now last) -ℤ z) own (spec.alone (read_at g.inputs.now v) g.env.now base)) (to_z-of_z w64 c.args.low c.ranges.low)
    ∙ ap (λ t. spec.bits_from (read_of t (spec.size_of last) (spec.alone (read_at g.inputs.now v) g.env.now last) -ℤ c.args.low) own (spec.alone (read_at g.inputs.now v) g.env.now base)) (sym (own_signed c.args.last.now c.requires.last_typed)))))
    c.selected_bits.ensures.value
