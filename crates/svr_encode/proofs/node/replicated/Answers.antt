use Rattle.std.proofs.Common.{◌≡◌, ◌*◌, ◌/◌, [], length, ap, sym, ◌∙◌, arith, Vec, Global}
use Rattle.std.proofs.lemmas.Result.{IfOk-weaker}
use Rattle.svr_chain.specs.declared.clause.Lit.{Lit}
use Rattle.svr_typed.specs.ExprTerm.{expr_term, expr_terms}
use Rattle.svr_gate.specs.Numbers.{number}
use Rattle.svr_gate.specs.Circuit.{GivesNumber}
use Rattle.svr_gate.proofs.Vectors.{GivesNumber-same}
use Rattle.svr_num.specs.Num.{extend_of}
use Rattle.svr_eval.specs.Reading.{blank}
use Rattle.svr_eval.specs.Value.{alone, sizes, copied, replicated}
use Rattle.svr_eval.proofs.Bits.{factors}
use Rattle.svr_eval.proofs.Constant.{constant_alone}
use Rattle.svr_inputs.specs.Inputs.{read_at}
use Rattle.svr_encode.proofs.NodeLemmas.{copies_count}
use Rattle.svr_encode.proofs.node.replicated.Goals as goal

pub copies_at-requires-clause-part : goal.copies_at-requires-clause-part
copies_at-requires-clause-part c =
    let f = factors (alone blank [] (expr_term c.args.count.now)) (sizes (expr_terms c.args.parts.now)) c.args.own c.requires.size c.requires.some in
    omega (arith, f.1, ap length c.deref.ensures.value, c.in_ok-part.ensures.len)

pub copies_at-requires-clause-whole : goal.copies_at-requires-clause-whole
copies_at-requires-clause-whole c =
    let k = alone blank [] (expr_term c.args.count.now) in
    let n = sizes (expr_terms c.args.parts.now) in
    let f = factors (alone blank [] (expr_term c.args.count.now)) (sizes (expr_terms c.args.parts.now)) c.args.own c.requires.size c.requires.some in
    let len : length c.deref.result.now ≡ sizes (expr_terms c.args.parts.now) = ap length c.deref.ensures.value ∙ c.in_ok-part.ensures.len in
    ap (λ m. c.args.own / m * m) len ∙ ap (λ m. m * n) (copies_count k n c.args.own c.requires.size f.1) ∙ c.requires.size

pub returns-clause-value : goal.returns-clause-value
returns-clause-value c =
    let g = c.args.given.now in
    let n = sizes (expr_terms c.args.parts.now) in
    let f = factors (alone blank [] (expr_term c.args.count.now)) (sizes (expr_terms c.args.parts.now)) c.args.own c.requires.size c.requires.some in
    let x = c.deref.result.now in
    let len : length c.deref.result.now ≡ sizes (expr_terms c.args.parts.now) = ap length c.deref.ensures.value ∙ c.in_ok-part.ensures.len in
    IfOk-weaker c.copies_at.result (λ (ls : Vec Lit Global). GivesNumber c.copies_at.new.b ls.items c.args.width (λ v. extend_of c.args.signed c.args.width c.args.own (copied (c.args.own / length c.deref.result.now) (length c.deref.result.now) (number v c.deref.result.now)))) _
    (λ ls h. GivesNumber-same (λ v. extend_of c.args.signed c.args.width c.args.own (replicated (read_at g.inputs.now v) g.env.now (expr_term c.args.count.now) (expr_terms c.args.parts.now))) h
    (λ v m. ap (extend_of c.args.signed c.args.width c.args.own)
    (ap (λ j. copied (c.args.own / j) j (number v x)) len
    ∙ ap (λ j. copied j n (number v x)) (copies_count _ n c.args.own c.requires.size f.1 ∙ sym (constant_alone (read_at g.inputs.now v) g.env.now (expr_term c.args.count.now) c.requires.constant))
    ∙ ap (copied _ n) (ap (number v) c.deref.ensures.value ∙ c.in_ok-part.ensures.value v (c.copies_at.ensures.extends.keeps v m)))))
    c.copies_at.ensures.value
