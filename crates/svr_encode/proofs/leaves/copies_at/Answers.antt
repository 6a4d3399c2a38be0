use Rattle.std.proofs.Common.{◌/◌, length, refl, ap, ◌∙◌, arith}
use Rattle.svr_gate.specs.Numbers.{number}
use Rattle.svr_gate.proofs.Vectors.{GivesNumber-same}
use Rattle.svr_num.specs.Num.{extend_of}
use Rattle.svr_eval.specs.Value.{copied}
use Rattle.svr_encode.proofs.NodeLemmas.{whole_given}
use Rattle.svr_encode.proofs.leaves.copies_at.Goals as goal

pub extend-requires-clause-width : goal.extend-requires-clause-width
extend-requires-clause-width c =
    let g = whole_given c.args.b.now c.args.part.now c.deref.result.now (c.args.own / length c.args.part.now) c.args.own c.requires.within (c.deref.ensures.value ∙ c.in_ok-whole.ensures) refl c.requires.whole in
    omega (arith, g.len, c.requires.wide)

pub extend-requires-clause-within : goal.extend-requires-clause-within
extend-requires-clause-within c =
    let g = whole_given c.args.b.now c.args.part.now c.deref.result.now (c.args.own / length c.args.part.now) c.args.own c.requires.within (c.deref.ensures.value ∙ c.in_ok-whole.ensures) refl c.requires.whole in
    g.within

pub returns-clause-value : goal.returns-clause-value
returns-clause-value c =
    let g = whole_given c.args.b.now c.args.part.now c.deref.result.now (c.args.own / length c.args.part.now) c.args.own c.requires.within (c.deref.ensures.value ∙ c.in_ok-whole.ensures) refl c.requires.whole in
    GivesNumber-same (λ v. extend_of c.args.signed c.args.width c.args.own (copied (c.args.own / length c.args.part.now) (length c.args.part.now) (number v c.args.part.now))) c.in_ok-extend.ensures.value
    (λ v m. ap (λ n. extend_of c.args.signed c.args.width n (number v c.deref.result.now)) g.len ∙ ap (extend_of c.args.signed c.args.width c.args.own) (g.value v (c.extend.ensures.extends.keeps v m)))
