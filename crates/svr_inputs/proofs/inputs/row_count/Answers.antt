use Rattle.std.proofs.Common.{◌≡◌, ap, sym, ◌∙◌, List, ◌/◌, ◌<◌, ◌^◌, length, subst, arith, ℕ, false}
use Rattle.svr_chain.specs.declared.clause.Lit.{Lit}
use Rattle.svr_chain.specs.Clauses.{AreWithin}
use Rattle.svr_gate.specs.Numbers.{number}
use Rattle.svr_gate.proofs.NumberLemmas.{number-lt}
use Rattle.svr_gate.proofs.Circuits.{later, AreWithin-later}
use Rattle.svr_gate.proofs.Vectors.{GivesNumber-same, GivesNumber-width}
use Rattle.svr_num.specs.Num.{div_of}
use Rattle.svr_inputs.specs.Inputs.{read_at}
use Rattle.svr_inputs.proofs.ReadLemmas.{whole_rows}
use Rattle.svr_inputs.proofs.inputs.row_count.Goals as goal

pub returns-in_err-by-clause-extends : goal.returns-in_err-by-clause-extends
returns-in_err-by-clause-extends c = search later

pub returns-in_err-div-clause-extends : goal.returns-in_err-div-clause-extends
returns-in_err-div-clause-extends c = search later

pub returns-clause-extends : goal.returns-clause-extends
returns-clause-extends c = search later

pub returns-clause-value : goal.returns-clause-value
returns-clause-value c =
    let x = c.deref.result.now in
    let y = c.deref-2.result.now in
    let len : length x ≡ 32 = ap length c.deref.ensures.value ∙ c.in_ok-all.ensures.value.len in
    GivesNumber-width len
    (GivesNumber-same (λ v. (read_at c.args.inputs.now v).size c.args.prop / c.args.inner) c.in_ok-div.ensures.value
    (λ a m.
    let all : number a x ≡ (read_at c.args.inputs.now a).size c.args.prop = ap (number a) c.deref.ensures.value ∙ c.in_ok-all.ensures.value.value a (c.numeral.ensures.extends.keeps a (c.div.ensures.extends.keeps a m)) in
    let by : number a y ≡ c.args.inner = omega (arith, ap (number a) c.deref-2.ensures.value, c.in_ok-by.ensures.value.value a (c.div.ensures.extends.keeps a m)) in
    let below : number a x < 2 ^ 32 = subst (λ (n : ℕ). number a x < 2 ^ n) len (number-lt a x) in
    ap (λ n. div_of false n (number a x) (number a y)) len
    ∙ ap (div_of false 32 (number a x)) by
    ∙ whole_rows (number a x) c.args.inner below c.requires.inner
    ∙ ap (λ n. n / c.args.inner) all))

pub numeral-requires-clause-fits : goal.numeral-requires-clause-fits
numeral-requires-clause-fits c = omega (arith, c.ranges.inner.fits)

pub div-requires-clause-len : goal.div-requires-clause-len
div-requires-clause-len c = ap length c.deref.ensures.value ∙ c.in_ok-all.ensures.value.len ∙ sym (ap length c.deref-2.ensures.value ∙ c.in_ok-by.ensures.value.len)

pub div-requires-clause-some : goal.div-requires-clause-some
div-requires-clause-some c = omega (arith, ap length c.deref.ensures.value, c.in_ok-all.ensures.value.len)

pub div-requires-clause-x_within : goal.div-requires-clause-x_within
div-requires-clause-x_within c = subst (λ (ls : List Lit). AreWithin c.numeral.new.b.vars ls) (sym c.deref.ensures.value) (AreWithin-later c.in_ok-all.all.items c.numeral.ensures.extends c.in_ok-all.ensures.value.within)

pub div-requires-clause-y_within : goal.div-requires-clause-y_within
div-requires-clause-y_within c = subst (λ (ls : List Lit). AreWithin c.numeral.new.b.vars ls) (sym c.deref-2.ensures.value) c.in_ok-by.ensures.value.within
