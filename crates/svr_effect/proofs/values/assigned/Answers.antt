use Rattle.std.proofs.Common.{ℕ, max, sym, ap, ◌∙◌, arith}
use Rattle.std.specs.Prelude.{[]}
use Rattle.svr_num.specs.declared.bits.Bits.{Bits}
use Rattle.svr_num.specs.Num.{cut_of}
use Rattle.svr_typed.specs.ExprTerm.{expr_term}
use Rattle.svr_eval.specs.Value.{sign_of, val}
use Rattle.svr_script.specs.Numbered.{numbered, reading_of_world}
use Rattle.svr_effect.proofs.Computed as computed
use Rattle.svr_effect.proofs.values.assigned.Goals as goal

pub computed_at-requires-clause-wide : goal.computed_at-requires-clause-wide
computed_at-requires-clause-wide c = omega (arith, c.max-whole.ensures)

pub computed_at-requires-clause-high : goal.computed_at-requires-clause-high
computed_at-requires-clause-high c = omega (arith, c.max-whole.ensures, c.requires.wide.1, computed.at_most c.args.e.now c.requires.computed.own)

pub cut-requires-clause-low : goal.cut-requires-clause-low
cut-requires-clause-low c = c.requires.wide.0

pub cut-requires-clause-high : goal.cut-requires-clause-high
cut-requires-clause-high c = omega (arith, c.in_ok-computed.ensures.width, c.max-whole.ensures)

pub returns : goal.returns
returns c =
    let r = reading_of_world c.args.world.now in
    let e = expr_term c.args.e.now in
    c.value.ensures.value
    ∙ ap (λ (b : Bits). b.value) c.cut.ensures
    ∙ ap (cut_of c.args.width)
    (c.in_ok-computed.ensures.value
    ∙ ap (λ (n : ℕ). val r [] (numbered e) n (sign_of e)) c.max-whole.ensures
    ∙ ap (λ (n : ℕ). val r [] (numbered e) (max c.args.width n) (sign_of e)) (sym (computed.own_width c.args.e.now c.requires.computed.own)))
