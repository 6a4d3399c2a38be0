use Rattle.std.proofs.Common.{◌≡◌, ◌∙◌, ◌-◌, ◌+◌, ap, sym, subst, arith, ℕ, List, length, drop, get_or, false, refl}
use Rattle.std.proofs.lemmas.List.{drop_all}
use Rattle.svr_chain.specs.declared.clause.Lit.{Lit}
use Rattle.svr_chain.specs.Valuations.{lit_value}
use Rattle.svr_gate.specs.Numbers.{number}
use Rattle.svr_gate.proofs.NumberLemmas.{number-nil}
use Rattle.svr_arith.proofs.DivisionLemmas.{zero_more, zeros_above}
use Rattle.svr_arith.proofs.division.known_bits.Goals as goal

pub zeros-init : goal.zeros-init
zeros-init c = (omega arith, λ a m. ap (number a) (drop_all (length c.args.y.now) c.args.y.now (omega arith)) ∙ number-nil a)

pub zeros-preserved : goal.zeros-preserved
zeros-preserved c =
    let y = c.args.y.now in
    let d : Lit = record { var = 0; neg = false } in
    let j = c.zeros.bits - 1 in
    let more : j + 1 ≡ c.zeros.bits = omega (arith, c.zeros-test.true) in (
      omega (arith, c.zeros.invariant.0),
      λ a m. zero_more a y j d (omega (arith, c.zeros.invariant.0, c.zeros-test.true))
          (subst (λ (k : ℕ). number a (drop k y) ≡ 0) (sym more) (c.zeros.invariant.1 a m))
          ((c.is_never.ensures (c.if-not-is_never.false)).value a m),
    )

pub returns-then-not-is_never : goal.returns-then-not-is_never
returns-then-not-is_never c = λ a m. zeros_above a c.args.y.now c.zeros.bits c.zeros.invariant.0 (c.zeros.invariant.1 a m)

pub returns : goal.returns
returns c = λ a m. zeros_above a c.args.y.now c.zeros.bits c.zeros.invariant.0 (c.zeros.invariant.1 a m)
