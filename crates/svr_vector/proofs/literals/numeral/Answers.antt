use Rattle.std.proofs.Common.{◌≡◌, ◌%◌, ◌^◌, arith, ℕ, refl, ap, ◌∙◌, subst}
use Rattle.std.proofs.Math.Nat.{mod-eq_of_lt}
use Rattle.svr_gate.specs.Circuit.{GivesNumber}
use Rattle.svr_gate.proofs.Vectors.{GivesNumber-same, GivesNumber-nil}
use Rattle.svr_vector.proofs.LiteralLemmas.{literal_step}
use Rattle.svr_vector.proofs.literals.numeral.Goals as goal

pub loop-i-init : goal.loop-i-init
loop-i-init c = record {
  extends = c.constant.ensures.extends;
  one = c.in_ok-one.ensures.value;
  value = rw c.new-v.ensures.items (GivesNumber-same (λ a. c.args.number % 2 ^ 0) (GivesNumber-nil c.constant.new.b) (λ a m. omega arith));
}

pub loop-i-preserved : goal.loop-i-preserved
loop-i-preserved c = record {
  extends = c.constant.ensures.extends;
  one = c.in_ok-one.ensures.value;
  value = rw (c.in_ok-push.ensures.items, c.chosen.ensures) (literal_step c.constant.new.b c.loop-i.v.items c.in_ok-one.one c.args.number c.loop-i.i c.in_ok-one.ensures.value c.loop-i.invariant.value);
}

pub returns-clause-value : goal.returns-clause-value
returns-clause-value c =
    let all : c.loop-i.i ≡ c.args.width = omega arith in
    subst (λ (n : ℕ). GivesNumber c.constant.new.b c.loop-i.v.items n (λ a. c.args.number)) all
    (GivesNumber-same (λ a. c.args.number) c.loop-i.invariant.value (λ a m. ap (λ n. c.args.number % 2 ^ n) all ∙ mod-eq_of_lt c.requires.fits))
