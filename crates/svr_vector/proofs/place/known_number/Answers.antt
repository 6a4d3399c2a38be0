use Rattle.std.proofs.Common.{◌+◌, ◌*◌, ◌^◌, arith, ap, sym, subst, List, ℕ, get_or, take, length, ◌<◌, false}
use Rattle.std.proofs.lemmas.List.{take_more}
use Rattle.std.proofs.Math.Nat.{pow-suc}
use Rattle.svr_chain.specs.declared.clause.Lit.{Lit}
use Rattle.svr_gate.specs.Numbers.{bit}
use Rattle.svr_gate.specs.Circuit.{GivesNumber}
use Rattle.svr_gate.proofs.NumberLemmas.{bit-le}
use Rattle.svr_gate.proofs.Circuits.{Extends-refl}
use Rattle.svr_gate.proofs.Vectors.{GivesNumber-nil, GivesNumber-push, GivesNumber-same}
use Rattle.svr_vector.proofs.PickLemmas.{sum_below}
use Rattle.svr_vector.proofs.place.known_number.Goals as goal

pub loop-i-init : goal.loop-i-init
loop-i-init c = record { below = omega arith; value = GivesNumber-nil c.args.b.now }

pub loop-i-preserved : goal.loop-i-preserved
loop-i-preserved c =
    let d : Lit = record { var = 0; neg = false } in
    let lt : c.loop-i.i < length c.args.x.now = omega (arith, c.loop-i-test.true) in
    record {
      below = rw c.weight-number.ensures (sum_below c.loop-i.number c.loop-i.i c.in-Some.bit c.loop-i.invariant.below);
      value = subst (λ (ls : List Lit). GivesNumber c.args.b.now ls (c.loop-i.i + 1) (λ a. c.loop-i.number + c.weight-number.result)) (sym (take_more c.args.x.now c.loop-i.i d lt))
          (GivesNumber-same (λ a. c.loop-i.number + c.weight-number.result) (GivesNumber-push (Extends-refl c.args.b.now) c.loop-i.invariant.value c.in-Some.ensures.value) (λ a m. ap (λ k. c.loop-i.number + k) (sym c.weight-number.ensures)));
    }
