use Rattle.std.proofs.Common.{◌≡◌, ◌∙◌, ◌-◌, ℕ, zero, suc, ap, refl, length, arith, pos, negsuc, neg_ℤ, ◌-ℤ◌}
use Rattle.std.proofs.lemmas.Int.{ints}
use Rattle.std.proofs.lemmas.Result.{IfOk-weaker}
use Rattle.svr_gate.specs.Numbers.{number}
use Rattle.svr_gate.specs.Circuit.{GivesNumber}
use Rattle.svr_gate.proofs.Circuits.{later}
use Rattle.svr_gate.proofs.Vectors.{GivesNumber-same, GivesNumber-width}
use Rattle.svr_num.specs.Num.{neg_of, sub_of, residue}
use Rattle.svr_arith.proofs.adder.neg.Goals as goal

pub returns-clause-extends : goal.returns-clause-extends
returns-clause-extends c = search later

none_less : (n : ℕ) → pos 0 -ℤ pos n ≡ neg_ℤ (pos n)
none_less zero = refl
none_less (suc n) =
    let e : pos 0 -ℤ pos (suc n) ≡ negsuc (suc n - 0 - 1) = omega (arith, ints) in
    e ∙ ap negsuc (omega arith)

pub returns-clause-value : goal.returns-clause-value
returns-clause-value c =
    let len : length c.deref.result.now ≡ length c.args.x.now = ap length c.deref.ensures.value ∙ c.in_ok-zeros.ensures.value.len in
    IfOk-weaker c.sub.result
    (λ v. GivesNumber c.sub.new.b v.items (length c.deref.result.now) (λ a. sub_of (length c.deref.result.now) (number a c.deref.result.now) (number a c.args.x.now)))
    (λ v. GivesNumber c.sub.new.b v.items (length c.args.x.now) (λ a. neg_of (length c.args.x.now) (number a c.args.x.now)))
    (λ v g.
    GivesNumber-same (λ a. neg_of (length c.args.x.now) (number a c.args.x.now)) (GivesNumber-width len g)
    (λ a m.
    ap (λ w. sub_of w (number a c.deref.result.now) (number a c.args.x.now)) len
    ∙ ap (λ n. sub_of (length c.args.x.now) n (number a c.args.x.now)) (ap (number a) c.deref.ensures.value ∙ c.in_ok-zeros.ensures.value.value a (c.sub.ensures.extends.keeps a m))
    ∙ ap (residue (length c.args.x.now)) (none_less (number a c.args.x.now))))
    c.sub.ensures.value
