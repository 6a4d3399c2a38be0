use Rattle.std.proofs.Common.{length, ap, ◌∙◌}
use Rattle.std.specs.Prelude.{◌-ℤ◌}
use Rattle.std.specs.Int.{w64}
use Rattle.std.proofs.lemmas.Int.{to_z-of_z}
use Rattle.svr_gate.specs.Numbers.{number}
use Rattle.svr_gate.proofs.Circuits.{later}
use Rattle.svr_gate.proofs.Vectors.{GivesNumber-same}
use Rattle.svr_num.specs.Num.{extend_of, read_of}
use Rattle.svr_eval.specs.Value as spec
use Rattle.svr_encode.proofs.leaves.selected_bits.Goals as goal

pub returns-in_err-extend-clause-extends : goal.returns-in_err-extend-clause-extends
returns-in_err-extend-clause-extends c = search later

pub returns-clause-extends : goal.returns-clause-extends
returns-clause-extends c = search later

pub returns-clause-value : goal.returns-clause-value
returns-clause-value c =
    GivesNumber-same (λ v. extend_of c.args.signed c.args.width c.args.own (spec.bits_from (read_of c.args.index_signed (length c.args.index.now) (number v c.args.index.now) -ℤ c.args.low) c.args.own (number v c.args.whole.now))) c.in_ok-extend.ensures.value
    (λ v m.
    ap (λ n. extend_of c.args.signed c.args.width n (number v c.deref.result.now)) (ap length c.deref.ensures.value ∙ c.in_ok-bits.ensures.value.len)
    ∙ ap (extend_of c.args.signed c.args.width c.args.own)
    (ap (number v) c.deref.ensures.value ∙ c.in_ok-bits.ensures.value.value v (c.extend.ensures.extends.keeps v m)
    ∙ ap (λ z. spec.bits_from (read_of c.args.index_signed (length c.args.index.now) (number v c.args.index.now) -ℤ z) c.args.own (number v c.args.whole.now)) (to_z-of_z w64 c.args.low c.ranges.low)))
