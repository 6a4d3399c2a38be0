use Rattle.std.proofs.Common.{length, ◌∙◌, ap, ℕ}
use Rattle.svr_gate.specs.Numbers.{number}
use Rattle.svr_gate.proofs.Circuits.{later}
use Rattle.svr_gate.proofs.NumberLemmas.{number-lt}
use Rattle.svr_gate.proofs.Vectors.{GivesNumber-same}
use Rattle.svr_num.specs.Num.{extend_of}
use Rattle.svr_vector.proofs.LiteralLemmas.{filled_same}
use Rattle.svr_vector.proofs.literals.filled_at.Goals as goal

pub returns-in_err-extend-clause-extends : goal.returns-in_err-extend-clause-extends
returns-in_err-extend-clause-extends c = search later

pub returns-clause-extends : goal.returns-clause-extends
returns-clause-extends c = search later

pub returns-clause-value : goal.returns-clause-value
returns-clause-value c =
    GivesNumber-same (λ a. extend_of c.args.signed c.args.width c.args.own (number a c.args.x.now)) c.in_ok-extend.ensures.value
    (λ a m.
    ap (λ n. extend_of c.args.signed c.args.width n (number a c.deref.result.now)) (ap length c.deref.ensures.value ∙ c.in_ok-own_bits.ensures.value.len)
    ∙ ap (λ n. extend_of c.args.signed c.args.width c.args.own n) (ap (number a) c.deref.ensures.value ∙ c.in_ok-own_bits.ensures.value.value a (c.extend-2.ensures.extends.keeps a m) ∙ filled_same c.args.own (length c.args.x.now) (number a c.args.x.now) c.requires.few (number-lt a c.args.x.now)))
