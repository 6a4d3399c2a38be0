use Rattle.std.proofs.Common.{eqb, ap, ◌∙◌, sym, length}
use Rattle.std.specs.Int.{w128}
use Rattle.std.proofs.lemmas.Int.{to_z-of_z}
use Rattle.std.specs.Ordering.{int_eq}
use Rattle.svr_gate.specs.Numbers.{number}
use Rattle.svr_gate.proofs.NumberLemmas.{number-lt}
use Rattle.svr_gate.proofs.Circuits.{later, Tells-same}
use Rattle.svr_num.specs.Num.{read_of}
use Rattle.svr_vector.proofs.PickLemmas.{told_by, told_by_none}
use Rattle.svr_vector.proofs.place.is_place.Goals as goal

pub returns-in_err-equal-in-Some-clause-extends : goal.returns-in_err-equal-in-Some-clause-extends
returns-in_err-equal-in-Some-clause-extends c = search later

pub returns-in_ok-equal-in-Some-clause-extends : goal.returns-in_ok-equal-in-Some-clause-extends
returns-in_ok-equal-in-Some-clause-extends c = search later

pub returns-in_ok-equal-in-Some-clause-value : goal.returns-in_ok-equal-in-Some-clause-value
returns-in_ok-equal-in-Some-clause-value c =
    Tells-same (λ a. int_eq (read_of c.args.signed (length c.args.x.now) (number a c.args.x.now)) c.args.place) c.in_ok-equal-in-Some.ensures.value
    (λ a m.
    ap (λ n. eqb (number a c.args.x.now) n) (ap (number a) c.deref.ensures.value ∙ c.in_ok-wanted-in-Some.ensures.value.value a (c.equal.ensures.extends.keeps a m))
    ∙ told_by c.args.signed (length c.args.x.now) c.in-Some.number (number a c.args.x.now) c.args.place c.requires.some c.in-Some.ensures.0 (c.in-Some.ensures.1 ∙ to_z-of_z w128 c.args.place c.ranges.place) (number-lt a c.args.x.now))

pub returns-in_ok-never-in-None-clause-value : goal.returns-in_ok-never-in-None-clause-value
returns-in_ok-never-in-None-clause-value c =
    Tells-same (λ a. int_eq (read_of c.args.signed (length c.args.x.now) (number a c.args.x.now)) c.args.place) c.in_ok-never-in-None.ensures.value
    (λ a m. told_by_none c.args.signed (length c.args.x.now) (number a c.args.x.now) c.args.place (λ k h q. c.in-None.ensures k h (q ∙ sym (to_z-of_z w128 c.args.place c.ranges.place))) (number-lt a c.args.x.now))
