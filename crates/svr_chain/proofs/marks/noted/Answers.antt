use Rattle.std.proofs.Common.{◌≡◌, ◌<◌, ◌/◌, ◌∙◌, true, false, nat_lt, length, get_or, Some, None, sym, ap, arith}
use Rattle.std.proofs.lemmas.Bool.{cond-true, cond-false, ltb-true}
use Rattle.svr_chain.specs.Lists.{list_number}
use Rattle.svr_chain.proofs.marks.noted.Goals as goal

pub list_number-requires : goal.list_number-requires
list_number-requires c =
    let ps = c.args.places.now in
    let h : c.args.lit.var < length ps / 2 = ltb-true c.args.lit.var (length ps / 2) (sym c.has_place.ensures ∙ c.if-has_place.true) in
    omega arith

pub returns-then-has_place : goal.returns-then-has_place
returns-then-has_place c =
    let ps = c.args.places.now in
    let l = c.args.lit in
    let t : nat_lt l.var (length ps / 2) ≡ true = sym c.has_place.ensures ∙ c.if-has_place.true in
    ap (λ z. Some (get_or ps z 0)) c.list_number.ensures.number ∙ sym (cond-true (nat_lt l.var (length ps / 2)) (Some (get_or ps (list_number (length ps) l) 0)) None t)

pub returns-else-has_place : goal.returns-else-has_place
returns-else-has_place c =
    let ps = c.args.places.now in
    let l = c.args.lit in
    let t : nat_lt l.var (length ps / 2) ≡ false = sym c.has_place.ensures ∙ c.if-has_place.false in
    sym (cond-false (nat_lt l.var (length ps / 2)) (Some (get_or ps (list_number (length ps) l) 0)) None t)
