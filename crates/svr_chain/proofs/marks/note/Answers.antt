use Rattle.std.proofs.Common.{◌≡◌, ◌<◌, ◌≤◌, ◌/◌, ◌∙◌, length, set, sym, ap, subst, arith}
use Rattle.std.proofs.lemmas.Bool.{ltb-true, ltb-false}
use Rattle.svr_chain.specs.Lists.{list_number}
use Rattle.svr_chain.specs.Marks.{IsNoted}
use Rattle.svr_chain.proofs.MarkLemmas.{noted-set, noted-past}
use Rattle.svr_chain.proofs.marks.note.Goals as goal

pub list_number-requires : goal.list_number-requires
list_number-requires c =
    let h : c.args.lit.var < c.len-count.result / 2 = ltb-true c.args.lit.var (c.len-count.result / 2) (sym c.has_place.ensures ∙ c.if-not-has_place.false) in
    omega arith

pub returns-then-not-has_place : goal.returns-then-not-has_place
returns-then-not-has_place c =
    let ps = c.args.places.now.items in
    let n : c.len-count.result ≡ length ps = c.len-count.ensures ∙ c.args.places.now.ok.0 in
    let h : c.len-count.result / 2 ≤ c.args.lit.var = ltb-false c.args.lit.var (c.len-count.result / 2) (sym c.has_place.ensures ∙ c.if-not-has_place.true) in
    noted-past ps c.args.lit c.args.place (omega (arith, h, n))

pub returns : goal.returns
returns c =
    let ps = c.args.places.now.items in
    let l = c.args.lit in
    let n : c.len-count.result ≡ length ps = c.len-count.ensures ∙ c.args.places.now.ok.0 in
    let h : l.var < c.len-count.result / 2 = ltb-true l.var (c.len-count.result / 2) (sym c.has_place.ensures ∙ c.if-not-has_place.false) in
    let q : c.list_number.result ≡ list_number (length ps) l = c.list_number.ensures.number ∙ ap (λ z. list_number z l) n in
    subst (λ z. IsNoted ps (set ps z c.args.place) l c.args.place) (sym q) (noted-set ps l c.args.place (omega (arith, h, n)))
