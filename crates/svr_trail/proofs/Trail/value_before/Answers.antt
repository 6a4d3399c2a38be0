use Rattle.std.proofs.Common.{◌≡◌, ◌∙◌, ◌-◌, ◌<◌, None, Some, length, get_or, arith, sym}
use Rattle.std.proofs.lemmas.List.{get_or_read}
use Rattle.svr_chain.specs.Clauses.{IsWithin}
use Rattle.svr_trail.specs.Trail.{value_in}
use Rattle.svr_trail.proofs.TableLemmas.{value-open_before, value_before, within-from_value}
use Rattle.svr_trail.proofs.Trail.value_before.Goals as goal

pub returns-in_err-value : goal.returns-in_err-value
returns-in_err-value c =
    let n : value_in c.args.self.now.entries c.args.lit ≡ None = sym c.in_err-value.ensures in
    c.from_residual.ensures ∙ sym (value-open_before c.args.self.now.entries c.args.place c.args.lit n)

pub overflow_sub-lit : goal.overflow_sub-lit
overflow_sub-lit c =
    let es = c.self.inside.entries.items in
    let v : value_in es c.args.lit ≡ Some c.in_ok-value.value = rw (← c.self.view_is) at (sym c.in_ok-value.ensures) in
    let w : IsWithin (length c.self.inside.signs.items) c.args.lit = within-from_value (length c.self.inside.signs.items) es c.args.lit c.in_ok-value.value c.self.invariant.table.within v in
    omega arith

pub index-requires : goal.index-requires
index-requires c =
    let es = c.self.inside.entries.items in
    let v : value_in es c.args.lit ≡ Some c.in_ok-value.value = rw (← c.self.view_is) at (sym c.in_ok-value.ensures) in
    let w : IsWithin (length c.self.inside.signs.items) c.args.lit = within-from_value (length c.self.inside.signs.items) es c.args.lit c.in_ok-value.value c.self.invariant.table.within v in
    omega (arith, c.self.invariant.sized, c.self.inside.places.ok.0)

pub returns-then-index-place : goal.returns-then-index-place
returns-then-index-place c =
    let es = c.self.inside.entries.items in
    let ps = c.self.inside.places.items in
    let k = c.self.invariant in
    let l = c.args.lit in
    let v : value_in es l ≡ Some c.in_ok-value.value = rw (← c.self.view_is) at (sym c.in_ok-value.ensures) in
    let w : IsWithin (length c.self.inside.signs.items) l = within-from_value (length c.self.inside.signs.items) es l c.in_ok-value.value k.table.within v in
    let h : l.var - 1 < length ps = omega (arith, k.sized) in
    let r : c.index.result.now ≡ get_or ps (l.var - 1) 0 = get_or_read ps (l.var - 1) c.index.result.now h c.index.ensures 0 in
    rw (← c.self.view_is) (sym ((value_before ps es c.args.place l c.in_ok-value.value k.placed k.table.apart v).0 (omega (arith, r, c.if-index-place.true))))

pub returns-else-index-place : goal.returns-else-index-place
returns-else-index-place c =
    let es = c.self.inside.entries.items in
    let ps = c.self.inside.places.items in
    let k = c.self.invariant in
    let l = c.args.lit in
    let v : value_in es l ≡ Some c.in_ok-value.value = rw (← c.self.view_is) at (sym c.in_ok-value.ensures) in
    let w : IsWithin (length c.self.inside.signs.items) l = within-from_value (length c.self.inside.signs.items) es l c.in_ok-value.value k.table.within v in
    let h : l.var - 1 < length ps = omega (arith, k.sized) in
    let r : c.index.result.now ≡ get_or ps (l.var - 1) 0 = get_or_read ps (l.var - 1) c.index.result.now h c.index.ensures 0 in
    rw (← c.self.view_is) (sym ((value_before ps es c.args.place l c.in_ok-value.value k.placed k.table.apart v).1 (omega (arith, r, c.if-index-place.false))))
