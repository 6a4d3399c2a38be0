use Rattle.std.proofs.Common.{◌≡◌, ◌∙◌, ◌-◌, ◌<◌, true, false, None, Some, length, get_or, arith, ap, sym}
use Rattle.std.proofs.lemmas.List.{get_or_read}
use Rattle.svr_chain.specs.Clauses.{IsWithin}
use Rattle.svr_trail.specs.declared.Entry.{Entry}
use Rattle.svr_trail.specs.Trail.{value_in}
use Rattle.svr_trail.proofs.TableLemmas.{within-from_value}
use Rattle.svr_trail.proofs.Reasons.{no-reason, lit-there, reason-there}
use Rattle.svr_trail.proofs.Trail.reason.Goals as goal

pub overflow_sub-lit : goal.overflow_sub-lit
overflow_sub-lit c =
    let es = c.self.inside.entries.items in
    let v : value_in es c.args.lit ≡ Some c.in-Some.value = rw (← c.self.view_is) at (sym c.in-Some.ensures) in
    let w : IsWithin (length c.self.inside.signs.items) c.args.lit = within-from_value (length c.self.inside.signs.items) es c.args.lit c.in-Some.value c.self.invariant.table.within v in
    omega arith

pub index-requires : goal.index-requires
index-requires c =
    let es = c.self.inside.entries.items in
    let v : value_in es c.args.lit ≡ Some c.in-Some.value = rw (← c.self.view_is) at (sym c.in-Some.ensures) in
    let w : IsWithin (length c.self.inside.signs.items) c.args.lit = within-from_value (length c.self.inside.signs.items) es c.args.lit c.in-Some.value c.self.invariant.table.within v in
    omega (arith, c.self.invariant.sized, c.self.inside.places.ok.0)

pub index-requires-then-value : goal.index-requires-then-value
index-requires-then-value c =
    let es = c.self.inside.entries.items in
    let ps = c.self.inside.places.items in
    let k = c.self.invariant in
    let l = c.args.lit in
    let d : Entry = record { lit = l; reason = None } in
    let v0 : value_in es l ≡ Some c.in-Some.value = rw (← c.self.view_is) at (sym c.in-Some.ensures) in
    let v : value_in es l ≡ Some true = v0 ∙ ap (λ z. Some z) c.if-value.true in
    let w : IsWithin (length c.self.inside.signs.items) l = within-from_value (length c.self.inside.signs.items) es l true k.table.within v in
    let b : l.var - 1 < length ps = omega (arith, k.sized) in
    let r : c.index.result.now ≡ get_or ps (l.var - 1) 0 = get_or_read ps (l.var - 1) c.index.result.now b c.index.ensures 0 in
    let t = lit-there ps es k.placed d l v in
    let h : get_or ps (l.var - 1) 0 < length es = t.0 in
    omega (arith, r, h, c.self.inside.entries.ok.0)

pub returns-then-value : goal.returns-then-value
returns-then-value c =
    let es = c.self.inside.entries.items in
    let ps = c.self.inside.places.items in
    let k = c.self.invariant in
    let l = c.args.lit in
    let d : Entry = record { lit = l; reason = None } in
    let v0 : value_in es l ≡ Some c.in-Some.value = rw (← c.self.view_is) at (sym c.in-Some.ensures) in
    let v : value_in es l ≡ Some true = v0 ∙ ap (λ z. Some z) c.if-value.true in
    let w : IsWithin (length c.self.inside.signs.items) l = within-from_value (length c.self.inside.signs.items) es l true k.table.within v in
    let b : l.var - 1 < length ps = omega (arith, k.sized) in
    let r : c.index.result.now ≡ get_or ps (l.var - 1) 0 = get_or_read ps (l.var - 1) c.index.result.now b c.index.ensures 0 in
    let t = lit-there ps es k.placed d l v in
    let h : get_or ps (l.var - 1) 0 < length es = t.0 in
    let i : c.index.result.now < length es = omega (arith, r, h) in
    let e : c.index-then-value.result.now ≡ get_or es c.index.result.now d = get_or_read es c.index.result.now c.index-then-value.result.now i c.index-then-value.ensures d in
    let f : c.index-then-value.result.now ≡ get_or es (get_or ps (l.var - 1) 0) d = e ∙ ap (λ z. get_or es z d) r in
    rw (← c.self.view_is) (ap (λ (z : Entry). z.reason) f ∙ sym (reason-there ps es k.placed (get_or ps (l.var - 1) 0) d l h t.1))

pub returns-else-value : goal.returns-else-value
returns-else-value c =
    let es = c.self.inside.entries.items in
    let l = c.args.lit in
    let d : Entry = record { lit = l; reason = None } in
    let v0 : value_in es l ≡ Some c.in-Some.value = rw (← c.self.view_is) at (sym c.in-Some.ensures) in
    let v : value_in es l ≡ Some false = v0 ∙ ap (λ z. Some z) c.if-value.false in
    rw (← c.self.view_is) (sym (no-reason c.self.inside.places.items es c.self.invariant.placed d l (λ h. let z : Some false ≡ Some true = sym v ∙ h in cc)))

pub returns-in_default : goal.returns-in_default
returns-in_default c =
    let es = c.self.inside.entries.items in
    let l = c.args.lit in
    let d : Entry = record { lit = l; reason = None } in
    let v : value_in es l ≡ None = rw (← c.self.view_is) at (sym c.in_default.ensures) in
    rw (← c.self.view_is) (sym (no-reason c.self.inside.places.items es c.self.invariant.placed d l (λ h. let z : None ≡ Some true = sym v ∙ h in cc)))
