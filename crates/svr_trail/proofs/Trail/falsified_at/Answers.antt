use Rattle.std.proofs.Common.{◌≡◌, ◌∙◌, ◌-◌, ◌<◌, ◌≤◌, ℕ, List, Option, true, false, nat_lt, None, Some, length, take, get_or, arith, ap, sym, inl, inr}
use Rattle.std.specs.Prelude.{◌⊎◌}
use Rattle.std.proofs.lemmas.Bool.{cases_Bool, ltb-true, ltb-false, lt-ltb, le-ltb}
use Rattle.std.proofs.lemmas.List.{get_or_read}
use Rattle.svr_chain.specs.declared.clause.Lit.{Lit}
use Rattle.svr_chain.specs.Clauses.{IsWithin}
use Rattle.svr_trail.specs.declared.Entry.{Entry}
use Rattle.svr_trail.specs.Table.{ArePlaces}
use Rattle.svr_trail.specs.Trail.{Each, WasOpen, value_in, is_false}
use Rattle.svr_trail.proofs.TableLemmas.{value-open_before, value_before, within-from_value}
use Rattle.svr_trail.proofs.Trail.falsified_at.Goals as goal

false-at : (ps : List ℕ) (es : List Entry) (l : Lit) (at : ℕ) → ArePlaces ps es → Each WasOpen es → value_in es l ≡ Some false → at ≡ get_or ps (l.var - 1) 0
    → (h : ℕ) → is_false (value_in (take h es) l) ≡ nat_lt at h
false-at ps es l at p a v r h =
    elim (cases_Bool (nat_lt at h)) [
      | inl e ↦ let o = ltb-true at h e in ap is_false ((value_before ps es h l false p a v).0 (omega (arith, r))) ∙ sym e
      | inr e ↦ let o = ltb-false at h e in ap is_false ((value_before ps es h l false p a v).1 (omega (arith, r))) ∙ sym e
    ]

true-at : (ps : List ℕ) (es : List Entry) (l : Lit) (at : ℕ) → ArePlaces ps es → Each WasOpen es → value_in es l ≡ Some true → at ≡ length es
    → (h : ℕ) → h ≤ length es → is_false (value_in (take h es) l) ≡ nat_lt at h
true-at ps es l at p a v r h o =
    elim (cases_Bool (nat_lt (get_or ps (l.var - 1) 0) h)) [
      | inl e ↦ ap is_false ((value_before ps es h l true p a v).0 (ltb-true (get_or ps (l.var - 1) 0) h e)) ∙ sym (le-ltb at h (omega arith))
      | inr e ↦ ap is_false ((value_before ps es h l true p a v).1 (ltb-false (get_or ps (l.var - 1) 0) h e)) ∙ sym (le-ltb at h (omega arith))
    ]

open-at : (es : List Entry) (l : Lit) (at : ℕ) → value_in es l ≡ None → at ≡ length es → (h : ℕ) → h ≤ length es → is_false (value_in (take h es) l) ≡ nat_lt at h
open-at es l at v r h o = ap is_false (value-open_before es h l v) ∙ sym (le-ltb at h (omega arith))

pub overflow_sub-lit : goal.overflow_sub-lit
overflow_sub-lit c =
    let es = c.self.inside.entries.items in
    let v : value_in es c.args.lit ≡ Some c.in-Some.value = rw (← c.self.view_is) at (sym c.in-Some.ensures) in
    let w : IsWithin (length c.self.inside.signs.items) c.args.lit = within-from_value (length c.self.inside.signs.items) es c.args.lit c.in-Some.value c.self.invariant.table.within v in
    omega arith

pub index-requires : goal.index-requires
index-requires c =
    let es = c.self.inside.entries.items in
    let v : value_in es c.args.lit ≡ Some c.in-Some.value = rw (← c.self.view_is) at (sym c.in-Some.ensures) in
    let w : IsWithin (length c.self.inside.signs.items) c.args.lit = within-from_value (length c.self.inside.signs.items) es c.args.lit c.in-Some.value c.self.invariant.table.within v in
    omega (arith, c.self.invariant.sized, c.self.inside.places.ok.0)

pub returns-else-value : goal.returns-else-value
returns-else-value c = λ h o.
    let es = c.self.inside.entries.items in
    let ps = c.self.inside.places.items in
    let k = c.self.invariant in
    let l = c.args.lit in
    let v0 : value_in es l ≡ Some c.in-Some.value = rw (← c.self.view_is) at (sym c.in-Some.ensures) in
    let v : value_in es l ≡ Some false = v0 ∙ ap (λ z. Some z) c.if-value.false in
    let w : IsWithin (length c.self.inside.signs.items) l = within-from_value (length c.self.inside.signs.items) es l false k.table.within v in
    let b : l.var - 1 < length ps = omega (arith, k.sized) in
    let r : c.index.result.now ≡ get_or ps (l.var - 1) 0 = get_or_read ps (l.var - 1) c.index.result.now b c.index.ensures 0 in
    rw (← c.self.view_is) (false-at ps es l c.index.result.now k.placed k.table.apart v r h)

pub returns-then-value : goal.returns-then-value
returns-then-value c = λ h o.
    let es = c.self.inside.entries.items in
    let ps = c.self.inside.places.items in
    let k = c.self.invariant in
    let l = c.args.lit in
    let v0 : value_in es l ≡ Some c.in-Some.value = rw (← c.self.view_is) at (sym c.in-Some.ensures) in
    let v : value_in es l ≡ Some true = v0 ∙ ap (λ z. Some z) c.if-value.true in
    let o' : h ≤ length es = rw (← c.self.view_is) at o in
    let n : c.len-then-value.result ≡ length es = c.len-then-value.ensures ∙ c.self.inside.entries.ok.0 in
    rw (← c.self.view_is) (true-at ps es l c.len-then-value.result k.placed k.table.apart v n h o')

pub returns-in_default : goal.returns-in_default
returns-in_default c = λ h o.
    let es = c.self.inside.entries.items in
    let l = c.args.lit in
    let v : value_in es l ≡ None = rw (← c.self.view_is) at (sym c.in_default.ensures) in
    let o' : h ≤ length es = rw (← c.self.view_is) at o in
    let n : c.len.result ≡ length es = c.len.ensures ∙ c.self.inside.entries.ok.0 in
    rw (← c.self.view_is) (open-at es l c.len.result v n h o')
