use Rattle.std.proofs.Common.{◌≡◌, ◌∙◌, ◌^◌, ◌-◌, ◌<◌, ◌≤◌, ◌⊎◌, inl, inr, ⊎_elim, ap, subst, sym, ℕ, List, arith, length, take, drop, get_or, cond, false, replicate, min}
use Rattle.std.specs.List.{list_any}
use Rattle.std.proofs.lemmas.Nat.{one_shl}
use Rattle.std.proofs.lemmas.Bool.{cases_lt}
use Rattle.std.proofs.lemmas.List.{take_rest, length-replicate}
use Rattle.std.proofs.lemmas.List.Elements.{All-take, All-drop, All-replicate}
use Rattle.std.proofs.lemmas.Result.{IfOk-weaker}
use Rattle.svr_chain.specs.declared.clause.Lit.{Lit}
use Rattle.svr_chain.specs.Clauses.{IsWithin, AreWithin}
use Rattle.svr_chain.specs.Valuations.{lit_value}
use Rattle.svr_gate.specs.Numbers.{number}
use Rattle.svr_gate.specs.Circuit.{GivesNumber}
use Rattle.svr_gate.proofs.Circuits.{later, Tells-later, Tells-same, IsWithin-later, AreWithin-later}
use Rattle.svr_gate.proofs.Vectors.{GivesNumber-width}
use Rattle.svr_shape.specs.Shape.{is_signed, fill_of, moved_of, shift_of}
use Rattle.svr_shape.proofs.ChoiceLemmas.{chosen_same}
use Rattle.svr_shape.proofs.ShiftLemmas.{moved_number, shift_step, shift_far, shift_none, moved_within, length_moved}
use Rattle.svr_shape.proofs.shifter.shift.Goals as goal

pub loop-i-init : goal.loop-i-init
loop-i-init c = record {
  extends = c.filler.ensures.extends;
  fill = Tells-same (λ a. fill_of (is_signed c.args.kind) (length c.args.x.now) (number a c.args.x.now)) c.in_ok-fill.ensures.value (λ a m. ap (λ s. fill_of s (length c.args.x.now) (number a c.args.x.now)) c.is_signed.ensures);
  value = rw c.in_ok-shifted.ensures.items (shift_none c.filler.new.b c.args.kind c.args.x.now c.args.by.now (AreWithin-later c.args.x.now c.filler.ensures.extends c.requires.x_within));
}

pub choose-requires-clause-x_within : goal.choose-requires-clause-x_within
choose-requires-clause-x_within c =
    let moved : c.deref-in-loop-i.result.now ≡ moved_of c.args.kind c.in_ok-fill.fill c.min-places.result c.loop-i.shifted.items
    = c.deref-in-loop-i.ensures.value ∙ c.in_ok-moved.ensures ∙ ap (λ ls. moved_of c.args.kind c.in_ok-fill.fill c.min-places.result ls) c.deref.ensures.value in
    subst (λ (ls : List Lit). AreWithin c.loop-i.b.vars ls) (sym moved)
    (moved_within c.args.kind c.loop-i.b.vars c.in_ok-fill.fill c.min-places.result c.loop-i.shifted.items c.loop-i.invariant.fill.within c.loop-i.invariant.value.within)

pub returns-in_err-shifted-2-clause-extends : goal.returns-in_err-shifted-2-clause-extends
returns-in_err-shifted-2-clause-extends c = search later

pub loop-i-preserved : goal.loop-i-preserved
loop-i-preserved c = record {
  extends = search later;
  fill = Tells-later c.choose.ensures.extends c.loop-i.invariant.fill;
  value = shift_step c.loop-i.b c.choose.new.b c.args.kind c.args.x.now c.args.by.now c.loop-i.shifted.items c.in_ok-moved.moved.items c.in_ok-shifted-2.shifted.items c.in_ok-fill.fill d c.loop-i.i c.min-places.result
      c.choose.ensures.extends (omega arith) amount c.loop-i.invariant.fill c.loop-i.invariant.value moved
      (GivesNumber-width len (chosen_same (get_or c.args.by.now c.loop-i.i d) c.deref-in-loop-i.result.now c.deref-in-loop-i-2.result.now c.in_ok-moved.moved.items c.loop-i.shifted.items c.deref-in-loop-i.ensures.value c.deref-in-loop-i-2.ensures.value c.in_ok-shifted-2.ensures.value));
} where
  d : Lit
  d = record { var = 0; neg = false }

  amount : c.min-places.result ≡ min (length c.loop-i.shifted.items) (2 ^ c.loop-i.i)
  amount = omega (arith, c.min-places.ensures, c.len.ensures, one_shl c.loop-i.i 64 (omega (arith, c.min-stages.ensures)), c.loop-i.shifted.ok.0)

  moved : c.in_ok-moved.moved.items ≡ moved_of c.args.kind c.in_ok-fill.fill c.min-places.result c.loop-i.shifted.items
  moved = c.in_ok-moved.ensures ∙ ap (λ ls. moved_of c.args.kind c.in_ok-fill.fill c.min-places.result ls) c.deref.ensures.value

  len : length c.in_ok-moved.moved.items ≡ length c.args.x.now
  len = ap length moved ∙ length_moved c.args.kind c.in_ok-fill.fill c.min-places.result c.loop-i.shifted.items (omega (arith, amount)) ∙ c.loop-i.invariant.value.len

pub returns-in_err-far-clause-extends : goal.returns-in_err-far-clause-extends
returns-in_err-far-clause-extends c = search later

pub returns-in_err-filled-clause-extends : goal.returns-in_err-filled-clause-extends
returns-in_err-filled-clause-extends c = search later

pub returns-clause-extends : goal.returns-clause-extends
returns-clause-extends c = search later

pub returns-clause-value : goal.returns-clause-value
returns-clause-value c =
    IfOk-weaker c.choose-2.result
    (λ v. GivesNumber c.choose-2.new.b v.items (length c.deref-2.result.now) (λ a. cond (lit_value a c.in_ok-far.far) (number a c.deref-2.result.now) (number a c.deref-3.result.now)))
    (λ v. GivesNumber c.choose-2.new.b v.items (length c.args.x.now) (λ a. shift_of c.args.kind (length c.args.x.now) (number a c.args.x.now) (number a c.args.by.now)))
    (λ v g.
    shift_far c.loop-i.b c.any.new.b c.choose-2.new.b c.args.kind c.args.x.now c.args.by.now c.loop-i.shifted.items v.items c.in_ok-fill.fill c.in_ok-far.far c.min-stages.result c.any.ensures.extends c.choose-2.ensures.extends (omega (arith, c.min-stages.ensures)) wide
    c.loop-i.invariant.fill
    (subst (λ (k : ℕ). GivesNumber c.loop-i.b c.loop-i.shifted.items (length c.args.x.now) (λ a. moved_number c.args.kind (fill_of (is_signed c.args.kind) (length c.args.x.now) (number a c.args.x.now)) (length c.args.x.now) (number a c.args.x.now) (number a (take k c.args.by.now)))) last c.loop-i.invariant.value)
    (Tells-same (λ a. list_any (lit_value a) (drop c.min-stages.result c.args.by.now)) c.in_ok-far.ensures.value (λ a m. ap (list_any (lit_value a)) (take_rest c.args.by.now c.min-stages.result)))
    (GivesNumber-width (length-replicate (length c.args.x.now) c.in_ok-fill.fill)
    (chosen_same c.in_ok-far.far c.deref-2.result.now c.deref-3.result.now (replicate (length c.args.x.now) c.in_ok-fill.fill) c.loop-i.shifted.items (c.deref-2.ensures.value ∙ c.in_ok-filled.ensures) c.deref-3.ensures.value g)))
    c.choose-2.ensures.value where
      last : c.loop-i.i ≡ c.min-stages.result
      last = omega arith

      wide : (length c.args.by.now ≡ c.min-stages.result) ⊎ (length c.args.x.now ≤ 2 ^ c.min-stages.result)
      wide =
          ⊎_elim
          (λ (q : 6 < length c.args.by.now). let six : c.min-stages.result ≡ 6 = omega (arith, c.min-stages.ensures) in inr (rw six c.requires.few))
          (λ (q : length c.args.by.now ≤ 6). inl (omega (arith, c.min-stages.ensures)))
          (cases_lt 6 (length c.args.by.now))

pub overflow_shl-i : goal.overflow_shl-i
overflow_shl-i c = omega (arith, c.min-stages.ensures)

pub moved-requires : goal.moved-requires
moved-requires c = omega (arith, c.min-places.ensures, c.len.ensures, c.loop-i.shifted.ok.0, ap (λ (ls : List Lit). length ls) c.deref.ensures.value)

pub offset_bounds-by-i : goal.offset_bounds-by-i
offset_bounds-by-i c = omega (arith, c.min-stages.ensures)

pub bounds-by-i : goal.bounds-by-i
bounds-by-i c = omega (arith, c.min-stages.ensures)

pub choose-requires-clause-len : goal.choose-requires-clause-len
choose-requires-clause-len c =
    ap (λ (ls : List Lit). length ls) (c.deref-in-loop-i.ensures.value ∙ c.in_ok-moved.ensures ∙ ap (λ ls. moved_of c.args.kind c.in_ok-fill.fill c.min-places.result ls) c.deref.ensures.value)
    ∙ length_moved c.args.kind c.in_ok-fill.fill c.min-places.result c.loop-i.shifted.items (omega (arith, c.min-places.ensures, c.len.ensures, c.loop-i.shifted.ok.0))
    ∙ sym (ap (λ (ls : List Lit). length ls) c.deref-in-loop-i-2.ensures.value)

pub choose-requires-clause-test_within : goal.choose-requires-clause-test_within
choose-requires-clause-test_within c = AreWithin-later c.args.by.now c.loop-i.invariant.extends c.requires.by_within c.loop-i.i (record { var = 0; neg = false }) (omega (arith, c.min-stages.ensures))

pub choose-requires-clause-y_within : goal.choose-requires-clause-y_within
choose-requires-clause-y_within c = subst (λ (ls : List Lit). AreWithin c.loop-i.b.vars ls) (sym c.deref-in-loop-i-2.ensures.value) c.loop-i.invariant.value.within

pub offset_bounds-by-stages : goal.offset_bounds-by-stages
offset_bounds-by-stages c = omega (arith, c.min-stages.ensures)

pub slice_bounds-any-count : goal.slice_bounds-any-count
slice_bounds-any-count c = omega (arith, c.min-stages.ensures)

pub any-requires : goal.any-requires
any-requires c =
    All-take (IsWithin c.loop-i.b.vars) (length c.args.by.now - c.min-stages.result) (drop c.min-stages.result c.args.by.now)
    (All-drop (IsWithin c.loop-i.b.vars) c.min-stages.result c.args.by.now (AreWithin-later c.args.by.now c.loop-i.invariant.extends c.requires.by_within))

pub choose-requires-2-clause-len : goal.choose-requires-2-clause-len
choose-requires-2-clause-len c =
    ap (λ (ls : List Lit). length ls) (c.deref-2.ensures.value ∙ c.in_ok-filled.ensures)
    ∙ length-replicate (length c.args.x.now) c.in_ok-fill.fill
    ∙ sym (ap (λ (ls : List Lit). length ls) c.deref-3.ensures.value ∙ c.loop-i.invariant.value.len)

pub choose-requires-2-clause-test_within : goal.choose-requires-2-clause-test_within
choose-requires-2-clause-test_within c = c.in_ok-far.ensures.value.within

pub choose-requires-2-clause-x_within : goal.choose-requires-2-clause-x_within
choose-requires-2-clause-x_within c =
    subst (λ (ls : List Lit). AreWithin c.any.new.b.vars ls) (sym (c.deref-2.ensures.value ∙ c.in_ok-filled.ensures))
    (All-replicate (IsWithin c.any.new.b.vars) (length c.args.x.now) c.in_ok-fill.fill (IsWithin-later c.in_ok-fill.fill c.any.ensures.extends c.loop-i.invariant.fill.within))

pub choose-requires-2-clause-y_within : goal.choose-requires-2-clause-y_within
choose-requires-2-clause-y_within c =
    subst (λ (ls : List Lit). AreWithin c.any.new.b.vars ls) (sym c.deref-3.ensures.value)
    (AreWithin-later c.loop-i.shifted.items c.any.ensures.extends c.loop-i.invariant.value.within)
