use Rattle.std.proofs.Common.{◌<◌, ◌^◌, ℕ, List, length, map, sum, refl, sym, ap, ◌∙◌, subst, arith}
use Rattle.svr_typed.specs.ExprTerm.{expr_term}
use Rattle.svr_frame.specs.declared.slot.Slot.{Slot}
use Rattle.svr_frame.specs.Frame.{frame_term, state_at}
use Rattle.svr_frame.specs.Satisfaction.{is_at, is_size_of}
use Rattle.svr_vector.specs.Places.{rows}
use Rattle.svr_encoded.specs.Slots.{place_where, positive_bits, widths_of}
use Rattle.svr_encoded.specs.declared.encoded.Encoded.{Encoded}
use Rattle.svr_encoded.specs.Encodes.{EncodesOver}
use Rattle.svr_encoded.proofs.EncodedLemmas.{encoded}
use Rattle.svr_encoded.proofs.RoomLemmas.{few_bits, few_slots}
use Rattle.svr_blast.proofs.question.blast.Goals as goal

pub total-count-requires : goal.total-count-requires
total-count-requires c =
    let f = frame_term c.args.frame.now in
    let few = few_bits f c.args.part c.args.sizes.now c.args.size_bits c.requires.sound c.requires.fit c.requires.few_bits in
    subst (λ (ws : List ℕ). sum ws < 2 ^ 32) (sym (c.deref-2.ensures.value ∙ c.in_ok-widths.ensures ∙ ap (widths_of f c.args.size_bits) (c.deref.ensures.value ∙ c.requires.slots))) few

pub positive_rows-requires : goal.positive_rows-requires
positive_rows-requires c =
    let f = frame_term c.args.frame.now in
    let few = few_bits f c.args.part c.args.sizes.now c.args.size_bits c.requires.sound c.requires.fit c.requires.few_bits in
    subst (λ (ws : List ℕ). sum ws < 2 ^ 32) (sym (c.deref-3.ensures.value ∙ c.in_ok-widths.ensures ∙ ap (widths_of f c.args.size_bits) (c.deref.ensures.value ∙ c.requires.slots))) few

pub table_of-requires : goal.table_of-requires
table_of-requires c =
    subst (λ (ss : List Slot). length ss < 2 ^ 32) (sym (c.deref-4.ensures.value ∙ c.requires.slots)) (few_slots (frame_term c.args.frame.now) c.args.part c.args.sizes.now c.requires.sound c.requires.fit)

pub roots_of-requires-clause-slots : goal.roots_of-requires-clause-slots
roots_of-requires-clause-slots c = c.deref-6.ensures.value ∙ c.requires.slots

pub roots_of-requires-clause-numbers : goal.roots_of-requires-clause-numbers
roots_of-requires-clause-numbers c = λ p j. c.in_ok-table.ensures.numbers p j ∙ ap (place_where (is_at p j) 0) (c.deref-4.ensures.value ∙ sym c.deref-6.ensures.value)

pub roots_of-requires-clause-sizes : goal.roots_of-requires-clause-sizes
roots_of-requires-clause-sizes c = λ p. c.in_ok-table.ensures.sizes p ∙ ap (place_where (is_size_of p) 0) (c.deref-4.ensures.value ∙ sym c.deref-6.ensures.value)

pub roots_of-requires-clause-bits : goal.roots_of-requires-clause-bits
roots_of-requires-clause-bits c =
    let f = frame_term c.args.frame.now in
    ap rows c.deref-5.ensures.value ∙ c.in_ok-bits.ensures
    ∙ ap (positive_bits 0) (c.deref-3.ensures.value ∙ c.in_ok-widths.ensures ∙ ap (widths_of f c.args.size_bits) (c.deref.ensures.value ∙ sym c.deref-6.ensures.value))

pub roots_of-requires-clause-count : goal.roots_of-requires-clause-count
roots_of-requires-clause-count c =
    let f = frame_term c.args.frame.now in
    c.from.ensures ∙ c.total-count.ensures ∙ ap sum (c.deref-2.ensures.value ∙ c.in_ok-widths.ensures ∙ ap (widths_of f c.args.size_bits) (c.deref.ensures.value ∙ sym c.deref-6.ensures.value))

pub roots_of-requires-clause-room : goal.roots_of-requires-clause-room
roots_of-requires-clause-room c = omega (arith, c.from.ensures, c.in_ok-b.ensures.vars)

pub roots_of-requires-clause-typed : goal.roots_of-requires-clause-typed
roots_of-requires-clause-typed c = rw c.deref-7.ensures.value c.requires.typed

pub roots_of-requires-clause-inside : goal.roots_of-requires-clause-inside
roots_of-requires-clause-inside c = rw c.deref-7.ensures.value c.requires.inside

pub roots_of-requires-clause-readable : goal.roots_of-requires-clause-readable
roots_of-requires-clause-readable c = rw c.deref-7.ensures.value c.requires.readable

pub roots_of-requires-clause-fixed : goal.roots_of-requires-clause-fixed
roots_of-requires-clause-fixed c = rw c.deref-7.ensures.value c.requires.fixed

pub returns : goal.returns
returns c =
    let f = frame_term c.args.frame.now in
    let e : Encoded = record { items = c.args.items; slots = c.args.slots; bits = c.in_ok-bits.bits; cnf = c.finish-cnf.result; roots = c.in_ok-roots.roots } in
    subst (λ (ss : List Slot). EncodesOver (state_at (frame_term c.args.frame.now) c.args.sizes.now) ss (widths_of (frame_term c.args.frame.now) c.args.size_bits ss) (map expr_term c.args.items.items) e) c.requires.slots
    (encoded (state_at f c.args.sizes.now) e (widths_of f c.args.size_bits c.args.slots.items) (map expr_term c.args.items.items) c.total-count.result c.in_ok-b.b c.roots_of.new.b refl
    (c.in_ok-bits.ensures ∙ ap (positive_bits 0) (c.deref-3.ensures.value ∙ c.in_ok-widths.ensures ∙ ap (widths_of f c.args.size_bits) c.deref.ensures.value))
    (c.total-count.ensures ∙ ap sum (c.deref-2.ensures.value ∙ c.in_ok-widths.ensures ∙ ap (widths_of f c.args.size_bits) c.deref.ensures.value))
    c.in_ok-b.ensures.inputs c.in_ok-b.ensures.vars c.in_ok-b.ensures.clauses c.roots_of.ensures.extends
    (rw (c.deref-5.ensures.value, c.deref-6.ensures.value, c.deref-7.ensures.value) at c.in_ok-roots.ensures.roots)
    c.in_ok-roots.ensures.apart c.finish-cnf.ensures.clauses c.finish-cnf.ensures.vars c.finish-cnf.ensures.within c.finish-cnf.ensures.settled)
