use Rattle.std.proofs.Common.{◌<◌, ℕ, [], List, length, map, ap, ◌∙◌, arith, subst, sym}
use Rattle.std.specs.Prelude.{slice_index}
use Rattle.svr_typed.specs.ExprTerm.{expr_term}
use Rattle.svr_gate.proofs.Circuits.{later, Extends-refl, Extends-trans}
use Rattle.svr_vector.specs.Places.{rows}
use Rattle.svr_inputs.specs.Inputs.{read_at}
use Rattle.svr_inputs.specs.Served.{IsServed}
use Rattle.svr_encode.specs.declared.part.Part.{Part}
use Rattle.svr_encode.specs.Parts.{part_term, alone_part, parts_of, AreRepeats}
use Rattle.svr_encode.proofs.TreeLemmas.{own_width}
use Rattle.svr_encode.proofs.EncodeLemmas.{part_fits, repeat_given, inner_len, own_size, reads_none, reads_next, all_given}
use Rattle.svr_encode.proofs.encode.+encode.Goals as goal

pub part_at-value_at-requires : goal.part_at-value_at-requires
part_at-value_at-requires t c = (c.requires.repeat c.in-Some.k c.in-Some.is).0

pub encode_at-part_at-requires : goal.encode_at-part_at-requires
encode_at-part_at-requires t c =
    let e = expr_term c.args.e.now in
    let parts = c.deref-part-items.result.now in
    let lt : c.loop-part.part-index < length c.deref-part-items.result.now = omega arith in
    let wide = own_size e c.args.e.now.width (own_width c.args.e.now c.requires.typed) c.args.width c.requires.wide in
    let same = ap (map part_term) c.deref-part-items.ensures.value ∙ c.in_ok-parts.ensures.parts in
    let repeats = subst (λ (ps : List Part). AreRepeats [] ps) (sym c.deref-part-items.ensures.value) c.in_ok-parts.ensures.repeats in
    let fit = part_fits (λ p. slice_index c.args.inputs.now.sizes.now p) c.args.inputs.now (length c.args.env.now) c.args.width c.args.signed e parts c.requires.typed c.requires.ready wide c.requires.high same
    c.loop-part.part-index c.part-item.result lt c.part-item.is in (
      omega (arith, fit.smaller),
      (
        c.requires.inputs,
        (
          omega (arith, c.requires.room, c.loop-part.invariant.extends.vars),
          (
            fit.is_typed,
            (
              subst (λ (n : ℕ). IsServed c.args.inputs.now n (expr_term c.part-item.result.tree.now)) (sym (inner_len c.args.env.now c.part-item.result.index)) fit.is_served,
              (fit.deep, (fit.wide, (fit.high, rw c.deref.ensures.value (repeat_given c.loop-part.b (rows c.loop-part.values.items) (λ v. read_at c.args.inputs.now v) c.args.env.now c.loop-part.part-index parts (alone_part e) c.part-item.result c.loop-part.invariant.reads repeats lt c.part-item.is)))),
            ),
          ),
        ),
      ),
    )

pub encode_at-loop-part-init : goal.encode_at-loop-part-init
encode_at-loop-part-init t c = record {
  extends = Extends-refl c.args.b.now;
  reads = rw c.new-values.ensures.items (reads_none c.args.b.now (λ v. read_at c.args.inputs.now v) c.args.env.now (map part_term c.deref-part-items.result.now) (alone_part (expr_term c.args.e.now)));
}

pub encode_at-loop-part-preserved : goal.encode_at-loop-part-preserved
encode_at-loop-part-preserved t c = record {
  extends = Extends-trans c.loop-part.invariant.extends c.part_at.ensures.extends;
  reads = rw c.in_ok-push.ensures.items
      (reads_next c.loop-part.b c.part_at.new.b c.loop-part.values.items c.in_ok-value.value (λ v. read_at c.args.inputs.now v) c.args.env.now c.loop-part.part-index c.deref-part-items.result.now (alone_part (expr_term c.args.e.now)) c.part-item.result
      c.part_at.ensures.extends c.loop-part.invariant.reads (omega arith) c.part-item.is c.in_ok-value.ensures.value);
}

pub encode_at-combined_at-requires-clause-room : goal.encode_at-combined_at-requires-clause-room
encode_at-combined_at-requires-clause-room t c = omega (arith, c.requires.room, c.loop-part.invariant.extends.vars)

pub encode_at-combined_at-requires-clause-parts : goal.encode_at-combined_at-requires-clause-parts
encode_at-combined_at-requires-clause-parts t c =
    let e = expr_term c.args.e.now in
    rw c.deref-2.ensures.value
    (all_given c.loop-part.b (rows c.loop-part.values.items) (λ v. read_at c.args.inputs.now v) c.args.env.now c.loop-part.part-index c.deref-part-items.result.now (parts_of (λ p. slice_index c.args.inputs.now.sizes.now p) e c.args.width c.args.signed) (alone_part e)
    c.loop-part.invariant.reads (omega arith) (ap (map part_term) c.deref-part-items.ensures.value ∙ c.in_ok-parts.ensures.parts))

pub encode_at-returns-in_err-value-clause-extends : goal.encode_at-returns-in_err-value-clause-extends
encode_at-returns-in_err-value-clause-extends t c = search later

pub encode_at-returns-in_err-push-clause-extends : goal.encode_at-returns-in_err-push-clause-extends
encode_at-returns-in_err-push-clause-extends t c = search later

pub encode_at-returns-clause-extends : goal.encode_at-returns-clause-extends
encode_at-returns-clause-extends t c = search later
