use Rattle.std.proofs.Common.{◌<◌, ◌∙◌, refl, [], length, sym, ap, subst, map, arith}
use Rattle.std.proofs.lemmas.List.{take_all}
use Rattle.svr_typed.specs.ExprTerm.{expr_term}
use Rattle.svr_eval.specs.Reading.{Reading, reading_of}
use Rattle.svr_frame.specs.declared.part.Part.TheVariants.{All as Whole}
use Rattle.svr_frame.specs.Frame.{frame_term}
use Rattle.svr_frame.specs.Satisfaction.{AreFixed, IsAssignment}
use Rattle.svr_values.specs.Needed.{needed_of}
use Rattle.svr_settled.specs.Steps.{hold, steps}
use Rattle.svr_settled.proofs.Stepped.{one_more, is_unknown, is_within, wanted_is, step_is, step_fixed, still_hold}
use Rattle.svr_settled.proofs.slots.settle.Goals as goal

pub settle_slot-requires-clause-within : goal.settle_slot-requires-clause-within
settle_slot-requires-clause-within c =
    let f = frame_term c.args.frame.now in
    is_within f c.args.sizes.now c.requires.sound c.requires.fit c.loop-at.a _ c.loop-at.invariant.long
    (is_unknown f c.args.sizes.now c.requires.sound c.requires.fit c.args.slots.now c.loop-at.at _ c.requires.slots (omega arith))

pub settle_slot-requires-clause-readable : goal.settle_slot-requires-clause-readable
settle_slot-requires-clause-readable c =
    let f = frame_term c.args.frame.now in
    c.requires.readable _
    (wanted_is f c.args.sizes.now c.requires.sound c.requires.fit (reading_of c.args.wanted.now) (reading_of c.loop-at.a) c.requires.wanted c.loop-at.invariant.fits _
    (is_unknown f c.args.sizes.now c.requires.sound c.requires.fit c.args.slots.now c.loop-at.at _ c.requires.slots (omega arith)))

pub loop-at-init : goal.loop-at-init
loop-at-init c = record { reads = refl; long = c.requires.long; fits = c.requires.fits; fixed = λ chosen h k. k; meets = c.requires.meets }

pub loop-at-preserved : goal.loop-at-preserved
loop-at-preserved c =
    let f = frame_term c.args.frame.now in
    let items = needed_of (map expr_term c.args.items.now) c.args.needed.now in
    let lt : c.loop-at.at < length c.args.slots.now = omega arith in
    record {
      reads = one_more items (reading_of c.args.wanted.now) (reading_of c.args.found) (reading_of c.loop-at.a) _ c.args.slots.now c.loop-at.at _ lt c.loop-at.invariant.reads c.in_ok-settle_slot.ensures.reads;
      long = λ p. c.in_ok-settle_slot.ensures.long p ∙ c.loop-at.invariant.long p;
      fits = subst (IsAssignment f Whole c.args.sizes.now []) (sym c.in_ok-settle_slot.ensures.reads)
          (step_is f c.args.sizes.now c.requires.sound c.requires.fit items (reading_of c.args.wanted.now) (reading_of c.loop-at.a) c.requires.wanted c.loop-at.invariant.fits _
          (is_unknown f c.args.sizes.now c.requires.sound c.requires.fit c.args.slots.now c.loop-at.at _ c.requires.slots lt));
      fixed = λ chosen h k. subst (λ (r : Reading). AreFixed f r chosen) (sym c.in_ok-settle_slot.ensures.reads)
          (step_fixed f items (reading_of c.args.wanted.now) (reading_of c.loop-at.a) _ chosen h (c.loop-at.invariant.fixed chosen h k));
      meets = ap (hold items) c.in_ok-settle_slot.ensures.reads ∙ still_hold items (reading_of c.args.wanted.now) (reading_of c.loop-at.a) _ c.loop-at.invariant.meets;
    }

pub returns-clause-steps : goal.returns-clause-steps
returns-clause-steps c = c.loop-at.invariant.reads ∙ ap (steps (needed_of (map expr_term c.args.items.now) c.args.needed.now) (reading_of c.args.wanted.now) (reading_of c.args.found)) (take_all _ c.args.slots.now (omega arith))

pub returns-clause-fits : goal.returns-clause-fits
returns-clause-fits c = λ chosen h k.
    let is = c.loop-at.invariant.fits in
    record { fits = is.fits; same_numbers = is.same_numbers; same_sizes = is.same_sizes; same_script = is.same_script; chosen = c.loop-at.invariant.fixed chosen h k }
