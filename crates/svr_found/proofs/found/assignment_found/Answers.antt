use Rattle.std.proofs.Common.{◌≡◌, ◌<◌, ◌^◌, List, length, sym, ap, ◌∙◌, subst}
use Rattle.std.proofs.lemmas.Result.{IfOk-weaker}
use Rattle.svr_query.specs.Logged.{valuation_of}
use Rattle.svr_eval.specs.declared.assign.Assign.{Assign}
use Rattle.svr_eval.specs.Reading.{reading_of}
use Rattle.svr_frame.specs.declared.part.Part.TheVariants.{All as Whole}
use Rattle.svr_frame.specs.declared.slot.Slot.{Slot}
use Rattle.svr_frame.specs.Frame.{frame_term, state_at}
use Rattle.svr_vector.specs.Places.{rows}
use Rattle.svr_encoded.specs.Slots.{positive_bits, widths_of, reading_at}
use Rattle.svr_encoded.proofs.RoomLemmas.{few_slots}
use Rattle.svr_found.proofs.OfPhase.{is_assignment, meets_kept}
use Rattle.svr_found.proofs.found.assignment_found.Goals as goal

pub table_of-requires : goal.table_of-requires
table_of-requires c =
    subst (λ (ss : List Slot). length ss < 2 ^ 32) (sym (c.as_slice-slots.ensures.value ∙ c.requires.encodes.slots)) (few_slots (frame_term c.args.frame.now) Whole c.args.sizes.now c.requires.sound c.requires.fit)

pub slots_found-requires-clause-slots : goal.slots_found-requires-clause-slots
slots_found-requires-clause-slots c = c.as_slice-slots.ensures.value ∙ c.requires.encodes.slots

pub slots_found-requires-clause-bits : goal.slots_found-requires-clause-bits
slots_found-requires-clause-bits c =
    ap rows c.as_slice.ensures.value ∙ c.requires.encodes.bits
    ∙ ap (λ (ss : List Slot). positive_bits 0 (widths_of (frame_term c.args.frame.now) 1 ss)) (sym (c.as_slice-slots.ensures.value ∙ c.requires.encodes.slots))

pub returns-clause-reads : goal.returns-clause-reads
returns-clause-reads c =
    rw (c.as_slice-slots.ensures.value, c.as_slice.ensures.value) at c.slots_found.ensures.reads

pub returns-clause-fits : goal.returns-clause-fits
returns-clause-fits c =
    let f = frame_term c.args.frame.now in
    let reads = rw (c.as_slice-slots.ensures.value, c.as_slice.ensures.value) at c.slots_found.ensures.reads in
    IfOk-weaker c.slots_found.result (λ (a : Assign). reading_of a ≡ reading_at (state_at f c.args.sizes.now) c.args.encoding.now.slots.items (rows c.args.encoding.now.bits.items) (valuation_of c.args.values.now)) _
    (λ a h. is_assignment f c.args.sizes.now c.requires.sound c.requires.fit c.args.encoding.now c.requires.encodes c.args.values.now (reading_of a) h) reads

pub returns-clause-meets : goal.returns-clause-meets
returns-clause-meets c =
    let f = frame_term c.args.frame.now in
    let reads = rw (c.as_slice-slots.ensures.value, c.as_slice.ensures.value) at c.slots_found.ensures.reads in
    IfOk-weaker c.slots_found.result (λ (a : Assign). reading_of a ≡ reading_at (state_at f c.args.sizes.now) c.args.encoding.now.slots.items (rows c.args.encoding.now.bits.items) (valuation_of c.args.values.now)) _
    (λ a h. meets_kept f c.args.sizes.now c.requires.sound c.requires.fit c.args.encoding.now c.requires.encodes c.args.values.now (reading_of a) h) reads
