use Rattle.std.proofs.Common.{◌∙◌, [], ◌∷◌, ap, List, ◌-◌, take, drop, length, get_or}
use Rattle.svr_vector.specs.Places.{rows}
use Rattle.svr_frame.specs.declared.slot.Slot.{Slot}
use Rattle.svr_frame.specs.Frame.{frame_term}
use Rattle.svr_script.specs.ProofText.{bits_text}
use Rattle.svr_stream.proofs.Rows.{left_all, left_more, left_none, first_is, first_copy, empty_is, two_as}
use Rattle.svr_printed.proofs.Rows.{no_bits}
use Rattle.svr_printed.proofs.proof.put_bits.Goals as goal

pub loop-slots_left-init : goal.loop-slots_left-init
loop-slots_left-init g c = left_all

pub loop-slots_left-preserved : goal.loop-slots_left-preserved
loop-slots_left-preserved g c =
    let slots = c.loop-slots_left.slots_left.now in
    let bits = c.loop-slots_left.bits_left.now in
    left_more c.loop-slots_left.invariant c.put_unknown.ensures
    (two_as (λ (xs : List Slot) ys. bits_text (frame_term c.args.frame.now) xs (rows ys)) slots _ bits _ (first_copy slots _ c.in-len1-up.len_at_least)
    (first_is bits c.row-item.result c.in-len1-up-bits_left.len_at_least c.row-item.is))

pub returns-in_default-bits_left : goal.returns-in_default-bits_left
returns-in_default-bits_left g c =
    let f = frame_term c.args.frame.now in
    let slots = c.loop-slots_left.slots_left.now in
    let bits = c.loop-slots_left.bits_left.now in
    left_none c.loop-slots_left.invariant (ap (λ ys. bits_text f slots (rows ys)) (empty_is bits c.in_default-bits_left.len_below) ∙ no_bits f slots)

pub returns : goal.returns
returns g c =
    let slots = c.loop-slots_left.slots_left.now in
    let bits = c.loop-slots_left.bits_left.now in
    left_none c.loop-slots_left.invariant
    (ap (λ (xs : List Slot). bits_text (frame_term c.args.frame.now) xs (rows bits)) (empty_is slots c.in_default.len_below))
