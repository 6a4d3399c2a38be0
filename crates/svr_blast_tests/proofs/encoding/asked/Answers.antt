use Rattle.std.proofs.Common.{◌∙◌, sym, subst}
use Rattle.svr_frame.specs.Frame.{FrameTerm, frame_term}
use Rattle.svr_frame.specs.Sound.{IsSound, SizesFit}
use Rattle.svr_blast_tests.specs.Sample.{sample_sizes}
use Rattle.svr_blast_tests.proofs.Sound.{sample_is_sound, sample_sizes_fit}
use Rattle.svr_blast_tests.proofs.Asked.{one_typed, one_inside, one_readable, one_fixed, all_slots}
use Rattle.svr_blast_tests.proofs.encoding.asked.Goals as goal

pub blast-e-requires-clause-sound : goal.blast-e-requires-clause-sound
blast-e-requires-clause-sound c = subst IsSound (sym c.requires) sample_is_sound

pub blast-e-requires-clause-fit : goal.blast-e-requires-clause-fit
blast-e-requires-clause-fit c = subst (λ (f : FrameTerm). SizesFit f sample_sizes) (sym c.requires) sample_sizes_fit

pub blast-e-requires-clause-slots : goal.blast-e-requires-clause-slots
blast-e-requires-clause-slots c = c.in_ok-slots.ensures ∙ all_slots (frame_term c.args.frame.now) c.part_of-part.result c.requires

pub blast-e-requires-clause-typed : goal.blast-e-requires-clause-typed
blast-e-requires-clause-typed c =
    one_typed c.args.form c.in_ok-item.field-0 c.in_ok-items.items.items c.in_ok-items.ensures c.in_ok-item.ensures

pub blast-e-requires-clause-inside : goal.blast-e-requires-clause-inside
blast-e-requires-clause-inside c =
    one_inside c.args.form c.in_ok-item.field-0 c.in_ok-items.items.items c.in_ok-items.ensures c.in_ok-item.ensures (frame_term c.args.frame.now) c.requires

pub blast-e-requires-clause-readable : goal.blast-e-requires-clause-readable
blast-e-requires-clause-readable c =
    one_readable c.args.form c.in_ok-item.field-0 c.in_ok-items.items.items c.in_ok-items.ensures c.in_ok-item.ensures (frame_term c.args.frame.now) c.requires

pub blast-e-requires-clause-fixed : goal.blast-e-requires-clause-fixed
blast-e-requires-clause-fixed c =
    one_fixed c.args.form c.in_ok-item.field-0 c.in_ok-items.items.items c.in_ok-items.ensures c.in_ok-item.ensures (frame_term c.args.frame.now) c.part_of-part.result c.requires c.part_of-part.ensures
