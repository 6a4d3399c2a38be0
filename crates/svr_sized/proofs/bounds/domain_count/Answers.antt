use Rattle.std.proofs.Common.{List, length, ap, ◌∙◌}
use Rattle.std.specs.List.{flat_map}
use Rattle.svr_frame.specs.declared.part.Part.TheVariants.{Sizes}
use Rattle.svr_frame.specs.declared.slot.Slot.{Slot}
use Rattle.svr_frame.specs.Frame.{frame_term}
use Rattle.svr_frame.specs.Phases.{domain_item, unknowns_of}
use Rattle.svr_sized.proofs.bounds.domain_count.Goals as goal

pub unknowns-requires : goal.unknowns-requires
unknowns-requires c = c.requires.properties

pub returns : goal.returns
returns c =
    let f = frame_term c.args.frame.now in
    c.all_own_items.ensures ∙ ap (λ (ss : List Slot). length (flat_map (domain_item f) ss)) (c.as_slice.ensures ∙ c.in_ok-slots.ensures ∙ ap (unknowns_of f Sizes) c.as_slice-sizes.ensures)
