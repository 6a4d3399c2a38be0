use Rattle.std.proofs.Common.{◌≡◌, ◌<◌, ◌^◌, Some, List, Vec, Global, length, refl, sym, ◌∙◌, subst, arith}
use Rattle.std.specs.Prelude.{slice_index}
use Rattle.svr_chain.specs.declared.clause.Lit.{Lit}
use Rattle.svr_query.specs.Logged.{valuation_of}
use Rattle.svr_frame.specs.declared.part.Part.TheVariants.{Sizes}
use Rattle.svr_frame.specs.declared.slot.Slot.{Slot}
use Rattle.svr_frame.specs.Frame.{frame_term}
use Rattle.svr_vector.specs.Places.{rows}
use Rattle.svr_inputs.specs.Inputs.{bits_of, size_row, read_or}
use Rattle.svr_encoded.proofs.RoomLemmas.{few_slots}
use Rattle.svr_phase.proofs.Preferred.{state_sizes_fit}
use Rattle.svr_values.proofs.Lists.{row_more}
use Rattle.svr_sized.proofs.SizeRows.{row_short, all_read}
use Rattle.svr_sized.proofs.read.sizes_found.Goals as goal

pub table_of-requires : goal.table_of-requires
table_of-requires c =
    let f = frame_term c.args.frame.now in
    subst (λ (ss : List Slot). length ss < 2 ^ 32) (sym (c.as_slice.ensures.value ∙ c.requires.encodes.3.slots)) (few_slots f Sizes f.state.sizes c.requires.sound (state_sizes_fit f c.requires.sound))

pub size_found-requires : goal.size_found-requires
size_found-requires c =
    let h = c.requires.encodes in
    let e = c.args.encoding.now in
    let t = c.in_ok-table.table in
    let p = c.loop-prop.prop in
    λ ls is. row_short (frame_term c.args.frame.now) h.0 h.1 h.2 e h.3 t c.as_slice.result.now c.as_slice.ensures.value c.in_ok-table.ensures.sizes p ls
    (subst (λ (vs : List (Vec Lit Global)). bits_of (rows vs) (size_row t p) ≡ Some ls) c.as_slice-bits.ensures.value is)

pub loop-prop-preserved : goal.loop-prop-preserved
loop-prop-preserved c =
    row_more (λ p. read_or (slice_index (frame_term c.args.frame.now).state.sizes p) (valuation_of c.args.values.now) (bits_of (rows c.as_slice-bits.result.now) (size_row c.in_ok-table.table p)))
    c.loop-prop.prop c.size_found.result c.loop-prop.prop c.loop-prop.sizes _ c.in_ok-push.ensures.ok c.size_found.ensures refl c.loop-prop.invariant

pub returns : goal.returns
returns c =
    let h = c.requires.encodes in
    let f = frame_term c.args.frame.now in
    c.loop-prop.invariant
    ∙ all_read f h.0 h.1 h.2 c.args.encoding.now h.3 c.in_ok-table.table c.as_slice.result.now c.as_slice.ensures.value c.in_ok-table.ensures.sizes c.as_slice-bits.result.now c.as_slice-bits.ensures.value (valuation_of c.args.values.now) c.loop-prop.prop (omega arith)
