use Rattle.std.proofs.Common.{ap, ◌∙◌, map}
use Rattle.std.proofs.lemmas.List.{length-map}
use Rattle.svr_typed.specs.ClassTerm.{block_terms, class_terms, flat_term}
use Rattle.svr_flat.specs.Along.{props_along, blocks_along}
use Rattle.svr_flat.specs.Flat.{base_of}
use Rattle.svr_flat.specs.Lineage.{flat_if}
use Rattle.svr_flat.proofs.Flattened.{base_is}
use Rattle.svr_flat.proofs.Stacked.{flat_is}
use Rattle.svr_flat.proofs.inheritance.flatten_over.Goals as goal

pub returns : goal.returns
returns c =
    let cs = class_terms c.args.design.now.classes in
    let is = ap class_terms c.as_slice-classes.ensures in
    let flats = map flat_term c.args.known.now.flats.now in
    let line = c.in_ok-lineage.lineage.items in
    let end = c.in_ok-lineage.base in
    flat_is cs line c.args.class (base_of flats end) (flat_if cs end) c.in_ok-props.props (block_terms c.in_ok-props.blocks)
    (rw is at c.in_ok-lineage.ensures.over)
    (base_is cs flats c.args.known.now.marks.now end c.requires (rw length-map c.in_ok-lineage.ensures.end))
    (rw is at ((rw c.in_ok-props.ensures.first at c.props_of-props.ensures) ∙ ap (props_along (class_terms c.as_slice-classes.result.now) line) c.base_props.ensures))
    (rw is at ((rw c.in_ok-props.ensures.second at c.blocks_of-blocks.ensures) ∙ (λ k. blocks_along (class_terms c.as_slice-classes.result.now) (c.deref.ensures.value k) (c.base_blocks.ensures k))))
