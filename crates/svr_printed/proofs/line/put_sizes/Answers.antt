use Rattle.std.proofs.Common.{◌∙◌, [], ap, ℕ, Bool, List, length, take, drop, ◌-◌, get_or, false, ◌∷◌}
use Rattle.svr_typed.specs.declared.class.Prop.{Prop}
use Rattle.svr_script.specs.Printed.{sizes_text}
use Rattle.svr_stream.proofs.Rows.{left_all, left_more, left_none, first_is, first_copy, empty_is, three_as}
use Rattle.svr_printed.proofs.Rows.{one_size, no_size, no_free_size}
use Rattle.svr_printed.proofs.line.put_sizes.Goals as goal

pub loop-props_left-init : goal.loop-props_left-init
loop-props_left-init g c = left_all

pub loop-props_left-preserved : goal.loop-props_left-preserved
loop-props_left-preserved g c =
    let props = c.loop-props_left.props_left.now in
    let free = c.loop-props_left.free_left.now in
    let sizes = c.loop-props_left.sizes_left.now in
    let prop = c.prop-item.result in
    let other_props = take (length props - 1) (drop 1 props) in
    let other_free = take (length free - 1) (drop 1 free) in
    let other_sizes = take (length sizes - 1) (drop 1 sizes) in
    left_more c.loop-props_left.invariant c.put_free_size.ensures
    (three_as sizes_text props (prop ∷ other_props) free (get_or free 0 false ∷ other_free) sizes (get_or sizes 0 0 ∷ other_sizes) (first_is props prop c.in-len1-up.len_at_least c.prop-item.is)
    (first_copy free false c.in-len1-up-free_left.len_at_least) (first_copy sizes 0 c.in-len1-up-sizes_left.len_at_least)
    ∙ one_size prop other_props (get_or free 0 false) other_free (get_or sizes 0 0) other_sizes)

pub returns-in_default-free_left : goal.returns-in_default-free_left
returns-in_default-free_left g c =
    let props = c.loop-props_left.props_left.now in
    let free = c.loop-props_left.free_left.now in
    let sizes = c.loop-props_left.sizes_left.now in
    left_none c.loop-props_left.invariant (ap (λ (bs : List Bool). sizes_text props bs sizes) (empty_is free c.in_default-free_left.len_below) ∙ no_free_size props sizes)

pub returns-in_default-sizes_left : goal.returns-in_default-sizes_left
returns-in_default-sizes_left g c =
    let props = c.loop-props_left.props_left.now in
    let free = c.loop-props_left.free_left.now in
    let sizes = c.loop-props_left.sizes_left.now in
    left_none c.loop-props_left.invariant (ap (λ (ns : List ℕ). sizes_text props free ns) (empty_is sizes c.in_default-sizes_left.len_below) ∙ no_size props free)

pub returns : goal.returns
returns g c =
    let free = c.loop-props_left.free_left.now in
    let sizes = c.loop-props_left.sizes_left.now in
    left_none c.loop-props_left.invariant (ap (λ (ps : List Prop). sizes_text ps free sizes) (empty_is c.loop-props_left.props_left.now c.in_default.len_below))
