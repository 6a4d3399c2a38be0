use Rattle.std.proofs.Common.{[], ap, ℕ, List}
use Rattle.svr_typed.specs.declared.class.Prop.{Prop}
use Rattle.svr_script.specs.Printed.{values_text}
use Rattle.svr_stream.proofs.Rows.{left_all, left_more, left_none, first_is, empty_is, two_as}
use Rattle.svr_printed.proofs.values.put_values.Goals as goal

pub loop-props_left-init : goal.loop-props_left-init
loop-props_left-init g c = left_all

pub loop-props_left-preserved : goal.loop-props_left-preserved
loop-props_left-preserved g c =
    let props = c.loop-props_left.props_left.now in
    let values = c.loop-props_left.values_left.now in
    left_more c.loop-props_left.invariant c.put_listed.ensures
    (two_as (values_text c.args.enums.now) props _ values _ (first_is props c.prop-item.result c.in-len1-up.len_at_least c.prop-item.is)
    (first_is values c.numbers-item.result c.in-len1-up-values_left.len_at_least c.numbers-item.is))

pub returns-in_default-values_left : goal.returns-in_default-values_left
returns-in_default-values_left g c =
    let props = c.loop-props_left.props_left.now in
    let values = c.loop-props_left.values_left.now in
    left_none c.loop-props_left.invariant
    (two_as (values_text c.args.enums.now) props _ values [] (first_is props c.prop-item.result c.in-len1-up.len_at_least c.prop-item.is) (empty_is values c.in_default-values_left.len_below))

pub returns : goal.returns
returns g c =
    let props = c.loop-props_left.props_left.now in
    let values = c.loop-props_left.values_left.now in
    left_none c.loop-props_left.invariant (ap (λ (ps : List Prop). values_text c.args.enums.now ps values) (empty_is props c.in_default.len_below))
