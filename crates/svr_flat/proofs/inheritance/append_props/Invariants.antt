use Rattle.std.proofs.Common.{◌≡◌, ◌++◌, take}
use Rattle.svr_flat.proofs.inheritance.append_props.Given as goal

abbrev pub invariant-loop-prop : goal.invariant-loop-prop
invariant-loop-prop l = l.props.items ≡ l.fn.props.items ++ take l.prop-index l.own
