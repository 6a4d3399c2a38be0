use Rattle.std.proofs.Common.{◌≡◌, [], Some, drop, map}
use Rattle.svr_elab_names.specs.Tables.{prop_of}
use Rattle.svr_elab.specs.Script as spec
use Rattle.svr_elab.proofs.property.properties.Given as goal

abbrev pub invariant-loop-place : goal.invariant-loop-place
invariant-loop-place l = spec.each_known spec.property l.known (drop l.place (map prop_of l.props.entries)) ≡ spec.each_known spec.property (Some []) (drop l.fn.from (map prop_of l.props.entries))
