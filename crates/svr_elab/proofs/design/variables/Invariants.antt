use Rattle.std.proofs.Common.{◌≡◌, drop, map}
use Rattle.svr_elab_names.specs.Tables.{var_of}
use Rattle.svr_elab.specs.Script as spec
use Rattle.svr_elab.proofs.design.variables.Given as goal

abbrev pub invariant-loop-place : goal.invariant-loop-place
invariant-loop-place l = spec.each_known spec.variable l.known (drop l.place (map var_of l.vars.entries)) ≡ spec.variables (map var_of l.vars.entries)
