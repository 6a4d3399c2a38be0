use Rattle.std.proofs.Common.{◌≡◌, ◌+◌, length, drop, map}
use Rattle.svr_elab_names.specs.Names.{with_loops}
use Rattle.svr_elab_names.specs.Tables.{space_of, loop_of}
use Rattle.svr_elab_item.specs.Items as spec
use Rattle.svr_elab_item.proofs.inside.in_body.Given as goal

abbrev pub invariant-loop-name : goal.invariant-loop-name
invariant-loop-name l = record {
  space : spec.in_body (with_loops (space_of l.names) (map loop_of l.loops)) (drop l.name-index l.vars) ≡ spec.in_body (space_of l.names) l.vars;
  length : length l.loops ≡ length l.names.loops.now + l.name-index;
}
