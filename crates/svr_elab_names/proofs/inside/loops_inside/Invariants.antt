use Rattle.std.proofs.Common.{◌≡◌, ◌∷◌, ◌++◌, ◌+◌, drop, map, length}
use Rattle.svr_elab_names.specs.Tables.{loop_of}
use Rattle.svr_elab_names.proofs.inside.loops_inside.Given as goal

abbrev pub invariant-loop-each : goal.invariant-loop-each
invariant-loop-each l = record {
  loops : map loop_of l.loops ++ map loop_of (drop l.each-index l.outer) ≡ loop_of l.fn.entry ∷ map loop_of l.outer;
  length_so_far : length l.loops ≡ l.each-index + 1;
}
