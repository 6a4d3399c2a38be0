use Rattle.std.proofs.Common.{◌≡◌, drop, map, option_map}
use Rattle.svr_elab_names.specs.Names.{find_from, loop_meaning, loop_named}
use Rattle.svr_elab_names.specs.Tables.{loop_of}
use Rattle.svr_elab_names.proofs.look.loop_named.Given as goal

abbrev pub invariant-loop-entry : goal.invariant-loop-entry
invariant-loop-entry l = record {
  level : l.level ≡ l.entry-index;
  found : option_map (λ f. loop_meaning f.0 f.1.item) (find_from (λ p. p.name) l.name l.entry-index (map loop_of (drop l.entry-index l.loops))) ≡ loop_named (map loop_of l.loops) l.name;
}
