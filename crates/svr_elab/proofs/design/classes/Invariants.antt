use Rattle.std.proofs.Common.{◌≡◌, [], Some, drop, map, reverse, option_map}
use Rattle.svr_typed.specs.ClassTerm.{block_terms, class_terms}
use Rattle.svr_elab_names.specs.Tables.{class_of}
use Rattle.svr_elab.specs.Script as spec
use Rattle.svr_elab.proofs.design.classes.Given as goal

abbrev pub invariant-loop-each : goal.invariant-loop-each
invariant-loop-each l = spec.classes (option_map class_terms l.known) (map class_of (drop l.each-index l.names)) (map block_terms (reverse l.rest))
    ≡ spec.classes (Some []) (map class_of l.names) (map block_terms l.fn.blocks)
