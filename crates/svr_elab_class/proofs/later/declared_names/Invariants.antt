use Rattle.std.proofs.Common.{◌≡◌, map, drop}
use Rattle.svr_token.specs.Names.{names_of}
use Rattle.svr_tree.specs.DeclTree.{declarator_tree}
use Rattle.svr_elab_names.specs.Tables.{bytes_of}
use Rattle.svr_elab_class.specs.Classes as spec
use Rattle.svr_elab_class.proofs.later.declared_names.Given as goal

abbrev pub invariant-loop-declarator : goal.invariant-loop-declarator
invariant-loop-declarator l = spec.declared_names (names_of l.names) (map bytes_of l.known.keys) (map declarator_tree (drop l.declarator-index l.list))
    ≡ spec.declared_names (names_of l.names) (map bytes_of l.fn.known.keys) (map declarator_tree l.list)
