use Rattle.std.proofs.Common.{◌≡◌, drop, map}
use Rattle.svr_token.specs.Names.{names_of}
use Rattle.svr_tree.specs.DeclTree.{declarator_tree}
use Rattle.svr_elab_names.specs.Tables.{bytes_of}
use Rattle.svr_elab_block.specs.Blocks as spec
use Rattle.svr_elab_block.proofs.body.declare.Given as goal

abbrev pub invariant-loop-each : goal.invariant-loop-each
invariant-loop-each l =
    spec.and_declared (names_of l.names) (map bytes_of l.own.keys) (map declarator_tree (drop l.each-index l.decls))
    ≡ spec.and_declared (names_of l.names) (map bytes_of l.fn.own.keys) (map declarator_tree l.decls)
