use Rattle.std.proofs.Common.{◌≡◌, map, drop}
use Rattle.svr_token.specs.Names.{names_of}
use Rattle.svr_tree.specs.DeclTree.{class_item_tree}
use Rattle.svr_elab_names.specs.Tables.{bytes_of}
use Rattle.svr_elab_class.specs.Classes as spec
use Rattle.svr_elab_class.proofs.later.own_properties.Given as goal

abbrev pub invariant-loop-item : goal.invariant-loop-item
invariant-loop-item l = spec.own_properties (names_of l.names) (map bytes_of l.known.keys) (map class_item_tree (drop l.item-index l.items))
    ≡ spec.own_properties (names_of l.names) (map bytes_of l.fn.known.keys) (map class_item_tree l.items)
