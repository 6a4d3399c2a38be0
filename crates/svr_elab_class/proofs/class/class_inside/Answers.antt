use Rattle.std.proofs.Common.{map, ap}
use Rattle.svr_token.specs.Names.{names_of}
use Rattle.svr_tree.specs.DeclTree.{class_item_tree, class_tree}
use Rattle.svr_elab_names.specs.Tables.{global_of, class_of, bytes_of}
use Rattle.svr_elab_class.specs.Seen.{class_part}
use Rattle.svr_elab_class.proofs.Members.{inside_fits}
use Rattle.svr_elab_class.proofs.Declared.{class_inside_is}
use Rattle.svr_elab_class.proofs.Forms.{told}
use Rattle.svr_elab_class.proofs.class.class_inside.Goals as goal

pub class_body-part-requires-clause-members : goal.class_body-part-requires-clause-members
class_body-part-requires-clause-members c =
    let g = c.args.globals.now in
    inside_fits (names_of c.args.names.now) (map global_of g.names.entries) (map class_of g.classes) _ _ _ c.requires.members

pub returns : goal.returns
returns c =
    let g = c.args.globals.now in
    told c.class_body-part.result c.class_body-part.ensures
    (λ p is.
    class_inside_is (names_of c.args.names.now) (map global_of g.names.entries) (map class_of g.classes) _ _ g.enums _ g.fault c.args.base (class_tree c.args.decl.now) _ (map bytes_of c.in_ok-later.later.keys) _ _ (class_part p)
    (ap (map class_item_tree) c.as_slice-items.ensures) (ap (map bytes_of) c.new-later.ensures.empty) (rw c.in_ok-later.ensures.held (rw c.in_ok-later.ensures.made at c.own_properties-named.ensures)) (ap (map class_of) c.as_slice.ensures) c.number_behind.ensures c.as_slice-2.ensures
    (ap (map class_of) c.as_slice-3.ensures) is)
