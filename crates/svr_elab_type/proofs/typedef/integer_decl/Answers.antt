use Rattle.std.proofs.Common.{map, refl, ap}
use Rattle.svr_token.specs.Names.{names_of}
use Rattle.svr_tree.specs.DeclTree.{integer_tree}
use Rattle.svr_elab_names.specs.Tables.{global_of, class_of}
use Rattle.svr_elab_type.specs.Types.{declaring}
use Rattle.svr_elab_type.specs.Seen.{globals_part, type_part}
use Rattle.svr_elab_type.proofs.Declared.{told_as, plain_is, integer_is, named_in}
use Rattle.svr_elab_type.proofs.typedef.integer_decl.Goals as goal

pub returns-clause-value : goal.returns-clause-value
returns-clause-value c =
    let text = names_of c.args.names.now in
    let g = c.args.globals in
    let x = c.in_ok-globals in
    told_as (globals_part text) c.with_type.result _ _ (rw x.ensures.held at c.with_type.ensures.value)
    (integer_is _ (globals_part text g) c.args.name (type_part x.part) _ (integer_tree c.args.kind.now)
    (plain_is _ (declaring text (map global_of g.names.entries) (map class_of g.classes)) g.enums c.args.name x.part.kind g.fault x.part.fault _ refl (rw x.ensures.held at c.earlier-globals.ensures))
    (rw x.ensures.made at c.integer_type-part.ensures.value)
    (named_in _ text (map global_of g.names.entries) _ (map class_of g.classes) c.declaring.ensures.space (ap (map class_of) c.as_slice.ensures)))

pub returns-clause-enums : goal.returns-clause-enums
returns-clause-enums c = rw c.in_ok-globals.ensures.held at c.with_type.ensures.enums

pub returns-clause-classes : goal.returns-clause-classes
returns-clause-classes c = rw c.in_ok-globals.ensures.held at c.with_type.ensures.classes

pub with_type-requires-clause-kind : goal.with_type-requires-clause-kind
with_type-requires-clause-kind c = rw c.in_ok-globals.ensures.made at c.integer_type-part.ensures.fits

pub with_type-requires-clause-members : goal.with_type-requires-clause-members
with_type-requires-clause-members c = rw c.in_ok-globals.ensures.held c.requires.members
