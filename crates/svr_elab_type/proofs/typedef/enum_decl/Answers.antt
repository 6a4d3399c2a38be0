use Rattle.std.proofs.Common.{map, option_map, refl, ap}
use Rattle.svr_token.specs.Names.{names_of}
use Rattle.svr_tree.specs.DeclTree.{member_tree, integer_tree}
use Rattle.svr_elab_names.specs.Tables.{global_of, class_of}
use Rattle.svr_elab_type.specs.Seen.{globals_part, type_part}
use Rattle.svr_elab_type.proofs.Declared.{told_as, base_is, named_in}
use Rattle.svr_elab_type.proofs.typedef.enum_decl.Goals as goal

pub returns-clause-value : goal.returns-clause-value
returns-clause-value c =
    let text = names_of c.args.names.now in
    let g = c.args.globals in
    let x = c.in_ok-globals in
    told_as (globals_part text) c.enum_type.result _ _ (rw x.ensures.held at c.enum_type.ensures.value)
    (base_is _ (globals_part text g) c.args.name (type_part x.base) _ (map member_tree c.args.decl.now.members) _ (option_map integer_tree c.args.decl.now.base)
    refl (ap (map member_tree) c.as_slice-2.ensures) (rw x.ensures.made at c.base_type-base.ensures.value)
    (named_in _ text (map global_of g.names.entries) _ (map class_of g.classes) c.declaring.ensures.space (ap (map class_of) c.as_slice.ensures)))

pub returns-clause-enums : goal.returns-clause-enums
returns-clause-enums c = rw c.in_ok-globals.ensures.held at c.enum_type.ensures.enums

pub returns-clause-classes : goal.returns-clause-classes
returns-clause-classes c = rw c.in_ok-globals.ensures.held at c.enum_type.ensures.classes

pub enum_type-requires-clause-enums : goal.enum_type-requires-clause-enums
enum_type-requires-clause-enums c = rw c.in_ok-globals.ensures.held c.requires.enums

pub enum_type-requires-clause-base : goal.enum_type-requires-clause-base
enum_type-requires-clause-base c = rw c.in_ok-globals.ensures.made at c.base_type-base.ensures.fits

pub enum_type-requires-clause-members : goal.enum_type-requires-clause-members
enum_type-requires-clause-members c = rw c.in_ok-globals.ensures.held c.requires.members
