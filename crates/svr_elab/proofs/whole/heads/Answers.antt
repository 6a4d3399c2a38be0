use Rattle.std.proofs.Common.{map, ap}
use Rattle.svr_token.specs.Names.{names_of}
use Rattle.svr_tree.specs.DeclTree.{type_decl_tree, class_tree}
use Rattle.svr_tree.specs.ScriptTree.{script_tree}
use Rattle.svr_elab_type.specs.Seen.{globals_part}
use Rattle.svr_elab.proofs.Joined.{heads_are, few_types, few_classes, types_there, classes_there}
use Rattle.svr_elab.proofs.whole.heads.Goals as goal

pub types_and_classes-requires-clause-enums : goal.types_and_classes-requires-clause-enums
types_and_classes-requires-clause-enums c = few_types _ _ c.args.script.now.types c.no_globals-start.ensures.enums c.as_slice-types.ensures c.requires.fits.few_types

pub types_and_classes-requires-clause-classes : goal.types_and_classes-requires-clause-classes
types_and_classes-requires-clause-classes c = few_classes _ _ c.args.script.now.classes c.no_globals-start.ensures.classes c.as_slice-classes.ensures c.requires.fits.few_classes

pub types_and_classes-requires-clause-members : goal.types_and_classes-requires-clause-members
types_and_classes-requires-clause-members c = c.no_globals-start.ensures.members (names_of c.args.names.now)

pub types_and_classes-requires-clause-types_fit : goal.types_and_classes-requires-clause-types_fit
types_and_classes-requires-clause-types_fit c = types_there _ c.args.script.now.types c.as_slice-types.ensures c.requires.fits.all_types

pub types_and_classes-requires-clause-classes_fit : goal.types_and_classes-requires-clause-classes_fit
types_and_classes-requires-clause-classes_fit c = classes_there _ c.args.script.now.classes c.as_slice-classes.ensures c.requires.fits.all_classes

pub returns-clause-value : goal.returns-clause-value
returns-clause-value c =
    let text = names_of c.args.names.now in
    heads_are text (globals_part text c.no_globals-start.result) (globals_part text c.in_ok-all.all) (script_tree c.args.script.now) _ _ _
    c.in_ok-all.ensures.value (c.no_globals-start.ensures.value text) c.as_slice-order.ensures (ap (map type_decl_tree) c.as_slice-types.ensures) (ap (map class_tree) c.as_slice-classes.ensures)
