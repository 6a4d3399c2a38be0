use Rattle.std.proofs.Common.{◌^◌, length, map, drop}
use Rattle.svr_token.specs.Names.{names_of}
use Rattle.svr_tree.specs.DeclTree.{type_decl_tree, class_tree}
use Rattle.svr_elab_type.specs.Seen.{globals_part}
use Rattle.svr_elab_tops.proofs.Turns.{type_chosen, class_chosen, type_room, types_as_before, class_room, classes_as_before}
use Rattle.svr_elab_tops.proofs.order.next.Goals as goal

pub returns-in_ok-next_type-in-OfType-clause-value : goal.returns-in_ok-next_type-in-OfType-clause-value
returns-in_ok-next_type-in-OfType-clause-value c =
    let at = c.args.places in
    let cs = map class_tree (drop at.classes c.args.classes.now) in
    λ os. type_chosen (globals_part (names_of c.args.names.now) c.args.known) _ c.args.top c.args.types.now c.args.classes.now at.types at.classes os
    (c.in_ok-next_type-in-OfType.ensures.value os cs) c.in-OfType.is

pub returns-in_ok-next_type-in-OfType-clause-enums : goal.returns-in_ok-next_type-in-OfType-clause-enums
returns-in_ok-next_type-in-OfType-clause-enums c =
    type_room c.args.top _ c.args.known.enums (length c.args.types.now) (2 ^ 32) c.args.places.types c.in_ok-next_type-in-OfType.ensures.enums c.in-OfType.is

pub returns-in_ok-next_type-in-OfType-clause-classes : goal.returns-in_ok-next_type-in-OfType-clause-classes
returns-in_ok-next_type-in-OfType-clause-classes c =
    classes_as_before c.args.top _ c.args.known.classes (length c.args.classes.now) (2 ^ 32) c.args.places.classes c.requires.classes c.in_ok-next_type-in-OfType.ensures.classes c.in-OfType.is

pub returns-in_ok-next_class-in-OfClass-clause-value : goal.returns-in_ok-next_class-in-OfClass-clause-value
returns-in_ok-next_class-in-OfClass-clause-value c =
    let at = c.args.places in
    let ts = map type_decl_tree (drop at.types c.args.types.now) in
    λ os. class_chosen (globals_part (names_of c.args.names.now) c.args.known) _ c.args.top c.args.types.now c.args.classes.now at.types at.classes os
    (c.in_ok-next_class-in-OfClass.ensures.value os ts) c.in-OfClass.is

pub returns-in_ok-next_class-in-OfClass-clause-enums : goal.returns-in_ok-next_class-in-OfClass-clause-enums
returns-in_ok-next_class-in-OfClass-clause-enums c =
    types_as_before c.args.top _ c.args.known.enums (length c.args.types.now) (2 ^ 32) c.args.places.types c.requires.enums c.in_ok-next_class-in-OfClass.ensures.enums c.in-OfClass.is

pub returns-in_ok-next_class-in-OfClass-clause-classes : goal.returns-in_ok-next_class-in-OfClass-clause-classes
returns-in_ok-next_class-in-OfClass-clause-classes c =
    class_room c.args.top _ c.args.known.classes (length c.args.classes.now) (2 ^ 32) c.args.places.classes c.in_ok-next_class-in-OfClass.ensures.classes c.in-OfClass.is
