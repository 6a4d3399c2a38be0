use Rattle.svr_token.specs.Names.{names_of}
use Rattle.std.proofs.Common.{map}
use Rattle.svr_elab_names.specs.Tables.{class_of}
use Rattle.svr_elab_type.proofs.Members.{type_added}
use Rattle.svr_elab_type.proofs.Declared.{type_is}
use Rattle.svr_elab_type.proofs.typedef.with_type.Goals as goal

pub returns-clause-value : goal.returns-clause-value
returns-clause-value c =
    type_is (names_of c.args.names.now) (map class_of c.args.globals.classes) c.args.globals.enums c.args.name c.args.kind _ _ _ c.args.globals.fault _ _
    c.name-spelled.ensures c.double.ensures c.earlier-fault.ensures c.in_ok-and_name.ensures

pub returns-clause-members : goal.returns-clause-members
returns-clause-members c =
    type_added (names_of c.args.names.now) (map class_of c.args.globals.classes) _ _ _ c.args.kind c.in_ok-and_name.ensures c.requires.kind c.requires.members
