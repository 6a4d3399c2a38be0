use Rattle.svr_token.specs.Names.{names_of}
use Rattle.svr_tree.specs.ScriptTree.{unit_tree}
use Rattle.std.proofs.Common.{map}
use Rattle.svr_elab_names.specs.Tables.{space_of, global_of, class_of}
use Rattle.svr_elab_unit.specs.Seen.{vars_part}
use Rattle.svr_elab.proofs.Joined.{vars_there, same_classes, members_fit}
use Rattle.svr_elab.proofs.whole.vars_behind.Goals as goal

pub unit_vars-requires-clause-members : goal.unit_vars-requires-clause-members
unit_vars-requires-clause-members c =
    members_fit (space_of c.declaring-outside.result) (names_of c.args.names) (map global_of c.args.known.now.names.entries) _ (map class_of c.args.known.now.classes) c.declaring-outside.ensures.space c.requires.members

pub returns-clause-value : goal.returns-clause-value
returns-clause-value c =
    vars_there (space_of c.declaring-outside.result) _ (unit_tree c.args.unit.now) (vars_part c.in_ok-all.all) c.in_ok-all.ensures.value
    (same_classes (space_of c.declaring-outside.result) (names_of c.args.names) (map global_of c.args.known.now.names.entries) _ c.args.known.now.classes c.declaring-outside.ensures.space c.as_slice-classes.ensures)
