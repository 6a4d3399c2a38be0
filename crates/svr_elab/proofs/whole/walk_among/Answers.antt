use Rattle.std.proofs.Common.{map}
use Rattle.svr_token.specs.Names.{names_of}
use Rattle.svr_tree.specs.ScriptTree.{script_tree}
use Rattle.svr_elab_names.specs.Tables.{space_of, global_of, class_of, var_of}
use Rattle.svr_elab_type.specs.Types.{declaring}
use Rattle.svr_elab_block.specs.Seen.{bodies_part}
use Rattle.svr_elab_unit.specs.Vars.{stmt_space}
use Rattle.svr_elab.proofs.Joined.{members_here, blocks_here, many_here, bodies_here, stmts_here}
use Rattle.svr_elab.proofs.whole.walk_among.Goals as goal

pub walk-requires-clause-members : goal.walk-requires-clause-members
walk-requires-clause-members c = members_here (space_of c.whole_space-inside.result) _ c.whole_space-inside.ensures.space c.requires.members

pub walk-requires-clause-blocks : goal.walk-requires-clause-blocks
walk-requires-clause-blocks c = blocks_here (space_of c.whole_space-inside.result) _ c.whole_space-inside.ensures.space c.requires.blocks

pub walk-requires-clause-classes : goal.walk-requires-clause-classes
walk-requires-clause-classes c =
    many_here c.whole_space-inside.result (names_of c.args.names) (map global_of c.args.globals.now.entries) c.args.classes.now (map var_of c.args.vars.now.vars.entries) _ c.whole_space-inside.ensures.space c.requires.classes

pub returns-clause-bodies : goal.returns-clause-bodies
returns-clause-bodies c =
    bodies_here (space_of c.whole_space-inside.result) _ (script_tree c.args.script.now) (λ text. bodies_part text c.in_ok-all.all.bodies) c.in_ok-all.ensures.bodies c.whole_space-inside.ensures.space

pub returns-clause-stmts : goal.returns-clause-stmts
returns-clause-stmts c =
    stmts_here (space_of c.whole_space-inside.result) _ _ c.args.vars.now.stands (script_tree c.args.script.now) c.in_ok-all.all.stmts c.in_ok-all.ensures.stmts c.whole_space-inside.ensures.space c.as_slice.ensures
