use Rattle.std.proofs.Common.{map}
use Rattle.svr_token.specs.Names.{names_of}
use Rattle.svr_tree.specs.StmtTree.{stmt_trees}
use Rattle.svr_elab_names.specs.Tables.{space_of, global_of, var_of}
use Rattle.svr_elab.proofs.Joined.{listed_there, same_space}
use Rattle.svr_elab.proofs.whole.listed_behind.Goals as goal

pub returns : goal.returns
returns c =
    let m = space_of c.whole_space-inside.result in
    listed_there m _ _ (stmt_trees c.args.unit.now.stmts) c.in_ok-homes.ensures
    (same_space m (names_of c.args.names) (map global_of c.args.known.now.names.entries) _ c.args.known.now.classes (map var_of c.args.vars.now.entries) c.whole_space-inside.ensures.space c.as_slice-classes.ensures)
