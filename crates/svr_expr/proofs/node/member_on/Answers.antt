use Rattle.std.proofs.Common.{arith}
use Rattle.svr_tree.specs.ExprTree.{expr_tree}
use Rattle.svr_reader.specs.Calls.{cap, height_view}
use Rattle.svr_expr.specs.ExprRules.{a_member_on}
use Rattle.svr_expr.proofs.Deep.{deeper}
use Rattle.svr_expr.proofs.node.member_on.Goals as goal

pub returns-clause-gives : goal.returns-clause-gives
unfolding a_member_on
returns-clause-gives c =
    rw (deeper (λ n. a_member_on cap n c.args.at (height_view expr_tree (c.args.base, c.args.height)) c.args.cursor.now) c.args.room (omega arith)) c.indices_on.ensures.gives
