use Rattle.std.proofs.Common.{arith}
use Rattle.svr_tree.specs.ExprTree.{expr_tree}
use Rattle.svr_reader.specs.Calls.{cap, height_view}
use Rattle.svr_expr.specs.ExprRules.{node, rest_of_operand}
use Rattle.svr_expr.proofs.Deep.{deeper}
use Rattle.svr_expr.proofs.node.rest_of_operand.Goals as goal

pub returns-clause-gives : goal.returns-clause-gives
unfolding node
returns-clause-gives c =
    rw (deeper (λ n. node cap n (rest_of_operand c.args.at (height_view expr_tree (c.args.first, c.args.height))) c.args.cursor.now) c.args.room (omega arith)) c.climb.ensures.gives
