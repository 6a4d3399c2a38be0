use Rattle.svr_expr.proofs.node.+expr.Given as goal

abbrev pub decreases-expr : goal.decreases-expr
decreases-expr l = l.room
