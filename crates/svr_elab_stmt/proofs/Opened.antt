-- The index of an element, as it stands in the code's tree.
use Rattle.std.proofs.Common.{◌≡◌, ap}
use Rattle.svr_typed.specs.declared.expr.TExpr.{TExpr}
use Rattle.svr_typed.specs.ExprTerm.{expr_term, node_term}
use Rattle.svr_elab_part.proofs.Constants.{stored}
use Rattle.svr_elab_stmt.specs.Stmts.{inner_index, inner_of, node_index, index_of}

pub inner_opened : (t : TExpr) → inner_of (expr_term t) ≡ inner_index (node_term t.node)
inner_opened t = ap inner_of (stored t)

pub index_opened : (t : TExpr) → index_of (expr_term t) ≡ node_index (node_term t.node)
index_opened t = ap index_of (stored t)
