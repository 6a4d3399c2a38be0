-- The size and the sign that stand at a typed expression are its own
use Rattle.std.proofs.Common.{◌≡◌, ℕ, Bool, ap, ◌∙◌, subst}
use Rattle.svr_typed.specs.declared.expr.TExpr.{TExpr, fold_out-TExpr}
use Rattle.svr_typed.specs.ExprTerm.{ExprTerm, NodeTerm, RangeTerm, BoundTerm, typed, expr_term, node_term, bound_step, node_step, range_step, expr_step}
use Rattle.svr_num.specs.Num.{read_of}
use Rattle.svr_eval.specs.Value.{size_of, sign_of}
use Rattle.svr_eval.specs.Typed.{IsTyped}

pub stored : (t : TExpr) → expr_term t ≡ typed t.width t.signed (node_term t.node)
stored t = fold_out-TExpr BoundTerm NodeTerm RangeTerm ExprTerm bound_step node_step range_step expr_step t

pub own_width : (t : TExpr) → IsTyped (expr_term t) → size_of (expr_term t) ≡ t.width
own_width t h = ap size_of (stored t) ∙ (subst IsTyped (stored t) h).2

pub own_signed : (t : TExpr) → IsTyped (expr_term t) → sign_of (expr_term t) ≡ t.signed
own_signed t h = ap sign_of (stored t) ∙ (subst IsTyped (stored t) h).3

pub read_same : (s t : Bool) (m n x y : ℕ) → s ≡ t → m ≡ n → x ≡ y → read_of s m x ≡ read_of t n y
read_same s t m n x y e f g = ap (λ b. read_of b m x) e ∙ ap (λ k. read_of t k x) f ∙ ap (read_of t n) g
