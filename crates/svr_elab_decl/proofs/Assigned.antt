-- What an assignment makes of a constant, by the size and the sign that are written at it.
use Rattle.std.proofs.Common.{◌≡◌, ℕ, ◌≤◌, max, Bool, [], sym, ap, subst, ◌∙◌}
use Rattle.svr_num.specs.Num.{cut_of}
use Rattle.svr_typed.specs.declared.expr.TExpr.{TExpr}
use Rattle.svr_typed.specs.ExprTerm.{ExprTerm, typed, NodeTerm, expr_term, node_term}
use Rattle.svr_eval.specs.Reading.{blank}
use Rattle.svr_eval.specs.Value.{size_of, val}
use Rattle.svr_eval.specs.Typed.{IsTyped}
use Rattle.svr_elab_part.proofs.Constants.{stored, own_sign}
use Rattle.svr_elab_decl.specs.Properties.{assigned}

own_size : (e : ExprTerm) (w : ℕ) (s : Bool) (n : NodeTerm) → e ≡ typed w s n → IsTyped e → size_of e ≡ w
own_size e w s n h t = let P : ExprTerm → Type 0 = IsTyped in ap size_of h ∙ (subst P h t).2

small_from : (e : ExprTerm) (w : ℕ) (s : Bool) (n : NodeTerm) → e ≡ typed w s n → IsTyped e → w ≤ 64
small_from e w s n h t = let P : ExprTerm → Type 0 = IsTyped in (subst P h t).1

pub stored_small : (t : TExpr) → IsTyped (expr_term t) → t.width ≤ 64
stored_small t h = small_from (expr_term t) t.width t.signed (node_term t.node) (stored t) h

pub assigned_is : (t : TExpr) (w v : ℕ) → IsTyped (expr_term t) → v ≡ val blank [] (expr_term t) (max t.width w) t.signed → cut_of w v ≡ assigned w (expr_term t)
assigned_is t w v h k =
    ap (λ v. cut_of w v) k
    ∙ ap (λ n. cut_of w (val blank [] (expr_term t) (max n w) t.signed)) (sym (own_size (expr_term t) t.width t.signed (node_term t.node) (stored t) h))
    ∙ ap (λ s. cut_of w (val blank [] (expr_term t) (max (size_of (expr_term t)) w) s)) (sym (own_sign (expr_term t) t.width t.signed (node_term t.node) (stored t) h))
