-- What a bit-select and a part-select stand for.
use Rattle.std.proofs.Common.{◌≡◌, ap, ◌∙◌, refl, ℕ, Bool, Option, Some, None, option_map}
use Rattle.svr_tree.specs.declared.expr.Expr.{Expr, fold_out-Expr, map-Expr}
use Rattle.svr_tree.specs.declared.expr.Range.{Range}
use Rattle.svr_tree.specs.declared.expr.Bound.{Bound}
use Rattle.svr_tree.specs.declared.expr.Bound.TheOpen.{Expr-F}
use Rattle.svr_tree.specs.declared.expr.Bound.TheViews.{Select, outs-Select}
use Rattle.svr_tree.specs.ExprTree.{BoundTree, ExprTree, RangeTree, bound_step, expr_step, range_step, expr_tree, range_tree, bound_tree, select_of}

-- one level, with the parts below already seen
abbrev pub layer_tree : Expr-F Bound Expr Range → ExprTree
layer_tree x = expr_step (map-Expr Bound Expr Range BoundTree ExprTree RangeTree bound_tree expr_tree range_tree x)

laid : (at : ℕ) (base first : Expr) (last : Option Expr) (call : Bool)
    → layer_tree (Expr-F.Select at base first last call) ≡ select_of at (expr_tree base) (expr_tree first) (option_map expr_tree last) call
laid at base first None call = refl
laid at base first (Some last) call = refl

pub selected :
    (at : ℕ) (base first b i : Expr) (last l : Option Expr) (call : Bool) → b ≡ base → i ≡ first → l ≡ last
    → expr_tree (Select at b i l call) ≡ select_of at (expr_tree base) (expr_tree first) (option_map expr_tree last) call
selected at base first b i last l call is_b is_i is_l =
    fold_out-Expr BoundTree ExprTree RangeTree bound_step expr_step range_step (Select at b i l call)
    ∙ ap layer_tree (outs-Select at b i l call)
    ∙ ap (λ x. layer_tree (Expr-F.Select at x i l call)) is_b
    ∙ ap (λ x. layer_tree (Expr-F.Select at base x l call)) is_i
    ∙ ap (λ x. layer_tree (Expr-F.Select at base first x call)) is_l
    ∙ laid at base first last call
