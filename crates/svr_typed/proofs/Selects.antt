-- What a bit-select and a part-select stand for.
use Rattle.std.proofs.Common.{◌≡◌, ap, ◌∙◌, refl, ℤ, to_z, of_z, w64, SFits, Option, Some, None, option_map}
use Rattle.std.proofs.lemmas.Int.{to_z-of_z}
use Rattle.svr_typed.specs.declared.expr.TExpr.{TExpr}
use Rattle.svr_typed.specs.declared.expr.TNode.{TNode, fold_out-TNode, map-TNode}
use Rattle.svr_typed.specs.declared.expr.TRange.{TRange}
use Rattle.svr_typed.specs.declared.expr.TBound.{TBound}
use Rattle.svr_typed.specs.declared.expr.TBound.TheOpen.{TNode-F}
use Rattle.svr_typed.specs.declared.expr.TBound.TheViews.{Select, outs-Select}
use Rattle.svr_typed.specs.ExprTerm.{BoundTerm, NodeTerm, RangeTerm, ExprTerm, bound_step, node_step, range_step, expr_step, expr_term, node_term, range_term, bound_term, select_of}

abbrev pub layer_term : TNode-F TBound TNode TRange TExpr → NodeTerm
layer_term x = node_step (map-TNode TBound TNode TRange TExpr BoundTerm NodeTerm RangeTerm ExprTerm bound_term node_term range_term expr_term x)

laid : (base first : TExpr) (last : Option TExpr) (low : ℤ)
    → layer_term (TNode-F.Select base first last low) ≡ select_of (expr_term base) (expr_term first) (option_map expr_term last) low
laid base first None low = refl
laid base first (Some last) low = refl

-- a signed number that fits is stored as itself
pub selected :
    (base first b i : TExpr) (last l : Option TExpr) (low : ℤ) → SFits w64 low → b ≡ base → i ≡ first → l ≡ last
    → node_term (Select b i l (to_z w64 (of_z w64 low))) ≡ select_of (expr_term base) (expr_term first) (option_map expr_term last) low
selected base first b i last l low fits is_b is_i is_l =
    fold_out-TNode BoundTerm NodeTerm RangeTerm ExprTerm bound_step node_step range_step expr_step (Select b i l (to_z w64 (of_z w64 low)))
    ∙ ap layer_term (outs-Select b i l (to_z w64 (of_z w64 low)))
    ∙ ap (λ z. layer_term (TNode-F.Select b i l z)) (to_z-of_z w64 low fits)
    ∙ ap (λ x. layer_term (TNode-F.Select x i l low)) is_b
    ∙ ap (λ x. layer_term (TNode-F.Select base x l low)) is_i
    ∙ ap (λ x. layer_term (TNode-F.Select base first x low)) is_l
    ∙ laid base first last low
