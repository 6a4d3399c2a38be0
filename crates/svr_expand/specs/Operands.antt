-- The members of `unique`, as the walk takes them.
use Rattle.std.specs.Prelude.{ℕ, List, [], ◌∷◌, map, ⊤}
use Rattle.svr_typed.specs.ExprTerm.{ExprTerm, typed, element, expr_term}
use Rattle.svr_eval.specs.Reading.{Reading}
use Rattle.svr_expand.specs.declared.pairs.UniqueMember.{UniqueMember}
use Rattle.svr_expand.specs.declared.pairs.UniqueMember.TheVariants as operand
use Rattle.svr_frame.specs.Closed.{index_number}
use Rattle.svr_expand.specs.Expanded.{ExprIsReady}

abbrev pub operand_expr : UniqueMember → ExprTerm
operand_expr (operand.Whole e) = expr_term e.now
operand_expr (operand.Element p i w s) = typed w s (element p (index_number i))

abbrev pub operand_exprs : List UniqueMember → List ExprTerm
operand_exprs xs = map operand_expr xs

abbrev pub MemberIsReady : Reading → ℕ → UniqueMember → Type 0
MemberIsReady a depth (operand.Whole e) = ExprIsReady a depth (expr_term e.now)
MemberIsReady a depth (operand.Element p i w s) = ⊤

abbrev pub AllReady : Reading → ℕ → List UniqueMember → Type 0
AllReady a depth [] = ⊤
AllReady a depth (x ∷ xs) = MemberIsReady a depth x × AllReady a depth xs
