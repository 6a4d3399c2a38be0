-- The bounds of the cap as closed expressions
use Rattle.std.specs.Prelude.{ℕ, true, false, List, map, filter, Option, Some, None}
use Rattle.svr_operator.specs.declared.BinOp.TheVariants as bin
use Rattle.svr_typed.specs.ExprTerm.{ExprTerm, typed, size, binary}
use Rattle.svr_frame.specs.Frame.{FrameTerm, has_free_size, props_of}
use Rattle.svr_frame.specs.Closed.{index_number}

-- `d.size() <= cap`
abbrev pub at_most_expr : ℕ → ℕ → ExprTerm
at_most_expr cap p = typed 1 false (binary bin.AtMost (typed 32 true (size p 1)) (index_number cap))

abbrev pub cap_exprs : FrameTerm → ℕ → List ExprTerm
cap_exprs f cap = map (at_most_expr cap) (filter (has_free_size f) (props_of f))

-- 1 where there is a value
abbrev pub one_if : Option ℕ → ℕ
one_if None = 0
one_if (Some v) = 1
