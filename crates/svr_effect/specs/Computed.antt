-- The values of the expressions of statements, over all objects as they are read.
use Rattle.std.specs.Prelude.{◌==◌, ℕ, max, ◌%◌, Bool, List, [], ◌∷◌}
use Rattle.svr_num.specs.Num.{cut_of}
use Rattle.svr_typed.specs.ExprTerm.{ExprTerm, ExprTerms, no_exprs, more_exprs}
use Rattle.svr_eval.specs.Reading.{Reading}
use Rattle.svr_eval.specs.Value.{size_of, sign_of, val}
use Rattle.svr_script.specs.Numbered.{numbered}

-- an expression alone
abbrev pub alone_over : Reading → ExprTerm → ℕ
alone_over r e = val r [] (numbered e) (size_of e) (sign_of e)

-- what a left side of so many bits takes
abbrev pub assigned_over : Reading → ℕ → ExprTerm → ℕ
assigned_over r width e = cut_of width (val r [] (numbered e) (max width (size_of e)) (sign_of e))

abbrev pub all_assigned_over : Reading → ℕ → ExprTerms → List ℕ
all_assigned_over r width no_exprs = []
all_assigned_over r width (more_exprs e es) = assigned_over r width e ∷ all_assigned_over r width es

-- whether a mode is to be on
abbrev pub is_on_over : Reading → ExprTerm → Bool
is_on_over r e = alone_over r e % 2 == 1
