-- The end of a list of parts.
use Rattle.std.proofs.Common.{ℕ, zero, suc, ◌+◌, ◌≤◌, ◌<◌, List, [], ◌∷◌, length, drop, get_or, arith}
use Rattle.svr_typed.specs.declared.expr.TExpr.{TExpr}
use Rattle.svr_typed.specs.ExprTerm.{expr_term, expr_terms}
use Rattle.svr_eval.specs.Reading.{Reading}
use Rattle.svr_eval.specs.Typed.{IsTyped, AreTyped, CanRead, AllCanRead}
use Rattle.svr_eval.specs.Value.{sizes, size_of}

pub sizes_at : (i : ℕ) (es : List TExpr) (d : TExpr) → i < length es → size_of (expr_term (get_or es i d)) + sizes (expr_terms (drop (suc i) es)) ≤ sizes (expr_terms es)
sizes_at i [] d h = absurd (omega arith)
sizes_at zero (e ∷ es) d h = omega arith
sizes_at (suc i) (e ∷ es) d h = omega (arith, sizes_at i es d (omega arith))

pub typed_at : (i : ℕ) (es : List TExpr) (d : TExpr) → AreTyped (expr_terms es) → i < length es → IsTyped (expr_term (get_or es i d))
typed_at i [] d h lt = absurd (omega arith)
typed_at zero (e ∷ es) d h lt = h.0
typed_at (suc i) (e ∷ es) d h lt = typed_at i es d h.1 (omega arith)

pub reads_at : (a : Reading) (depth i : ℕ) (es : List TExpr) (d : TExpr) → AllCanRead a depth (expr_terms es) → i < length es → CanRead a depth (expr_term (get_or es i d))
reads_at a depth i [] d h lt = absurd (omega arith)
reads_at a depth zero (e ∷ es) d h lt = h.0
reads_at a depth (suc i) (e ∷ es) d h lt = reads_at a depth i es d h.1 (omega arith)

pub some_part : (es : List TExpr) → 1 ≤ sizes (expr_terms es) → 1 ≤ length es
some_part [] h = absurd (omega (arith, h))
some_part (e ∷ es) h = omega arith
