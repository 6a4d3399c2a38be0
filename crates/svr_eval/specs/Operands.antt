-- The members of `unique` as the code holds them (IEEE 1800-2017, 18.5.5).
use Rattle.std.specs.Prelude.{◌≤◌, ◌<◌, ◌^◌, ℕ, Bool, true, not, ◌&&◌, ◌||◌, List, [], ◌∷◌}
use Rattle.std.specs.List.{list_any}
use Rattle.svr_typed.specs.ExprTerm.{ExprTerms, no_exprs, more_exprs, expr_term}
use Rattle.svr_eval.specs.declared.operand.Operand.{Operand as Member}
use Rattle.svr_eval.specs.declared.operand.Operand.TheVariants as m
use Rattle.svr_eval.specs.Reading.{Reading}
use Rattle.svr_eval.specs.Value.{Operand, element_operand, are_equal, operand_of, property_of}
use Rattle.svr_eval.specs.Holds.{member_operands, operands}
use Rattle.svr_eval.specs.Typed.{IsTyped, CanRead}

abbrev pub seen : Reading → List ℕ → Member → Operand
seen a env (m.Whole e) = operand_of a env (expr_term e.now)
seen a env (m.Element p i w s) = element_operand a p w s i

abbrev pub CanTake : Reading → ℕ → Member → Type 0
CanTake a depth (m.Whole e) = IsTyped (expr_term e.now) × CanRead a depth (expr_term e.now)
CanTake a depth (m.Element p i w s) = (1 ≤ w) × (w ≤ 64) × ((i : ℕ) → a.element p i < 2 ^ w)

-- the first are pairwise different, and different from the second
abbrev pub are_apart : List Operand → List Operand → Bool
are_apart [] ys = true
are_apart (x ∷ xs) ys = not (list_any (are_equal x) xs || list_any (are_equal x) ys) && are_apart xs ys

-- each member is apart from those behind it
abbrev pub members_are_apart : Reading → List ℕ → ExprTerms → Bool
members_are_apart a env no_exprs = true
members_are_apart a env (more_exprs e es) = are_apart (member_operands a (property_of e) (operand_of a env e)) (operands a env es) && members_are_apart a env es
