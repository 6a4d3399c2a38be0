-- How high an expression in parentheses is.
use Rattle.std.proofs.Common.{◌≡◌, ℕ, zero, suc, ◌+◌, refl, arith}
use Rattle.svr_tree.specs.ExprGrammar.{expr_height}
use Rattle.svr_tree.specs.ItemGrammar.{item_height}
use Rattle.svr_tree.specs.Examples.{nested, nested_item}

pub nested_height : (n : ℕ) → expr_height (nested n) ≡ n + 1
nested_height zero = refl
nested_height (suc n) = let e : expr_height (nested n) ≡ n + 1 = nested_height n in grind (arith, e)

pub nested_item_height : (n : ℕ) → item_height (nested_item n) ≡ n + 3
nested_item_height n = let e : expr_height (nested n) ≡ n + 1 = nested_height n in grind (arith, e)
