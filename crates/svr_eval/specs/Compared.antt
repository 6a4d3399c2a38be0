-- Comparisons of operands (IEEE 1800-2017, 11.4.4 and 11.4.5).
use Rattle.std.specs.Prelude.{Bool}
use Rattle.svr_eval.specs.declared.operator.Comparison.{Comparison}
use Rattle.svr_eval.specs.Operator.{comparison_of}
use Rattle.svr_eval.specs.Value.{Operand, common_size, common_sign}

-- both at the greater size, signed where both are (11.8.2)
abbrev pub compares : Comparison → Operand → Operand → Bool
compares f x y = comparison_of f (common_size x y) (common_sign x y) (x.value (common_size x y) (common_sign x y)) (y.value (common_size x y) (common_sign x y))
