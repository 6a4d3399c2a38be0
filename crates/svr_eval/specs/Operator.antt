-- What each operator gives, on values that are already there (IEEE 1800-2017, 11.4), and the size and sign of its result (11.6.1, 11.8.1).
-- w is the width at which it is computed, s whether its operands are taken as signed.
use Rattle.std.specs.Prelude.{◌==◌, ℕ, zero, suc, ◌-◌, ◌%◌, ◌^◌, max, Bool, true, false, not, ◌&&◌, ◌||◌, count_ones}
use Rattle.svr_num.specs.Num.{add_of, sub_of, mul_of, div_of, rem_of, neg_of, not_of, and_of, or_of, xor_of, shl_of, shr_of, sar_of, less_of}
use Rattle.svr_operator.specs.declared.UnOp.{UnOp}
use Rattle.svr_operator.specs.declared.UnOp.TheVariants as un
use Rattle.svr_operator.specs.declared.BinOp.{BinOp}
use Rattle.svr_operator.specs.declared.BinOp.TheVariants as bin
use Rattle.svr_operator.specs.declared.Fold.{Fold}
use Rattle.svr_operator.specs.declared.Fold.TheVariants as f
use Rattle.svr_eval.specs.declared.operator.Arithmetic.{Arithmetic}
use Rattle.svr_eval.specs.declared.operator.Arithmetic.TheVariants as a
use Rattle.svr_eval.specs.declared.operator.Shift.{Shift}
use Rattle.svr_eval.specs.declared.operator.Shift.TheVariants as sh
use Rattle.svr_eval.specs.declared.operator.Comparison.{Comparison}
use Rattle.svr_eval.specs.declared.operator.Comparison.TheVariants as c
use Rattle.svr_eval.specs.declared.operator.Connective.{Connective}
use Rattle.svr_eval.specs.declared.operator.Connective.TheVariants as l
use Rattle.svr_eval.specs.declared.operator.BinaryKind.{BinaryKind}
use Rattle.svr_eval.specs.declared.operator.BinaryKind.TheVariants.{InContext, Shifted, ByPair, Logical}
use Rattle.svr_eval.specs.declared.operator.Change.{Change}
use Rattle.svr_eval.specs.declared.operator.Change.TheVariants as ch
use Rattle.svr_eval.specs.declared.operator.Reduction.{Reduction}
use Rattle.svr_eval.specs.declared.operator.Reduction.TheVariants as r
use Rattle.svr_eval.specs.declared.operator.UnaryKind.{UnaryKind}
use Rattle.svr_eval.specs.declared.operator.UnaryKind.TheVariants.{Changed, Reduced}

-- how a binary operator takes its operands (table 11-21)
abbrev pub binary_kind : BinOp → BinaryKind
binary_kind bin.Multiply = InContext a.Multiply
binary_kind bin.Divide = InContext a.Divide
binary_kind bin.Modulus = InContext a.Modulus
binary_kind bin.Add = InContext a.Add
binary_kind bin.Subtract = InContext a.Subtract
binary_kind bin.ShiftLeft = Shifted sh.Left
binary_kind bin.ShiftRight = Shifted sh.Right
binary_kind bin.ShiftLeftArith = Shifted sh.Left
binary_kind bin.ShiftRightArith = Shifted sh.RightArith
binary_kind bin.Less = ByPair c.Less
binary_kind bin.AtMost = ByPair c.AtMost
binary_kind bin.Greater = ByPair c.Greater
binary_kind bin.AtLeast = ByPair c.AtLeast
binary_kind bin.Equal = ByPair c.Equal
binary_kind bin.NotEqual = ByPair c.NotEqual
binary_kind bin.CaseEqual = ByPair c.Equal
binary_kind bin.CaseNotEqual = ByPair c.NotEqual
binary_kind bin.BitwiseAnd = InContext a.And
binary_kind bin.BitwiseXor = InContext a.Xor
binary_kind bin.BitwiseTildeXor = InContext a.Xnor
binary_kind bin.BitwiseXorTilde = InContext a.Xnor
binary_kind bin.BitwiseOr = InContext a.Or
binary_kind bin.LogicalAnd = Logical l.And
binary_kind bin.LogicalOr = Logical l.Or
binary_kind bin.Implies = Logical l.Implies
binary_kind bin.Equivalent = Logical l.Equivalent

-- how a unary operator takes its operand (table 11-21)
abbrev pub unary_kind : UnOp → UnaryKind
unary_kind un.Plus = Changed ch.Plus
unary_kind un.Minus = Changed ch.Minus
unary_kind un.LogicalNot = Reduced r.Nor
unary_kind un.BitwiseNot = Changed ch.Not
unary_kind un.ReduceAnd = Reduced r.And
unary_kind un.ReduceNand = Reduced r.Nand
unary_kind un.ReduceOr = Reduced r.Or
unary_kind un.ReduceNor = Reduced r.Nor
unary_kind un.ReduceXor = Reduced r.Xor
unary_kind un.ReduceTildeXor = Reduced r.Xnor
unary_kind un.ReduceXorTilde = Reduced r.Xnor

-- `* / % + - & ^ ~^ |` (11.4.3, 11.4.8)
abbrev pub arithmetic_of : Arithmetic → ℕ → Bool → ℕ → ℕ → ℕ
arithmetic_of a.Multiply w s x y = mul_of w x y
arithmetic_of a.Divide w s x y = div_of s w x y
arithmetic_of a.Modulus w s x y = rem_of s w x y
arithmetic_of a.Add w s x y = add_of w x y
arithmetic_of a.Subtract w s x y = sub_of w x y
arithmetic_of a.And w s x y = and_of x y
arithmetic_of a.Xor w s x y = xor_of x y
arithmetic_of a.Xnor w s x y = not_of w (xor_of x y)
arithmetic_of a.Or w s x y = or_of x y

-- `<< >> <<< >>>` by an unsigned amount (11.4.10)
abbrev pub shift_of : Shift → ℕ → Bool → ℕ → ℕ → ℕ
shift_of sh.Left w s x by = shl_of w x by
shift_of sh.Right w s x by = shr_of x by
shift_of sh.RightArith w true x by = sar_of w x by
shift_of sh.RightArith w false x by = shr_of x by

-- `< <= > >= == !=` (11.4.4, 11.4.5)
abbrev pub comparison_of : Comparison → ℕ → Bool → ℕ → ℕ → Bool
comparison_of c.Less w s x y = less_of s w x y
comparison_of c.AtMost w s x y = not (less_of s w y x)
comparison_of c.Greater w s x y = less_of s w y x
comparison_of c.AtLeast w s x y = not (less_of s w x y)
comparison_of c.Equal w s x y = x == y
comparison_of c.NotEqual w s x y = not (x == y)

-- `&& || -> <->` (11.4.7)
abbrev pub connective_of : Connective → Bool → Bool → Bool
connective_of l.And p q = p && q
connective_of l.Or p q = p || q
connective_of l.Implies p q = not p || q
connective_of l.Equivalent p q = (not p || q) && (not q || p)

-- unary `+ - ~` (11.4.3, 11.4.8)
abbrev pub change_of : Change → ℕ → ℕ → ℕ
change_of ch.Plus w x = x
change_of ch.Minus w x = neg_of w x
change_of ch.Not w x = not_of w x

-- unary `& ~& | ~| ^ ~^`, and `!`, which is `~|` (11.4.7, 11.4.9)
abbrev pub reduction_of : Reduction → ℕ → ℕ → Bool
reduction_of r.And w x = x == 2 ^ w - 1
reduction_of r.Nand w x = not (x == 2 ^ w - 1)
reduction_of r.Or w x = not (x == 0)
reduction_of r.Nor w x = x == 0
reduction_of r.Xor w x = count_ones x % 2 == 1
reduction_of r.Xnor w x = not (count_ones x % 2 == 1)

-- the operator of an array reduction (7.12.3)
abbrev pub fold_operator : Fold → Arithmetic
fold_operator f.Sum = a.Add
fold_operator f.Product = a.Multiply
fold_operator f.And = a.And
fold_operator f.Or = a.Or
fold_operator f.Xor = a.Xor

-- what it gives where there is no element
abbrev pub fold_start : Fold → ℕ → ℕ
fold_start f.Sum w = 0
fold_start f.Product w = 1
fold_start f.And w = 2 ^ w - 1
fold_start f.Or w = 0
fold_start f.Xor w = 0

-- the reduction of so many numbers of w bits, from the first one on
abbrev pub fold_of : Fold → ℕ → ℕ → (ℕ → ℕ) → ℕ
fold_of op w zero number = fold_start op w
fold_of op w (suc n) number = arithmetic_of (fold_operator op) w false (fold_of op w n number) (number n)

abbrev pub binary_size : BinaryKind → ℕ → ℕ → ℕ
binary_size (InContext f) m n = max m n
binary_size (Shifted f) m n = m
binary_size (ByPair f) m n = 1
binary_size (Logical f) m n = 1

abbrev pub binary_sign : BinaryKind → Bool → Bool → Bool
binary_sign (InContext f) s t = s && t
binary_sign (Shifted f) s t = s
binary_sign (ByPair f) s t = false
binary_sign (Logical f) s t = false

abbrev pub unary_size : UnaryKind → ℕ → ℕ
unary_size (Changed f) n = n
unary_size (Reduced f) n = 1

abbrev pub unary_sign : UnaryKind → Bool → Bool
unary_sign (Changed f) s = s
unary_sign (Reduced f) s = false
