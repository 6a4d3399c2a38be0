-- Marks, names and levels of the operators (IEEE 1800-2017, tables 11-1 and 11-2, and 7.12.3).
use Rattle.std.specs.Prelude.{ℕ, ◌+◌, if◌then◌else◌, nat_le}
use Rattle.svr_token.specs.declared.Mark.{Mark}
use Rattle.svr_token.specs.declared.Mark.TheVariants as m
use Rattle.svr_token.specs.declared.NameKind.{NameKind}
use Rattle.svr_token.specs.declared.NameKind.TheVariants as name_kind
use Rattle.svr_operator.specs.declared.UnOp.{UnOp}
use Rattle.svr_operator.specs.declared.UnOp.TheVariants as u
use Rattle.svr_operator.specs.declared.BinOp.{BinOp}
use Rattle.svr_operator.specs.declared.BinOp.TheVariants as b
use Rattle.svr_operator.specs.declared.Fold.{Fold}
use Rattle.svr_operator.specs.declared.Fold.TheVariants as fold

abbrev pub unary_mark : UnOp → Mark
unary_mark u.Plus = m.Plus
unary_mark u.Minus = m.Minus
unary_mark u.LogicalNot = m.Bang
unary_mark u.BitwiseNot = m.Tilde
unary_mark u.ReduceAnd = m.And
unary_mark u.ReduceNand = m.Nand
unary_mark u.ReduceOr = m.Or
unary_mark u.ReduceNor = m.Nor
unary_mark u.ReduceXor = m.Xor
unary_mark u.ReduceTildeXor = m.TildeXor
unary_mark u.ReduceXorTilde = m.XorTilde

abbrev pub binary_mark : BinOp → Mark
binary_mark b.Multiply = m.Star
binary_mark b.Divide = m.Slash
binary_mark b.Modulus = m.Percent
binary_mark b.Add = m.Plus
binary_mark b.Subtract = m.Minus
binary_mark b.ShiftLeft = m.ShiftLeft
binary_mark b.ShiftRight = m.ShiftRight
binary_mark b.ShiftLeftArith = m.ShiftLeftArith
binary_mark b.ShiftRightArith = m.ShiftRightArith
binary_mark b.Less = m.Less
binary_mark b.AtMost = m.AtMost
binary_mark b.Greater = m.Greater
binary_mark b.AtLeast = m.AtLeast
binary_mark b.Equal = m.Equal
binary_mark b.NotEqual = m.NotEqual
binary_mark b.CaseEqual = m.CaseEqual
binary_mark b.CaseNotEqual = m.CaseNotEqual
binary_mark b.BitwiseAnd = m.And
binary_mark b.BitwiseXor = m.Xor
binary_mark b.BitwiseTildeXor = m.TildeXor
binary_mark b.BitwiseXorTilde = m.XorTilde
binary_mark b.BitwiseOr = m.Or
binary_mark b.LogicalAnd = m.AndAnd
binary_mark b.LogicalOr = m.OrOr
binary_mark b.Implies = m.Arrow
binary_mark b.Equivalent = m.DoubleArrow

-- the name of an array reduction
abbrev pub fold_name : Fold → NameKind
fold_name fold.Sum = name_kind.Sum
fold_name fold.Product = name_kind.Product
fold_name fold.And = name_kind.And
fold_name fold.Or = name_kind.Or
fold_name fold.Xor = name_kind.Xor

-- ---- the levels of table 11-2, from the lowest

-- `-> <->`, and so the level of an expression as a whole
abbrev pub implication_level : ℕ
implication_level = 1

-- `?:`
abbrev pub conditional_level : ℕ
conditional_level = 2

abbrev pub logical_or_level : ℕ
logical_or_level = 3

abbrev pub logical_and_level : ℕ
logical_and_level = 4

abbrev pub bitwise_or_level : ℕ
bitwise_or_level = 5

-- `^ ~^ ^~`
abbrev pub bitwise_xor_level : ℕ
bitwise_xor_level = 6

abbrev pub bitwise_and_level : ℕ
bitwise_and_level = 7

-- `== != === !==`
abbrev pub equality_level : ℕ
equality_level = 8

-- `< <= > >= inside`
abbrev pub relational_level : ℕ
relational_level = 9

abbrev pub shift_level : ℕ
shift_level = 10

abbrev pub additive_level : ℕ
additive_level = 11

abbrev pub multiplicative_level : ℕ
multiplicative_level = 12

-- unary operators, and the level of a primary
abbrev pub unary_level : ℕ
unary_level = 13

-- `() [] :: .`: what only a path goes on with
abbrev pub selection_level : ℕ
selection_level = 14

abbrev pub precedence : BinOp → ℕ
precedence b.Implies = implication_level
precedence b.Equivalent = implication_level
precedence b.LogicalOr = logical_or_level
precedence b.LogicalAnd = logical_and_level
precedence b.BitwiseOr = bitwise_or_level
precedence b.BitwiseXor = bitwise_xor_level
precedence b.BitwiseTildeXor = bitwise_xor_level
precedence b.BitwiseXorTilde = bitwise_xor_level
precedence b.BitwiseAnd = bitwise_and_level
precedence b.Equal = equality_level
precedence b.NotEqual = equality_level
precedence b.CaseEqual = equality_level
precedence b.CaseNotEqual = equality_level
precedence b.Less = relational_level
precedence b.AtMost = relational_level
precedence b.Greater = relational_level
precedence b.AtLeast = relational_level
precedence b.ShiftLeft = shift_level
precedence b.ShiftRight = shift_level
precedence b.ShiftLeftArith = shift_level
precedence b.ShiftRightArith = shift_level
precedence b.Add = additive_level
precedence b.Subtract = additive_level
precedence b.Multiply = multiplicative_level
precedence b.Divide = multiplicative_level
precedence b.Modulus = multiplicative_level

-- `-> <->` and `?:` group to the right, the other binary operators to the left

-- the least level on the left of a binary operator of this level
abbrev pub least_left : ℕ → ℕ
least_left n = if nat_le n conditional_level then n + 1 else n

-- the least level on its right
abbrev pub least_right : ℕ → ℕ
least_right n = if nat_le n conditional_level then n else n + 1
