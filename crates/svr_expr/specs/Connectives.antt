-- Operators by their tokens (IEEE 1800-2017, tables 11-1 and 11-2).
use Rattle.std.specs.Prelude.{ℕ, Bool, nat_lt, nat_le, ◌&&◌, Option, Some, None}
use Rattle.svr_token.specs.declared.Lexeme.{Lexeme}
use Rattle.svr_token.specs.declared.Lexeme.TheVariants as lexeme
use Rattle.svr_token.specs.declared.Word.TheVariants as w
use Rattle.svr_token.specs.declared.Mark.{Mark}
use Rattle.svr_token.specs.declared.Mark.TheVariants as m
use Rattle.svr_operator.specs.declared.UnOp.{UnOp}
use Rattle.svr_operator.specs.declared.UnOp.TheVariants as u
use Rattle.svr_operator.specs.declared.BinOp.TheVariants as b
use Rattle.svr_tree.specs.Operators.{conditional_level, relational_level, selection_level, precedence}
use Rattle.svr_expr.specs.declared.connective.Connective.{Connective}
use Rattle.svr_expr.specs.declared.connective.Connective.TheVariants as connective

-- the prefix operator that a mark spells
abbrev pub unary_of : Mark → Option UnOp
unary_of m.Plus = Some u.Plus
unary_of m.Minus = Some u.Minus
unary_of m.Bang = Some u.LogicalNot
unary_of m.Tilde = Some u.BitwiseNot
unary_of m.And = Some u.ReduceAnd
unary_of m.Nand = Some u.ReduceNand
unary_of m.Or = Some u.ReduceOr
unary_of m.Nor = Some u.ReduceNor
unary_of m.Xor = Some u.ReduceXor
unary_of m.TildeXor = Some u.ReduceTildeXor
unary_of m.XorTilde = Some u.ReduceXorTilde
unary_of _ = None

-- how an expression may go on with a mark
abbrev pub mark_connective : Mark → Option Connective
mark_connective m.Question = Some connective.Choice
mark_connective m.Star = Some (connective.Binary b.Multiply)
mark_connective m.Slash = Some (connective.Binary b.Divide)
mark_connective m.Percent = Some (connective.Binary b.Modulus)
mark_connective m.Plus = Some (connective.Binary b.Add)
mark_connective m.Minus = Some (connective.Binary b.Subtract)
mark_connective m.ShiftLeft = Some (connective.Binary b.ShiftLeft)
mark_connective m.ShiftRight = Some (connective.Binary b.ShiftRight)
mark_connective m.ShiftLeftArith = Some (connective.Binary b.ShiftLeftArith)
mark_connective m.ShiftRightArith = Some (connective.Binary b.ShiftRightArith)
mark_connective m.Less = Some (connective.Binary b.Less)
mark_connective m.AtMost = Some (connective.Binary b.AtMost)
mark_connective m.Greater = Some (connective.Binary b.Greater)
mark_connective m.AtLeast = Some (connective.Binary b.AtLeast)
mark_connective m.Equal = Some (connective.Binary b.Equal)
mark_connective m.NotEqual = Some (connective.Binary b.NotEqual)
mark_connective m.CaseEqual = Some (connective.Binary b.CaseEqual)
mark_connective m.CaseNotEqual = Some (connective.Binary b.CaseNotEqual)
mark_connective m.And = Some (connective.Binary b.BitwiseAnd)
mark_connective m.Xor = Some (connective.Binary b.BitwiseXor)
mark_connective m.TildeXor = Some (connective.Binary b.BitwiseTildeXor)
mark_connective m.XorTilde = Some (connective.Binary b.BitwiseXorTilde)
mark_connective m.Or = Some (connective.Binary b.BitwiseOr)
mark_connective m.AndAnd = Some (connective.Binary b.LogicalAnd)
mark_connective m.OrOr = Some (connective.Binary b.LogicalOr)
mark_connective m.Arrow = Some (connective.Binary b.Implies)
mark_connective m.DoubleArrow = Some (connective.Binary b.Equivalent)
mark_connective _ = None

-- the same with a token; None is the end of the text
abbrev pub connective_of : Option Lexeme → Option Connective
connective_of (Some (lexeme.Word w.Inside)) = Some connective.Inside
connective_of (Some (lexeme.Mark k)) = mark_connective k
connective_of _ = None

abbrev pub connective_level : Connective → ℕ
connective_level (connective.Binary op) = precedence op
connective_level connective.Choice = conditional_level
connective_level connective.Inside = relational_level

abbrev pub connective_binds : Option Connective → ℕ
connective_binds None = 0
connective_binds (Some k) = connective_level k

-- how tightly a token goes with what stands before it: a connective by its level, a token with which only a path goes on by the level above all operators, any other not at all
abbrev pub binds : Option Lexeme → ℕ
binds (Some (lexeme.Mark m.Dot)) = selection_level
binds (Some (lexeme.Mark m.OpenBracket)) = selection_level
binds (Some (lexeme.Mark m.OpenParen)) = selection_level
binds (Some (lexeme.Word w.With)) = selection_level
binds l = connective_binds (connective_of l)

-- a connective of level n, where connectives of at least `least` and of less than `most` may stand
abbrev pub goes_on : ℕ → ℕ → ℕ → Bool
goes_on least most n = nat_le least n && nat_lt n most
