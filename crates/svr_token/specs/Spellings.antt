-- The fixed texts of a script: reserved words (IEEE 1800-2017, table B.1), marks (11.3 and annex A), system functions (20.5) and the names of methods (7.12.3, 18.6.1, 18.8, 18.9).
use Rattle.std.specs.Prelude.{ℕ, List, codes, Some, None}
use Rattle.std.specs.declared.option.Option.{Option}
use Rattle.svr_token.specs.declared.lexeme.Word.{Word}
use Rattle.svr_token.specs.declared.lexeme.Word.TheVariants as w
use Rattle.svr_token.specs.declared.lexeme.Mark.{Mark}
use Rattle.svr_token.specs.declared.lexeme.Mark.TheVariants as m
use Rattle.svr_token.specs.declared.lexeme.SystemName.{SystemName}
use Rattle.svr_token.specs.declared.lexeme.SystemName.TheVariants as s
use Rattle.svr_token.specs.declared.lexeme.NameKind.{NameKind}
use Rattle.svr_token.specs.declared.lexeme.NameKind.TheVariants as n

abbrev pub word_text : Word → List ℕ
word_text w.Assert = codes "assert"
word_text w.Before = codes "before"
word_text w.Begin = codes "begin"
word_text w.Bit = codes "bit"
word_text w.Byte = codes "byte"
word_text w.Class = codes "class"
word_text w.Constraint = codes "constraint"
word_text w.Disable = codes "disable"
word_text w.Dist = codes "dist"
word_text w.Else = codes "else"
word_text w.End = codes "end"
word_text w.EndClass = codes "endclass"
word_text w.EndModule = codes "endmodule"
word_text w.EndProgram = codes "endprogram"
word_text w.Enum = codes "enum"
word_text w.Extends = codes "extends"
word_text w.Foreach = codes "foreach"
word_text w.If = codes "if"
word_text w.Initial = codes "initial"
word_text w.Inside = codes "inside"
word_text w.Int = codes "int"
word_text w.Integer = codes "integer"
word_text w.Local = codes "local"
word_text w.Logic = codes "logic"
word_text w.LongInt = codes "longint"
word_text w.Module = codes "module"
word_text w.New = codes "new"
word_text w.Null = codes "null"
word_text w.Program = codes "program"
word_text w.Rand = codes "rand"
word_text w.Randc = codes "randc"
word_text w.Reg = codes "reg"
word_text w.Repeat = codes "repeat"
word_text w.ShortInt = codes "shortint"
word_text w.Signed = codes "signed"
word_text w.Soft = codes "soft"
word_text w.Solve = codes "solve"
word_text w.This = codes "this"
word_text w.TypeDef = codes "typedef"
word_text w.Unique = codes "unique"
word_text w.Unsigned = codes "unsigned"
word_text w.Void = codes "void"
word_text w.With = codes "with"

abbrev pub mark_text : Mark → List ℕ
mark_text m.OpenParen = codes "("
mark_text m.CloseParen = codes ")"
mark_text m.OpenBracket = codes "["
mark_text m.CloseBracket = codes "]"
mark_text m.OpenBrace = codes "{"
mark_text m.CloseBrace = codes "}"
mark_text m.OpenPattern = codes "'{"
mark_text m.Apostrophe = codes "'"
mark_text m.Semicolon = codes ";"
mark_text m.Comma = codes ","
mark_text m.Dot = codes "."
mark_text m.Colon = codes ":"
mark_text m.DoubleColon = codes "::"
mark_text m.ColonEqual = codes ":="
mark_text m.ColonSlash = codes ":/"
mark_text m.Question = codes "?"
mark_text m.Assign = codes "="
mark_text m.Plus = codes "+"
mark_text m.Minus = codes "-"
mark_text m.Star = codes "*"
mark_text m.Slash = codes "/"
mark_text m.Percent = codes "%"
mark_text m.Tilde = codes "~"
mark_text m.Bang = codes "!"
mark_text m.And = codes "&"
mark_text m.Or = codes "|"
mark_text m.Xor = codes "^"
mark_text m.AndAnd = codes "&&"
mark_text m.OrOr = codes "||"
mark_text m.Nand = codes "~&"
mark_text m.Nor = codes "~|"
mark_text m.TildeXor = codes "~^"
mark_text m.XorTilde = codes "^~"
mark_text m.Less = codes "<"
mark_text m.Greater = codes ">"
mark_text m.AtMost = codes "<="
mark_text m.AtLeast = codes ">="
mark_text m.Equal = codes "=="
mark_text m.NotEqual = codes "!="
mark_text m.CaseEqual = codes "==="
mark_text m.CaseNotEqual = codes "!=="
mark_text m.ShiftLeft = codes "<<"
mark_text m.ShiftRight = codes ">>"
mark_text m.ShiftLeftArith = codes "<<<"
mark_text m.ShiftRightArith = codes ">>>"
mark_text m.Arrow = codes "->"
mark_text m.DoubleArrow = codes "<->"
mark_text m.Dollar = codes "$"

abbrev pub system_text : SystemName → List ℕ
system_text s.Signed = codes "$signed"
system_text s.Unsigned = codes "$unsigned"

abbrev pub method_text : NameKind → Option (List ℕ)
method_text n.Plain = None
method_text n.Sum = Some (codes "sum")
method_text n.Product = Some (codes "product")
method_text n.And = Some (codes "and")
method_text n.Or = Some (codes "or")
method_text n.Xor = Some (codes "xor")
method_text n.Randomize = Some (codes "randomize")
method_text n.RandMode = Some (codes "rand_mode")
method_text n.ConstraintMode = Some (codes "constraint_mode")
