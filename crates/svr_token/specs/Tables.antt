-- The fixed texts as tables, in the order of the code.
use Rattle.std.specs.Prelude.{ℕ, List, [], ◌∷◌, map, codes, Some, None, if◌then◌else◌}
use Rattle.std.specs.declared.option.Option.{Option}
use Rattle.std.specs.Str.{bytes_eq}
use denote.Ref.{Bor}
use Rattle.svr_token.specs.Spellings.{word_text, mark_text, system_text}
use Rattle.svr_token.specs.declared.lexeme.Lexeme.{Lexeme}
use Rattle.svr_token.specs.declared.lexeme.Lexeme.TheVariants as l
use Rattle.svr_token.specs.declared.lexeme.Word.TheVariants as w
use Rattle.svr_token.specs.declared.lexeme.Mark.TheVariants as m
use Rattle.svr_token.specs.declared.lexeme.SystemName.TheVariants as s
use Rattle.svr_token.specs.declared.lexeme.NameKind.TheVariants as n

-- the lexeme of the first entry with these bytes
abbrev pub entry_of : List (List ℕ × Lexeme) → List ℕ → Option Lexeme
entry_of [] bytes = None
entry_of ((text, lexeme) ∷ entries) bytes = if bytes_eq text bytes then Some lexeme else entry_of entries bytes

-- a table as the code holds it
abbrev pub entries_seen : List (Bor (List ℕ) × Lexeme) → List (List ℕ × Lexeme)
entries_seen table = map (λ (text, lexeme). (text.now, lexeme)) table

abbrev pub words : List (List ℕ × Lexeme)
words =
    (word_text w.Assert, l.Word w.Assert)
    ∷ (word_text w.Before, l.Word w.Before)
    ∷ (word_text w.Begin, l.Word w.Begin)
    ∷ (word_text w.Bit, l.Word w.Bit)
    ∷ (word_text w.Byte, l.Word w.Byte)
    ∷ (word_text w.Class, l.Word w.Class)
    ∷ (word_text w.Constraint, l.Word w.Constraint)
    ∷ (word_text w.Disable, l.Word w.Disable)
    ∷ (word_text w.Dist, l.Word w.Dist)
    ∷ (word_text w.Else, l.Word w.Else)
    ∷ (word_text w.End, l.Word w.End)
    ∷ (word_text w.EndClass, l.Word w.EndClass)
    ∷ (word_text w.EndModule, l.Word w.EndModule)
    ∷ (word_text w.EndProgram, l.Word w.EndProgram)
    ∷ (word_text w.Enum, l.Word w.Enum)
    ∷ (word_text w.Extends, l.Word w.Extends)
    ∷ (word_text w.Foreach, l.Word w.Foreach)
    ∷ (word_text w.If, l.Word w.If)
    ∷ (word_text w.Initial, l.Word w.Initial)
    ∷ (word_text w.Inside, l.Word w.Inside)
    ∷ (word_text w.Int, l.Word w.Int)
    ∷ (word_text w.Integer, l.Word w.Integer)
    ∷ (word_text w.Local, l.Word w.Local)
    ∷ (word_text w.Logic, l.Word w.Logic)
    ∷ (word_text w.LongInt, l.Word w.LongInt)
    ∷ (word_text w.Module, l.Word w.Module)
    ∷ (word_text w.New, l.Word w.New)
    ∷ (word_text w.Null, l.Word w.Null)
    ∷ (word_text w.Program, l.Word w.Program)
    ∷ (word_text w.Rand, l.Word w.Rand)
    ∷ (word_text w.Randc, l.Word w.Randc)
    ∷ (word_text w.Reg, l.Word w.Reg)
    ∷ (word_text w.Repeat, l.Word w.Repeat)
    ∷ (word_text w.ShortInt, l.Word w.ShortInt)
    ∷ (word_text w.Signed, l.Word w.Signed)
    ∷ (word_text w.Soft, l.Word w.Soft)
    ∷ (word_text w.Solve, l.Word w.Solve)
    ∷ (word_text w.This, l.Word w.This)
    ∷ (word_text w.TypeDef, l.Word w.TypeDef)
    ∷ (word_text w.Unique, l.Word w.Unique)
    ∷ (word_text w.Unsigned, l.Word w.Unsigned)
    ∷ (word_text w.Void, l.Word w.Void)
    ∷ (word_text w.With, l.Word w.With)
    ∷ (codes "sum", l.Name n.Sum)
    ∷ (codes "product", l.Name n.Product)
    ∷ (codes "and", l.Name n.And)
    ∷ (codes "or", l.Name n.Or)
    ∷ (codes "xor", l.Name n.Xor)
    ∷ (codes "randomize", l.Name n.Randomize)
    ∷ (codes "rand_mode", l.Name n.RandMode)
    ∷ (codes "constraint_mode", l.Name n.ConstraintMode)
    ∷ []

abbrev pub marks : List (List ℕ × Lexeme)
marks =
    (mark_text m.OpenParen, l.Mark m.OpenParen)
    ∷ (mark_text m.CloseParen, l.Mark m.CloseParen)
    ∷ (mark_text m.OpenBracket, l.Mark m.OpenBracket)
    ∷ (mark_text m.CloseBracket, l.Mark m.CloseBracket)
    ∷ (mark_text m.OpenBrace, l.Mark m.OpenBrace)
    ∷ (mark_text m.CloseBrace, l.Mark m.CloseBrace)
    ∷ (mark_text m.OpenPattern, l.Mark m.OpenPattern)
    ∷ (mark_text m.Apostrophe, l.Mark m.Apostrophe)
    ∷ (mark_text m.Semicolon, l.Mark m.Semicolon)
    ∷ (mark_text m.Comma, l.Mark m.Comma)
    ∷ (mark_text m.Dot, l.Mark m.Dot)
    ∷ (mark_text m.Colon, l.Mark m.Colon)
    ∷ (mark_text m.DoubleColon, l.Mark m.DoubleColon)
    ∷ (mark_text m.ColonEqual, l.Mark m.ColonEqual)
    ∷ (mark_text m.ColonSlash, l.Mark m.ColonSlash)
    ∷ (mark_text m.Question, l.Mark m.Question)
    ∷ (mark_text m.Assign, l.Mark m.Assign)
    ∷ (mark_text m.Plus, l.Mark m.Plus)
    ∷ (mark_text m.Minus, l.Mark m.Minus)
    ∷ (mark_text m.Star, l.Mark m.Star)
    ∷ (mark_text m.Slash, l.Mark m.Slash)
    ∷ (mark_text m.Percent, l.Mark m.Percent)
    ∷ (mark_text m.Tilde, l.Mark m.Tilde)
    ∷ (mark_text m.Bang, l.Mark m.Bang)
    ∷ (mark_text m.And, l.Mark m.And)
    ∷ (mark_text m.Or, l.Mark m.Or)
    ∷ (mark_text m.Xor, l.Mark m.Xor)
    ∷ (mark_text m.AndAnd, l.Mark m.AndAnd)
    ∷ (mark_text m.OrOr, l.Mark m.OrOr)
    ∷ (mark_text m.Nand, l.Mark m.Nand)
    ∷ (mark_text m.Nor, l.Mark m.Nor)
    ∷ (mark_text m.TildeXor, l.Mark m.TildeXor)
    ∷ (mark_text m.XorTilde, l.Mark m.XorTilde)
    ∷ (mark_text m.Less, l.Mark m.Less)
    ∷ (mark_text m.Greater, l.Mark m.Greater)
    ∷ (mark_text m.AtMost, l.Mark m.AtMost)
    ∷ (mark_text m.AtLeast, l.Mark m.AtLeast)
    ∷ (mark_text m.Equal, l.Mark m.Equal)
    ∷ (mark_text m.NotEqual, l.Mark m.NotEqual)
    ∷ (mark_text m.CaseEqual, l.Mark m.CaseEqual)
    ∷ (mark_text m.CaseNotEqual, l.Mark m.CaseNotEqual)
    ∷ (mark_text m.ShiftLeft, l.Mark m.ShiftLeft)
    ∷ (mark_text m.ShiftRight, l.Mark m.ShiftRight)
    ∷ (mark_text m.ShiftLeftArith, l.Mark m.ShiftLeftArith)
    ∷ (mark_text m.ShiftRightArith, l.Mark m.ShiftRightArith)
    ∷ (mark_text m.Arrow, l.Mark m.Arrow)
    ∷ (mark_text m.DoubleArrow, l.Mark m.DoubleArrow)
    ∷ (mark_text m.Dollar, l.Mark m.Dollar)
    ∷ []

abbrev pub system_names : List (List ℕ × Lexeme)
system_names =
    (system_text s.Signed, l.System s.Signed)
    ∷ (system_text s.Unsigned, l.System s.Unsigned)
    ∷ []

-- a reserved word, or the name of a method
unfoldable pub word_of : List ℕ → Option Lexeme
word_of bytes = entry_of words bytes

unfoldable pub mark_of : List ℕ → Option Lexeme
mark_of bytes = entry_of marks bytes

unfoldable pub system_of : List ℕ → Option Lexeme
system_of bytes = entry_of system_names bytes
