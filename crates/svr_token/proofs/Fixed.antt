-- The tables of fixed texts: each entry is what it says, and nothing is left out.
use Rattle.std.proofs.Common.{◌≡◌, ℕ, List, [], ◌∷◌, Bool, true, false, ◌||◌, ◌&&◌, ◌==◌, Some, None, refl, subst, codes, cond}
use Rattle.std.proofs.lemmas.Slice.Eq.{bytes_eq-Decides}
use Rattle.std.specs.Str.{bytes_eq}
use Rattle.std.specs.Char.{is_digit}
use Rattle.svr_token.specs.Bytes.{is_name_start, is_name_byte}
use Rattle.svr_token.specs.Spellings.{word_text, mark_text, system_text, method_text}
use Rattle.svr_token.specs.Lexemes.{IsName}
use Rattle.svr_token.specs.Tables.{entry_of, words, marks, system_names, word_of, mark_of, system_of}
use Rattle.svr_token.specs.declared.lexeme.Lexeme.{Lexeme}
use Rattle.svr_token.specs.declared.lexeme.Lexeme.TheVariants as l
use Rattle.svr_token.specs.declared.lexeme.Word.{Word}
use Rattle.svr_token.specs.declared.lexeme.Word.TheVariants as w
use Rattle.svr_token.specs.declared.lexeme.Mark.{Mark}
use Rattle.svr_token.specs.declared.lexeme.Mark.TheVariants as m
use Rattle.svr_token.specs.declared.lexeme.SystemName.{SystemName}
use Rattle.svr_token.specs.declared.lexeme.SystemName.TheVariants as s
use Rattle.svr_token.specs.declared.lexeme.NameKind.{NameKind}
use Rattle.svr_token.specs.declared.lexeme.NameKind.TheVariants as n

-- the text is that of a reserved word, or of the name of a method
abbrev pub IsWordText : Lexeme → List ℕ → Type 0
IsWordText (l.Word word) text = text ≡ word_text word
IsWordText (l.Name kind) text = method_text kind ≡ Some text
IsWordText (l.System name) text = ⊥
IsWordText (l.Literal value width signed) text = ⊥
IsWordText (l.Mark mark) text = ⊥

abbrev pub IsMarkText : Lexeme → List ℕ → Type 0
IsMarkText (l.Word word) text = ⊥
IsMarkText (l.Name kind) text = ⊥
IsMarkText (l.System name) text = ⊥
IsMarkText (l.Literal value width signed) text = ⊥
IsMarkText (l.Mark mark) text = text ≡ mark_text mark

abbrev pub IsSystemText : Lexeme → List ℕ → Type 0
IsSystemText (l.Word word) text = ⊥
IsSystemText (l.Name kind) text = ⊥
IsSystemText (l.System name) text = text ≡ system_text name
IsSystemText (l.Literal value width signed) text = ⊥
IsSystemText (l.Mark mark) text = ⊥

abbrev AllEntries : (Lexeme → List ℕ → Type 0) → List (List ℕ × Lexeme) → Type 0
AllEntries P [] = Unit {0}
AllEntries P ((text, lexeme) ∷ entries) = P lexeme text × AllEntries P entries

entry_passes : (P : Lexeme → List ℕ → Type 0) (entries : List (List ℕ × Lexeme)) (bytes : List ℕ) (lexeme : Lexeme) → AllEntries P entries → entry_of entries bytes ≡ Some lexeme → P lexeme bytes
entry_passes P [] bytes lexeme all e = absurd (cc)
entry_passes P ((text, other) ∷ entries) bytes lexeme all e = go (bytes_eq text bytes) refl (entry_passes P entries bytes lexeme all.1) e
  where
    go : (v : Bool) → bytes_eq text bytes ≡ v → (entry_of entries bytes ≡ Some lexeme → P lexeme bytes) → cond v (Some other) (entry_of entries bytes) ≡ Some lexeme → P lexeme bytes
    go true is later e =
        let same : other ≡ lexeme = cc (e) in
        let here : text ≡ bytes = (bytes_eq-Decides text bytes).0 is in
        subst (λ x. P x bytes) same (subst (P other) here all.0)
    go false is later e = later e

words_fixed : AllEntries IsWordText words
words_fixed = (refl, (refl, (refl, (refl, (refl, (refl, (refl, (refl, (refl, (refl, (refl, (refl, (refl, (refl, (refl, (refl, (refl, (refl, (refl, (refl, (refl, (refl, (refl, (refl, (refl, (refl, (refl, (refl, (refl, (refl, (refl, (refl, (refl, (refl, (refl, (refl, (refl, (refl, (refl, (refl, (refl, (refl, (refl, (refl, (refl, (refl, (refl, (refl, (refl, (refl, (refl, tt)))))))))))))))))))))))))))))))))))))))))))))))))))

marks_fixed : AllEntries IsMarkText marks
marks_fixed = (refl, (refl, (refl, (refl, (refl, (refl, (refl, (refl, (refl, (refl, (refl, (refl, (refl, (refl, (refl, (refl, (refl, (refl, (refl, (refl, (refl, (refl, (refl, (refl, (refl, (refl, (refl, (refl, (refl, (refl, (refl, (refl, (refl, (refl, (refl, (refl, (refl, (refl, (refl, (refl, (refl, (refl, (refl, (refl, (refl, (refl, (refl, (refl, tt))))))))))))))))))))))))))))))))))))))))))))))))

systems_fixed : AllEntries IsSystemText system_names
systems_fixed = (refl, (refl, tt))

pub word_fixed : (bytes : List ℕ) (lexeme : Lexeme) → word_of bytes ≡ Some lexeme → IsWordText lexeme bytes
unfolding word_of
word_fixed bytes lexeme e = entry_passes IsWordText words bytes lexeme words_fixed e

pub mark_fixed : (bytes : List ℕ) (lexeme : Lexeme) → mark_of bytes ≡ Some lexeme → IsMarkText lexeme bytes
unfolding mark_of
mark_fixed bytes lexeme e = entry_passes IsMarkText marks bytes lexeme marks_fixed e

pub system_fixed : (bytes : List ℕ) (lexeme : Lexeme) → system_of bytes ≡ Some lexeme → IsSystemText lexeme bytes
unfolding system_of
system_fixed bytes lexeme e = entry_passes IsSystemText system_names bytes lexeme systems_fixed e

-- the bytes begin as a name does
abbrev pub starts_name : List ℕ → Bool
starts_name [] = false
starts_name (b ∷ bs) = is_name_start b

-- the bytes begin as a literal does
abbrev pub second_of_literal : List ℕ → Bool
second_of_literal [] = false
second_of_literal (b ∷ bs) = is_name_byte b

abbrev pub starts_literal : List ℕ → Bool
starts_literal [] = false
starts_literal (b ∷ bs) = is_digit b 10 || ((b == 39) && second_of_literal bs)

pub word_listed : (word : Word) → word_of (word_text word) ≡ Some (l.Word word)
unfolding word_of
word_listed w.Assert = refl
word_listed w.Before = refl
word_listed w.Begin = refl
word_listed w.Bit = refl
word_listed w.Byte = refl
word_listed w.Class = refl
word_listed w.Constraint = refl
word_listed w.Disable = refl
word_listed w.Dist = refl
word_listed w.Else = refl
word_listed w.End = refl
word_listed w.EndClass = refl
word_listed w.EndModule = refl
word_listed w.EndProgram = refl
word_listed w.Enum = refl
word_listed w.Extends = refl
word_listed w.Foreach = refl
word_listed w.If = refl
word_listed w.Initial = refl
word_listed w.Inside = refl
word_listed w.Int = refl
word_listed w.Integer = refl
word_listed w.Local = refl
word_listed w.Logic = refl
word_listed w.LongInt = refl
word_listed w.Module = refl
word_listed w.New = refl
word_listed w.Null = refl
word_listed w.Program = refl
word_listed w.Rand = refl
word_listed w.Randc = refl
word_listed w.Reg = refl
word_listed w.Repeat = refl
word_listed w.ShortInt = refl
word_listed w.Signed = refl
word_listed w.Soft = refl
word_listed w.Solve = refl
word_listed w.This = refl
word_listed w.TypeDef = refl
word_listed w.Unique = refl
word_listed w.Unsigned = refl
word_listed w.Void = refl
word_listed w.With = refl

pub method_listed : (kind : NameKind) (bytes : List ℕ) → method_text kind ≡ Some bytes → word_of bytes ≡ Some (l.Name kind)
unfolding word_of
method_listed n.Plain bytes e = absurd (cc (e))
method_listed n.Sum bytes e = let same : codes "sum" ≡ bytes = cc (e) in subst (λ x. entry_of words x ≡ Some (l.Name n.Sum)) same refl
method_listed n.Product bytes e = let same : codes "product" ≡ bytes = cc (e) in subst (λ x. entry_of words x ≡ Some (l.Name n.Product)) same refl
method_listed n.And bytes e = let same : codes "and" ≡ bytes = cc (e) in subst (λ x. entry_of words x ≡ Some (l.Name n.And)) same refl
method_listed n.Or bytes e = let same : codes "or" ≡ bytes = cc (e) in subst (λ x. entry_of words x ≡ Some (l.Name n.Or)) same refl
method_listed n.Xor bytes e = let same : codes "xor" ≡ bytes = cc (e) in subst (λ x. entry_of words x ≡ Some (l.Name n.Xor)) same refl
method_listed n.Randomize bytes e = let same : codes "randomize" ≡ bytes = cc (e) in subst (λ x. entry_of words x ≡ Some (l.Name n.Randomize)) same refl
method_listed n.RandMode bytes e = let same : codes "rand_mode" ≡ bytes = cc (e) in subst (λ x. entry_of words x ≡ Some (l.Name n.RandMode)) same refl
method_listed n.ConstraintMode bytes e = let same : codes "constraint_mode" ≡ bytes = cc (e) in subst (λ x. entry_of words x ≡ Some (l.Name n.ConstraintMode)) same refl

pub mark_listed : (mark : Mark) → mark_of (mark_text mark) ≡ Some (l.Mark mark)
unfolding mark_of
mark_listed m.OpenParen = refl
mark_listed m.CloseParen = refl
mark_listed m.OpenBracket = refl
mark_listed m.CloseBracket = refl
mark_listed m.OpenBrace = refl
mark_listed m.CloseBrace = refl
mark_listed m.OpenPattern = refl
mark_listed m.Apostrophe = refl
mark_listed m.Semicolon = refl
mark_listed m.Comma = refl
mark_listed m.Dot = refl
mark_listed m.Colon = refl
mark_listed m.DoubleColon = refl
mark_listed m.ColonEqual = refl
mark_listed m.ColonSlash = refl
mark_listed m.Question = refl
mark_listed m.Assign = refl
mark_listed m.Plus = refl
mark_listed m.Minus = refl
mark_listed m.Star = refl
mark_listed m.Slash = refl
mark_listed m.Percent = refl
mark_listed m.Tilde = refl
mark_listed m.Bang = refl
mark_listed m.And = refl
mark_listed m.Or = refl
mark_listed m.Xor = refl
mark_listed m.AndAnd = refl
mark_listed m.OrOr = refl
mark_listed m.Nand = refl
mark_listed m.Nor = refl
mark_listed m.TildeXor = refl
mark_listed m.XorTilde = refl
mark_listed m.Less = refl
mark_listed m.Greater = refl
mark_listed m.AtMost = refl
mark_listed m.AtLeast = refl
mark_listed m.Equal = refl
mark_listed m.NotEqual = refl
mark_listed m.CaseEqual = refl
mark_listed m.CaseNotEqual = refl
mark_listed m.ShiftLeft = refl
mark_listed m.ShiftRight = refl
mark_listed m.ShiftLeftArith = refl
mark_listed m.ShiftRightArith = refl
mark_listed m.Arrow = refl
mark_listed m.DoubleArrow = refl
mark_listed m.Dollar = refl

pub system_listed : (name : SystemName) → system_of (system_text name) ≡ Some (l.System name)
unfolding system_of
system_listed s.Signed = refl
system_listed s.Unsigned = refl

pub system_no_mark : (name : SystemName) → mark_of (system_text name) ≡ None
unfolding mark_of
system_no_mark s.Signed = refl
system_no_mark s.Unsigned = refl

pub word_is_name : (word : Word) → IsName (word_text word)
word_is_name w.Assert = (refl, refl)
word_is_name w.Before = (refl, refl)
word_is_name w.Begin = (refl, refl)
word_is_name w.Bit = (refl, refl)
word_is_name w.Byte = (refl, refl)
word_is_name w.Class = (refl, refl)
word_is_name w.Constraint = (refl, refl)
word_is_name w.Disable = (refl, refl)
word_is_name w.Dist = (refl, refl)
word_is_name w.Else = (refl, refl)
word_is_name w.End = (refl, refl)
word_is_name w.EndClass = (refl, refl)
word_is_name w.EndModule = (refl, refl)
word_is_name w.EndProgram = (refl, refl)
word_is_name w.Enum = (refl, refl)
word_is_name w.Extends = (refl, refl)
word_is_name w.Foreach = (refl, refl)
word_is_name w.If = (refl, refl)
word_is_name w.Initial = (refl, refl)
word_is_name w.Inside = (refl, refl)
word_is_name w.Int = (refl, refl)
word_is_name w.Integer = (refl, refl)
word_is_name w.Local = (refl, refl)
word_is_name w.Logic = (refl, refl)
word_is_name w.LongInt = (refl, refl)
word_is_name w.Module = (refl, refl)
word_is_name w.New = (refl, refl)
word_is_name w.Null = (refl, refl)
word_is_name w.Program = (refl, refl)
word_is_name w.Rand = (refl, refl)
word_is_name w.Randc = (refl, refl)
word_is_name w.Reg = (refl, refl)
word_is_name w.Repeat = (refl, refl)
word_is_name w.ShortInt = (refl, refl)
word_is_name w.Signed = (refl, refl)
word_is_name w.Soft = (refl, refl)
word_is_name w.Solve = (refl, refl)
word_is_name w.This = (refl, refl)
word_is_name w.TypeDef = (refl, refl)
word_is_name w.Unique = (refl, refl)
word_is_name w.Unsigned = (refl, refl)
word_is_name w.Void = (refl, refl)
word_is_name w.With = (refl, refl)

pub method_is_name : (kind : NameKind) (bytes : List ℕ) → method_text kind ≡ Some bytes → IsName bytes
method_is_name n.Plain bytes e = absurd (cc (e))
method_is_name n.Sum bytes e = let same : codes "sum" ≡ bytes = cc (e) in subst IsName same (refl, refl)
method_is_name n.Product bytes e = let same : codes "product" ≡ bytes = cc (e) in subst IsName same (refl, refl)
method_is_name n.And bytes e = let same : codes "and" ≡ bytes = cc (e) in subst IsName same (refl, refl)
method_is_name n.Or bytes e = let same : codes "or" ≡ bytes = cc (e) in subst IsName same (refl, refl)
method_is_name n.Xor bytes e = let same : codes "xor" ≡ bytes = cc (e) in subst IsName same (refl, refl)
method_is_name n.Randomize bytes e = let same : codes "randomize" ≡ bytes = cc (e) in subst IsName same (refl, refl)
method_is_name n.RandMode bytes e = let same : codes "rand_mode" ≡ bytes = cc (e) in subst IsName same (refl, refl)
method_is_name n.ConstraintMode bytes e = let same : codes "constraint_mode" ≡ bytes = cc (e) in subst IsName same (refl, refl)

pub mark_no_name : (mark : Mark) → starts_name (mark_text mark) ≡ false
mark_no_name m.OpenParen = refl
mark_no_name m.CloseParen = refl
mark_no_name m.OpenBracket = refl
mark_no_name m.CloseBracket = refl
mark_no_name m.OpenBrace = refl
mark_no_name m.CloseBrace = refl
mark_no_name m.OpenPattern = refl
mark_no_name m.Apostrophe = refl
mark_no_name m.Semicolon = refl
mark_no_name m.Comma = refl
mark_no_name m.Dot = refl
mark_no_name m.Colon = refl
mark_no_name m.DoubleColon = refl
mark_no_name m.ColonEqual = refl
mark_no_name m.ColonSlash = refl
mark_no_name m.Question = refl
mark_no_name m.Assign = refl
mark_no_name m.Plus = refl
mark_no_name m.Minus = refl
mark_no_name m.Star = refl
mark_no_name m.Slash = refl
mark_no_name m.Percent = refl
mark_no_name m.Tilde = refl
mark_no_name m.Bang = refl
mark_no_name m.And = refl
mark_no_name m.Or = refl
mark_no_name m.Xor = refl
mark_no_name m.AndAnd = refl
mark_no_name m.OrOr = refl
mark_no_name m.Nand = refl
mark_no_name m.Nor = refl
mark_no_name m.TildeXor = refl
mark_no_name m.XorTilde = refl
mark_no_name m.Less = refl
mark_no_name m.Greater = refl
mark_no_name m.AtMost = refl
mark_no_name m.AtLeast = refl
mark_no_name m.Equal = refl
mark_no_name m.NotEqual = refl
mark_no_name m.CaseEqual = refl
mark_no_name m.CaseNotEqual = refl
mark_no_name m.ShiftLeft = refl
mark_no_name m.ShiftRight = refl
mark_no_name m.ShiftLeftArith = refl
mark_no_name m.ShiftRightArith = refl
mark_no_name m.Arrow = refl
mark_no_name m.DoubleArrow = refl
mark_no_name m.Dollar = refl

pub mark_no_literal : (mark : Mark) → starts_literal (mark_text mark) ≡ false
mark_no_literal m.OpenParen = refl
mark_no_literal m.CloseParen = refl
mark_no_literal m.OpenBracket = refl
mark_no_literal m.CloseBracket = refl
mark_no_literal m.OpenBrace = refl
mark_no_literal m.CloseBrace = refl
mark_no_literal m.OpenPattern = refl
mark_no_literal m.Apostrophe = refl
mark_no_literal m.Semicolon = refl
mark_no_literal m.Comma = refl
mark_no_literal m.Dot = refl
mark_no_literal m.Colon = refl
mark_no_literal m.DoubleColon = refl
mark_no_literal m.ColonEqual = refl
mark_no_literal m.ColonSlash = refl
mark_no_literal m.Question = refl
mark_no_literal m.Assign = refl
mark_no_literal m.Plus = refl
mark_no_literal m.Minus = refl
mark_no_literal m.Star = refl
mark_no_literal m.Slash = refl
mark_no_literal m.Percent = refl
mark_no_literal m.Tilde = refl
mark_no_literal m.Bang = refl
mark_no_literal m.And = refl
mark_no_literal m.Or = refl
mark_no_literal m.Xor = refl
mark_no_literal m.AndAnd = refl
mark_no_literal m.OrOr = refl
mark_no_literal m.Nand = refl
mark_no_literal m.Nor = refl
mark_no_literal m.TildeXor = refl
mark_no_literal m.XorTilde = refl
mark_no_literal m.Less = refl
mark_no_literal m.Greater = refl
mark_no_literal m.AtMost = refl
mark_no_literal m.AtLeast = refl
mark_no_literal m.Equal = refl
mark_no_literal m.NotEqual = refl
mark_no_literal m.CaseEqual = refl
mark_no_literal m.CaseNotEqual = refl
mark_no_literal m.ShiftLeft = refl
mark_no_literal m.ShiftRight = refl
mark_no_literal m.ShiftLeftArith = refl
mark_no_literal m.ShiftRightArith = refl
mark_no_literal m.Arrow = refl
mark_no_literal m.DoubleArrow = refl
mark_no_literal m.Dollar = refl

pub system_no_name : (name : SystemName) → starts_name (system_text name) ≡ false
system_no_name s.Signed = refl
system_no_name s.Unsigned = refl

pub system_no_literal : (name : SystemName) → starts_literal (system_text name) ≡ false
system_no_literal s.Signed = refl
system_no_literal s.Unsigned = refl
