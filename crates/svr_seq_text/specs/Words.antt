-- What the tokens of a text of `randsequence` say (IEEE 1800-2017, 18.16 and 18.17)
use Rattle.std.specs.Prelude.{◌≡◌, ℕ, suc, Bool, true, false, ◌==◌, ◌&&◌, ◌||◌, nat_eq, nat_le, List, [], ◌∷◌, codes, if◌then◌else◌}
use Rattle.std.specs.List.{list_all}
use Rattle.std.specs.Cmp.Lexicographic.{pointwise}
use Rattle.svr_token.specs.declared.lexeme.Lexeme.{Lexeme}
use Rattle.svr_token.specs.declared.lexeme.Lexeme.TheVariants as l
use Rattle.svr_token.specs.declared.lexeme.Mark.{Mark}
use Rattle.svr_token.specs.declared.lexeme.Mark.TheVariants as m
use Rattle.svr_token.specs.declared.lexeme.Word.TheVariants as k
use Rattle.svr_token.specs.declared.token.Token.{Token}
use Rattle.svr_token.specs.Tokens.{IsTokenOf, token_bytes}
use Rattle.svr_seq_text.specs.declared.word.Word.{Word}
use Rattle.svr_seq_text.specs.declared.word.Word.TheVariants as w

unfoldable pub is_randsequence : List ℕ → Bool
is_randsequence bytes = pointwise nat_eq bytes (codes "randsequence")

unfoldable pub is_endsequence : List ℕ → Bool
is_endsequence bytes = pointwise nat_eq bytes (codes "endsequence")

unfoldable pub is_randcase : List ℕ → Bool
is_randcase bytes = pointwise nat_eq bytes (codes "randcase")

unfoldable pub is_endcase : List ℕ → Bool
is_endcase bytes = pointwise nat_eq bytes (codes "endcase")

-- a digit or an underscore
abbrev pub is_decimal_byte : ℕ → Bool
is_decimal_byte b = (nat_le 48 b && nat_le b 57) || (b == 95)

-- `randcase`, `endcase` and `endsequence` are reserved; `randsequence` opens the text as its first token
abbrev pub name_word : List ℕ → ℕ → Word
name_word bytes at =
    if is_randcase bytes then w.RandCase at
    else if is_endcase bytes then w.EndCase
    else if is_endsequence bytes then w.EndSequence
    else if (at == 0) && is_randsequence bytes then w.RandSequence
    else w.Name at

-- a literal of decimal digits alone
abbrev pub literal_word : List ℕ → ℕ → Word
literal_word bytes at = if list_all is_decimal_byte bytes then w.Decimal at else w.Other

abbrev pub mark_word : Mark → ℕ → Word
mark_word m.OpenParen at = w.OpenParen
mark_word m.CloseParen at = w.CloseParen
mark_word m.OpenBrace at = w.OpenBrace at
mark_word m.CloseBrace at = w.CloseBrace
mark_word m.Colon at = w.Colon
mark_word m.ColonEqual at = w.ColonEqual
mark_word m.Or at = w.Bar
mark_word m.Semicolon at = w.Semicolon
mark_word _ at = w.Other

-- what the token of a number says that spells this lexeme with these bytes
abbrev pub lexeme_word : Lexeme → List ℕ → ℕ → Word
lexeme_word (l.Name kind) bytes at = name_word bytes at
lexeme_word (l.Literal value width signed) bytes at = literal_word bytes at
lexeme_word (l.Mark mark) bytes at = mark_word mark at
lexeme_word (l.Word k.Repeat) bytes at = w.Repeat at
lexeme_word _ bytes at = w.Other

-- the token of the text, which has this number, says this
abbrev pub IsWordOf : List ℕ → ℕ → Token → Word → Type 0
IsWordOf text at token word = (lexeme : Lexeme) × IsTokenOf text token lexeme × (word ≡ lexeme_word lexeme (token_bytes text token) at)

-- what the tokens say, numbered from `at` on, and the end of the text behind them
abbrev pub AreWords : List ℕ → ℕ → List Token → List Word → Type 0
AreWords text at [] ws = ws ≡ w.End ∷ []
AreWords text at (t ∷ ts) [] = ⊥
AreWords text at (t ∷ ts) (x ∷ ws) = IsWordOf text at t x × AreWords text (suc at) ts ws

abbrev pub is_opening : Word → Bool
is_opening w.RandSequence = true
is_opening _ = false

abbrev pub is_open_paren : Word → Bool
is_open_paren w.OpenParen = true
is_open_paren _ = false

abbrev pub is_close_paren : Word → Bool
is_close_paren w.CloseParen = true
is_close_paren _ = false

abbrev pub is_name : Word → Bool
is_name (w.Name at) = true
is_name _ = false

abbrev pub is_decimal : Word → Bool
is_decimal (w.Decimal at) = true
is_decimal _ = false

abbrev pub is_colon : Word → Bool
is_colon w.Colon = true
is_colon _ = false

abbrev pub is_semicolon : Word → Bool
is_semicolon w.Semicolon = true
is_semicolon _ = false

abbrev pub is_end : Word → Bool
is_end w.End = true
is_end _ = false

-- the number of the token, where a text keeps it
abbrev pub number_in : Word → ℕ
number_in (w.RandCase at) = at
number_in (w.Repeat at) = at
number_in (w.Name at) = at
number_in (w.Decimal at) = at
number_in (w.OpenBrace at) = at
number_in _ = 0
