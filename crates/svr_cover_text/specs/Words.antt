-- What the tokens of cover groups say (IEEE 1800-2017, clause 19)
use Rattle.std.specs.Prelude.{◌≡◌, ℕ, suc, Bool, true, false, ◌==◌, ◌&&◌, ◌||◌, nat_eq, nat_le, List, [], ◌∷◌, codes, if◌then◌else◌}
use Rattle.std.specs.List.{list_all}
use Rattle.std.specs.Cmp.Lexicographic.{pointwise}
use Rattle.svr_token.specs.declared.lexeme.Lexeme.{Lexeme}
use Rattle.svr_token.specs.declared.lexeme.Lexeme.TheVariants as l
use Rattle.svr_token.specs.declared.lexeme.Mark.{Mark}
use Rattle.svr_token.specs.declared.lexeme.Mark.TheVariants as m
use Rattle.svr_token.specs.declared.lexeme.Word.TheVariants as r
use Rattle.svr_token.specs.declared.token.Token.{Token}
use Rattle.svr_token.specs.Tokens.{IsTokenOf, token_bytes}
use Rattle.svr_cover_text.specs.declared.word.Key.{Key}
use Rattle.svr_cover_text.specs.declared.word.Key.TheVariants as k
use Rattle.svr_cover_text.specs.declared.word.Word.{Word}
use Rattle.svr_cover_text.specs.declared.word.Word.TheVariants as w

unfoldable pub spells_covergroup : List ℕ → Bool
spells_covergroup bytes = pointwise nat_eq bytes (codes "covergroup")

unfoldable pub spells_endgroup : List ℕ → Bool
spells_endgroup bytes = pointwise nat_eq bytes (codes "endgroup")

unfoldable pub spells_function : List ℕ → Bool
spells_function bytes = pointwise nat_eq bytes (codes "function")

unfoldable pub spells_sample : List ℕ → Bool
spells_sample bytes = pointwise nat_eq bytes (codes "sample")

unfoldable pub spells_coverpoint : List ℕ → Bool
spells_coverpoint bytes = pointwise nat_eq bytes (codes "coverpoint")

unfoldable pub spells_cross : List ℕ → Bool
spells_cross bytes = pointwise nat_eq bytes (codes "cross")

unfoldable pub spells_bins : List ℕ → Bool
spells_bins bytes = pointwise nat_eq bytes (codes "bins")

-- a digit or an underscore
abbrev pub is_decimal_byte : ℕ → Bool
is_decimal_byte b = (nat_le 48 b && nat_le b 57) || (b == 95)

-- which of the words of a group a name is
abbrev pub name_key : List ℕ → Key
name_key bytes =
    if spells_covergroup bytes then k.CoverGroup
    else if spells_function bytes then k.Function
    else if spells_sample bytes then k.Sample
    else if spells_coverpoint bytes then k.CoverPoint
    else if spells_cross bytes then k.Cross
    else if spells_bins bytes then k.Bins
    else k.Plain

-- `endgroup` is reserved
abbrev pub name_word : List ℕ → ℕ → Word
name_word bytes at = if spells_endgroup bytes then w.EndGroup else w.Name (name_key bytes) at

-- a literal of decimal digits alone
abbrev pub literal_word : List ℕ → ℕ → Word
literal_word bytes at = if list_all is_decimal_byte bytes then w.Decimal at else w.Other

abbrev pub mark_word : Mark → ℕ → Word
mark_word m.OpenParen at = w.OpenParen
mark_word m.CloseParen at = w.CloseParen
mark_word m.OpenBracket at = w.OpenBracket at
mark_word m.CloseBracket at = w.CloseBracket
mark_word m.OpenBrace at = w.OpenBrace
mark_word m.CloseBrace at = w.CloseBrace
mark_word m.Colon at = w.Colon
mark_word m.Semicolon at = w.Semicolon
mark_word m.Comma at = w.Comma
mark_word m.Dot at = w.Dot
mark_word m.Assign at = w.Equal
mark_word m.Minus at = w.Minus at
mark_word _ at = w.Other

-- what the token of a number says that spells this lexeme with these bytes
abbrev pub lexeme_word : Lexeme → List ℕ → ℕ → Word
lexeme_word (l.Name kind) bytes at = name_word bytes at
lexeme_word (l.Literal value width signed) bytes at = literal_word bytes at
lexeme_word (l.Mark mark) bytes at = mark_word mark at
lexeme_word (l.Word r.With) bytes at = w.With
lexeme_word _ bytes at = w.Other

-- the token of the text, which has this number, says this
abbrev pub IsWordOf : List ℕ → ℕ → Token → Word → Type 0
IsWordOf text at token word = (lexeme : Lexeme) × IsTokenOf text token lexeme × (word ≡ lexeme_word lexeme (token_bytes text token) at)

-- what the tokens say, numbered from `at` on, and the end of the text behind them
abbrev pub AreWords : List ℕ → ℕ → List Token → List Word → Type 0
AreWords text at [] ws = ws ≡ w.End ∷ []
AreWords text at (t ∷ ts) [] = ⊥
AreWords text at (t ∷ ts) (x ∷ ws) = IsWordOf text at t x × AreWords text (suc at) ts ws

abbrev pub is_covergroup : Word → Bool
is_covergroup (w.Name k.CoverGroup at) = true
is_covergroup _ = false

abbrev pub is_function : Word → Bool
is_function (w.Name k.Function at) = true
is_function _ = false

abbrev pub is_sample : Word → Bool
is_sample (w.Name k.Sample at) = true
is_sample _ = false

abbrev pub is_bins : Word → Bool
is_bins (w.Name k.Bins at) = true
is_bins _ = false

abbrev pub is_name : Word → Bool
is_name (w.Name key at) = true
is_name _ = false

abbrev pub is_with : Word → Bool
is_with w.With = true
is_with _ = false

abbrev pub is_decimal : Word → Bool
is_decimal (w.Decimal at) = true
is_decimal _ = false

abbrev pub is_open_paren : Word → Bool
is_open_paren w.OpenParen = true
is_open_paren _ = false

abbrev pub is_close_paren : Word → Bool
is_close_paren w.CloseParen = true
is_close_paren _ = false

abbrev pub is_close_bracket : Word → Bool
is_close_bracket w.CloseBracket = true
is_close_bracket _ = false

abbrev pub is_open_brace : Word → Bool
is_open_brace w.OpenBrace = true
is_open_brace _ = false

abbrev pub is_colon : Word → Bool
is_colon w.Colon = true
is_colon _ = false

abbrev pub is_semicolon : Word → Bool
is_semicolon w.Semicolon = true
is_semicolon _ = false

abbrev pub is_comma : Word → Bool
is_comma w.Comma = true
is_comma _ = false

abbrev pub is_dot : Word → Bool
is_dot w.Dot = true
is_dot _ = false

abbrev pub is_equal : Word → Bool
is_equal w.Equal = true
is_equal _ = false

-- the number of the token, where it is kept
abbrev pub number_in : Word → ℕ
number_in (w.Name key at) = at
number_in (w.Decimal at) = at
number_in (w.Minus at) = at
number_in (w.OpenBracket at) = at
number_in _ = 0
