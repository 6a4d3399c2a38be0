-- Words, marks and names: what takes them.
use Rattle.std.specs.Prelude.{ℕ, Bool, true, false, if◌then◌else◌, List, length, Option, Some, Ok, Err}
use denote.Enum.Bare.{sameb}
use Rattle.svr_token.specs.declared.Lexeme.{Lexeme}
use Rattle.svr_token.specs.declared.Lexeme.TheVariants as l
use Rattle.svr_token.specs.declared.Word.{Word}
use Rattle.svr_token.specs.declared.Mark.{Mark}
use Rattle.svr_token.specs.declared.NameKind.{NameKind}
use Rattle.svr_token.specs.contracts.Word as words
use Rattle.svr_token.specs.contracts.Mark as marks
use Rattle.svr_tree.specs.Tokens.{Tok}
use Rattle.svr_reader.specs.declared.fixed.Fixed.{Fixed}
use Rattle.svr_reader.specs.declared.fixed.Fixed.TheVariants as f
use Rattle.svr_reader.specs.Outcomes.{Unexpected, Parser, and_then, lexeme_at, taken}

-- `==` on words and on marks
unfoldable pub same_word : Word → Word → Bool
same_word = sameb words.the_type

unfoldable pub same_mark : Mark → Mark → Bool
same_mark = sameb marks.the_type

-- what the word or mark is as a lexeme
abbrev pub fixed_lexeme : Fixed → Lexeme
fixed_lexeme (f.Word w) = l.Word w
fixed_lexeme (f.Mark m) = l.Mark m

-- the token spells the word or mark
abbrev pub is_fixed : Fixed → Option Lexeme → Bool
is_fixed (f.Word w) (Some (l.Word v)) = same_word v w
is_fixed (f.Mark m) (Some (l.Mark k)) = same_mark k m
is_fixed _ _ = false

abbrev pub sees : Fixed → List Tok → Bool
sees k i = is_fixed k (lexeme_at i)

-- takes the word or mark, if it comes next
unfoldable pub eaten : Fixed → Parser Bool
eaten k i = if sees k i then and_then (taken i) (λ _ j. Ok (true, j)) else Ok (false, i)

-- takes the word or mark, which has to come next
unfoldable pub expected : Fixed → Parser (Unit {0})
expected k i = if sees k i then and_then (taken i) (λ _ j. Ok (tt, j)) else Err (Unexpected (length i))

abbrev pub named_by : Option Lexeme → Parser (ℕ × NameKind)
named_by (Some (l.Name k)) i = and_then (taken i) (λ n j. Ok ((n, k), j))
named_by _ i = Err (Unexpected (length i))

-- takes a name, which has to come next, and tells of which kind it is
unfoldable pub named : Parser (ℕ × NameKind)
named i = named_by (lexeme_at i) i
