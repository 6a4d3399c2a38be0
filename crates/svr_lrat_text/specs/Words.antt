-- The tokens of a text: the runs of bytes between blanks, each with its place, and the end of the text
use Rattle.std.specs.Prelude.{◌≡◌, ℕ, ◌+◌, ◌-◌, ◌*◌, Bool, true, false, not, ◌==◌, ◌&&◌, nat_eq, nat_le, min, List, [], ◌∷◌, ◌++◌, map, fold, Option, None, Some, if◌then◌else◌}
use Rattle.std.specs.List.{list_any, list_all}
use Rattle.std.specs.Cmp.Lexicographic.{pointwise}
use Rattle.svr_lrat_text.specs.declared.limits.TheConstants.{MOST_SIZE}
use Rattle.svr_lrat_file.specs.declared.file.Number.{Number}
use Rattle.svr_lrat_text.specs.declared.word.Word.{Word}
use Rattle.svr_lrat_text.specs.declared.word.Word.TheVariants as w
use Rattle.svr_lrat_text.specs.declared.cursor.Token.{Token}
use Rattle.svr_lrat_text.specs.declared.header.Part.{Part}
use Rattle.svr_lrat_text.specs.declared.header.Part.TheVariants as part

-- space, tab, newline, carriage return
abbrev pub is_blank : ℕ → Bool
is_blank b = list_any (λ g. b == g) (32 ∷ 9 ∷ 10 ∷ 13 ∷ [])

abbrev pub is_digit : ℕ → Bool
is_digit b = nat_le 48 b && nat_le b 57

-- one digit or more, and nothing else
abbrev pub is_numeral : List ℕ → Bool
is_numeral [] = false
is_numeral (b ∷ bs) = list_all is_digit (b ∷ bs)

-- one more digit
abbrev pub with_digit : ℕ → ℕ → ℕ
with_digit n b = n * 10 + (b - 48)

-- the number that the digits write
abbrev pub value_of : List ℕ → ℕ
value_of bs = fold with_digit 0 bs

-- a sign and digits. 0 has no sign, and sizes above each limit are one
abbrev pub signed_number : Bool → ℕ → Number
signed_number negative size = record { negative = negative && not (size == 0); size = size }

abbrev pub signed_word : Bool → List ℕ → Word
signed_word negative bs = if is_numeral bs then w.Number (signed_number negative (min (value_of bs) MOST_SIZE)) else w.Other

abbrev pub number_word : List ℕ → Word
number_word [] = w.Other
number_word (b ∷ bs) = if b == 45 then signed_word true bs else signed_word false (b ∷ bs)

abbrev pub is_same : List ℕ → List ℕ → Bool
is_same x y = pointwise nat_eq x y

-- what the bytes of a token say: `p`, `cnf`, `d`, a number, or nothing that a file holds
abbrev pub word_of : List ℕ → Word
word_of bs =
    if is_same bs (112 ∷ []) then w.Problem
    else if is_same bs (99 ∷ 110 ∷ 102 ∷ []) then w.Cnf
    else if is_same bs (100 ∷ []) then w.Delete
    else number_word bs

-- what the bytes of a token say. No bytes are left at the end of the text
abbrev pub token_word : List ℕ → Word
token_word [] = w.End
token_word (b ∷ bs) = word_of (b ∷ bs)

-- a blank, or another byte
abbrev pub is_of_kind : Bool → ℕ → Bool
is_of_kind true b = is_blank b
is_of_kind false b = not (is_blank b)

-- the text ends, or goes on with a byte of the other kind
abbrev pub Ends : Bool → List ℕ → Type 0
Ends blank [] = Unit {0}
Ends blank (b ∷ bs) = is_of_kind blank b ≡ false

-- the bytes up to the first blank
abbrev pub run : List ℕ → List ℕ
run [] = []
run (b ∷ bs) = if is_blank b then [] else b ∷ run bs

-- a token starts at a byte that is not blank and stands behind a blank
abbrev pub starts : Bool → ℕ → ℕ → List ℕ → List Token
starts behind_blank at b bs = if (behind_blank && not (is_blank b)) then record { at = at; word = word_of (b ∷ run bs) } ∷ [] else []

-- the tokens from a place on
unfoldable pub tokens : Bool → ℕ → List ℕ → List Token
tokens behind_blank at [] = record { at = at; word = w.End } ∷ []
tokens behind_blank at (b ∷ bs) = starts behind_blank at b bs ++ tokens (is_blank b) (at + 1) bs

-- Before the header stand blanks, and lines whose first byte is `c`.
abbrev pub after_blank : ℕ → Part
after_blank b = if b == 10 then part.LineStart else if is_blank b then part.Blank else part.Header

-- in what part the next byte stands
abbrev pub after_byte : Part → ℕ → Part
after_byte part.LineStart b = if b == 99 then part.Comment else after_blank b
after_byte part.Blank b = after_blank b
after_byte part.Comment b = if b == 10 then part.LineStart else part.Comment
after_byte part.Header b = part.Header

abbrev pub is_header : Part → Bool
is_header part.LineStart = false
is_header part.Blank = false
is_header part.Comment = false
is_header part.Header = true

-- the tokens from the header on
unfoldable pub tokens_in : Part → ℕ → List ℕ → List Token
tokens_in p at [] = tokens true at []
tokens_in p at (b ∷ bs) = elim (is_header (after_byte p b)) [ true ↦ tokens true at (b ∷ bs) | false ↦ tokens_in (after_byte p b) (at + 1) bs ]

-- the tokens of a text, the last of which is its end
abbrev pub tokens_of : List ℕ → List Token
tokens_of text = tokens_in part.LineStart 0 text

abbrev pub words : List Token → List Word
words ts = map (λ t. t.word) ts

-- ---- what a word is

abbrev pub is_problem : Word → Bool
is_problem w.Problem = true
is_problem w.Cnf = false
is_problem w.Delete = false
is_problem (w.Number n) = false
is_problem w.Other = false
is_problem w.End = false

abbrev pub is_cnf : Word → Bool
is_cnf w.Problem = false
is_cnf w.Cnf = true
is_cnf w.Delete = false
is_cnf (w.Number n) = false
is_cnf w.Other = false
is_cnf w.End = false

abbrev pub is_delete : Word → Bool
is_delete w.Problem = false
is_delete w.Cnf = false
is_delete w.Delete = true
is_delete (w.Number n) = false
is_delete w.Other = false
is_delete w.End = false

abbrev pub is_end : Word → Bool
is_end w.Problem = false
is_end w.Cnf = false
is_end w.Delete = false
is_end (w.Number n) = false
is_end w.Other = false
is_end w.End = true

abbrev pub number_in : Word → Option Number
number_in w.Problem = None
number_in w.Cnf = None
number_in w.Delete = None
number_in (w.Number n) = Some n
number_in w.Other = None
number_in w.End = None

abbrev pub is_zero : Number → Bool
is_zero n = not n.negative && (n.size == 0)
