-- What comes of reading a list of tokens.
use Rattle.std.specs.Prelude.{ℕ, zero, suc, if◌then◌else◌, nat_le, ◌==◌, List, [], ◌∷◌, length, Option, Some, None, Result, Ok, Err}
use Rattle.svr_token.specs.declared.Lexeme.{Lexeme}
use Rattle.svr_tree.specs.Tokens.{Tok}

-- why a reading stops, and how many tokens are left there: the token, or the end of the text, can't stand there; the token begins a construct for which there is no room; or the reading is stuck, of which nothing is said and which no code answers
pub data Stop : Type 0 where
  Unexpected : ℕ → Stop
  TooDeep : ℕ → Stop
  Stuck : Stop

-- what was read, and the tokens that are left
abbrev pub Outcome : Type 0 → Type 0
Outcome A = Result (A × List Tok) Stop

abbrev pub Parser : Type 0 → Type 0
Parser A = List Tok → Outcome A

abbrev pub and_then : {A B : Type 0} → Outcome A → (A → Parser B) → Outcome B
and_then (Ok p) f = f p.0 p.1
and_then (Err e) f = Err e

-- what the next token spells
abbrev pub lexeme_at : List Tok → Option Lexeme
lexeme_at [] = None
lexeme_at (t ∷ i) = Some t.lexeme

abbrev pub number_at : List Tok → ℕ
number_at [] = 0
number_at (t ∷ i) = t.at

abbrev pub next : List Tok → List Tok
next [] = []
next (t ∷ i) = i

-- takes the next token, and gives its number
abbrev pub taken : Parser ℕ
taken [] = Err (Unexpected 0)
taken (t ∷ i) = Ok (t.at, i)

-- takes the token of a construct over a part of height h, where parts may be as high as r. A part is never higher than suc r
abbrev pub entered : ℕ → ℕ → Parser ℕ
entered r h [] = Err (Unexpected 0)
entered r h (t ∷ i) = if nat_le h r then Ok (t.at, i) else (if h == suc r then Err (TooDeep (suc (length i))) else Err Stuck)

-- a turn of a loop: it goes on from another state, or ends
pub data Turn (S A : Type 0) : Type 0 where
  go : S → Turn S A
  done : A → Turn S A

abbrev pub turned : {S A : Type 0} → (S → Parser A) → Turn S A → Parser A
turned more (go s) i = more s i
turned more (done a) i = Ok (a, i)

-- at most n turns
abbrev pub turns : {S A : Type 0} → ℕ → (S → Parser (Turn S A)) → S → Parser A
turns zero step s i = Err Stuck
turns (suc n) step s i = and_then (step s i) (turned (turns n step))
