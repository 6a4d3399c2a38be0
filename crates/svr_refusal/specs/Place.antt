-- Places of a text by line and column, both from 1.
use Rattle.std.specs.Prelude.{ℕ, ◌+◌, ◌==◌, if◌then◌else◌, List, [], ◌∷◌, Option, Some, None, length, take, slice_get}
use Rattle.svr_token.specs.declared.token.Token.{Token}
use Rattle.svr_refusal.specs.declared.place.Place.{Place}

-- a newline begins the next line, and any other byte takes one column
abbrev pub past_byte : Place → ℕ → Place
past_byte p b = if b == 10 then record { line = p.line + 1; column = 1 } else record { line = p.line; column = p.column + 1 }

abbrev pub past : Place → List ℕ → Place
past p [] = p
past p (b ∷ bs) = past (past_byte p b) bs

-- the place of the byte of this number, counted from 0
abbrev pub place_of : List ℕ → ℕ → Place
place_of text at = past (record { line = 1; column = 1 }) (take at text)

-- where a token begins, and the end of the text behind the last one
abbrev pub start_of : List ℕ → Option Token → ℕ
start_of text None = length text
start_of text (Some token) = token.start

abbrev pub token_start : List ℕ → List Token → ℕ → ℕ
token_start text tokens n = start_of text (slice_get tokens n)
