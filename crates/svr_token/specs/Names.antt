-- What the tokens of a text spell, by number.
use Rattle.std.specs.Prelude.{ℕ, List, [], Option, Some, None, slice_get}
use Rattle.svr_token.specs.declared.token.Token.{Token}
use Rattle.svr_token.specs.Tokens.{token_bytes}
use Rattle.svr_token.specs.declared.names.Names.{Names}

-- what a token spells, none where there is no token
abbrev pub bytes_of : List ℕ → Option Token → List ℕ
bytes_of text None = []
bytes_of text (Some token) = token_bytes text token

-- the name that stands at the token of this number
abbrev pub name_at : List ℕ → List Token → ℕ → List ℕ
name_at text tokens n = bytes_of text (slice_get tokens n)

abbrev pub names_of : Names → ℕ → List ℕ
names_of names n = name_at names.text.now names.tokens.now n
