-- The script of a text that begins with cover groups: what stands there is blank, but for its newlines, so that each place of the script is that of the text
use Rattle.std.specs.Prelude.{ℕ, ◌-◌, ◌==◌, List, ◌++◌, map, take, drop, Option, None, Some, slice_get, if◌then◌else◌}
use Rattle.svr_token.specs.declared.token.Token.{Token}

-- a byte of the groups, as the script has it
abbrev pub blank : ℕ → ℕ
blank b = if b == 10 then 10 else 32

abbrev pub stop_of : Option Token → ℕ
stop_of None = 0
stop_of (Some token) = token.stop

-- where groups end that are written by so many tokens: behind the last of these
abbrev pub groups_end : List Token → ℕ → ℕ
groups_end tokens used = if used == 0 then 0 else stop_of (slice_get tokens (used - 1))

-- the bytes before this place are blank
abbrev pub blank_before : ℕ → List ℕ → List ℕ
blank_before place text = map blank (take place text) ++ drop place text

abbrev pub script_of : List ℕ → List Token → ℕ → List ℕ
script_of text tokens used = blank_before (groups_end tokens used) text
