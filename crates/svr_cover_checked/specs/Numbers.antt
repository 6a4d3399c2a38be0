-- The numbers that `bins` write, and what is refused of their ranges (IEEE 1800-2017, 19.5.1)
use Rattle.std.specs.Prelude.{ℕ, suc, ◌+◌, ◌-◌, min, Bool, ◌&&◌, not, nat_lt, nat_le, List, [], ◌∷◌, ◌++◌, take, Option, None, Some, if◌then◌else◌}
use Rattle.std.specs.List.{list_any}
use Rattle.svr_token.specs.Lexemes.{number_of}
use Rattle.svr_token.specs.declared.lexeme.Lexeme.{Lexeme}
use Rattle.svr_token.specs.declared.lexeme.Lexeme.TheVariants as l
use Rattle.svr_refusal.specs.declared.refusal.Refusal.{Refusal}
use Rattle.svr_refusal.specs.declared.refusal.Refusal.TheVariants as refusal
use Rattle.svr_refusal.specs.Numbers as numbers
use Rattle.svr_cover_text.specs.declared.text.NumText.{NumText}
use Rattle.svr_cover_text.specs.declared.text.RangeText.{RangeText}
use Rattle.svr_cover_text.specs.declared.text.BinsText.{BinsText}
use Rattle.svr_cover_checked.specs.declared.fault.CoverFault.{CoverFault}
use Rattle.svr_cover_checked.specs.declared.fault.CoverFault.TheVariants as e
use Rattle.svr_cover_checked.specs.declared.limits.TheConstants.{MOST_BINS}

-- what the token of a number spells
abbrev pub Spelling : Type 0
Spelling = ℕ → List ℕ

-- nothing, or a refusal at a token
abbrev pub unless : Bool → Refusal → ℕ → List CoverFault
unless fine why token = if fine then [] else e.Refused (numbers.number_of why) token ∷ []

abbrev pub first_of : List CoverFault → Option CoverFault
first_of [] = None
first_of (r ∷ rs) = Some r

-- the number that a decimal literal writes; none that a text may have is greater than the greatest here
abbrev pub value_of : List ℕ → ℕ
value_of bytes = min (number_of 10 bytes) 4294967295

-- the value of a literal, none of which is greater than the greatest here
abbrev pub literal_value : Lexeme → ℕ
literal_value (l.Literal value width signed) = min value 4294967295
literal_value _ = 0

-- where a number stands among those that may be written: 0 stands at 2^32
abbrev pub level_of : Spelling → NumText → ℕ
level_of text n = if n.negative then 4294967296 - value_of (text n.digits) else 4294967296 + value_of (text n.digits)

abbrev pub low_of : Spelling → RangeText → ℕ
low_of text r = level_of text r.low

abbrev pub or_low : Spelling → RangeText → Option NumText → ℕ
or_low text r None = level_of text r.low
or_low text r (Some n) = level_of text n

abbrev pub high_of : Spelling → RangeText → ℕ
high_of text r = or_low text r r.high

-- no number is from the lower bound up to the upper one
abbrev pub is_empty : Spelling → RangeText → Bool
is_empty text r = nat_lt (high_of text r) (low_of text r)

abbrev pub distance : ℕ → ℕ → ℕ
distance low high = if nat_lt high low then 0 else high - low + 1

abbrev pub size_of : Spelling → RangeText → ℕ
size_of text r = distance (low_of text r) (high_of text r)

-- some number is in both, the first of which has one
abbrev pub overlap : Spelling → RangeText → RangeText → Bool
overlap text r q = not (is_empty text q) && (nat_le (low_of text r) (high_of text q) && nat_le (low_of text q) (high_of text r))

abbrev pub fits : Spelling → Bool → List RangeText → RangeText → Bool
fits text each earlier r = not (is_empty text r) && not (each && list_any (overlap text r) earlier)

-- a range without numbers, or with `[]` one that has a number of an earlier range. `all` are the ranges of the `bins`, and i stand before
abbrev pub ranges_refusals : Spelling → Bool → List RangeText → ℕ → List RangeText → List CoverFault
ranges_refusals text each all i [] = []
ranges_refusals text each all i (r ∷ rs) = unless (fits text each (take i all) r) refusal.BadBins r.at ++ ranges_refusals text each all (suc i) rs

-- how many numbers ranges have, up to one more than there may be bins
abbrev pub sizes : Spelling → ℕ → List RangeText → ℕ
sizes text sum [] = sum
sizes text sum (r ∷ rs) = sizes text (min (sum + size_of text r) (MOST_BINS + 1)) rs

-- how many bins a `bins` is: one, or with `[]` one a number that is written
abbrev pub bins_count : Spelling → BinsText → ℕ
bins_count text b = if b.each then sizes text 0 b.ranges else 1
