use Rattle.std.proofs.Common.{◌≡◌, ◌<◌, ◌^◌, not, ◌==◌, filter, drop}
use Rattle.std.specs.Str.Parse.{digits_value_after}
use Rattle.svr_token.specs.Bytes.{base_of}
use Rattle.svr_token.specs.Lexemes.{number_of}
use Rattle.svr_token.proofs.number.number_below.Given as goal

abbrev pub invariant-loop-byte : goal.invariant-loop-byte
invariant-loop-byte l = record {
  fits : l.number < 2 ^ 32;
  value : digits_value_after (base_of l.fn.radix) l.number (filter (λ b. not (b == 95)) (drop l.byte-index l.digits)) ≡ number_of (base_of l.fn.radix) l.digits;
}
