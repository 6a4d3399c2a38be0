use Rattle.std.proofs.Common.{◌≡◌, ◌^◌, ◌%◌, filter, drop}
use Rattle.std.specs.Str.Parse.{digits_value_after}
use Rattle.svr_token.specs.Bytes.{base_of}
use Rattle.svr_token.specs.Lexemes.{number_of}
use Rattle.svr_token.proofs.Numbers.{is_kept}
use Rattle.svr_token.proofs.number.number_modulo.Given as goal

abbrev pub invariant-loop-byte : goal.invariant-loop-byte
invariant-loop-byte l =
    digits_value_after (base_of l.fn.radix) l.number (filter is_kept (drop l.byte-index l.digits)) % 2 ^ 64 ≡ number_of (base_of l.fn.radix) l.digits % 2 ^ 64
