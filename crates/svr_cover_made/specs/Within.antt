-- Numbers between levels: 0 stands at the level 2^32
use Rattle.std.specs.Prelude.{◌≡◌, ◌<◌, ◌^◌, ℕ, suc, ◌+◌, ℤ, pos, negsuc, Bool, ◌&&◌, nat_le, []}
use Rattle.std.specs.List.{list_any}
use Rattle.svr_num.specs.Num.{read_of}
use Rattle.svr_typed.specs.declared.class.NumType.{NumType}
use Rattle.svr_cover_union.specs.Union.{range_has}
use Rattle.svr_cover_made.specs.Stored.{with_range}

-- the level of a number is from one up to another; negsuc m is the number -1 - m
abbrev pub within : ℕ → ℕ → ℤ → Bool
within low high (pos n) = nat_le low (4294967296 + n) && nat_le (4294967296 + n) high
within low high (negsuc m) = nat_le (low + suc m) 4294967296 && nat_le 4294967296 (high + suc m)

-- the stored values of the numbers from one level up to another are just those that read as one of them, by the sign of the type
abbrev pub HoldTheirNumbers : NumType → Type 0
HoldTheirNumbers kind = (low high v : ℕ) → v < 2 ^ kind.width → list_any (range_has v) (with_range kind [] low high) ≡ within low high (read_of kind.signed kind.width v)
