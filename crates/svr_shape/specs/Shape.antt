-- Shifts by kind, and the bit that fills
use Rattle.std.specs.Prelude.{ℕ, ◌-◌, ◌^◌, Bool, true, false, ◌&&◌, not, nat_lt, List, ◌++◌, length, take, drop, replicate}
use Rattle.svr_chain.specs.declared.clause.Lit.{Lit}
use Rattle.svr_num.specs.Num.{shl_of, shr_of, sar_of}
use Rattle.svr_shape.specs.declared.kind.ShiftKind.{ShiftKind}
use Rattle.svr_shape.specs.declared.kind.ShiftKind.TheVariants.{Left, Right, Signed}

-- a number of w bits shifted (IEEE 1800-2017, clause 11.4.10)
abbrev pub shift_of : ShiftKind → ℕ → ℕ → ℕ → ℕ
shift_of Left w n by = shl_of w n by
shift_of Right w n by = shr_of n by
shift_of Signed w n by = sar_of w n by

abbrev pub is_signed : ShiftKind → Bool
is_signed Left = false
is_signed Right = false
is_signed Signed = true

-- the bit that fills: the sign bit of w bits, or 0
abbrev pub fill_of : Bool → ℕ → ℕ → Bool
fill_of signed w n = signed && not (nat_lt n (2 ^ (w - 1)))

-- literals moved by k places, least bit first
abbrev pub moved_of : ShiftKind → Lit → ℕ → List Lit → List Lit
moved_of Left fill k v = replicate k fill ++ take (length v - k) v
moved_of Right fill k v = drop k v ++ replicate k fill
moved_of Signed fill k v = drop k v ++ replicate k fill
