-- How large an index is.
use Rattle.std.proofs.Common.{ℕ, pos, negsuc, suc, ◌-◌, ◌^◌, ◌<◌, ◌≤ℤ◌, Bool, true, false, cond, arith}
use Rattle.std.specs.Prelude.{nat_lt}
use Rattle.std.proofs.lemmas.Int.{ints}
use Rattle.svr_num.specs.Num.{signed_of}

pub signed_below : (w v : ℕ) → v < 2 ^ 64 → signed_of w v ≤ℤ pos (2 ^ 64)
signed_below w v h = by (nat_lt v (2 ^ (w - 1)))
  where
    by : (b : Bool) → cond b (pos v) (negsuc (2 ^ w - suc v)) ≤ℤ pos (2 ^ 64)
    by true = omega (arith, ints, h)
    by false = omega (arith, ints)
