-- Numbers among more bits than they have.
use Rattle.std.proofs.Common.{ℕ, ◌-◌, ◌^◌, ◌<◌, arith}
use Rattle.std.proofs.Math.Pow.{pow_mono}

pub wide_below : (w n : ℕ) → 64 < w → n < 2 ^ 64 → n < 2 ^ (w - 1)
wide_below w n wide small =
    let more = pow_mono {i = 64} {j = w - 1} (omega arith) in
    omega arith
