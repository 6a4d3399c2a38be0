use Rattle.std.proofs.Common.{◌≡◌, ◌-◌}
use Rattle.svr_phase.specs.Sizes.{bits_from, cap_bits}
use Rattle.svr_sized.proofs.bits.cap_bits.Given as goal

abbrev pub invariant-loop-bits : goal.invariant-loop-bits
invariant-loop-bits l = bits_from (32 - l.bits) l.bits l.cap ≡ cap_bits l.cap
