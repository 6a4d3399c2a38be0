-- Operators of two bits, and of two numbers bit by bit (IEEE 1800-2017, 11.4.8)
use Rattle.std.specs.Prelude.{ℕ, Bool, ◌&&◌, ◌||◌, not, cond}
use Rattle.svr_num.specs.Num.{and_of, or_of, xor_of}
use Rattle.svr_vector.specs.declared.bitwise.Gate.{Gate}
use Rattle.svr_vector.specs.declared.bitwise.Gate.TheVariants.{Both, Either, Unequal}

abbrev pub bit_gate : Gate → Bool → Bool → Bool
bit_gate Both p q = p && q
bit_gate Either p q = p || q
bit_gate Unequal p q = cond p (not q) q

abbrev pub number_gate : Gate → ℕ → ℕ → ℕ
number_gate Both m n = and_of m n
number_gate Either m n = or_of m n
number_gate Unequal m n = xor_of m n
