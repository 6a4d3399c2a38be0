-- Gates as they are kept: a table, its inputs, and the order of these
use Rattle.std.specs.Prelude.{◌==◌, ℕ, zero, suc, ◌+◌, ◌-◌, ◌/◌, ◌%◌, ◌^◌, Bool, true, false, not, ◌&&◌, ◌||◌, nat_lt, List, ◌++◌, length, take, replicate, swap, slice_index_or, if◌then◌else◌}
use Rattle.std.specs.Int.{bit_at}
use Rattle.svr_chain.specs.declared.clause.Lit.{Lit}
use Rattle.svr_gate.specs.declared.gate.Gate.{Gate}
use Rattle.svr_gate.specs.Numbers.{number}
use Rattle.svr_gate.specs.Gates.{table_value}

-- a place without an input
abbrev pub no_input : Lit
no_input = record { var = 0; neg = false }

-- the inputs
abbrev pub inputs_of : Gate → List Lit
inputs_of g = take g.count g.places

-- four places of which the first have these inputs
abbrev pub places_of : List Lit → List Lit
places_of ls = ls ++ replicate (4 - length ls) no_input

-- what the gate is under a valuation
abbrev pub gate_value : Gate → (ℕ → Bool) → Bool
gate_value g a = table_value g.table (number a (inputs_of g))

-- each number below n passes the test
abbrev pub all_below : (ℕ → Bool) → ℕ → Bool
all_below p zero = true
all_below p (suc n) = all_below p n && p n

-- the row i has 1 at place j and 0 behind it, and the row with these two exchanged has another value
abbrev pub tells_apart : ℕ → ℕ → ℕ → Bool
tells_apart table j i = (i / 2 ^ j % 4 == 1) && not (bit_at table i == bit_at table (i + 2 ^ j))

-- no row tells the inputs at j and behind it apart
unfoldable pub is_symmetric_at : Gate → ℕ → Bool
is_symmetric_at g j = all_below (λ i. not (tells_apart g.table j i)) (2 ^ g.count)

-- the inputs at j and behind it are to change places, and may
abbrev pub is_to_exchange : ℕ → Gate → Bool
is_to_exchange j g =
    nat_lt (j + 1) g.count && (nat_lt (slice_index_or g.places (j + 1) no_input).var (slice_index_or g.places j no_input).var && is_symmetric_at g j)

-- the gate with its inputs at j and behind it in order, where it may be
unfoldable pub with_order_at : ℕ → Gate → Gate
with_order_at j g = if is_to_exchange j g then record g { places = swap g.places j (j + 1) } else g

-- the gate with its inputs in order, as far as they may be
abbrev pub in_order : Gate → Gate
in_order g = with_order_at 0 (with_order_at 1 (with_order_at 0 (with_order_at 2 (with_order_at 1 (with_order_at 0 g)))))
