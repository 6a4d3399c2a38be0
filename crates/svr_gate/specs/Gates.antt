-- Gates of any table
use Rattle.std.specs.Prelude.{◌==◌, ℕ, Bool, not, if◌then◌else◌}
use Rattle.std.specs.Int.{bit_at}

-- row i of a table
abbrev pub table_value : ℕ → ℕ → Bool
table_value table i = bit_at table i == 1

-- the value, or its negation
abbrev pub copy_of : Bool → Bool → Bool
copy_of same b = if same then b else not b
