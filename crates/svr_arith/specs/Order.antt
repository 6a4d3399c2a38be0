-- Comparison bit by bit
use Rattle.std.specs.Prelude.{Bool, ◌&&◌, ◌||◌, if◌then◌else◌}

-- two numbers in order: their highest bits are, or these are equal and the rest is in order
abbrev pub is_below : Bool → Bool → Bool → Bool
is_below p q low = if p then q && low else (q || low)
