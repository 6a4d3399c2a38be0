-- All objects of a world together, as lists.
use Rattle.std.specs.Prelude.{ℕ, ◌/◌, ◌%◌, ◌≤◌, ℤ, pos, negsuc, List, Option, None, Some, length}
use Rattle.svr_limits.specs.declared.limit.TheConstants.{PROPERTY_LIMIT}
use Rattle.svr_world.specs.World.{WorldTerm, object_of, numbers_of, size_of, with_number}

-- the numbers, and the size, of a property of all objects together
abbrev pub numbers_in : WorldTerm → ℕ → List ℕ
numbers_in w q = numbers_of (object_of w (q / PROPERTY_LIMIT)) (q % PROPERTY_LIMIT)

abbrev pub size_in : WorldTerm → ℕ → ℕ
size_in w q = size_of (object_of w (q / PROPERTY_LIMIT)) (q % PROPERTY_LIMIT)

-- no more variables hold objects than there are variables
abbrev pub IsWhole : WorldTerm → Type 0
IsWhole w = length w.objects ≤ length w.script

-- the place that a number names, none where it is negative
abbrev pub placed : ℤ → Option ℕ
placed (pos i) = Some i
placed (negsuc i) = None

abbrev pub placed_at : WorldTerm → ℕ → ℕ → Option ℕ → ℕ → WorldTerm
placed_at w o p None v = w
placed_at w o p (Some i) v = with_number w o p i v
