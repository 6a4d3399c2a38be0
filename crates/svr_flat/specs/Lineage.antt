-- A class and the classes above it, from the class up to the one that extends none.
use Rattle.std.specs.Prelude.{ℕ, ◌+◌, List, [], ◌∷◌, Option, Some, None, slice_get, nat_lt, if◌then◌else◌}
use Rattle.svr_typed.specs.ClassTerm.{FlatTerm, ClassTerm}
use Rattle.svr_flat.specs.Flat.{no_class, derived_class, flat_class_of}

-- a number that is below n
abbrev pub below : ℕ → Option ℕ → Option ℕ
below n None = None
below n (Some b) = if nat_lt b n then Some b else None

abbrev pub class_base : Option ClassTerm → Option ℕ
class_base None = None
class_base (Some c) = c.base

-- the base of a class, where it stands before the class
abbrev pub base_before : List ClassTerm → ℕ → Option ℕ
base_before cs n = below n (class_base (slice_get cs n))

abbrev pub derived_if : FlatTerm → Option ClassTerm → FlatTerm
derived_if base None = no_class
derived_if base (Some c) = derived_class base c

-- the class of this number over what its base has
abbrev pub class_over : List ClassTerm → FlatTerm → ℕ → FlatTerm
class_over cs base n = derived_if base (slice_get cs n)

-- the classes of these numbers, each over those behind it
abbrev pub classes_over : List ClassTerm → List ℕ → FlatTerm → FlatTerm
classes_over cs [] base = base
classes_over cs (n ∷ ns) base = class_over cs (classes_over cs ns base) n

-- the class of a number, if there is one, with what it inherits
abbrev pub flat_if : List ClassTerm → Option ℕ → FlatTerm
flat_if cs None = no_class
flat_if cs (Some n) = flat_class_of cs n

-- how many numbers are at most this one
abbrev pub count_to : Option ℕ → ℕ
count_to None = 0
count_to (Some n) = n + 1
