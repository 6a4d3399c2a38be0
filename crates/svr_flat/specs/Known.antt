-- Classes that are known with what they inherit, when others are made.
use Rattle.std.specs.Prelude.{◌≡◌, ℕ, Bool, true, false, ◌&&◌, nat_lt, List, Option, None, Some, length, slice_index_or, if◌then◌else◌}
use Rattle.svr_typed.specs.ClassTerm.{FlatTerm, ClassTerm}
use Rattle.svr_flat.specs.Flat.{no_class, flat_class_of}

-- of so many classes one that is marked
abbrev pub knows : ℕ → List Bool → ℕ → Bool
knows count marks b = nat_lt b count && slice_index_or marks b false

-- each of these that is marked is known
abbrev pub AreKnown : List ClassTerm → List FlatTerm → List Bool → Type 0
AreKnown cs flats marks = (b : ℕ) → knows (length flats) marks b ≡ true → slice_index_or flats b no_class ≡ flat_class_of cs b

-- a class, unless it is known
abbrev pub unknown : ℕ → List Bool → Option ℕ → Option ℕ
unknown count marks None = None
unknown count marks (Some b) = if knows count marks b then None else Some b
