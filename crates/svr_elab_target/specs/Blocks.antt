-- The names of the blocks of classes in flat order: those of the base that no block of the class replaces, and then its own (IEEE 1800-2017, 18.5.2).
use Rattle.std.specs.Prelude.{ℕ, nat_lt, if◌then◌else◌, List, [], ◌∷◌, ◌++◌, Option, Some, None, option_map, slice_get, slice_index_or}
use Rattle.std.specs.List.{list_any}
use Rattle.svr_elab_names.specs.Names.{ClassName, is_same, find}

-- the blocks that none of these names replaces
abbrev pub without : List (List ℕ) → List (List ℕ) → List (List ℕ)
without own [] = []
without own (b ∷ bs) = if list_any (is_same b) own then without own bs else b ∷ without own bs

-- those of the base of a class
abbrev pub names_at : List (List (List ℕ)) → Option ℕ → List (List ℕ)
names_at done None = []
names_at done (Some b) = slice_index_or done b []

-- of a class behind these; its base stands before it
abbrev pub flat_names : List (List (List ℕ)) → ClassName → List (List ℕ)
flat_names done c = without c.blocks (names_at done c.base) ++ c.blocks

-- of each class in its order, behind earlier ones
abbrev pub flat_names_after : List (List (List ℕ)) → List ClassName → List (List (List ℕ))
flat_names_after done [] = done
flat_names_after done (c ∷ cs) = flat_names_after (done ++ flat_names done c ∷ []) cs

-- of the class of this number
abbrev pub class_blocks : List ClassName → ℕ → List (List ℕ)
class_blocks cs k = slice_index_or (flat_names_after [] cs) k []

-- the place of a block among them
abbrev pub block_number : List ClassName → ℕ → List ℕ → Option ℕ
block_number cs k q = option_map (λ f. f.0) (find (λ b. b) q (class_blocks cs k))

-- ---- along the classes that a class extends

abbrev pub blocks_of : Option ClassName → List (List ℕ)
blocks_of None = []
blocks_of (Some c) = c.blocks

-- the blocks that the class of this number declares itself
abbrev pub own_names : List ClassName → ℕ → List (List ℕ)
own_names cs k = blocks_of (slice_get cs k)

-- a number that is below n
abbrev pub below : ℕ → Option ℕ → Option ℕ
below n None = None
below n (Some b) = if nat_lt b n then Some b else None

abbrev pub base_of : Option ClassName → Option ℕ
base_of None = None
base_of (Some c) = c.base

-- the base of a class, where it stands before the class
abbrev pub base_before : List ClassName → ℕ → Option ℕ
base_before cs n = below n (base_of (slice_get cs n))

-- a name in front of others, unless it is there
abbrev pub and_front : List (List ℕ) → List ℕ → List (List ℕ)
and_front names q = if list_any (is_same q) names then names else q ∷ names

-- names in front of others, from the last one back
abbrev pub all_front : List (List ℕ) → List (List ℕ) → List (List ℕ)
all_front names [] = names
all_front names (q ∷ qs) = and_front (all_front names qs) q
