-- The names of blocks in flat order, worked out by hand from the rules of the standard (IEEE 1800-2017, 8.13 and 18.5.2).
use Rattle.std.specs.Prelude.{ℕ, Bool, true, false, ◌&&◌, List, [], ◌∷◌, Option, Some, None}
use Rattle.svr_elab_names.specs.Names.{ClassName, is_same}
use Rattle.svr_elab_target.specs.Blocks.{class_blocks}

-- names of one letter
abbrev pub letters : List ℕ → List (List ℕ)
letters [] = []
letters (n ∷ ns) = (n ∷ []) ∷ letters ns

-- a class with this base that declares blocks of these letters
abbrev pub class_with : Option ℕ → List ℕ → ClassName
class_with base ns = record { name = []; base = base; props = []; inherited = 0; blocks = letters ns }

-- classes, the number of one of them, and the letters of its blocks in flat order
abbrev pub Flat : Type 0
Flat = List ClassName × ℕ × List ℕ

abbrev pub are_letters : List (List ℕ) → List ℕ → Bool
are_letters [] [] = true
are_letters [] (n ∷ ns) = false
are_letters (b ∷ bs) [] = false
are_letters (b ∷ bs) (n ∷ ns) = is_same b (n ∷ []) && are_letters bs ns

abbrev pub is_so : Flat → Bool
is_so f = are_letters (class_blocks f.0 f.1) f.2

abbrev pub first_class : ClassName
first_class = class_with None (112 ∷ [])

abbrev pub long_chain : List ClassName
long_chain = class_with None (112 ∷ 113 ∷ []) ∷ class_with (Some 0) (113 ∷ 115 ∷ []) ∷ class_with (Some 1) (114 ∷ []) ∷ class_with (Some 2) (112 ∷ 113 ∷ []) ∷ []

abbrev pub flat_blocks : List Flat
flat_blocks =
    -- its own
    (first_class ∷ [], 0, 112 ∷ [])
    -- inherited ones come first
    ∷ (first_class ∷ class_with (Some 0) (113 ∷ []) ∷ [], 1, 112 ∷ 113 ∷ [])
    -- a block takes the place of the inherited one of its name, and stands at its own place
    ∷ (first_class ∷ class_with (Some 0) (113 ∷ 112 ∷ []) ∷ [], 1, 113 ∷ 112 ∷ [])
    -- of a chain
    ∷ (long_chain, 1, 112 ∷ 113 ∷ 115 ∷ [])
    ∷ (long_chain, 2, 112 ∷ 113 ∷ 115 ∷ 114 ∷ [])
    ∷ (long_chain, 3, 115 ∷ 114 ∷ 112 ∷ 113 ∷ [])
    -- no such class, and a base that does not stand before its class
    ∷ (first_class ∷ [], 1, [])
    ∷ (class_with (Some 1) (112 ∷ []) ∷ class_with (Some 0) (113 ∷ []) ∷ [], 0, 112 ∷ [])
    ∷ []
