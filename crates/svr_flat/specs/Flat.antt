-- A derived class (subclass) with what it inherits from its base class (superclass) (IEEE 1800-2017, 8.13 to 8.15 and 18.5.2).
use Rattle.std.specs.Prelude.{ℕ, Bool, not, List, [], ◌∷◌, ◌++◌, Option, Some, None, filter, bytes_eq, slice_index_or}
use Rattle.std.specs.List.{list_any}
use Rattle.svr_typed.specs.ClassTerm.{BlockTerm, FlatTerm, ClassTerm}

-- no properties and no blocks
abbrev pub no_class : FlatTerm
no_class = record { props = []; blocks = [] }

-- one of the blocks has this name
abbrev pub has_block : List ℕ → List BlockTerm → Bool
has_block name blocks = list_any (λ b. bytes_eq b.name name) blocks

-- the inherited blocks but those that a block of the class replaces (18.5.2)
abbrev pub not_replaced : List BlockTerm → List BlockTerm → List BlockTerm
not_replaced own inherited = filter (λ b. not (has_block b.name own)) inherited

-- the properties and blocks of the base class first, then those of the derived class, so that a block that replaces one stands at its own place
abbrev pub derived_class : FlatTerm → ClassTerm → FlatTerm
derived_class base c = record { props = base.props ++ c.props; blocks = not_replaced c.blocks base.blocks ++ c.blocks }

abbrev pub base_of : List FlatTerm → Option ℕ → FlatTerm
base_of earlier None = no_class
base_of earlier (Some b) = slice_index_or earlier b no_class

-- the classes in their order, behind earlier ones; the base of a class stands before it
abbrev pub flat_after : List FlatTerm → List ClassTerm → List FlatTerm
flat_after earlier [] = earlier
flat_after earlier (c ∷ cs) = flat_after (earlier ++ derived_class (base_of earlier c.base) c ∷ []) cs

-- all classes of a script with what they inherit
abbrev pub flat_classes : List ClassTerm → List FlatTerm
flat_classes cs = flat_after [] cs

-- the class of this number with what it inherits
unfoldable pub flat_class_of : List ClassTerm → ℕ → FlatTerm
flat_class_of cs n = slice_index_or (flat_classes cs) n no_class
