-- Classes with their first refusal, or the last of them with its properties in flat order and the blocks that it declares itself, worked out by hand from the rules of the standard (IEEE 1800-2017, clauses 7, 8 and 18).
use Rattle.std.specs.Prelude.{ℕ, ◌==◌, Bool, true, false, not, ◌&&◌, List, [], ◌∷◌, Option, Some, None}
use Rattle.svr_operator.specs.declared.Rand.{Rand}
use Rattle.svr_operator.specs.declared.Rand.TheVariants as rand
use Rattle.svr_tree.specs.declared.AtomKind.TheVariants as atom_kind
use Rattle.svr_tree.specs.ExprTree.{ExprTree}
use Rattle.svr_tree.specs.ItemTree as item
use Rattle.svr_tree.specs.DeclTree as tree
use Rattle.svr_tree.specs.DeclTree.{DataTypeTree, DimensionTree, DeclaratorTree, ClassItemTree, TypeTree, ClassTree}
use Rattle.svr_elab_fault.specs.declared.Fault.{Fault}
use Rattle.svr_elab_fault.specs.Refusals.{all, least}
use Rattle.svr_elab_names.specs.Names.{PropName, ClassName, is_same}
use Rattle.svr_elab_type.specs.Types.{GlobalsElab, declaring, type_decl}
use Rattle.svr_elab_type.specs.Examples.{spelled, int, named, bits, atom, enum, member, is_at, is_clear}
use Rattle.svr_elab_class.specs.Classes.{class_decl}

-- ---- declarations; the letter of a name is that of the last two digits of its token

abbrev pub byte_type : DataTypeTree
byte_type = tree.integer (atom atom_kind.Byte None)

-- so many bits
abbrev pub bit_type : ℕ → DataTypeTree
bit_type msb = tree.integer (bits None (int 102 msb) (int 103 0))

abbrev pub scalar : ℕ → DeclaratorTree
scalar name = record { name = name; dims = []; value = None }

abbrev pub valued : ℕ → ExprTree → DeclaratorTree
valued name value = record { name = name; dims = []; value = Some value }

abbrev pub array : ℕ → DimensionTree → DeclaratorTree
array name d = record { name = name; dims = d ∷ []; value = None }

abbrev pub matrix : ℕ → DimensionTree → DimensionTree → DeclaratorTree
matrix name d e = record { name = name; dims = d ∷ (e ∷ []); value = None }

abbrev pub property : Rand → DataTypeTree → DeclaratorTree → ClassItemTree
property r kind d = tree.property (record { rand = r; kind = kind; decls = d ∷ [] })

abbrev pub block : ℕ → ClassItemTree
block name = tree.block (record { name = name; items = item.no_items })

abbrev pub class : ℕ → List ClassItemTree → ClassTree
class name items = record { name = name; base = None; items = items; label = None }

abbrev pub derived : ℕ → ℕ → List ClassItemTree → ClassTree
derived name base items = record { name = name; base = Some base; items = items; label = None }

abbrev pub labelled : ℕ → ℕ → ClassTree
labelled name label = record { name = name; base = None; items = []; label = Some label }

-- ---- cases

-- a property by its letter, the class that declares it, and whether it can be random
abbrev pub Flat : Type 0
Flat = ℕ × ℕ × Bool

pub data Case : Type 0 where
  refused : List TypeTree → List ClassTree → ℕ → ℕ → Case
  flat : List ClassTree → List Flat → List ℕ → Case

abbrev pub Known : Type 0
Known = GlobalsElab (List Fault)

abbrev pub with_types : Known → List TypeTree → Known
with_types s [] = s
with_types s (t ∷ ts) = with_types (type_decl all s t) ts

abbrev pub with_classes : Known → List ClassTree → Known
with_classes s [] = s
with_classes s (c ∷ cs) = with_classes (class_decl all s c) cs

-- types first
abbrev pub declared : List TypeTree → List ClassTree → Known
declared ts cs = with_classes (with_types (record { names = declaring spelled [] []; enums = []; faults = [] }) ts) cs

abbrev pub last_class : List ClassName → Option ClassName
last_class [] = None
last_class (c ∷ []) = Some c
last_class (c ∷ (d ∷ cs)) = last_class (d ∷ cs)

abbrev pub is_letter : List ℕ → ℕ → Bool
is_letter q n = is_same q (n ∷ [])

abbrev pub is_true : Bool → Bool → Bool
is_true true b = b
is_true false b = not b

abbrev pub is_flat : List PropName → List Flat → Bool
is_flat [] [] = true
is_flat [] (f ∷ fs) = false
is_flat (p ∷ ps) [] = false
is_flat (p ∷ ps) (f ∷ fs) = is_letter p.name f.0 && ((p.property.home == f.1) && (is_true f.2 p.property.random && is_flat ps fs))

abbrev pub are_letters : List (List ℕ) → List ℕ → Bool
are_letters [] [] = true
are_letters [] (n ∷ ns) = false
are_letters (b ∷ bs) [] = false
are_letters (b ∷ bs) (n ∷ ns) = is_letter b n && are_letters bs ns

abbrev pub is_class : Option ClassName → List Flat → List ℕ → Bool
is_class None fs bs = false
is_class (Some c) fs bs = is_flat c.props fs && are_letters c.blocks bs

abbrev pub is_so : Case → Bool
is_so (refused ts cs number token) = is_at (least (declared ts cs).faults) number token
is_so (flat cs fs bs) = is_clear (declared [] cs).faults && is_class (last_class (declared [] cs).names.classes) fs bs

-- `class a` with a random `x`, a plain `y` and a block `p`
abbrev pub first_class : ClassTree
first_class = class 200 (property rand.Rand byte_type (scalar 223) ∷ property rand.State byte_type (scalar 324) ∷ block 415 ∷ [])

-- inherited properties come first and stay what they are; a block may have the name of an inherited one
abbrev pub flat_classes : List Case
flat_classes =
    flat (first_class ∷ []) ((120, 0, true) ∷ (121, 0, false) ∷ []) (112 ∷ [])
    ∷ flat (first_class ∷ derived 501 600 (property rand.Randc (bit_type 7) (scalar 725) ∷ block 816 ∷ []) ∷ []) ((120, 0, true) ∷ (121, 0, false) ∷ (122, 1, true) ∷ []) (113 ∷ [])
    ∷ flat (first_class ∷ derived 501 600 (block 716 ∷ block 815 ∷ []) ∷ []) ((120, 0, true) ∷ (121, 0, false) ∷ []) (113 ∷ 112 ∷ [])
    ∷ []

abbrev pub base_classes : List Case
base_classes =
    -- no such class
    refused [] (derived 501 625 [] ∷ []) 7 625
    -- a class does not stand before its own head
    ∷ refused [] (derived 501 601 [] ∷ []) 7 601
    -- a name of the base
    ∷ refused [] (first_class ∷ derived 501 600 (property rand.Rand byte_type (scalar 723) ∷ []) ∷ []) 24 723
    -- a block may have the name of an inherited property
    ∷ flat (first_class ∷ derived 501 600 (block 723 ∷ []) ∷ []) ((120, 0, true) ∷ (121, 0, false) ∷ []) (120 ∷ [])
    -- a class twice, and a label of another name
    ∷ refused [] (class 200 [] ∷ class 300 [] ∷ []) 8 300
    ∷ refused [] (labelled 200 301 ∷ []) 7 301
    ∷ []

abbrev pub properties : List Case
properties =
    -- two of one name, also where one is a block
    refused [] (class 200 (property rand.Rand byte_type (scalar 223) ∷ property rand.State byte_type (scalar 323) ∷ []) ∷ []) 8 323
    ∷ refused [] (class 200 (property rand.Rand byte_type (scalar 223) ∷ block 323 ∷ []) ∷ []) 8 323
    -- 9 bits, and 8
    ∷ refused [] (class 200 (property rand.Randc (bit_type 8) (scalar 223) ∷ []) ∷ []) 13 223
    ∷ flat (class 200 (property rand.Randc (bit_type 7) (scalar 223) ∷ []) ∷ []) ((120, 0, true) ∷ []) []
    -- an array
    ∷ refused [] (class 200 (property rand.Randc byte_type (array 223 tree.dynamic) ∷ []) ∷ []) 24 223
    -- of a class, also of the class itself
    ∷ refused [] (class 200 (property rand.State (tree.named 222) (scalar 223) ∷ []) ∷ []) 7 222
    ∷ refused [] (class 200 (property rand.State (tree.named 300) (scalar 323) ∷ []) ∷ []) 24 323
    -- 2,048 elements, and one more
    ∷ flat (class 200 (property rand.State byte_type (array 223 (tree.size (int 224 2048))) ∷ []) ∷ []) ((120, 0, false) ∷ []) []
    ∷ refused [] (class 200 (property rand.State byte_type (array 223 (tree.size (int 224 2049))) ∷ []) ∷ []) 25 223
    ∷ refused [] (class 200 (property rand.State byte_type (array 223 (tree.size (int 224 0))) ∷ []) ∷ []) 11 224
    -- 45 times 46 is over 2,048; a queue has no second dimension
    ∷ refused [] (class 200 (property rand.State byte_type (matrix 223 (tree.size (int 224 45)) (tree.size (int 225 46))) ∷ []) ∷ []) 25 223
    ∷ refused [] (class 200 (property rand.State byte_type (matrix 223 tree.queue (tree.size (int 225 46))) ∷ []) ∷ []) 24 223
    -- a value that is no constant, also of a property further down
    ∷ refused [] (class 200 (property rand.State byte_type (valued 223 (named 324)) ∷ property rand.State byte_type (scalar 424) ∷ []) ∷ []) 10 324
    -- a number for an enum
    ∷ refused (enum None (member 201 None ∷ []) ∷ []) (class 902 (property rand.State (tree.named 1000) (valued 1123 (int 1124 0)) ∷ []) ∷ []) 23 1124
    ∷ []
