-- A derived class that was worked out by hand: D extends B; both have a block c, and B has a block e behind it. D has B's e, and then its own c.
use Rattle.std.specs.Prelude.{ℕ, List, [], ◌∷◌, ◌++◌, Some, None, map, codes, pos, true, false}
use Rattle.svr_operator.specs.declared.Rand.TheVariants as rand
use Rattle.svr_typed.specs.declared.class.ArrayKind.TheVariants as array
use Rattle.svr_typed.specs.declared.class.Prop.{Prop}
use Rattle.svr_typed.specs.ExprTerm.{typed, number}
use Rattle.svr_typed.specs.ItemTerm.{ItemTerms, items_of, plain}
use Rattle.svr_typed.specs.ClassTerm.{BlockTerm, ClassTerm}
use Rattle.svr_flat.specs.Flat.{flat_class_of}

-- a property of one bit
abbrev pub bit_prop : List ℕ → Prop
bit_prop name = record { name = name; kind = record { width = 1; signed = false; members = None }; rand = rand.Rand; array = array.Scalar; first = 0; low = pos 0; can = true; inner = 1 }

-- a block with the item `v`
abbrev pub block_with : List ℕ → ℕ → BlockTerm
block_with name v = record { name = name; items = items_of (plain false (typed 1 false (number v false)) None ∷ []) }

abbrev pub base_class : ClassTerm
base_class = record { name = codes "B"; base = None; props = bit_prop (codes "x") ∷ bit_prop (codes "y") ∷ []; blocks = block_with (codes "c") 0 ∷ block_with (codes "e") 0 ∷ [] }

abbrev pub extending_class : ClassTerm
extending_class = record { name = codes "D"; base = Some 0; props = bit_prop (codes "a") ∷ []; blocks = block_with (codes "c") 1 ∷ [] }

unfoldable pub blocks_of_derived : List BlockTerm
blocks_of_derived = (flat_class_of (base_class ∷ extending_class ∷ []) 1).blocks

unfoldable pub props_of_derived : List Prop
props_of_derived = (flat_class_of (base_class ∷ extending_class ∷ []) 1).props
