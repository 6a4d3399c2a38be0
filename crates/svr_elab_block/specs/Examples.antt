-- Blocks of classes with their first refusal, worked out by hand from the rules of the standard (IEEE 1800-2017, 8.13, 18.5.2, 18.5.10 and 18.7).
use Rattle.std.specs.Prelude.{◌≡◌, ◌+◌, ◌*◌, ℕ, Bool, true, List, [], ◌∷◌, Option, Some, None}
use Rattle.svr_operator.specs.declared.Rand.TheVariants as rand
use Rattle.svr_tree.specs.ExprTree.{ExprTree, exprs_of}
use Rattle.svr_tree.specs.ItemTree as tree
use Rattle.svr_tree.specs.ItemTree.{ItemTree, items_of}
use Rattle.svr_tree.specs.DeclTree as decl
use Rattle.svr_tree.specs.DeclTree.{ClassItemTree, ClassTree}
use Rattle.svr_elab_fault.specs.Refusals.{all, least}
use Rattle.svr_elab_names.specs.declared.Dims.TheVariants as dims
use Rattle.svr_elab_names.specs.declared.Region.TheVariants as region
use Rattle.svr_elab_names.specs.Names.{Space, ClassName, PropName}
use Rattle.svr_elab_order.specs.declared.Order.{Order}
use Rattle.svr_elab_item.specs.Examples.{a, b, s, d, w, places, declared, named, holds, is_same}
use Rattle.svr_elab_block.specs.Blocks.{bodies, no_bodies, in_line}

-- ---- what can be named: class 0 has a, b and w, class 1 extends it and has d as well, class 2 extends nothing and has a and b

abbrev pub base_props : List PropName
base_props = declared a 4 rand.Rand true dims.Scalar ∷ declared b 4 rand.Rand true dims.Scalar ∷ declared w 4 rand.Rand true dims.Scalar ∷ []

abbrev pub derived_props : List PropName
derived_props =
    declared a 4 rand.Rand true dims.Scalar
    ∷ declared b 4 rand.Rand true dims.Scalar
    ∷ declared w 4 rand.Rand true dims.Scalar
    ∷ declared d 4 rand.Rand true dims.Scalar
    ∷ []

abbrev pub other_props : List PropName
other_props = declared a 4 rand.Rand true dims.Scalar ∷ declared b 4 rand.Rand true dims.Scalar ∷ []

abbrev pub class_of : Option ℕ → List PropName → ClassName
class_of base props = record { name = []; base = base; props = props; inherited = 0; blocks = [] }

abbrev pub script : Space
script = record places {
  region = region.Declaration;
  props = [];
  classes = class_of None base_props ∷ class_of (Some 0) derived_props ∷ class_of None other_props ∷ [];
}

-- ---- short words; the first number counts hundreds of tokens

-- `solve x before y`
abbrev pub solve : ℕ → ExprTree → ExprTree → ItemTree
solve k x y = tree.solve (k * 100) (exprs_of (x ∷ [])) (exprs_of (y ∷ []))

-- `solve x before y, z`
abbrev pub solve_two : ℕ → ExprTree → ExprTree → ExprTree → ItemTree
solve_two k x y z = tree.solve (k * 100) (exprs_of (x ∷ [])) (exprs_of (y ∷ (z ∷ [])))

-- a block with the name of the last two digits
abbrev pub block : ℕ → List ItemTree → ClassItemTree
block name is = decl.block (record { name = name; items = items_of is })

-- a property of this name
abbrev pub property : ℕ → ClassItemTree
property name = decl.property (record { rand = rand.Rand; kind = decl.named 0; decls = record { name = name; dims = []; value = None } ∷ [] })

abbrev pub class : List ClassItemTree → ClassTree
class is = record { name = 0; base = None; items = is; label = None }

-- a before b
abbrev pub a_first : ℕ → ItemTree
a_first k = solve k (named k a) (named (k + 1) b)

-- b before a
abbrev pub b_first : ℕ → ItemTree
b_first k = solve k (named k b) (named (k + 1) a)

-- ---- classes, and the token and number of their first refusal

pub record Case : Type 0 where
  pub classes : List ClassTree
  pub refusal : Option (ℕ × ℕ)

abbrev pub fine : List ClassTree → Case
fine cs = record { classes = cs; refusal = None }

abbrev pub refused : List ClassTree → ℕ → ℕ → Case
refused cs token number = record { classes = cs; refusal = Some (token, number) }

abbrev pub is_so : Case → Bool
is_so k = is_same (least (bodies all script (no_bodies all) 0 k.classes).faults) k.refusal

-- 18.5.10: within a block, and between blocks of one class
abbrev pub loops : List Case
loops =
    fine (class (block 10 (a_first 1 ∷ (solve 3 (named 3 b) (named 4 w) ∷ [])) ∷ []) ∷ [])
    ∷ refused (class (block 10 (a_first 1 ∷ (b_first 3 ∷ [])) ∷ []) ∷ []) 300 20
    ∷ refused (class (block 10 (solve 1 (named 1 a) (named 2 a) ∷ []) ∷ []) ∷ []) 100 20
    ∷ refused (class (block 10 (solve_two 1 (named 1 a) (named 2 b) (named 2 w) ∷ []) ∷ (block 11 (solve 3 (named 3 w) (named 4 b) ∷ (solve 5 (named 5 b) (named 6 a) ∷ [])) ∷ [])) ∷ []) 500 20
    ∷ []

-- 8.13 and 18.5.2: with what is inherited, as far as no block of the class takes its place; other classes order nothing
abbrev pub inheritances : List Case
inheritances =
    refused (class (block 10 (a_first 1 ∷ []) ∷ []) ∷ (class (block 11 (b_first 3 ∷ []) ∷ []) ∷ [])) 300 20
    ∷ fine (class (block 10 (a_first 1 ∷ []) ∷ []) ∷ (class (block 10 (b_first 3 ∷ []) ∷ []) ∷ []))
    ∷ fine (class (block 10 (a_first 1 ∷ []) ∷ []) ∷ (class (property 10 ∷ []) ∷ (class (block 11 (b_first 3 ∷ []) ∷ []) ∷ [])))
    ∷ refused (class (block 10 (a_first 1 ∷ []) ∷ []) ∷ (class (property 10 ∷ (block 11 (b_first 3 ∷ []) ∷ [])) ∷ [])) 300 20
    ∷ []

-- a block whose name its class has already orders nothing, and what it holds is refused all the same
abbrev pub doubles : List Case
doubles =
    fine (class (block 10 (a_first 1 ∷ []) ∷ (block 10 (b_first 3 ∷ []) ∷ [])) ∷ [])
    ∷ fine (class (property 10 ∷ (block 10 (a_first 1 ∷ (b_first 3 ∷ [])) ∷ [])) ∷ [])
    ∷ refused (class (block 10 (a_first 1 ∷ []) ∷ (block 10 (holds (named 3 d) ∷ []) ∷ [])) ∷ []) 304 7
    ∷ []

-- 8.13: names of the class and of its base, not of a derived one; the first refusal of all classes
abbrev pub names : List Case
names =
    fine (class [] ∷ (class (block 10 (holds (named 1 a) ∷ (holds (named 2 d) ∷ [])) ∷ []) ∷ []))
    ∷ refused (class (block 10 (holds (named 1 d) ∷ []) ∷ []) ∷ []) 104 7
    ∷ refused (class [] ∷ (class [] ∷ (class (block 10 (holds (named 1 w) ∷ []) ∷ []) ∷ []))) 107 7
    ∷ refused (class (block 10 (holds (named 1 d) ∷ []) ∷ []) ∷ (class (block 10 (holds (named 2 s) ∷ []) ∷ []) ∷ [])) 104 7
    ∷ []

-- an item of a block that orders one property before another one
abbrev pub ordered : ℕ → ℕ → ℕ → ℕ → Order
ordered block at x y = record { block = block; at = at; first = x ∷ []; later = y ∷ [] }

-- 18.7: an in-line set has the names of the object's class
abbrev pub InLineHasTheClass : Type 0
InLineHasTheClass =
    ((in_line all script 1 (items_of (holds (named 1 d) ∷ []))).faults ≡ [])
    × (is_same (least (in_line all script 0 (items_of (holds (named 1 d) ∷ []))).faults) (Some (104, 7)) ≡ true)

-- a class orders what it inherits, then what its own blocks do
abbrev pub OrdersStand : Type 0
OrdersStand =
    (bodies all script (no_bodies all) 0 (class (block 10 (a_first 1 ∷ []) ∷ []) ∷ (class (block 11 (solve 3 (named 3 b) (named 4 d) ∷ []) ∷ []) ∷ []))).orders
    ≡ (ordered 10 100 a b ∷ []) ∷ ((ordered 10 100 a b ∷ (ordered 11 300 b d ∷ [])) ∷ [])
