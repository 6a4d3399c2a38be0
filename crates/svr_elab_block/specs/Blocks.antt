-- The constraint blocks of classes, typed, with the order that their `solve` items give, and in-line sets (IEEE 1800-2017, 18.5.2, 18.5.10 and 18.7).
use Rattle.std.specs.Prelude.{ℕ, ◌+◌, if◌then◌else◌, List, [], ◌∷◌, ◌++◌, Option, Some, None, option_map, slice_get}
use Rattle.std.specs.List.{list_any}
use Rattle.svr_typed.specs.ItemTerm as item_term
use Rattle.svr_typed.specs.ClassTerm.{BlockTerm}
use Rattle.svr_tree.specs.ExprTree as raw
use Rattle.svr_tree.specs.ExprTree.{ExprTree, ExprTrees}
use Rattle.svr_tree.specs.ItemTree as tree
use Rattle.svr_tree.specs.ItemTree.{ItemTree, ItemTrees}
use Rattle.svr_tree.specs.DeclTree as decl
use Rattle.svr_tree.specs.DeclTree.{DeclaratorTree, BlockTree, ClassTree, ClassItemTree}
use Rattle.svr_elab_fault.specs.Refusals.{Gather}
use Rattle.svr_elab_names.specs.declared.Meaning.{Meaning}
use Rattle.svr_elab_names.specs.declared.Meaning.TheVariants.{Wrong, LoopOf, ItemOf, MemberOf, PropertyOf, SizeOf, FoldOf, VariableOf, ObjectOf}
use Rattle.svr_elab_names.specs.declared.Region.{Region}
use Rattle.svr_elab_names.specs.declared.Region.TheVariants as region
use Rattle.svr_elab_names.specs.Names.{Space, ClassName, is_same, look, class_props}
use Rattle.svr_elab_part.specs.Shapes.{and_more}
use Rattle.svr_elab_order.specs.declared.Order.{Order}
use Rattle.svr_elab_order.specs.Cycles.{cycles}
use Rattle.svr_elab_item.specs.Items.{ItemsElab, items, no_items, outside}

-- ---- which properties `solve` items order before others

-- a property, or the size of one, which stands for it
abbrev pub ordered_number : Meaning → Option ℕ
ordered_number (Wrong w) = None
ordered_number (LoopOf k) = None
ordered_number (ItemOf k p) = None
ordered_number (MemberOf v k) = None
ordered_number (PropertyOf p o) = Some p.number
ordered_number (SizeOf p o) = Some p.number
ordered_number (FoldOf p o f array) = None
ordered_number (VariableOf v k) = None
ordered_number (ObjectOf o c) = None

abbrev pub number_of : Space → ExprTree → Option ℕ
number_of n (raw.path at s names call) = ordered_number (look n s names).meaning
number_of n (raw.number at v w sg) = None
number_of n (raw.bit_select at x i call) = None
number_of n (raw.part_select at x f l call) = None
number_of n (raw.unary at op x) = None
number_of n (raw.binary at op x y) = None
number_of n (raw.choice at t x y) = None
number_of n (raw.inside at x rs) = None
number_of n (raw.join at xs) = None
number_of n (raw.copies at c xs) = None
number_of n (raw.sign at sg x) = None
number_of n (raw.paren at x) = None
number_of n (raw.reduce at x f item body) = None

abbrev pub and_number : List ℕ → Option ℕ → List ℕ
and_number ns None = ns
and_number ns (Some n) = ns ++ n ∷ []

-- numbers behind those of `start`
abbrev pub numbers : Space → List ℕ → ExprTrees → List ℕ
numbers n start raw.no_exprs = start
numbers n start (raw.more_exprs e es) = numbers n (and_number start (number_of n e)) es

-- what an item of the block of this name orders
abbrev pub order_of : Space → ℕ → ItemTree → Option Order
order_of n block (tree.plain at soft e d) = None
order_of n block (tree.unique at es) = None
order_of n block (tree.implies at t s) = None
order_of n block (tree.branch at t met unmet) = None
order_of n block (tree.foreach at x vs s) = None
order_of n block (tree.disable at x) = None
order_of n block (tree.solve at xs ys) = Some (record { block = block; at = at; first = numbers n [] xs; later = numbers n [] ys })

abbrev pub and_order : List Order → Option Order → List Order
and_order os None = os
and_order os (Some o) = os ++ o ∷ []

-- what items order, behind what `start` has
abbrev pub orders : Space → ℕ → List Order → ItemTrees → List Order
orders n block start tree.no_items = start
orders n block start (tree.more_items i is) = orders n block (and_order start (order_of n block i)) is

-- a block of a class takes the place of an inherited one of its name (18.5.2)
abbrev pub and_kept : (ℕ → List ℕ) → List (List ℕ) → List Order → Order → List Order
and_kept text own start o = if list_any (is_same (text o.block)) own then start else start ++ o ∷ []

-- the inherited items that stand, behind those of `start`
abbrev pub without : (ℕ → List ℕ) → List (List ℕ) → List Order → List Order → List Order
without text own start [] = start
without text own start (o ∷ os) = without text own (and_kept text own start o) os

-- ---- names, each once

abbrev pub and_name : List (List ℕ) → List ℕ → List (List ℕ)
and_name names q = if list_any (is_same q) names then names else names ++ q ∷ []

abbrev pub and_declared : (ℕ → List ℕ) → List (List ℕ) → List DeclaratorTree → List (List ℕ)
and_declared text names [] = names
and_declared text names (d ∷ ds) = and_declared text (and_name names (text d.name)) ds

-- ---- where items stand

-- in a block of class k, or in an in-line set of constraints for an object of it
abbrev pub in_class : Space → Region → ℕ → Space
in_class n r k = record n { region = r; props = class_props n.classes k }

-- ---- the blocks of a class in order

-- `own` are the names of its properties and blocks so far, `named` those of its blocks alone; `orders` is what its blocks so far order
pub record BodyElab (F : Type 0) : Type 0 where
  pub own : List (List ℕ)
  pub named : List (List ℕ)
  pub blocks : Option (List BlockTerm)
  pub orders : List Order
  pub faults : F

-- of each class its own blocks, and what all its blocks order, the inherited ones among them
pub record BodiesElab (F : Type 0) : Type 0 where
  pub blocks : Option (List (List BlockTerm))
  pub orders : List (List Order)
  pub faults : F

abbrev pub block_term : List ℕ → Option (List item_term.ItemTerm) → Option BlockTerm
block_term name ts = option_map (λ ts. record { name = name; items = item_term.items_of ts }) ts

abbrev pub base_of : Option ClassName → Option ℕ
base_of None = None
base_of (Some c) = c.base

abbrev pub or_none : Option (List Order) → List Order
or_none None = []
or_none (Some os) = os

abbrev pub orders_at : List (List Order) → Option ℕ → List Order
orders_at os None = []
orders_at os (Some c) = or_none (slice_get os c)

module _ {F : Type 0} (g : Gather F) where
  abbrev pub no_body : BodyElab F
  no_body = record { own = []; named = []; blocks = Some []; orders = []; faults = g.nothing }

  abbrev pub with_faults : BodyElab F → F → BodyElab F
  with_faults b faults = record { own = b.own; named = b.named; blocks = b.blocks; orders = b.orders; faults = g.both b.faults faults }

  abbrev pub with_block : BodyElab F → List ℕ → List Order → ItemsElab F → BodyElab F
  with_block b name os e = record {
    own = and_name b.own name;
    named = and_name b.named name;
    blocks = and_more b.blocks (block_term name e.trees);
    orders = os;
    faults = g.both b.faults e.faults;
  }

  -- the first of a name stands; what another one holds is looked at all the same
  abbrev pub and_block : Space → BodyElab F → BlockTree → ItemsElab F → BodyElab F
  and_block n b k e =
      if list_any (is_same (n.text k.name)) b.own then with_faults b e.faults
      else with_block b (n.text k.name) (orders n k.name b.orders k.items) e

  abbrev pub with_names : BodyElab F → List (List ℕ) → BodyElab F
  with_names b names = record { own = names; named = b.named; blocks = b.blocks; orders = b.orders; faults = b.faults }

  abbrev pub body_item : Space → BodyElab F → ClassItemTree → BodyElab F
  body_item n b (decl.property p) = with_names b (and_declared n.text b.own p.decls)
  body_item n b (decl.block k) = and_block n b k (items g n outside (no_items g) k.items)

  abbrev pub body_items : Space → BodyElab F → List ClassItemTree → BodyElab F
  body_items n b [] = b
  body_items n b (i ∷ is) = body_items n (body_item n b i) is

  abbrev pub body : Space → ℕ → ClassTree → BodyElab F
  body n k c = body_items (in_class n region.Block k) no_body c.items

  -- with what the class inherits, as far as no block of its own takes its place
  abbrev pub and_body : BodiesElab F → List Order → BodyElab F → BodiesElab F
  and_body s inherited b = record {
    blocks = and_more s.blocks b.blocks;
    orders = s.orders ++ (inherited ++ b.orders) ∷ [];
    faults = g.both s.faults (g.both b.faults (cycles g inherited b.orders));
  }

  abbrev pub inherited : Space → BodiesElab F → ℕ → BodyElab F → List Order
  inherited n s k b = without n.text b.named [] (orders_at s.orders (base_of (slice_get n.classes k)))

  abbrev pub with_class : Space → BodiesElab F → ℕ → BodyElab F → BodiesElab F
  with_class n s k b = and_body s (inherited n s k b) b

  abbrev pub no_bodies : BodiesElab F
  no_bodies = record { blocks = Some []; orders = []; faults = g.nothing }

  -- the classes from number k on
  abbrev pub bodies : Space → BodiesElab F → ℕ → List ClassTree → BodiesElab F
  bodies n s k [] = s
  bodies n s k (c ∷ cs) = bodies n (with_class n s k (body n k c)) (k + 1) cs

  -- an in-line set of constraints for an object of class k (18.7)
  abbrev pub in_line : Space → ℕ → ItemTrees → ItemsElab F
  in_line n k is = items g (in_class n region.InLine k) outside (no_items g) is
