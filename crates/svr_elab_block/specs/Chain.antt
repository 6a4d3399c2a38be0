-- What the code keeps of orders: of each class its own, with the number of its base and ranks that all its orders agree with.
use Rattle.std.specs.Prelude.{◌≡◌, ⊤, ℕ, nat_lt, Bool, true, false, if◌then◌else◌, List, [], ◌∷◌, ◌++◌, Option, Some, None, option_map, map, slice_get}
use Rattle.std.specs.Rc.{rc_value}
use Rattle.svr_typed.specs.ClassTerm.{BlockTerm}
use Rattle.svr_elab_fault.specs.declared.Fault.{Fault}
use Rattle.svr_elab_fault.specs.Refusals.{first_one}
use Rattle.svr_elab_names.specs.Tables.{bytes_of}
use Rattle.svr_elab_part.specs.Shapes.{and_more}
use Rattle.svr_elab_order.specs.declared.Order.{Order}
use Rattle.svr_elab_order.specs.declared.Ranks.{Ranks}
use Rattle.svr_elab_order.specs.Ranks.{agree}
use Rattle.svr_elab_block.specs.Blocks.{BodyElab, BodiesElab, without, orders_at, and_body}
use Rattle.svr_elab_block.specs.declared.part.ClassOrders.{ClassOrders}

-- what a class behind these inherits: what its base orders by blocks in whose place it puts none
abbrev pub inherited : (ℕ → List ℕ) → List (List Order) → Option ℕ → List (List ℕ) → List Order
inherited text done base named = without text named [] (orders_at done base)

-- what it orders: that, and then its own
abbrev pub class_orders : (ℕ → List ℕ) → List (List Order) → ClassOrders → List Order
class_orders text done c = inherited text done c.base (map bytes_of c.named.keys) ++ c.own

-- of each class in its order, behind earlier ones
abbrev pub orders_after : (ℕ → List ℕ) → List (List Order) → List ClassOrders → List (List Order)
orders_after text done [] = done
orders_after text done (c ∷ cs) = orders_after text (done ++ class_orders text done c ∷ []) cs

-- of each class
abbrev pub all_orders : (ℕ → List ℕ) → List ClassOrders → List (List Order)
all_orders text cs = orders_after text [] cs

-- ---- along the classes that a class extends

abbrev pub own_of : Option ClassOrders → List Order
own_of None = []
own_of (Some c) = c.own

abbrev pub named_of : Option ClassOrders → List (List ℕ)
named_of None = []
named_of (Some c) = map bytes_of c.named.keys

abbrev pub base_of : Option ClassOrders → Option ℕ
base_of None = None
base_of (Some c) = c.base

-- a number that is below n
abbrev pub below : ℕ → Option ℕ → Option ℕ
below n None = None
below n (Some b) = if nat_lt b n then Some b else None

-- the base of a class, where it stands before the class
abbrev pub base_before : List ClassOrders → ℕ → Option ℕ
base_before cs n = below n (base_of (slice_get cs n))

-- ---- ranks

-- whether there are ranks that these agree with
abbrev pub is_agreed : Option Ranks → List Order → Bool
is_agreed None os = false
is_agreed (Some r) os = agree r os

-- ranks that these agree with, where there are any
abbrev pub AreRanks : Option Ranks → List Order → Type 0
AreRanks None os = ⊤
AreRanks (Some r) os = agree r os ≡ true

abbrev pub ranks_in : ClassOrders → Option Ranks
ranks_in c = option_map rc_value c.ranks

-- each class has ranks that all that it orders agrees with, where it has any
abbrev pub RankedAfter : (ℕ → List ℕ) → List (List Order) → List ClassOrders → Type 0
RankedAfter text done [] = ⊤
RankedAfter text done (c ∷ cs) = AreRanks (ranks_in c) (class_orders text done c) × RankedAfter text (done ++ class_orders text done c ∷ []) cs

abbrev pub AreRanked : (ℕ → List ℕ) → List ClassOrders → Type 0
AreRanked text cs = RankedAfter text [] cs

-- ---- one class more

-- with the blocks of a class, what it orders in all, and the first refusal of all so far
abbrev pub and_class : BodiesElab (Option Fault) → Option (List BlockTerm) → List Order → Option Fault → BodiesElab (Option Fault)
and_class s blocks orders fault = record { blocks = and_more s.blocks blocks; orders = s.orders ++ orders ∷ []; faults = fault }

-- with a class behind this base
abbrev pub with_class : (ℕ → List ℕ) → BodiesElab (Option Fault) → Option ℕ → BodyElab (Option Fault) → BodiesElab (Option Fault)
with_class text s base b = and_body first_one s (inherited text s.orders base b.named) b
