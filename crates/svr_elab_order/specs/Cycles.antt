-- The `solve` items with which a class orders a property before itself (IEEE 1800-2017, 18.5.10).
use Rattle.std.specs.Prelude.{◌≡◌, ◌<◌, ◌≤◌, ℕ, true, false, List, [], ◌∷◌, ◌++◌, length, take, Option, Some, None}
use Rattle.svr_refusal.specs.declared.Refusal.TheVariants as refusal
use Rattle.svr_elab_fault.specs.declared.Fault.{Fault}
use Rattle.svr_elab_fault.specs.Refusals.{Gather, when, all, first_one, earlier, least}
use Rattle.svr_elab_order.specs.declared.order.Order.{Order}
use Rattle.svr_elab_order.specs.Order.{orders_itself}

-- each item with which the items so far order a property before itself
abbrev pub cycles : {F : Type 0} → Gather F → List Order → List Order → F
cycles g so_far [] = g.nothing
cycles g so_far (o ∷ os) = g.both (when g (orders_itself (so_far ++ o ∷ [])) o.at refusal.SolveCycle) (cycles g (so_far ++ o ∷ []) os)

-- the first of what all these items are refused for
abbrev pub all_refused : List Order → Option Fault
all_refused [] = None
all_refused (o ∷ os) = earlier (Some (record { token = o.at; refusal = refusal.SolveCycle })) (all_refused os)

-- how many items from the front, more than `given`, first order a property before itself
abbrev pub IsFirstCycle : List Order → ℕ → Option ℕ → Type 0
IsFirstCycle os given None = (k : ℕ) → given < k → k ≤ length os → orders_itself (take k os) ≡ false
IsFirstCycle os given (Some n) =
    (given < n) × (n ≤ length os) × (orders_itself (take n os) ≡ true) × ((k : ℕ) → given < k → k < n → orders_itself (take k os) ≡ false)

-- what is kept is the first of all
abbrev pub KeepsTheFirst : Type 0
KeepsTheFirst = (so_far os : List Order) → least (cycles all so_far os) ≡ cycles first_one so_far os
