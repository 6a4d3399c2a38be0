-- What `solve` items order, over any number of properties between (IEEE 1800-2017, 18.5.10).
use Rattle.std.specs.Prelude.{◌≡◌, ◌↔◌, ℕ, nat_eq, Bool, true, false, ◌&&◌, ◌||◌, List, [], ◌∷◌, ◌++◌}
use Rattle.std.specs.List.{list_any}
use Rattle.svr_elab_order.specs.declared.order.Order.{Order}

abbrev pub is_in : ℕ → List ℕ → Bool
is_in a xs = list_any (nat_eq a) xs

-- ---- what items order, one item at a time

-- a is one of these or comes before one, where `before` says what comes before what
abbrev pub leads_to : (ℕ → ℕ → Bool) → ℕ → List ℕ → Bool
leads_to before a [] = false
leads_to before a (x ∷ xs) = (nat_eq a x || before a x) || leads_to before a xs

-- b is one of these or comes behind one
abbrev pub follows_from : (ℕ → ℕ → Bool) → List ℕ → ℕ → Bool
follows_from before [] b = false
follows_from before (y ∷ ys) b = (nat_eq y b || before y b) || follows_from before ys b

-- an item joins all that leads to one of its first names with all that follows from one of its later ones
abbrev pub before_of : List Order → ℕ → ℕ → Bool
before_of [] a b = false
before_of (o ∷ os) a b = before_of os a b || (leads_to (before_of os) a o.first && follows_from (before_of os) o.later b)

abbrev pub first_names : List Order → List ℕ
first_names [] = []
first_names (o ∷ os) = o.first ++ first_names os

abbrev pub some_before_itself : (ℕ → ℕ → Bool) → List ℕ → Bool
some_before_itself before [] = false
some_before_itself before (x ∷ xs) = before x x || some_before_itself before xs

-- the items order a property before itself
abbrev pub orders_itself : List Order → Bool
orders_itself os = some_before_itself (before_of os) (first_names os)

-- ---- what that means

-- an item names a among its first and b among its later properties
abbrev pub is_put : List Order → ℕ → ℕ → Bool
is_put [] a b = false
is_put (o ∷ os) a b = (is_in a o.first && is_in b o.later) || is_put os a b

-- items that lead from a to b, one behind the other
pub data Precedes (os : List Order) : ℕ → ℕ → Type 0 where
  one : (a b : ℕ) → is_put os a b ≡ true → Precedes os a b
  more : (a b c : ℕ) → Precedes os a b → is_put os b c ≡ true → Precedes os a c

-- what comes before what is what a chain of items leads to
abbrev pub ComesByItems : Type 0
ComesByItems = (os : List Order) (a b : ℕ) → (before_of os a b ≡ true) ↔ Precedes os a b

abbrev pub ComesByLoop : Type 0
ComesByLoop = (os : List Order) → (orders_itself os ≡ true) ↔ ((a : ℕ) × Precedes os a a)
