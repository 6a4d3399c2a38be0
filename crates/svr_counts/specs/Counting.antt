-- How many hard occurrences an item has, added up without them: a loop has its size times those of its body (IEEE 1800-2017, 18.5.8.1)
use Rattle.std.specs.Prelude.{ℕ, zero, suc, ◌+◌, ◌*◌, ◌/◌, ◌==◌, Bool, if◌then◌else◌, List, [], ◌∷◌, Option, None, Some, slice_index}
use Rattle.svr_typed.specs.ExprTerm.{ExprTerm, ExprTerms, no_exprs, more_exprs}
use Rattle.svr_typed.specs.ItemTerm.{ItemTerm, plain, unique, implies, branch, foreach, disable, solve, ItemTerms, no_items, more_items, ElseTerm, no_else, else_items}
use Rattle.svr_eval.specs.Value.{property_of}
use Rattle.svr_frame.specs.Frame.{FrameTerm, is_array}

-- the property, where it is an array
abbrev pub array_of : FrameTerm → Option ℕ → Option ℕ
array_of f None = None
array_of f (Some p) = if is_array f p then Some p else None

-- how many pairs so many members make
abbrev pub pair_number : ℕ → ℕ
pair_number zero = 0
pair_number (suc n) = n + pair_number n

-- how often the body of a loop stands in one turn of its first variable
abbrev pub row_turns : ℕ → ℕ → ℕ
row_turns m names = if names == 2 then m else 1

abbrev pub plain_number : Bool → ℕ
plain_number soft = if soft then 0 else 1

module _ (f : FrameTerm) (ns : List ℕ) where
  -- how many members of `unique` an expression stands for (18.5.5)
  abbrev pub number_for : Option ℕ → ℕ
  number_for None = 1
  number_for (Some p) = slice_index ns p

  abbrev pub member_number : ExprTerm → ℕ
  member_number e = number_for (array_of f (property_of e))

  abbrev pub members_number : ExprTerms → ℕ
  members_number no_exprs = 0
  members_number (more_exprs e es) = member_number e + members_number es

  abbrev mutual
    pub item_number : ItemTerm → ℕ
    item_number (plain soft e dist) = plain_number soft
    item_number (unique es) = pair_number (members_number es)
    item_number (implies t body) = items_number body
    item_number (branch t met unmet) = items_number met + else_number unmet
    item_number (foreach p m names body) = (slice_index ns p / m) * row_turns m names * items_number body
    item_number (disable target) = 0
    item_number (solve first later) = 0

    pub items_number : ItemTerms → ℕ
    items_number no_items = 0
    items_number (more_items i is) = item_number i + items_number is

    pub else_number : ElseTerm → ℕ
    else_number no_else = 0
    else_number (else_items is) = items_number is

  -- for each item
  abbrev pub numbers : ItemTerms → List ℕ
  numbers no_items = []
  numbers (more_items i is) = item_number i ∷ numbers is
