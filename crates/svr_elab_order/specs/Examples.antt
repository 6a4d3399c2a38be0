-- Orders of `solve` items that were worked out by hand: the item that is refused, by its place.
use Rattle.std.specs.Prelude.{ℕ, ◌==◌, Bool, true, false, List, [], ◌∷◌, Option, Some, None}
use Rattle.svr_elab_fault.specs.declared.Fault.{Fault}
use Rattle.svr_elab_fault.specs.Refusals.{first_one}
use Rattle.svr_elab_order.specs.declared.order.Order.{Order}
use Rattle.svr_elab_order.specs.Cycles.{cycles}

-- `solve first before later` at a place
abbrev solve : ℕ → List ℕ → List ℕ → Order
solve at first later = record { block = 0; at = at; first = first; later = later }

abbrev one : ℕ → List ℕ
one a = a ∷ []

abbrev two : ℕ → ℕ → List ℕ
two a b = a ∷ b ∷ []

-- inherited items, a class's own, and the place of the first that is refused
pub record Example : Type 0 where
  pub inherited : List Order
  pub own : List Order
  pub refused : Option ℕ

abbrev is_at : Option Fault → Option ℕ → Bool
is_at None None = true
is_at None (Some at) = false
is_at (Some f) None = false
is_at (Some f) (Some at) = f.token == at

abbrev pub is_so : Example → Bool
is_so e = is_at (cycles first_one e.inherited e.own) e.refused

abbrev pub loops : List Example
loops =
    -- there and back
    record { inherited = []; own = solve 10 (one 0) (one 1) ∷ solve 20 (one 1) (one 0) ∷ []; refused = Some 20 }
    -- a property before itself
    ∷ record { inherited = []; own = solve 10 (one 4) (one 4) ∷ []; refused = Some 10 }
    -- over two others
    ∷ record { inherited = []; own = solve 10 (one 0) (one 1) ∷ solve 20 (one 2) (one 0) ∷ solve 30 (one 1) (one 2) ∷ []; refused = Some 30 }
    -- among several names, the last of the later before the last of the first
    ∷ record { inherited = []; own = solve 10 (two 0 1) (two 2 3) ∷ solve 20 (one 3) (one 4) ∷ solve 30 (one 4) (one 1) ∷ []; refused = Some 30 }
    -- with an inherited item
    ∷ record { inherited = solve 10 (one 0) (one 1) ∷ []; own = solve 20 (one 2) (one 3) ∷ solve 30 (one 1) (one 0) ∷ []; refused = Some 30 }
    -- the first of two
    ∷ record { inherited = []; own = solve 10 (one 0) (one 1) ∷ solve 20 (one 1) (one 0) ∷ solve 30 (one 2) (one 2) ∷ []; refused = Some 20 }
    ∷ []

abbrev pub chains : List Example
chains =
    record { inherited = []; own = []; refused = None }
    -- one behind the other, from the last to the first
    ∷ record { inherited = []; own = solve 10 (one 2) (one 3) ∷ solve 20 (one 1) (one 2) ∷ solve 30 (one 0) (one 1) ∷ []; refused = None }
    -- two ways from one property to another
    ∷ record { inherited = []; own = solve 10 (one 0) (two 1 2) ∷ solve 20 (two 1 2) (one 3) ∷ []; refused = None }
    -- the same twice
    ∷ record { inherited = solve 10 (one 0) (one 1) ∷ []; own = solve 20 (one 0) (one 1) ∷ []; refused = None }
    -- two that meet behind one
    ∷ record { inherited = []; own = solve 10 (one 1) (one 0) ∷ solve 20 (one 2) (one 0) ∷ []; refused = None }
    ∷ []
