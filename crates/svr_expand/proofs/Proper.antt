-- Only hard and soft items are soft.
use Rattle.std.specs.Prelude.{if◌then◌else◌}
use Rattle.std.proofs.Common.{◌≡◌, ◌==◌, ◌/◌, ℕ, zero, suc, Bool, true, false, refl, List, [], ◌∷◌, ◌++◌, map, Option, None, Some}
use Rattle.std.proofs.lemmas.Bool.{false≢true}
use Rattle.svr_typed.specs.ExprTerm.{ExprTerm}
use Rattle.svr_typed.specs.ItemTerm.{DistTerm, ItemTerm, plain, unique, implies, branch, foreach, disable, solve, ItemTerms, no_items, more_items, ElseTerm, no_else, else_items}
use Rattle.svr_frame.specs.Occurrences.{stated, Place, Occurrence, Shape, occurrence, under, within, pairs, members, each_below, each_of_row, fact_of, occur, all_occur, else_occur, is_disable}
use Rattle.svr_expand.proofs.AllFound.{AreProper}

append_proper : (os ps : List Occurrence) → AreProper os → AreProper ps → AreProper (os ++ ps)
append_proper [] ps h k = k
append_proper (o ∷ os) ps h k = (h.0, append_proper os ps h.1 k)

each_proper : (n : ℕ) (g : ℕ → List Occurrence) → ((i : ℕ) → AreProper (g i)) → AreProper (each_below n g)
each_proper zero g h = tt
each_proper (suc n) g h = append_proper (each_below n g) (g n) (each_proper n g h) (h n)

pairs_proper : (at : Place) (es : List ExprTerm) → AreProper (map (λ e. occurrence at false (stated e)) es)
pairs_proper at [] = tt
pairs_proper at (e ∷ es) = (λ h. refl, pairs_proper at es)

fact_proper : (e : ExprTerm) (d : Option (List DistTerm)) → is_disable (fact_of e d) ≡ false
fact_proper e None = refl
fact_proper e (Some ds) = refl

row_proper : (p m names : ℕ) (f : Place → List Occurrence) → ((at : Place) → AreProper (f at)) → (at : Place) → AreProper (each_of_row p m names f at)
row_proper p m names f h at = by (names == 2)
  where
    by : (b : Bool) → AreProper (if b then each_below m (λ j. f (within p j at)) else f at)
    by true = each_proper m (λ j. f (within p j at)) (λ j. h (within p j at))
    by false = h at

module _ (sh : Shape) where
  mutual
    item_proper : (at : Place) (i : ItemTerm) → AreProper (occur sh at i)
    item_proper at (plain soft e dist) = (λ h. fact_proper e dist, tt)
    item_proper at (unique es) = pairs_proper at (pairs (members sh es))
    item_proper at (implies t body) = items_proper (under t true at) body
    item_proper at (branch t met unmet) = append_proper (all_occur sh (under t true at) met) (else_occur sh (under t false at) unmet) (items_proper (under t true at) met) (else_proper (under t false at) unmet)
    item_proper at (foreach p m names body) =
        each_proper (sh.size p / m) (λ i. each_of_row p m names (λ inner. all_occur sh inner body) (within p i at)) (λ i. row_proper p m names (λ inner. all_occur sh inner body) (λ inner. items_proper inner body) (within p i at))
    item_proper at (disable target) = (λ h. absurd (false≢true h), tt)
    item_proper at (solve first later) = tt

    pub items_proper : (at : Place) (is : ItemTerms) → AreProper (all_occur sh at is)
    items_proper at no_items = tt
    items_proper at (more_items i is) = append_proper (occur sh at i) (all_occur sh at is) (item_proper at i) (items_proper at is)

    else_proper : (at : Place) (e : ElseTerm) → AreProper (else_occur sh at e)
    else_proper at no_else = tt
    else_proper at (else_items is) = items_proper at is
