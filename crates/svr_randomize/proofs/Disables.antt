-- The tests around each `disable soft` are of the state, and the index of its target stands still (18.5.14.2).
use Rattle.std.proofs.Common.{◌≡◌, ◌==◌, ◌/◌, ℕ, zero, suc, Bool, true, false, refl, sym, subst, List, [], ◌∷◌, ◌++◌, map, None, Some}
use Rattle.std.specs.Prelude.{⊤, slice_index, if◌then◌else◌}
use Rattle.svr_typed.specs.ExprTerm.{ExprTerm, typed}
use Rattle.svr_typed.specs.ItemTerm.{ItemTerm, plain, unique, implies, branch, foreach, disable, solve, ItemTerms, no_items, more_items, ElseTerm, no_else, else_items}
use Rattle.svr_frame.specs.Frame.{FrameTerm}
use Rattle.svr_frame.specs.Occurrences.{Guard, Place, Fact, stated, dealt, disabled, Occurrence, outside, under, within, members, pairs, each_below, each_of_row, occurrence, occur, all_occur, else_occur}
use Rattle.svr_frame.specs.Phases.{shape_at, active_at}
use Rattle.svr_frame.specs.Sound.{ItemIsIn, ItemsAreIn, ElseIsIn, IsSound, TargetIsIn, is_of_state, node_stands_still, has_disable, have_disable, else_has_disable}
use Rattle.svr_randomize.proofs.Unknowns.{or_left, or_right}

module _ (f : FrameTerm) where
  abbrev pub AreOfState : List Guard → Type 0
  AreOfState [] = ⊤
  AreOfState (g ∷ gs) = (is_of_state f g.test ≡ true) × AreOfState gs

  abbrev pub is_still : ExprTerm → Bool
  is_still (typed w s n) = node_stands_still f n

  abbrev pub StandsIf : List Guard → Fact → Type 0
  StandsIf gs (stated e) = ⊤
  StandsIf gs (dealt e ds) = ⊤
  StandsIf gs (disabled target) = AreOfState gs × (is_still target ≡ true)

  abbrev pub DisableStands : Occurrence → Type 0
  DisableStands o = StandsIf o.place.guards o.fact

  abbrev pub AllDisablesStand : List Occurrence → Type 0
  AllDisablesStand [] = ⊤
  AllDisablesStand (o ∷ os) = DisableStands o × AllDisablesStand os

  stand_append : (os ps : List Occurrence) → AllDisablesStand os → AllDisablesStand ps → AllDisablesStand (os ++ ps)
  stand_append [] ps h k = k
  stand_append (o ∷ os) ps h k = (h.0, stand_append os ps h.1 k)

  leaves_stand : (at : Place) (es : List ExprTerm) → AllDisablesStand (map (λ e. occurrence at false (stated e)) es)
  leaves_stand at [] = tt
  leaves_stand at (e ∷ es) = (tt, leaves_stand at es)

  each_stand : (k : ℕ → List Occurrence) → ((i : ℕ) → AllDisablesStand (k i)) → (n : ℕ) → AllDisablesStand (each_below n k)
  each_stand k h zero = tt
  each_stand k h (suc n) = stand_append (each_below n k) (k n) (each_stand k h n) (h n)

  row_stand : (p m names : ℕ) (k : Place → List Occurrence) (at : Place) → ((inner : Place) → inner.guards ≡ at.guards → AllDisablesStand (k inner)) → AllDisablesStand (each_of_row p m names k at)
  row_stand p m names k at h = by (names == 2)
    where
      by : (b : Bool) → AllDisablesStand (if b then each_below m (λ j. k (within p j at)) else k at)
      by true = each_stand (λ j. k (within p j at)) (λ j. h (within p j at) refl) m
      by false = h at refl

  target_stands : (e : ExprTerm) → TargetIsIn f e → is_still e ≡ true
  target_stands (typed w s n) h = h.1

  module _ (ns : List ℕ) where
    mutual
      -- where one stands in it, the tests around it are of the state
      item_stands : (at : Place) (i : ItemTerm) → ItemIsIn f i → (has_disable f i ≡ true → AreOfState at.guards) → AllDisablesStand (occur (shape_at f ns) at i)
      item_stands at (plain soft e None) h k = (tt, tt)
      item_stands at (plain soft e (Some ds)) h k = (tt, tt)
      item_stands at (unique es) h k = leaves_stand at (pairs (members (shape_at f ns) es))
      item_stands at (implies t body) h k = items_stand (under t true at) body h.2 (λ d. (h.1 d, k d))
      item_stands at (branch t met unmet) h k =
          stand_append (all_occur (shape_at f ns) (under t true at) met) (else_occur (shape_at f ns) (under t false at) unmet)
          (items_stand (under t true at) met h.3 (λ d. (h.1 d, k (or_left (have_disable f met) (else_has_disable f unmet) d))))
          (else_stands (under t false at) unmet h.4 (λ d. (h.2 d, k (or_right (have_disable f met) (else_has_disable f unmet) d))))
      item_stands at (foreach p m names body) h k =
          each_stand (λ i. each_of_row p m names (λ inner. all_occur (shape_at f ns) inner body) (within p i at))
          (λ i. row_stand p m names (λ inner. all_occur (shape_at f ns) inner body) (within p i at) (λ inner e. items_stand inner body h.3 (λ d. subst (λ (gs : List Guard). AreOfState gs) (sym e) (k d)))) (slice_index ns p / m)
      item_stands at (disable target) h k = ((k refl, target_stands target h), tt)
      item_stands at (solve first later) h k = tt

      items_stand : (at : Place) (is : ItemTerms) → ItemsAreIn f is → (have_disable f is ≡ true → AreOfState at.guards) → AllDisablesStand (all_occur (shape_at f ns) at is)
      items_stand at no_items h k = tt
      items_stand at (more_items i is) h k =
          stand_append (occur (shape_at f ns) at i) (all_occur (shape_at f ns) at is) (item_stands at i h.0 (λ d. k (or_left (has_disable f i) (have_disable f is) d)))
          (items_stand at is h.1 (λ d. k (or_right (has_disable f i) (have_disable f is) d)))

      else_stands : (at : Place) (e : ElseTerm) → ElseIsIn f e → (else_has_disable f e ≡ true → AreOfState at.guards) → AllDisablesStand (else_occur (shape_at f ns) at e)
      else_stands at no_else h k = tt
      else_stands at (else_items is) h k = items_stand at is h k

    pub active_stand : IsSound f → AllDisablesStand (active_at f ns)
    active_stand sound = items_stand outside f.items sound.items (λ d. tt)
