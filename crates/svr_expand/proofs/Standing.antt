-- The state at the sizes of a phase is one of its assignments, so items can be read there.
use Rattle.std.proofs.Common.{◌≡◌, ◌<◌, ◌^◌, ℕ, ◌+◌, Bool, true, false, refl, sym, subst, List, [], ◌∷◌, length, arith}
use Rattle.std.specs.Prelude.{slice_index, nat_lt, if◌then◌else◌}
use Rattle.svr_typed.specs.ExprTerm.{typed}
use Rattle.svr_typed.specs.ItemTerm.{ItemTerm, plain, unique, implies, branch, foreach, disable, solve, ItemTerms, no_items, more_items, ElseTerm, no_else, else_items}
use Rattle.svr_eval.specs.Reading.{Reading, reading_of}
use Rattle.svr_frame.specs.declared.part.Part.{Part}
use Rattle.svr_frame.specs.declared.slot.Slot.{Slot}
use Rattle.svr_frame.specs.declared.slot.Slot.TheVariants.{Scalar, Element, Size}
use Rattle.svr_frame.specs.Frame.{FrameTerm, width_of, state_at}
use Rattle.svr_frame.specs.Phases.{unknowns_of}
use Rattle.svr_frame.specs.Satisfaction.{AllFit, IsAssignment}
use Rattle.svr_frame.specs.Sound.{TargetCanRead, TargetsCanRead, ElseTargetsCanRead, ItemIsIn, ItemsAreIn, ElseIsIn, IsSound, SizesFit}
use Rattle.svr_frame_laws.proofs.Readable.{can_read, items_can_read}
use Rattle.svr_expand.specs.Expanded.{ItemsAreReady}
use Rattle.svr_expand.proofs.Ready.{items_ready}

module _ (f : FrameTerm) (ns : List ℕ) (sound : IsSound f) (fit : SizesFit f ns) (part : Part) where
  fits_at : (p i : ℕ) (b : Bool) → (if b then (reading_of f.state).element p i else 0) < 2 ^ width_of f p
  fits_at p i true = sound.state.below p i
  fits_at p i false = omega (arith, sound.state.below p i)

  all_fit : (ss : List Slot) → AllFit f (state_at f ns) ss
  all_fit [] = tt
  all_fit (Scalar p ∷ ss) = (fits_at p 0 (nat_lt 0 (slice_index ns p)), all_fit ss)
  all_fit (Element p i ∷ ss) = (fits_at p i (nat_lt i (slice_index ns p)), all_fit ss)
  all_fit (Size p ∷ ss) = (omega (arith, fit.most p), all_fit ss)

  pub state_is : IsAssignment f part ns [] (state_at f ns)
  state_is = record { fits = all_fit (unknowns_of f part ns); same_numbers = λ p i h. refl; same_sizes = λ p h. refl; same_script = λ v. refl; chosen = tt }

  mutual
    target_read : (depth : ℕ) (i : ItemTerm) → ItemIsIn f i → TargetCanRead (reading_of f.state) depth i → TargetCanRead (state_at f ns) depth i
    target_read depth (plain soft e dist) h k = tt
    target_read depth (unique es) h k = tt
    target_read depth (implies t body) h k = targets_read depth body h.2 k
    target_read depth (branch t met unmet) h k = (targets_read depth met h.3 k.0, else_read depth unmet h.4 k.1)
    target_read depth (foreach p m names body) h k = targets_read (depth + names) body h.3 k
    target_read depth (disable (typed w s n)) h k = can_read f (state_at f ns) ns sound fit part [] state_is depth true (typed w s n) h.0 k
    target_read depth (solve first later) h k = tt

    targets_read : (depth : ℕ) (is : ItemTerms) → ItemsAreIn f is → TargetsCanRead (reading_of f.state) depth is → TargetsCanRead (state_at f ns) depth is
    targets_read depth no_items h k = tt
    targets_read depth (more_items i is) h k = (target_read depth i h.0 k.0, targets_read depth is h.1 k.1)

    else_read : (depth : ℕ) (e : ElseTerm) → ElseIsIn f e → ElseTargetsCanRead (reading_of f.state) depth e → ElseTargetsCanRead (state_at f ns) depth e
    else_read depth no_else h k = tt
    else_read depth (else_items is) h k = targets_read depth is h k

  -- all active items are ready for the walk
  pub all_ready : ItemsAreReady (state_at f ns) 0 f.items
  all_ready = items_ready (state_at f ns) 0 f.items sound.typed (items_can_read f (state_at f ns) ns sound fit part [] state_is) (targets_read 0 f.items sound.items sound.targets)

-- what the walk starts with
pub ready_there : (f : FrameTerm) (ns : List ℕ) (part : Part) (a : Reading) (env : List ℕ) (its : ItemTerms) → IsSound f → SizesFit f ns → a ≡ state_at f ns → env ≡ [] → its ≡ f.items → ItemsAreReady a (length env) its
ready_there f ns part a env its sound fit is_state is_outside are_items =
    let P : Reading → Type 0 = λ b. ItemsAreReady b (length env) its in
    let Q : List ℕ → Type 0 = λ xs. ItemsAreReady (state_at f ns) (length xs) its in
    let R : ItemTerms → Type 0 = λ xs. ItemsAreReady (state_at f ns) 0 xs in
    subst P (sym is_state) (subst Q (sym is_outside) (subst R (sym are_items) (all_ready f ns sound fit part)))
