-- What the walk over the active items finds is what the phase asks and wishes of them.
use Rattle.std.proofs.Common.{rules, ◌≡◌, ℕ, refl, ◌∙◌, ap, List, [], ◌∷◌, ◌++◌, map}
use Rattle.std.specs.Prelude.{slice_index}
use Rattle.svr_typed.specs.ExprTerm.{ExprTerm}
use Rattle.svr_typed.specs.ItemTerm.{ItemTerms}
use Rattle.svr_eval.specs.Reading.{Reading}
use Rattle.svr_eval.specs.Value.{alone, is_set}
use Rattle.svr_frame.specs.declared.part.Part.{Part}
use Rattle.svr_frame.specs.Frame.{FrameTerm, state_at}
use Rattle.svr_frame.specs.Occurrences.{Place, Occurrence, outside, all_occur, closed_of, is_true}
use Rattle.svr_frame.specs.Phases.{shape_at, active_at, asked_of, live_of}
use Rattle.svr_expand.specs.declared.around.Around.{Outside, the_lemmas}
use Rattle.svr_expand.specs.Expanded.{guards_of, over_of, place_of, FindingTerm, found_among, asked_exprs, wished_exprs}
use Rattle.svr_expand.proofs.AllFound.{asked_is, wished_is}
use Rattle.svr_expand.proofs.Proper.{items_proper}

no_guards : guards_of Outside ≡ []
no_guards = search (rules, the_lemmas)

no_arrays : over_of Outside ≡ []
no_arrays = search (rules, the_lemmas)

pub outside_is : (env : List ℕ) → env ≡ [] → place_of Outside env ≡ outside
outside_is env h = λ j. record { guards = no_guards j; env = h j; over = no_arrays j }

module _ (f : FrameTerm) (part : Part) (ns : List ℕ) (a : Reading) (is : a ≡ state_at f ns) where
  -- a walk from outside over all active items
  pub walked : (at : Place) (its : ItemTerms) (old new : List FindingTerm) → old ≡ [] → at ≡ outside → its ≡ f.items
      → new ≡ old ++ found_among f part ns a (all_occur (shape_at f ns) at its) → new ≡ found_among f part ns a (active_at f ns)
  walked at its old new h k t found = found ∙ (λ j. h j ++ found_among f part ns a (all_occur (shape_at f ns) (k j) (t j)))

  pub hard_found : (fs : List FindingTerm) (es : List ExprTerm) → fs ≡ found_among f part ns a (active_at f ns) → es ≡ asked_exprs fs → es ≡ map (closed_of (state_at f ns)) (asked_of f part ns)
  hard_found fs es h k = k ∙ ap asked_exprs h ∙ asked_is f part ns a (active_at f ns) ∙ ap (λ b. map (closed_of b) (asked_of f part ns)) is

  pub soft_found : (fs : List FindingTerm) (es : List ExprTerm) → fs ≡ found_among f part ns a (active_at f ns) → es ≡ wished_exprs (λ p. slice_index ns p) fs → es ≡ map (closed_of (state_at f ns)) (live_of f part ns)
  soft_found fs es h k =
      k ∙ ap (wished_exprs (λ p. slice_index ns p)) (h ∙ ap (λ b. found_among f part ns b (active_at f ns)) is)
      ∙ wished_is f part ns (active_at f ns) (items_proper (shape_at f ns) outside f.items)

-- truth of closed expressions
pub truths : (a state : Reading) (os : List Occurrence) (es : List ExprTerm) → es ≡ map (closed_of state) os → map (λ o. is_set (alone a [] (closed_of state o))) os ≡ map (is_true a) os → map (λ e. is_set (alone a [] e)) es ≡ map (is_true a) os
truths a state os es h k = ap (map (λ e. is_set (alone a [] e))) h ∙ each os ∙ k
  where
    each : (ps : List Occurrence) → map (λ e. is_set (alone a [] e)) (map (closed_of state) ps) ≡ map (λ o. is_set (alone a [] (closed_of state o))) ps
    each [] = refl
    each (p ∷ ps) = ap (λ bs. is_set (alone a [] (closed_of state p)) ∷ bs) (each ps)
