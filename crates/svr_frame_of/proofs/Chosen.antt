-- Whether a call chooses a size, by the leaves of a frame that marks it.
use Rattle.std.proofs.Common.{◌≡◌, ◌<◌, ℕ, Bool, true, false, ◌&&◌, refl, sym, ◌∙◌, ap, List, [], length, map}
use Rattle.std.specs.List.{list_any, range_with_len}
use Rattle.std.proofs.lemmas.Bool.Decides.{Decides-eqb}
use Rattle.std.proofs.lemmas.Slice.Eq.{slice_eq-Decides}
use Rattle.svr_typed.specs.ItemTerm.{ItemTerms}
use Rattle.svr_eval.specs.declared.assign.Assign.{Assign}
use Rattle.svr_frame.specs.Frame.{FrameTerm, is_random, is_dynamic, props_of, state_sizes}
use Rattle.svr_frame.specs.Reads.{mentions_size}
use Rattle.svr_frame.specs.Phases.{shape_at, active_at}
use Rattle.svr_frame.specs.Making.{can_free, is_free}
use Rattle.svr_frame_of.specs.Callable.{with_free}
use Rattle.svr_frame_of.specs.Choosing.{in_state, as_chosen, HasChosen, are_same}
use Rattle.svr_frame_of.specs.Freeing.{mark, all_leaves}
use Rattle.svr_frame_of.proofs.Freed.{freed}
use Rattle.svr_frame_of.proofs.Steps.{marked_at}

and_met : (a b c : Bool) → (a && b) ≡ true → (a && b && c) ≡ c
and_met true true c h = refl
and_met true false c h = cc
and_met false b c h = cc

module _ (f : FrameTerm) (p : ℕ) where
  abbrev by_item : Bool
  by_item = list_any (λ o. can_free f o && mentions_size (shape_at f (state_sizes f)) p o) (active_at f (state_sizes f))

  pub chosen_by_leaves : (n : ℕ) (marks : List Bool) (its : ItemTerms) (r : Bool) → p < n → marks ≡ mark n p → its ≡ f.items → (is_random f p && is_dynamic f p) ≡ true → r ≡ (all_leaves (with_free f marks) its).sized → r ≡ is_free f p
  chosen_by_leaves n marks its r less h t there k =
      k ∙ (λ i. (all_leaves (with_free f (h i)) (t i)).sized) ∙ sym (freed (with_free f (mark n p)) p (λ q. marked_at f p n q less)) ∙ sym (and_met (is_random f p) (is_dynamic f p) by_item there)

-- frames that differ in their free sizes alone choose the same ones
pub same_choice : (f g : FrameTerm) (p : ℕ) → with_free f [] ≡ with_free g [] → is_free f p ≡ is_free g p
same_choice f g p h = ap (λ (x : FrameTerm). is_free x p) h

-- a frame with the sizes that it chooses, where others were free meanwhile
pub with_choice : (f g w : FrameTerm) (n : ℕ) (free : List Bool) → w ≡ g → with_free g [] ≡ with_free f [] → free ≡ map (is_free f) (range_with_len 0 n) → n ≡ length f.class.props
    → with_free w free ≡ with_free f (map (is_free f) (props_of f))
with_choice f g w n free is same chosen count =
    ap (λ (x : FrameTerm). with_free x free) is ∙ ap (λ (x : FrameTerm). with_free x free) same ∙ ap (with_free f) (chosen ∙ ap (λ (k : ℕ). map (is_free f) (range_with_len 0 k)) count)

-- ---- another state

-- which sizes are chosen depends on no more of the state than the sizes in it
in_sizes : (f : FrameTerm) (s : Assign) → f.state.sizes ≡ s.sizes → map (is_free f) (props_of f) ≡ map (is_free (in_state f s)) (props_of f)
in_sizes f s e = ap (λ (ns : List ℕ). map (is_free (in_state f (record s { sizes = ns }))) (props_of f)) e

-- at the same sizes the same ones are chosen
pub kept_choice : (f g : FrameTerm) (s : Assign) → HasChosen f → are_same f.state.sizes s.sizes ≡ true → g ≡ in_state f s → g ≡ as_chosen (in_state f s)
kept_choice f g s chosen same is =
    let e : f.state.sizes ≡ s.sizes = (slice_eq-Decides Decides-eqb f.state.sizes s.sizes (are_same f.state.sizes s.sizes) refl).0 same in
    is ∙ ap (λ (free : List Bool). with_free (in_state f s) free) (chosen ∙ in_sizes f s e)
