-- The preferred assignment of a phase, with the chosen cyclic values in their places, is an assignment of the phase.
use Rattle.std.proofs.Common.{◌≡◌, ◌<◌, ◌≤◌, ◌^◌, ℕ, Bool, true, false, refl, sym, ◌∙◌, ap, subst, List, [], ◌∷◌, ◌++◌, map, length}
use Rattle.std.specs.Prelude.{if◌then◌else◌}
use Rattle.std.specs.List.{All, list_any}
use Rattle.std.proofs.lemmas.Bool.{and_parts, eqb-true}
use Rattle.std.proofs.lemmas.List.Elements.{All-head, All-tail}
use Rattle.std.proofs.lemmas.List.Folds.{list_any-append}
use Rattle.svr_eval.specs.Reading.{Reading}
use Rattle.svr_frame.specs.declared.part.Part.{Part}
use Rattle.svr_frame.specs.declared.part.Part.TheVariants.{Randc, Sizes, All as Whole}
use Rattle.svr_frame.specs.declared.slot.Slot.{Slot}
use Rattle.svr_frame.specs.declared.slot.Slot.TheVariants.{Scalar, Element, Size}
use Rattle.svr_frame.specs.Frame.{FrameTerm, width_of}
use Rattle.svr_frame.specs.Phases.{cyclic_slots, size_slots, scalar_slots, element_slots, unknowns_of}
use Rattle.svr_frame.specs.Satisfaction.{is_at, AllFit, IsAssignment}
use Rattle.svr_frame.specs.Sound.{IsSound, SizesFit}
use Rattle.svr_frame_laws.proofs.Readable.{number_fits}
use Rattle.svr_frame_laws.proofs.Unmentioned.{none_of}
use Rattle.svr_draw.specs.Preferred.{number_in, preferred_of}
use Rattle.svr_draw.proofs.Fits.{preferred_is}
use Rattle.svr_phase.specs.Chosen.{AreCyclicValues}
use Rattle.svr_phase.specs.Sizes.{words_after, preferred_with}
use Rattle.svr_phase.proofs.Preferred.{slots_with, same_sizes_in}
use Rattle.svr_phase.proofs.ChosenValues.{value_below}
use Rattle.svr_question.proofs.Chosen.{props_in, IsMember, all_members}

-- ---- numbers at the places of cyclic properties

below_in : (f : FrameTerm) → IsSound f → (fixed : List (ℕ × ℕ)) → All (IsMember f) fixed → (p i other : ℕ) → other < 2 ^ width_of f p → number_in (slots_with fixed) p i other < 2 ^ width_of f p
below_in f sound [] members p i other lt = lt
below_in f sound (x ∷ fixed) members p i other lt = by_test (is_at p i (Scalar x.0)) refl (below_in f sound fixed (All-tail (IsMember f) x fixed members) p i other lt)
  where
    by_test : (b : Bool) → is_at p i (Scalar x.0) ≡ b → number_in (slots_with fixed) p i other < 2 ^ width_of f p → (if b then x.1 else number_in (slots_with fixed) p i other) < 2 ^ width_of f p
    by_test true e rest = subst (λ (q : ℕ). x.1 < 2 ^ width_of f q) (eqb-true x.0 p (and_parts _ _ e).0) (value_below f sound x.0 x.1 (All-head (IsMember f) x fixed members))
    by_test false e rest = rest

same_in : (fixed : List (ℕ × ℕ)) (p i other : ℕ) → list_any (is_at p i) (map Scalar (props_in fixed)) ≡ false → number_in (slots_with fixed) p i other ≡ other
same_in [] p i other h = refl
same_in (x ∷ fixed) p i other h =
    let two = none_of (is_at p i (Scalar x.0)) (list_any (is_at p i) (map Scalar (props_in fixed))) h in
    ap (λ b. if b then x.1 else number_in (slots_with fixed) p i other) two.0 ∙ same_in fixed p i other two.1

-- ---- the assignment

module _ (f : FrameTerm) (part : Part) (ns : List ℕ) (sound : IsSound f) (fit : SizesFit f ns) (cap : ℕ) (le : cap ≤ 2048) (words : ℕ → ℕ) (chosen : List (ℕ × ℕ)) (cyclic : AreCyclicValues f chosen) where
  abbrev base : Reading
  base = preferred_of f part ns cap (words_after (length chosen) words)

  base_is : IsAssignment f part ns [] base
  base_is = preferred_is f ns sound fit cap le (words_after (length chosen) words) part

  number_below : (p i : ℕ) → number_in (slots_with chosen) p i (base.element p i) < 2 ^ width_of f p
  number_below p i = below_in f sound chosen (all_members f chosen cyclic) p i (base.element p i) (number_fits f base ns sound fit part [] base_is p i)

  all_fit : (ss : List Slot) → AllFit f base ss → AllFit f (preferred_with f part ns cap words chosen) ss
  all_fit [] h = tt
  all_fit (Scalar p ∷ ss) h = (number_below p 0, all_fit ss h.1)
  all_fit (Element p i ∷ ss) h = (number_below p i, all_fit ss h.1)
  all_fit (Size p ∷ ss) h = (subst (λ (n : ℕ). n < 2 ^ 31) (sym (same_sizes_in chosen p (base.size p))) h.0, all_fit ss h.1)

  -- the cyclic properties are unknowns of each phase
  not_cyclic : (q : Part) (p i : ℕ) → list_any (is_at p i) (unknowns_of f q ns) ≡ false → list_any (is_at p i) (cyclic_slots f) ≡ false
  not_cyclic Randc p i h = h
  not_cyclic Sizes p i h =
      (none_of (list_any (is_at p i) (cyclic_slots f)) (list_any (is_at p i) (size_slots f))
      (sym (list_any-append (is_at p i) (cyclic_slots f) (size_slots f))
      ∙ (none_of (list_any (is_at p i) (cyclic_slots f ++ size_slots f)) (list_any (is_at p i) (scalar_slots f)) (sym (list_any-append (is_at p i) (cyclic_slots f ++ size_slots f) (scalar_slots f)) ∙ h)).0)).0
  not_cyclic Whole p i h =
      (none_of (list_any (is_at p i) (cyclic_slots f)) (list_any (is_at p i) (scalar_slots f))
      (sym (list_any-append (is_at p i) (cyclic_slots f) (scalar_slots f))
      ∙ (none_of (list_any (is_at p i) (cyclic_slots f ++ scalar_slots f)) (list_any (is_at p i) (element_slots f ns)) (sym (list_any-append (is_at p i) (cyclic_slots f ++ scalar_slots f) (element_slots f ns)) ∙ h)).0)).0

  not_chosen : (p i : ℕ) → list_any (is_at p i) (unknowns_of f part ns) ≡ false → list_any (is_at p i) (map Scalar (props_in chosen)) ≡ false
  not_chosen p i h = ap (λ (ps : List ℕ). list_any (is_at p i) (map Scalar ps)) cyclic.props ∙ not_cyclic part p i h

  pub wish_is : IsAssignment f part ns [] (preferred_with f part ns cap words chosen)
  wish_is = record {
    fits = all_fit (unknowns_of f part ns) base_is.fits;
    same_numbers = λ p i h. same_in chosen p i (base.element p i) (not_chosen p i h) ∙ base_is.same_numbers p i h;
    same_sizes = λ p h. same_sizes_in chosen p (base.size p) ∙ base_is.same_sizes p h;
    same_script = base_is.same_script;
    chosen = tt;
  }
