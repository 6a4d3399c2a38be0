-- The closed expressions of the items of a question have the truths of the items, in each assignment of the phase.
use Rattle.std.proofs.Common.{◌≡◌, ℕ, Bool, refl, sym, ◌∙◌, List, [], ◌∷◌, ◌++◌, map}
use Rattle.std.specs.Prelude.{filter}
use Rattle.std.proofs.lemmas.List.{map-append}
use Rattle.svr_eval.specs.Reading.{Reading}
use Rattle.svr_frame.specs.declared.part.Part.TheVariants.{Sizes}
use Rattle.svr_frame.specs.Frame.{FrameTerm, has_free_size, props_of, state_at}
use Rattle.svr_frame.specs.Occurrences.{Occurrence, is_true, closed_of}
use Rattle.svr_frame.specs.Phases.{domain_items, at_most, size_items, cap_items, asked_of, hard_of, capped_hard_of, live_of}
use Rattle.svr_frame.specs.Satisfaction.{IsAssignment}
use Rattle.svr_frame.specs.Sound.{IsSound, SizesFit}
use Rattle.svr_frame_laws.proofs.Truth.{closed_is_true}
use Rattle.svr_frame_laws.proofs.Expressions.{hard_truths, live_truths}
use Rattle.svr_encoded.specs.Encodes.{holds}
use Rattle.svr_phase.proofs.Preferred.{state_sizes_fit}
use Rattle.svr_sized.specs.declared.scope.Scope.{Scope}
use Rattle.svr_sized.specs.declared.scope.Scope.TheVariants.{Wished, Capped, Uncapped}
use Rattle.svr_sized.specs.Questions.{hard_over, soft_over}

module _ (st a : Reading) where
  abbrev pub AreSame : List Occurrence → Type 0
  AreSame os = map (λ o. holds a (closed_of st o)) os ≡ map (is_true a) os

  heads : {b c : Bool} {xs ys : List Bool} → b ∷ xs ≡ c ∷ ys → b ≡ c
  heads e = cc

  tails : {b c : Bool} {xs ys : List Bool} → b ∷ xs ≡ c ∷ ys → xs ≡ ys
  tails e = cc

  both_same : (os ps : List Occurrence) → AreSame os → AreSame ps → AreSame (os ++ ps)
  both_same os ps h k = map-append (λ o. holds a (closed_of st o)) os ps ∙ (λ i. h i ++ k i) ∙ sym (map-append (is_true a) os ps)

  front_same : (os ps : List Occurrence) → AreSame (os ++ ps) → AreSame os
  front_same [] ps h = refl
  front_same (o ∷ os) ps h = λ i. heads h i ∷ front_same os ps (tails h) i

  back_same : (os ps : List Occurrence) → AreSame (os ++ ps) → AreSame ps
  back_same [] ps h = h
  back_same (o ∷ os) ps h = back_same os ps (tails h)

  caps_same : (f : FrameTerm) (cap : ℕ) (ps : List ℕ) → AreSame (map (at_most f cap) ps)
  caps_same f cap [] = refl
  caps_same f cap (p ∷ ps) = λ i. closed_is_true st a (at_most f cap p) tt i ∷ caps_same f cap ps i

module _ (f : FrameTerm) (sound : IsSound f) (cap : ℕ) (fixed : List (ℕ × ℕ)) (a : Reading) (is : IsAssignment f Sizes f.state.sizes fixed a) where
  abbrev ns : List ℕ
  ns = f.state.sizes

  abbrev st : Reading
  st = state_at f ns

  fit : SizesFit f ns
  fit = state_sizes_fit f sound

  uncapped : AreSame st a (hard_of f Sizes ns)
  uncapped = hard_truths f ns sound fit Sizes fixed a is

  capped : AreSame st a (capped_hard_of f cap ns)
  capped =
      both_same st a (domain_items f Sizes ns ++ size_items f Sizes ++ cap_items f cap) (asked_of f Sizes ns)
      (both_same st a (domain_items f Sizes ns ++ size_items f Sizes) (cap_items f cap) (front_same st a (domain_items f Sizes ns ++ size_items f Sizes) (asked_of f Sizes ns) uncapped)
      (caps_same st a f cap (filter (has_free_size f) (props_of f))))
      (back_same st a (domain_items f Sizes ns ++ size_items f Sizes) (asked_of f Sizes ns) uncapped)

  live : AreSame st a (live_of f Sizes ns)
  live = live_truths f ns sound fit Sizes fixed a is

  pub over_same : (scope : Scope) → AreSame st a (hard_over f cap scope ++ soft_over f scope)
  over_same Wished = both_same st a (capped_hard_of f cap ns) (live_of f Sizes ns) capped live
  over_same Capped = both_same st a (capped_hard_of f cap ns) [] capped refl
  over_same Uncapped = both_same st a (hard_of f Sizes ns) [] uncapped refl

  pub hard_same : (scope : Scope) → AreSame st a (hard_over f cap scope)
  hard_same scope = front_same st a (hard_over f cap scope) (soft_over f scope) (over_same scope)
