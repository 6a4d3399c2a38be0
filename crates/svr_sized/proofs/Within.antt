-- The assignments that meet the hard items of a question are within its bits.
use Rattle.std.proofs.Common.{◌≡◌, ◌<◌, ◌≤◌, ◌^◌, ℕ, Bool, true, false, ◌||◌, refl, sym, ◌∙◌, ap, List, [], ◌∷◌, arith}
use Rattle.std.specs.List.{list_any}
use Rattle.std.proofs.lemmas.Bool.{eq-eqb}
use Rattle.svr_eval.specs.Reading.{Reading}
use Rattle.svr_frame.specs.declared.part.Part.TheVariants.{Sizes}
use Rattle.svr_frame.specs.declared.slot.Slot.{Slot}
use Rattle.svr_frame.specs.declared.slot.Slot.TheVariants.{Scalar, Element, Size}
use Rattle.svr_frame.specs.Frame.{FrameTerm, has_free_size, state_at}
use Rattle.svr_frame.specs.Occurrences.{all_true}
use Rattle.svr_frame.specs.Phases.{unknowns_of, capped_hard_of}
use Rattle.svr_frame.specs.Satisfaction.{is_at, is_size_of, AllFit, IsAssignment}
use Rattle.svr_frame.specs.Sound.{IsSound}
use Rattle.svr_encoded.specs.Slots.{widths_of}
use Rattle.svr_encoded.specs.Fits.{AllHaveBits, FitsIn}
use Rattle.svr_encoded.proofs.UnknownLemmas.{none_unsought}
use Rattle.svr_phase.specs.Sizes.{cap_bits}
use Rattle.svr_phase.proofs.Fitting.{none_any, fits_in}
use Rattle.svr_phase.proofs.Allowed.{free_within_cap}
use Rattle.svr_sized.specs.declared.scope.Scope.{Scope}
use Rattle.svr_sized.specs.declared.scope.Scope.TheVariants.{Wished, Capped, Uncapped}
use Rattle.svr_sized.specs.Questions.{hard_over, bits_over}
use Rattle.svr_sized.proofs.Widths.{cap_below}

either_way : (b : Bool) → (b || true) ≡ true
either_way true = refl
either_way false = refl

-- where each size that is looked for has so many bits
all_have : (f : FrameTerm) (k : ℕ) (a : Reading) (slots : List Slot) → ((q : ℕ) → list_any (is_size_of q) slots ≡ true → a.size q < 2 ^ k) → AllFit f a slots → AllHaveBits a slots (widths_of f k slots)
all_have f k a [] low h = tt
all_have f k a (Scalar p ∷ slots) low h = (h.0, all_have f k a slots (λ q e. low q e) h.1)
all_have f k a (Element p i ∷ slots) low h = (h.0, all_have f k a slots (λ q e. low q e) h.1)
all_have f k a (Size p ∷ slots) low h = (
  low p (ap (λ b. b || list_any (is_size_of p) slots) (eq-eqb p p refl)),
  all_have f k a slots (λ q e. low q (ap (λ b. is_size_of q (Size p) || b) e ∙ either_way (is_size_of q (Size p)))) h.1,
)

module _ (f : FrameTerm) (sound : IsSound f) (cap : ℕ) (le : cap ≤ 2048) (chosen : List (ℕ × ℕ)) (a : Reading) (is : IsAssignment f Sizes f.state.sizes chosen a) where
  abbrev ns : List ℕ
  ns = f.state.sizes

  -- a size that is an unknown is one that the call chooses
  free_is : (q : ℕ) → list_any (is_size_of q) (unknowns_of f Sizes ns) ≡ true → has_free_size f q ≡ true
  free_is q e = by_test (has_free_size f q) refl
    where
      by_test : (b : Bool) → has_free_size f q ≡ b → b ≡ true
      by_test true h = refl
      by_test false h = absurd (let c : false ≡ true = sym (none_unsought f ns q Sizes h) ∙ e in cc)

  within_cap_bits : all_true a (capped_hard_of f cap ns) ≡ true → FitsIn (state_at f ns) (unknowns_of f Sizes ns) (widths_of f (cap_bits cap) (unknowns_of f Sizes ns)) a
  within_cap_bits meets = record {
    all = all_have f (cap_bits cap) a (unknowns_of f Sizes ns) low is.fits;
    elements = λ p i h. is.same_numbers p i (none_any f (cap_bits cap) (is_at p i) 0 (unknowns_of f Sizes ns) h);
    sizes = λ p h. is.same_sizes p (none_any f (cap_bits cap) (is_size_of p) 0 (unknowns_of f Sizes ns) h);
    script = is.same_script;
  }
    where
      low : (q : ℕ) → list_any (is_size_of q) (unknowns_of f Sizes ns) ≡ true → a.size q < 2 ^ cap_bits cap
      low q e =
          let few = free_within_cap f sound (record { cap = cap; words = λ k. 0; chosen = chosen }) le a chosen is meets q (free_is q e) in
          omega (arith, few, cap_below cap le)

  pub within_bits : (scope : Scope) → all_true a (hard_over f cap scope) ≡ true → FitsIn (state_at f ns) (unknowns_of f Sizes ns) (widths_of f (bits_over cap scope) (unknowns_of f Sizes ns)) a
  within_bits Wished meets = within_cap_bits meets
  within_bits Capped meets = within_cap_bits meets
  within_bits Uncapped meets = fits_in f Sizes ns 32 (omega arith) chosen a is
