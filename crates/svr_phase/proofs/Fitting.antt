-- The assignments of a phase are within the bits of its unknowns.
use Rattle.std.proofs.Common.{◌≡◌, ◌<◌, ◌≤◌, ◌==◌, ◌+◌, ◌^◌, ℕ, zero, suc, Bool, true, false, ◌||◌, cond, refl, sym, ◌∙◌, ap, List, [], ◌∷◌, Option, None, Some, arith}
use Rattle.std.specs.Prelude.{⊤, if◌then◌else◌}
use Rattle.std.specs.List.{list_any}
use Rattle.std.proofs.Math.Pow.{pow_mono}
use Rattle.std.proofs.lemmas.Bool.{eq-eqb}
use Rattle.svr_chain.specs.declared.clause.Lit.{Lit}
use Rattle.svr_eval.specs.Reading.{Reading}
use Rattle.svr_frame.specs.declared.part.Part.{Part}
use Rattle.svr_frame.specs.declared.part.Part.TheVariants.{Randc, Sizes, All}
use Rattle.svr_frame.specs.declared.slot.Slot.{Slot}
use Rattle.svr_frame.specs.declared.slot.Slot.TheVariants.{Scalar, Element, Size}
use Rattle.svr_frame.specs.Frame.{FrameTerm, state_at}
use Rattle.svr_frame.specs.Phases.{unknowns_of}
use Rattle.svr_frame.specs.Satisfaction.{is_at, is_size_of, AllFit, IsAssignment}
use Rattle.svr_encoded.specs.Slots.{bits_where, positives, positive_bits, bits_of_slot, widths_of}
use Rattle.svr_encoded.specs.Fits.{AllHaveBits, FitsIn}
use Rattle.svr_encoded.proofs.UnknownLemmas.{none_unsought}
use Rattle.svr_phase.specs.Proof.{SizesAreWhole}

-- where no slot has bits, none passes the test
pub none_any : (f : FrameTerm) (k : ℕ) (t : Slot → Bool) (n : ℕ) (slots : List Slot) → bits_where t slots (positive_bits n (widths_of f k slots)) ≡ None → list_any t slots ≡ false
none_any f k t n [] h = refl
none_any f k t n (s ∷ slots) h = by_test (t s) refl h (none_any f k t (n + bits_of_slot f k s) slots)
  where
    by_test : (b : Bool) → t s ≡ b → cond b (Some (positives n (bits_of_slot f k s))) (bits_where t slots (positive_bits (n + bits_of_slot f k s) (widths_of f k slots))) ≡ None
        → (bits_where t slots (positive_bits (n + bits_of_slot f k s) (widths_of f k slots)) ≡ None → list_any t slots ≡ false) → list_any t (s ∷ slots) ≡ false
    by_test true e q rest = cc
    by_test false e q rest = ap (λ b. b || list_any t slots) e ∙ rest q

either_way : (b : Bool) → (b || true) ≡ true
either_way true = refl
either_way false = refl

-- each number fits its bits, where a size that is looked for has all of its own
pub all_have_bits : (f : FrameTerm) (k : ℕ) (a : Reading) (slots : List Slot) → ((q : ℕ) → list_any (is_size_of q) slots ≡ true → 31 ≤ k) → AllFit f a slots → AllHaveBits a slots (widths_of f k slots)
all_have_bits f k a [] wide h = tt
all_have_bits f k a (Scalar p ∷ slots) wide h = (h.0, all_have_bits f k a slots (λ q e. wide q e) h.1)
all_have_bits f k a (Element p i ∷ slots) wide h = (h.0, all_have_bits f k a slots (λ q e. wide q e) h.1)
all_have_bits f k a (Size p ∷ slots) wide h =
    let high : 31 ≤ k = wide p (ap (λ b. b || list_any (is_size_of p) slots) (eq-eqb p p refl)) in
    let fit : a.size p < 2 ^ 31 = h.0 in
    (omega (arith, fit, pow_mono {i = 31} {j = k} high), all_have_bits f k a slots (λ q e. wide q (ap (λ b. is_size_of q (Size p) || b) e ∙ either_way (is_size_of q (Size p)))) h.1)

module _ (f : FrameTerm) (part : Part) (sizes : List ℕ) (k : ℕ) (whole : SizesAreWhole part k) where
  wide_in : (p : Part) → SizesAreWhole p k → (q : ℕ) → list_any (is_size_of q) (unknowns_of f p sizes) ≡ true → 31 ≤ k
  wide_in Randc w q e = absurd (let c : false ≡ true = sym (none_unsought f sizes q Randc refl) ∙ e in cc)
  wide_in Sizes w q e = w
  wide_in All w q e = absurd (let c : false ≡ true = sym (none_unsought f sizes q All refl) ∙ e in cc)

  pub fits_in : (fixed : List (ℕ × ℕ)) (a : Reading) → IsAssignment f part sizes fixed a → FitsIn (state_at f sizes) (unknowns_of f part sizes) (widths_of f k (unknowns_of f part sizes)) a
  fits_in fixed a is = record {
    all = all_have_bits f k a (unknowns_of f part sizes) (wide_in part whole) is.fits;
    elements = λ p i h. is.same_numbers p i (none_any f k (is_at p i) 0 (unknowns_of f part sizes) h);
    sizes = λ p h. is.same_sizes p (none_any f k (is_size_of p) 0 (unknowns_of f part sizes) h);
    script = is.same_script;
  }
