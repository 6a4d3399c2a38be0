-- What the bits of a phase read as is an assignment of the phase
use Rattle.std.proofs.Common.{◌≡◌, ℕ, zero, suc, ◌+◌, ◌<◌, ◌≤◌, ◌^◌, Bool, true, false, cond, ◌||◌, List, [], ◌∷◌, length, map, Option, None, Some, refl, sym, ap, ◌∙◌, arith, subst}
use Rattle.std.specs.Prelude.{⊤, slice_index, nat_lt, if◌then◌else◌}
use Rattle.std.specs.List.{list_any}
use Rattle.std.proofs.Math.Pow.{pow_mono}
use Rattle.svr_chain.specs.declared.clause.Lit.{Lit}
use Rattle.svr_chain.specs.Valuations.{lit_value, Meets}
use Rattle.svr_gate.specs.Numbers.{number}
use Rattle.svr_gate.proofs.NumberLemmas.{number-lt}
use Rattle.svr_eval.specs.Reading.{Reading, reading_of}
use Rattle.svr_frame.specs.declared.part.Part.{Part}
use Rattle.svr_frame.specs.declared.slot.Slot.{Slot}
use Rattle.svr_frame.specs.Frame.{FrameTerm, width_of, state_at}
use Rattle.svr_frame.specs.Phases.{unknowns_of}
use Rattle.svr_frame.specs.declared.slot.Slot.TheVariants.{Scalar, Element, Size}
use Rattle.svr_frame.specs.Satisfaction.{is_at, is_size_of, AllFit, IsAssignment}
use Rattle.svr_frame.specs.Sound.{IsSound, SizesFit}
use Rattle.svr_inputs.specs.Inputs.{read_or}
use Rattle.svr_encoded.specs.Slots.{positives, positive_bits, widths_of, bits_where, reading_at}
use Rattle.svr_encoded.proofs.ServedLemmas.{found, at_width, size_width}

-- the assignment that the bits of a phase read as
abbrev pub read_of_phase : FrameTerm → Part → List ℕ → ℕ → (ℕ → Bool) → Reading
read_of_phase f part sizes size_bits v = reading_at (state_at f sizes) (unknowns_of f part sizes) (positive_bits 0 (widths_of f size_bits (unknowns_of f part sizes))) v

pub none_where : (t : Slot → Bool) (n : ℕ) (slots : List Slot) (widths : List ℕ) → list_any t slots ≡ false → bits_where t slots (positive_bits n widths) ≡ None
none_where t n [] widths h = refl
none_where t n (s ∷ slots) [] h = refl
none_where t n (s ∷ slots) (w ∷ widths) h = by_test (t s) h (none_where t (n + w) slots widths)
  where
    by_test : (b : Bool) → (b || list_any t slots) ≡ false → (list_any t slots ≡ false → bits_where t slots (positive_bits (n + w) widths) ≡ None)
        → cond b (Some (positives n w)) (bits_where t slots (positive_bits (n + w) widths)) ≡ None
    by_test true e rest = cc
    by_test false e rest = rest e

-- what the bits of a phase read as is an assignment of the phase, where a size has at most 31 bits
module _ (f : FrameTerm) (part : Part) (ns : List ℕ) (sb : ℕ) (high : sb ≤ 31) (sound : IsSound f) (fit : SizesFit f ns) (v : ℕ → Bool) where
  abbrev pub slots : List Slot
  slots = unknowns_of f part ns

  abbrev pub a : Reading
  a = read_of_phase f part ns sb v

  state_below : (p j : ℕ) → (state_at f ns).element p j < 2 ^ width_of f p
  state_below p j = by_place (nat_lt j (slice_index ns p)) where
    by_place : (b : Bool) → (if b then (reading_of f.state).element p j else 0) < 2 ^ width_of f p
    by_place true = sound.state.below p j
    by_place false = omega (arith, sound.state.below p j)

  number_below : (p j : ℕ) → a.element p j < 2 ^ width_of f p
  number_below p j = by_bits (bits_where (is_at p j) slots (positive_bits 0 (widths_of f sb slots))) refl where
    by_bits : (o : Option (List Lit)) → bits_where (is_at p j) slots (positive_bits 0 (widths_of f sb slots)) ≡ o → read_or ((state_at f ns).element p j) v o < 2 ^ width_of f p
    by_bits None e = state_below p j
    by_bits (Some ls) e =
        let s = found f sb (is_at p j) 0 slots ls e in
        subst (λ (k : ℕ). number v ls < 2 ^ k) (s.2 ∙ at_width f sb p j s.0 s.1) (number-lt v ls)

  size_below : (p : ℕ) → a.size p < 2 ^ 31
  size_below p = by_bits (bits_where (is_size_of p) slots (positive_bits 0 (widths_of f sb slots))) refl where
    by_bits : (o : Option (List Lit)) → bits_where (is_size_of p) slots (positive_bits 0 (widths_of f sb slots)) ≡ o → read_or ((state_at f ns).size p) v o < 2 ^ 31
    by_bits None e = omega (arith, fit.most p)
    by_bits (Some ls) e =
        let s = found f sb (is_size_of p) 0 slots ls e in
        let lt : number v ls < 2 ^ sb = subst (λ (k : ℕ). number v ls < 2 ^ k) (s.2 ∙ size_width f sb p s.0 s.1) (number-lt v ls) in
        omega (arith, lt, pow_mono {i = sb} {j = 31} high)

  all_fit : (ss : List Slot) → AllFit f a ss
  all_fit [] = tt
  all_fit (Scalar p ∷ ss) = (number_below p 0, all_fit ss)
  all_fit (Element p i ∷ ss) = (number_below p i, all_fit ss)
  all_fit (Size p ∷ ss) = (size_below p, all_fit ss)

  pub read_is_assignment : IsAssignment f part ns [] (read_of_phase f part ns sb v)
  read_is_assignment = record {
    fits = all_fit slots;
    same_numbers = λ p i h. ap (read_or ((state_at f ns).element p i) v) (none_where (is_at p i) 0 slots (widths_of f sb slots) h);
    same_sizes = λ p h. ap (read_or ((state_at f ns).size p) v) (none_where (is_size_of p) 0 slots (widths_of f sb slots) h);
    same_script = λ k. refl;
    chosen = tt;
  }
