-- The bits of an encoding are those of the unknowns of its phase.
use Rattle.std.proofs.Common.{◌≡◌, ℕ, zero, suc, ◌+◌, true, false, ◌||◌, List, [], ◌∷◌, map, length, refl, sym, ap, ◌∙◌}
use Rattle.std.specs.Prelude.{sum}
use Rattle.std.specs.List.{list_any}
use Rattle.std.proofs.lemmas.Bool.{eq-eqb}
use Rattle.svr_chain.specs.declared.clause.Lit.{Lit}
use Rattle.svr_frame.specs.declared.part.Part.{Part}
use Rattle.svr_frame.specs.declared.part.Part.TheVariants.{Randc, All as Whole}
use Rattle.svr_frame.specs.declared.slot.Slot.{Slot}
use Rattle.svr_frame.specs.declared.slot.Slot.TheVariants.{Scalar, Element, Size}
use Rattle.svr_frame.specs.Frame.{FrameTerm, width_of}
use Rattle.svr_frame.specs.Occurrences.{Occurrence}
use Rattle.svr_frame.specs.Phases.{unknowns_of}
use Rattle.svr_frame.specs.Satisfaction.{is_size_of}
use Rattle.svr_encoded.specs.declared.encoded.Encoded.{Encoded}
use Rattle.svr_encoded.specs.Slots.{positives, positive_bits, widths_of}
use Rattle.svr_encoded.proofs.UnknownLemmas.{none_unsought}
use Rattle.svr_phase.specs.Spent.{bit_count, EncodesItems}
use Rattle.svr_budget_laws.specs.Budget.{bits_in, cyclic_bits, value_bits}

row_long : (n w : ℕ) → length (positives n w) ≡ w
row_long n zero = refl
row_long n (suc w) = ap suc (row_long (suc n) w)

rows_long : (n : ℕ) (ws : List ℕ) → map (λ (row : List Lit). length row) (positive_bits n ws) ≡ ws
rows_long n [] = refl
rows_long n (w ∷ ws) = λ i. row_long n w i ∷ rows_long (n + w) ws i

module _ (f : FrameTerm) where
  -- where no size is unknown, it does not matter how many bits one would have
  plain_widths : (k : ℕ) (slots : List Slot) → ((q : ℕ) → list_any (is_size_of q) slots ≡ false) → widths_of f k slots ≡ widths_of f 0 slots
  plain_widths k [] none = refl
  plain_widths k (Scalar p ∷ slots) none = λ i. width_of f p ∷ plain_widths k slots (λ q. none q) i
  plain_widths k (Element p j ∷ slots) none = λ i. width_of f p ∷ plain_widths k slots (λ q. none q) i
  plain_widths k (Size p ∷ slots) none =
      absurd (let c : true ≡ false = sym (ap (λ b. b || list_any (is_size_of p) slots) (eq-eqb p p refl)) ∙ none p in cc)

  pub bits_counted : (part : Part) (sizes : List ℕ) (k : ℕ) (asked : List Occurrence) (e : Encoded) → EncodesItems f part sizes k asked e → bits_in e ≡ bit_count f part sizes k
  bits_counted part sizes k asked e encodes =
      ap (λ (rs : List (List Lit)). sum (map (λ (row : List Lit). length row) rs)) encodes.bits
      ∙ ap (λ (ws : List ℕ). sum ws) (rows_long 0 (widths_of f k (unknowns_of f part sizes)))

  pub cyclic_counted : (k : ℕ) → bit_count f Randc f.state.sizes k ≡ cyclic_bits f
  cyclic_counted k = ap (λ (ws : List ℕ). sum ws) (plain_widths k (unknowns_of f Randc f.state.sizes) (λ q. none_unsought f f.state.sizes q Randc refl))

  pub values_counted : (sizes : List ℕ) (k : ℕ) → bit_count f Whole sizes k ≡ value_bits f sizes
  values_counted sizes k = ap (λ (ws : List ℕ). sum ws) (plain_widths k (unknowns_of f Whole sizes) (λ q. none_unsought f sizes q Whole refl))
