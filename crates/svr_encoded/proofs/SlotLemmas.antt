-- Places of slots, and the assignment that their bits read as
use Rattle.std.proofs.Common.{◌≡◌, ℕ, zero, suc, ◌+◌, ◌-◌, ◌<◌, ◌≤◌, Bool, true, false, cond, ltb, List, [], ◌∷◌, length, drop, get_or, Option, None, Some, refl, sym, ap, ◌∙◌, arith, drop-cons}
use Rattle.std.specs.Prelude.{nat_lt, if◌then◌else◌}
use Rattle.std.proofs.lemmas.Bool.{lt-ltb}
use Rattle.svr_chain.specs.declared.clause.Lit.{Lit}
use Rattle.svr_eval.specs.Reading.{Reading}
use Rattle.svr_frame.specs.declared.slot.Slot.{Slot}
use Rattle.svr_frame.specs.Satisfaction.{is_at, is_size_of}
use Rattle.svr_inputs.specs.declared.inputs.Inputs.{Inputs}
use Rattle.svr_inputs.specs.Inputs.{bits_of, read_or, read_at, state_of, number_bits, size_bits, number_row, size_row}
use Rattle.svr_vector.specs.Places.{rows}
use Rattle.svr_encoded.specs.Slots.{bits_where, place_where, reading_at}

-- one slot more in front
pub place_more : (f : Slot → Bool) (slots : List Slot) (n at : ℕ) (d : Slot) (now old : Option ℕ) → n < length slots → suc n ≡ at → now ≡ (if f (get_or slots n d) then Some n else old) → old ≡ place_where f at (drop at slots) → now ≡ place_where f n (drop n slots)
place_more f slots n at d now old h up e before =
    e
    ∙ ap (λ o. if f (get_or slots n d) then Some n else o) (before ∙ ap (λ k. place_where f k (drop k slots)) (sym up))
    ∙ sym (ap (place_where f n) (drop-cons slots n d h))

-- the bits at the place of the first slot that passes are those of the first slot that passes
pub bits_at_place : (f : Slot → Bool) (n : ℕ) (slots : List Slot) (all : List (List Lit)) → n + length slots ≡ length all → bits_of all (place_where f n slots) ≡ bits_where f slots (drop n all)
bits_at_place f n [] all h = refl
bits_at_place f n (s ∷ slots) all h =
    by_test (f s) (bits_at_place f (suc n) slots all (omega arith))
    ∙ sym (ap (bits_where f (s ∷ slots)) (drop-cons all n [] (omega arith))) where
      by_test : (b : Bool) → bits_of all (place_where f (suc n) slots) ≡ bits_where f slots (drop (suc n) all)
          → bits_of all (cond b (Some n) (place_where f (suc n) slots)) ≡ cond b (Some (get_or all n [])) (bits_where f slots (drop (suc n) all))
      by_test true e = ap (λ b. cond b (Some (get_or all n [])) None) (lt-ltb n (length all) (omega arith))
      by_test false e = e

-- what inputs with a table of the slots read is what the bits of the slots read as
module _ (i : Inputs) (slots : List Slot) (len : length slots ≡ length (rows i.bits.now)) (numbers : (p j : ℕ) → number_row i.table.now p j ≡ place_where (is_at p j) 0 slots)
    (sizes : (p : ℕ) → size_row i.table.now p ≡ place_where (is_size_of p) 0 slots) where
  pub number_bits_are : (p j : ℕ) → number_bits i p j ≡ bits_where (is_at p j) slots (rows i.bits.now)
  number_bits_are p j = ap (bits_of (rows i.bits.now)) (numbers p j) ∙ bits_at_place (is_at p j) 0 slots (rows i.bits.now) (omega arith)

  pub size_bits_are : (p : ℕ) → size_bits i p ≡ bits_where (is_size_of p) slots (rows i.bits.now)
  size_bits_are p = ap (bits_of (rows i.bits.now)) (sizes p) ∙ bits_at_place (is_size_of p) 0 slots (rows i.bits.now) (omega arith)

  pub reads_slots : (v : ℕ → Bool) → read_at i v ≡ reading_at (state_of i) slots (rows i.bits.now) v
  reads_slots v = λ k. record {
    element = λ p j. ap (read_or ((state_of i).element p j) v) (number_bits_are p j) k;
    size = λ p. ap (read_or ((state_of i).size p) v) (size_bits_are p) k;
    script = (state_of i).script;
  }
