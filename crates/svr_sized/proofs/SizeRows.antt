-- The bits of sizes, by the places that a table has.
use Rattle.std.proofs.Common.{◌≡◌, ◌≤◌, ℕ, Bool, List, Vec, Global, Some, length, map, sym, ap, ◌∙◌, arith}
use Rattle.std.specs.Prelude.{slice_index}
use Rattle.std.specs.List.{range_with_len}
use Rattle.svr_chain.specs.declared.clause.Lit.{Lit}
use Rattle.svr_frame.specs.declared.part.Part.TheVariants.{Sizes}
use Rattle.svr_frame.specs.declared.slot.Slot.{Slot}
use Rattle.svr_frame.specs.Frame.{FrameTerm, state_at, props_of}
use Rattle.svr_frame.specs.Occurrences.{Occurrence}
use Rattle.svr_frame.specs.Phases.{unknowns_of}
use Rattle.svr_frame.specs.Satisfaction.{is_size_of}
use Rattle.svr_vector.specs.Places.{rows}
use Rattle.svr_inputs.specs.declared.table.Table.{Table}
use Rattle.svr_inputs.specs.Inputs.{bits_of, size_row, read_or}
use Rattle.svr_encoded.specs.declared.encoded.Encoded.{Encoded}
use Rattle.svr_encoded.specs.Slots.{place_where, bits_where, positive_bits, widths_of, reading_at}
use Rattle.svr_encoded.proofs.ServedLemmas.{found, size_width}
use Rattle.svr_phase.specs.Spent.{EncodesItems}
use Rattle.svr_phase.specs.Sizes.{sizes_read}
use Rattle.svr_question.proofs.Spellings.{bits_at}

module _ (f : FrameTerm) (k : ℕ) (le : k ≤ 32) (os : List Occurrence) (e : Encoded) (encodes : EncodesItems f Sizes f.state.sizes k os e)
    (t : Table) (slots : List Slot) (are : slots ≡ e.slots.items) (sizes : (p : ℕ) → size_row t p ≡ place_where (is_size_of p) 0 slots) where
  pub row_is : (p : ℕ) → bits_of (rows e.bits.items) (size_row t p) ≡ bits_where (is_size_of p) e.slots.items (rows e.bits.items)
  row_is p = ap (bits_of (rows e.bits.items)) (sizes p ∙ ap (place_where (is_size_of p) 0) are) ∙ bits_at (is_size_of p) 0 e.slots.items (rows e.bits.items)

  -- they are as many as each size has
  pub row_short : (p : ℕ) (ls : List Lit) → bits_of (rows e.bits.items) (size_row t p) ≡ Some ls → length ls ≤ 32
  row_short p ls is =
      let unknowns = unknowns_of f Sizes f.state.sizes in
      let here : bits_where (is_size_of p) unknowns (positive_bits 0 (widths_of f k unknowns)) ≡ Some ls
      = (λ i. bits_where (is_size_of p) (sym encodes.slots i) (sym encodes.bits i)) ∙ sym (row_is p) ∙ is in
      let s = found f k (is_size_of p) 0 unknowns ls here in
      omega (arith, le, s.2, size_width f k p s.0 s.1)

  -- all sizes, as the bits read
  pub all_read : (bits : List (Vec Lit Global)) → bits ≡ e.bits.items → (v : ℕ → Bool) (n : ℕ) → n ≡ length f.class.props
      → map (λ p. read_or (slice_index f.state.sizes p) v (bits_of (rows bits) (size_row t p))) (range_with_len 0 n) ≡ sizes_read f (reading_at (state_at f f.state.sizes) e.slots.items (rows e.bits.items) v)
  all_read bits same v n long =
      (λ i. map (λ p. read_or (slice_index f.state.sizes p) v (bits_of (rows (same i)) (size_row t p))) (range_with_len 0 (long i)))
      ∙ (λ i. map (λ p. read_or (slice_index f.state.sizes p) v (row_is p i)) (props_of f))
