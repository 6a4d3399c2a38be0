-- Lists of the numbers that bits spell, read place by place.
use Rattle.std.proofs.Common.{◌≡◌, ◌≤◌, ℕ, Bool, refl, sym, ap, ◌∙◌, List, [], length, arith, ⊎_elim, None}
use Rattle.std.specs.Prelude.{if◌then◌else◌, slice_index, slice_index_or}
use Rattle.std.proofs.lemmas.Bool.{cases_lt, le-ltb}
use Rattle.svr_eval.specs.declared.assign.Assign.{Assign}
use Rattle.svr_eval.specs.Reading.{reading_of}
use Rattle.svr_inputs.specs.declared.inputs.Inputs.{Inputs}
use Rattle.svr_inputs.specs.Inputs.{state_of, read_at, read_or, number_bits, size_bits}
use Rattle.svr_draw.proofs.Built.{past_end, built_long, built_at, built_past}
use Rattle.svr_found.specs.Listed.{numbers_read, rows_read}

module _ (i : Inputs) (v : ℕ → Bool) (past : (p j : ℕ) → slice_index i.sizes.now p ≤ j → number_bits i p j ≡ None) (unsought : (p : ℕ) → size_bits i p ≡ None) where
  -- nothing stands past a size
  none_past : (p j : ℕ) → slice_index i.sizes.now p ≤ j → (read_at i v).element p j ≡ 0
  none_past p j h = ap (read_or ((state_of i).element p j) v) (past p j h) ∙ ap (λ b. if b then (reading_of i.state.now).element p j else 0) (le-ltb j (slice_index i.sizes.now p) h)

  number_at : (p j : ℕ) → slice_index (numbers_read i v p (slice_index i.sizes.now p)) j ≡ (read_at i v).element p j
  number_at p j =
      ⊎_elim (λ lt. built_at (λ n. numbers_read i v p n) (λ n. (read_at i v).element p n) refl (λ n. refl) 0 (slice_index i.sizes.now p) j lt)
      (λ le. built_past (λ n. numbers_read i v p n) (λ n. (read_at i v).element p n) refl (λ n. refl) 0 (slice_index i.sizes.now p) j le ∙ sym (none_past p j le)) (cases_lt j (slice_index i.sizes.now p))

  element_is : (p j : ℕ) → slice_index (slice_index_or (rows_read i v (length i.sizes.now)) p []) j ≡ (read_at i v).element p j
  element_is p j =
      ⊎_elim
      (λ lt. ap (λ (row : List ℕ). slice_index row j) (built_at (λ n. rows_read i v n) (λ n. numbers_read i v n (slice_index i.sizes.now n)) refl (λ n. refl) [] (length i.sizes.now) p lt) ∙ number_at p j)
      (λ le. ap (λ (row : List ℕ). slice_index row j) (built_past (λ n. rows_read i v n) (λ n. numbers_read i v n (slice_index i.sizes.now n)) refl (λ n. refl) [] (length i.sizes.now) p le)
      ∙ sym (none_past p j (let none : slice_index i.sizes.now p ≡ 0 = past_end i.sizes.now p 0 le in omega (arith, none))))
      (cases_lt p (length i.sizes.now))

  row_long : (p : ℕ) → length (slice_index_or (rows_read i v (length i.sizes.now)) p []) ≡ slice_index i.sizes.now p
  row_long p =
      ⊎_elim
      (λ lt. ap length (built_at (λ n. rows_read i v n) (λ n. numbers_read i v n (slice_index i.sizes.now n)) refl (λ n. refl) [] (length i.sizes.now) p lt)
      ∙ built_long (λ n. numbers_read i v p n) (λ n. (read_at i v).element p n) refl (λ n. refl) 0 (slice_index i.sizes.now p))
      (λ le. ap length (built_past (λ n. rows_read i v n) (λ n. numbers_read i v n (slice_index i.sizes.now n)) refl (λ n. refl) [] (length i.sizes.now) p le) ∙ sym (past_end i.sizes.now p 0 le))
      (cases_lt p (length i.sizes.now))

  same_size : (p : ℕ) → slice_index i.sizes.now p ≡ (read_at i v).size p
  same_size p = sym (ap (read_or (slice_index i.sizes.now p) v) (unsought p))

  -- the lists read as the bits do
  pub listed_reads : (a : Assign) → a ≡ record { values = rows_read i v (length i.sizes.now); sizes = i.sizes.now; script = i.state.now.script } → reading_of a ≡ read_at i v
  listed_reads a is =
      ap reading_of is ∙ (λ k. record { element = λ p j. element_is p j k; size = λ p. same_size p k; script = λ s. slice_index i.state.now.script s })

  -- and each has its length
  pub listed_long : (a : Assign) → a ≡ record { values = rows_read i v (length i.sizes.now); sizes = i.sizes.now; script = i.state.now.script } → (p : ℕ) → length (slice_index_or a.values p []) ≡ slice_index i.sizes.now p
  listed_long a is p = ap (λ (x : Assign). length (slice_index_or x.values p [])) is ∙ row_long p
