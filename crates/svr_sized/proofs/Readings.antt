-- What the bits of a question read as is an assignment of the phase, where its hard items hold.
use Rattle.std.proofs.Common.{◌≡◌, ◌<◌, ◌≤◌, ◌==◌, ◌+◌, ◌-◌, ◌/◌, ◌%◌, ◌^◌, ℕ, zero, suc, pos, negsuc, Bool, true, false, not, cond, ◌&&◌, refl, sym, ◌∙◌, ap, subst, List, [], ◌∷◌, ◌++◌, map, length, Option, None, Some, arith}
use Rattle.std.specs.Prelude.{filter, int_lt, nat_lt, slice_index, if◌then◌else◌}
use Rattle.std.specs.List.{list_all, range_with_len}
use Rattle.std.proofs.Math.Pow.{pow_mono}
use Rattle.std.proofs.lemmas.Bool.{and_parts, eqb-true, eqb-false, ltb-true, ltb-false, le-ltb}
use Rattle.std.proofs.lemmas.List.Folds.{list_all-append}
use Rattle.svr_num.specs.Num.{residue, extend_of, less_of}
use Rattle.svr_chain.specs.declared.clause.Lit.{Lit}
use Rattle.svr_gate.specs.Numbers.{number}
use Rattle.svr_gate.proofs.NumberLemmas.{number-lt}
use Rattle.svr_typed.specs.declared.class.Prop.{Prop}
use Rattle.svr_eval.specs.Reading.{Reading, reading_of}
use Rattle.svr_eval.specs.Value.{truth, is_set}
use Rattle.svr_frame.specs.declared.part.Part.TheVariants.{Sizes}
use Rattle.svr_frame.specs.declared.slot.Slot.{Slot}
use Rattle.svr_frame.specs.declared.slot.Slot.TheVariants.{Scalar, Element, Size}
use Rattle.svr_frame.specs.Frame.{FrameTerm, is_dynamic_kind, has_free_size, props_of, width_of, state_at}
use Rattle.svr_frame.specs.Occurrences.{Occurrence, closed_of}
use Rattle.svr_frame.specs.Phases.{domain_items, not_negative, size_items, asked_of, hard_of, unknowns_of}
use Rattle.svr_frame.specs.Satisfaction.{is_at, is_size_of, AllFit, IsAssignment}
use Rattle.svr_frame.specs.Sound.{IsSound}
use Rattle.svr_frame_laws.proofs.Answers.{found as declared}
use Rattle.svr_inputs.specs.Inputs.{read_or}
use Rattle.svr_encoded.specs.Slots.{bits_where, positive_bits, widths_of}
use Rattle.svr_encoded.specs.Encodes.{holds}
use Rattle.svr_encoded.proofs.ServedLemmas.{found, at_width, size_width}
use Rattle.svr_encoded.proofs.BridgeLemmas.{read_of_phase, none_where}
use Rattle.svr_encoded.proofs.UnknownLemmas.{none_unsought}
use Rattle.svr_phase.proofs.Preferred.{state_sizes_fit}

-- ---- a number of 32 bits that is not negative

wrapped : (x : ℕ) → 2 ^ 31 ≤ x → x < 2 ^ 32 → extend_of true 32 32 x ≡ x
wrapped x low high =
    ap (λ b. residue 32 (cond b (pos x) (negsuc (2 ^ 32 - suc x)))) (le-ltb x (2 ^ 31) low)
    ∙ (let e : 2 ^ 32 - suc ((2 ^ 32 - suc x) % 2 ^ 32) ≡ x = omega (arith, low, high) in e)

below_zero : (x : ℕ) → 2 ^ 31 ≤ x → x < 2 ^ 32 → less_of true 32 (extend_of true 32 32 x) 0 ≡ true
below_zero x low high =
    ap (λ y. less_of true 32 y 0) (wrapped x low high) ∙ ap (λ b. int_lt (cond b (pos x) (negsuc (2 ^ 32 - suc x))) (pos 0)) (le-ltb x (2 ^ 31) low)

one_bit : (b : Bool) → is_set (truth 1 false b) ≡ b
one_bit true = refl
one_bit false = refl

-- the item that says so
not_negative_met : (f : FrameTerm) (st r : Reading) (p : ℕ) → r.size p < 2 ^ 32 → holds r (closed_of st (not_negative f p)) ≡ true → r.size p < 2 ^ 31
not_negative_met f st r p high h = by_place (nat_lt (r.size p) (2 ^ 31)) refl
  where
    same : r.size p / 1 ≡ r.size p
    same = omega arith

    by_place : (b : Bool) → nat_lt (r.size p) (2 ^ 31) ≡ b → r.size p < 2 ^ 31
    by_place true e = let lt = ltb-true (r.size p) (2 ^ 31) e in lt
    by_place false e =
        let low = ltb-false (r.size p) (2 ^ 31) e in
        let less : less_of true 32 (extend_of true 32 32 (r.size p / 1)) 0 ≡ true = ap (λ n. less_of true 32 (extend_of true 32 32 n) 0) same ∙ below_zero (r.size p) low high in
        let denied : false ≡ true = sym (ap not less) ∙ sym (one_bit (not (less_of true 32 (extend_of true 32 32 (r.size p / 1)) 0))) ∙ h in
        absurd (cc)

-- ---- one item of those of a range that pass a test

kept_at : (Q t : ℕ → Bool) (p k n : ℕ) → k ≤ p → p < k + n → t p ≡ true → list_all Q (filter t (range_with_len k n)) ≡ true → Q p ≡ true
kept_at Q t p k zero le lt h all = absurd (omega (arith, le, lt))
kept_at Q t p k (suc n) le lt h all = by_place (k == p) refl (kept_at Q t p (k + 1) n)
  where
    opened : (b : Bool) → t k ≡ b → list_all Q (cond b (k ∷ filter t (range_with_len (k + 1) n)) (filter t (range_with_len (k + 1) n))) ≡ true
    opened b e = sym (ap (λ c. list_all Q (cond c (k ∷ filter t (range_with_len (k + 1) n)) (filter t (range_with_len (k + 1) n)))) e) ∙ all

    rest : (b : Bool) → t k ≡ b → list_all Q (filter t (range_with_len (k + 1) n)) ≡ true
    rest true e = (and_parts (Q k) (list_all Q (filter t (range_with_len (k + 1) n))) (opened true e)).1
    rest false e = opened false e

    by_place : (b : Bool) → (k == p) ≡ b → (k + 1 ≤ p → p < k + 1 + n → t p ≡ true → list_all Q (filter t (range_with_len (k + 1) n)) ≡ true → Q p ≡ true) → Q p ≡ true
    by_place true e more =
        let same = eqb-true k p e in
        subst (λ (x : ℕ). Q x ≡ true) same ((and_parts (Q k) (list_all Q (filter t (range_with_len (k + 1) n))) (opened true (ap t same ∙ h))).0)
    by_place false e more = more (let ne = eqb-false k p e in omega (arith, le, ne)) (omega (arith, lt)) h (rest (t k) refl)

mapped : (g : Occurrence → Bool) (h : ℕ → Occurrence) (xs : List ℕ) → list_all g (map h xs) ≡ list_all (λ x. g (h x)) xs
mapped g h [] = refl
mapped g h (x ∷ xs) = ap (λ b. g (h x) && b) (mapped g h xs)

-- ---- what the bits read as

module _ (f : FrameTerm) (sound : IsSound f) (k : ℕ) (few : k ≤ 32) (v : ℕ → Bool) where
  abbrev ns : List ℕ
  ns = f.state.sizes

  abbrev st : Reading
  st = state_at f ns

  abbrev slots : List Slot
  slots = unknowns_of f Sizes ns

  abbrev r : Reading
  r = read_of_phase f Sizes ns k v

  state_below : (p j : ℕ) → st.element p j < 2 ^ width_of f p
  state_below p j = by_place (nat_lt j (slice_index ns p))
    where
      by_place : (b : Bool) → (if b then (reading_of f.state).element p j else 0) < 2 ^ width_of f p
      by_place true = sound.state.below p j
      by_place false = omega (arith, sound.state.below p j)

  number_below : (p j : ℕ) → r.element p j < 2 ^ width_of f p
  number_below p j = by_bits (bits_where (is_at p j) slots (positive_bits 0 (widths_of f k slots))) refl
    where
      by_bits : (o : Option (List Lit)) → bits_where (is_at p j) slots (positive_bits 0 (widths_of f k slots)) ≡ o → read_or (st.element p j) v o < 2 ^ width_of f p
      by_bits None e = state_below p j
      by_bits (Some ls) e =
          let s = found f k (is_at p j) 0 slots ls e in
          subst (λ (w : ℕ). number v ls < 2 ^ w) (s.2 ∙ at_width f k p j s.0 s.1) (number-lt v ls)

  size_below : (p : ℕ) → r.size p < 2 ^ 32
  size_below p = by_bits (bits_where (is_size_of p) slots (positive_bits 0 (widths_of f k slots))) refl
    where
      by_bits : (o : Option (List Lit)) → bits_where (is_size_of p) slots (positive_bits 0 (widths_of f k slots)) ≡ o → read_or (st.size p) v o < 2 ^ 32
      by_bits None e = omega (arith, (state_sizes_fit f sound).most p)
      by_bits (Some ls) e =
          let s = found f k (is_size_of p) 0 slots ls e in
          let lt : number v ls < 2 ^ k = subst (λ (w : ℕ). number v ls < 2 ^ w) (s.2 ∙ size_width f k p s.0 s.1) (number-lt v ls) in
          omega (arith, lt, pow_mono {i = k} {j = 32} few)

  -- with at most 31 bits it is below 2 ^ 31
  pub small_below : k ≤ 31 → (p : ℕ) → r.size p < 2 ^ 31
  small_below high p = by_bits (bits_where (is_size_of p) slots (positive_bits 0 (widths_of f k slots))) refl
    where
      by_bits : (o : Option (List Lit)) → bits_where (is_size_of p) slots (positive_bits 0 (widths_of f k slots)) ≡ o → read_or (st.size p) v o < 2 ^ 31
      by_bits None e = omega (arith, (state_sizes_fit f sound).most p)
      by_bits (Some ls) e =
          let s = found f k (is_size_of p) 0 slots ls e in
          let lt : number v ls < 2 ^ k = subst (λ (w : ℕ). number v ls < 2 ^ w) (s.2 ∙ size_width f k p s.0 s.1) (number-lt v ls) in
          omega (arith, lt, pow_mono {i = k} {j = 31} high)

  -- a size that is not looked for is the state's
  state_size : (p : ℕ) → has_free_size f p ≡ false → r.size p < 2 ^ 31
  state_size p h =
      let same : r.size p ≡ slice_index ns p = ap (read_or (st.size p) v) (none_where (is_size_of p) 0 slots (widths_of f k slots) (none_unsought f ns p Sizes h)) in
      omega (arith, same, (state_sizes_fit f sound).most p)

  -- where the hard items hold, each size is below 2 ^ 31
  pub held_below : list_all (λ o. holds r (closed_of st o)) (hard_of f Sizes ns) ≡ true → (p : ℕ) → r.size p < 2 ^ 31
  held_below held p = by_test (has_free_size f p) refl
    where
      lows : list_all (λ q. holds r (closed_of st (not_negative f q))) (filter (has_free_size f) (props_of f)) ≡ true
      lows =
          let front = and_parts (list_all (λ (o : Occurrence). holds r (closed_of st o)) (domain_items f Sizes ns ++ size_items f Sizes)) (list_all (λ (o : Occurrence). holds r (closed_of st o)) (asked_of f Sizes ns))
          (sym (list_all-append (λ (o : Occurrence). holds r (closed_of st o)) (domain_items f Sizes ns ++ size_items f Sizes) (asked_of f Sizes ns)) ∙ held) in
          let back = and_parts (list_all (λ (o : Occurrence). holds r (closed_of st o)) (domain_items f Sizes ns)) (list_all (λ (o : Occurrence). holds r (closed_of st o)) (size_items f Sizes))
          (sym (list_all-append (λ (o : Occurrence). holds r (closed_of st o)) (domain_items f Sizes ns) (size_items f Sizes)) ∙ front.0) in
          sym (mapped (λ (o : Occurrence). holds r (closed_of st o)) (not_negative f) (filter (has_free_size f) (props_of f))) ∙ back.1

      by_test : (b : Bool) → has_free_size f p ≡ b → r.size p < 2 ^ 31
      by_test false h = state_size p h
      by_test true h =
          let lt = (declared (λ (x : Prop). is_dynamic_kind x.array) f.class.props p (sound.free p h).1).0 in
          not_negative_met f st r p (size_below p) (kept_at (λ q. holds r (closed_of st (not_negative f q))) (has_free_size f) p 0 (length f.class.props) (omega arith) (omega (arith, lt)) h lows)

  all_fit : ((p : ℕ) → r.size p < 2 ^ 31) → (ss : List Slot) → AllFit f r ss
  all_fit low [] = tt
  all_fit low (Scalar p ∷ ss) = (number_below p 0, all_fit low ss)
  all_fit low (Element p i ∷ ss) = (number_below p i, all_fit low ss)
  all_fit low (Size p ∷ ss) = (low p, all_fit low ss)

  pub read_is : ((p : ℕ) → r.size p < 2 ^ 31) → IsAssignment f Sizes ns [] r
  read_is low = record {
    fits = all_fit low slots;
    same_numbers = λ p i h. ap (read_or (st.element p i) v) (none_where (is_at p i) 0 slots (widths_of f k slots) h);
    same_sizes = λ p h. ap (read_or (st.size p) v) (none_where (is_size_of p) 0 slots (widths_of f k slots) h);
    same_script = λ s. refl;
    chosen = tt;
  }
