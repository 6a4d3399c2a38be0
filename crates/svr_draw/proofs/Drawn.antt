-- What is drawn property by property is the preferred assignment.
use Rattle.std.proofs.Common.{◌≡◌, ◌==◌, ◌<◌, ◌≤◌, ◌+◌, ◌%◌, ℕ, zero, suc, Bool, true, false, not, ◌&&◌, ◌||◌, refl, sym, ap, subst, ◌∙◌, List, [], ◌∷◌, ◌++◌, map, length, arith, ◌⊎◌, ⊎_elim}
use Rattle.std.specs.Prelude.{nat_lt, filter, if◌then◌else◌, slice_index, slice_index_or}
use Rattle.std.specs.List.{flat_map, range_with_len}
use Rattle.std.proofs.lemmas.Bool.{eqb-true, eqb-false, eq-eqb, cases_lt, lt-ltb, le-ltb}
use Rattle.std.proofs.lemmas.List.{map-append, get_or-map}
use Rattle.std.proofs.lemmas.List.Concat.{flat_map-cons}
use Rattle.rand_pcg.specs.Lcg.{Lcg}
use Rattle.svr_typed.specs.declared.class.ArrayKind.{ArrayKind}
use Rattle.svr_typed.specs.declared.class.ArrayKind.TheVariants as array
use Rattle.svr_typed.specs.declared.class.Prop.{Prop}
use Rattle.svr_eval.specs.Reading.{Reading, reading_of}
use Rattle.svr_frame.specs.declared.part.Part.{Part}
use Rattle.svr_frame.specs.declared.part.Part.TheVariants.{Randc, Sizes, All}
use Rattle.svr_frame.specs.declared.slot.Slot.{Slot}
use Rattle.svr_frame.specs.declared.slot.Slot.TheVariants.{Scalar, Element, Size}
use Rattle.svr_frame.specs.Frame.{FrameTerm, is_scalar_kind, is_dynamic_kind, is_array, is_dynamic, is_random, is_cyclic, has_free_size, members_of, props_of, state_at}
use Rattle.svr_frame.specs.Phases.{size_slots, scalar_slots, element_slots}
use Rattle.svr_frame.specs.Satisfaction.{is_at, is_size_of}
use Rattle.svr_frame.specs.Sound.{SizeIsOf, IsSound, SizesFit}
use Rattle.svr_draw.proofs.Parts.{any_prop}
use Rattle.svr_draw.specs.Words.{word_of, after}
use Rattle.svr_draw.specs.Preferred.{with_words, draws_of, number_in, size_in, dists_on, from_domain, from_dists, preferred_number, preferred_of}
use Rattle.svr_draw.specs.Picking.{from_items}
use Rattle.svr_draw.specs.Drawing.{draws_size, draws_scalar, draws_elements, size_words, scalar_words, element_words, size_number, state_numbers, drawn_elements, row_of, scalar_number, drawn_scalars, drawn_sizes, rows, drawn, state_here}
use Rattle.svr_draw.proofs.Stream.{word_later, word_now}
use Rattle.svr_draw.proofs.Built.{past_end, built_at, built_past}
use Rattle.svr_draw.proofs.Here.{numbers_at, here_is}
use Rattle.svr_draw.proofs.Picks.{picks}

-- ---- numbers at slots that are with_words

number_append : (xs ys : List (Slot × ℕ)) (p i other : ℕ) → number_in (xs ++ ys) p i other ≡ number_in xs p i (number_in ys p i other)
number_append [] ys p i other = refl
number_append (x ∷ xs) ys p i other = ap (λ v. if is_at p i x.0 then x.1 else v) (number_append xs ys p i other)

size_append : (xs ys : List (Slot × ℕ)) (p other : ℕ) → size_in (xs ++ ys) p other ≡ size_in xs p (size_in ys p other)
size_append [] ys p other = refl
size_append (x ∷ xs) ys p other = ap (λ v. if is_size_of p x.0 then x.1 else v) (size_append xs ys p other)

numbered_append : (k : ℕ) (ss ts : List Slot) → with_words k (ss ++ ts) ≡ with_words k ss ++ with_words (k + length ss) ts
numbered_append k [] ts = let e : k + 0 ≡ k = omega arith in ap (λ n. with_words n ts) (sym e)
numbered_append k (s ∷ ss) ts = let e : suc k + length ss ≡ k + suc (length ss) = omega arith in ap (λ (xs : List (Slot × ℕ)). (s, k) ∷ xs) (numbered_append (suc k) ss ts ∙ ap (λ n. with_words (suc k) ss ++ with_words n ts) e)

module _ (value : (Slot × ℕ) → ℕ) where
  abbrev put : ℕ → List Slot → List (Slot × ℕ)
  put k ss = map (λ x. (x.0, value x)) (with_words k ss)

  put_append : (k : ℕ) (ss ts : List Slot) → put k (ss ++ ts) ≡ put k ss ++ put (k + length ss) ts
  put_append k ss ts = ap (λ (xs : List (Slot × ℕ)). map (λ x. (x.0, value x)) xs) (numbered_append k ss ts) ∙ map-append (λ x. (x.0, value x)) (with_words k ss) (with_words (k + length ss) ts)

  -- ---- scalars that pass a test, with the words counted by w
  module _ (t : ℕ → Bool) (w : ℕ → ℕ) (step : (n : ℕ) → w (suc n) ≡ w n + (if t n then 1 else 0)) where
    abbrev scalars : ℕ → ℕ → List Slot
    scalars a n = map Scalar (filter t (range_with_len a n))

    counted : (a : ℕ) → t a ≡ true → w (a + 1) ≡ suc (w a)
    counted a h = let e : a + 1 ≡ suc a = omega arith in let n = step a in let one = ap {B = ℕ} (λ b. if b then 1 else 0) h in rw e (omega (arith, n, one))

    passed : (a : ℕ) → t a ≡ false → w (a + 1) ≡ w a
    passed a h = let e : a + 1 ≡ suc a = omega arith in let n = step a in let one = ap {B = ℕ} (λ b. if b then 1 else 0) h in rw e (omega (arith, n, one))

    scalar_hit : (k a n p other : ℕ) → a ≤ p → p < a + n → t p ≡ true → number_in (put (k + w a) (scalars a n)) p 0 other ≡ value (Scalar p, k + w p)
    scalar_hit k a zero p other low high h = absurd (omega (arith, low, high))
    scalar_hit k a (suc n) p other low high h = by_test (t a) refl (λ less. scalar_hit k (a + 1) n p other (omega (arith, less)) (omega (arith, high)) h)
      where
        apart : (q : ℕ) → t q ≡ false → q ≡ p → ⊥
        apart q fails equal = let passes = subst (λ x. t x ≡ false) equal fails in cc

        by_place : (c : Bool) → (a == p) ≡ c → (rest : List (Slot × ℕ)) → (a < p → number_in rest p 0 other ≡ value (Scalar p, k + w p))
            → number_in ((Scalar a, value (Scalar a, k + w a)) ∷ rest) p 0 other ≡ value (Scalar p, k + w p)
        by_place true e rest later = rw e (ap (λ q. value (Scalar q, k + w q)) (eqb-true a p e))
        by_place false e rest later = rw e (later (⊎_elim (λ lt. lt) (λ le. absurd (eqb-false a p e (omega (arith, le, low)))) (cases_lt a p)))

        by_test : (b : Bool) → t a ≡ b → (a < p → number_in (put (k + w (a + 1)) (scalars (a + 1) n)) p 0 other ≡ value (Scalar p, k + w p))
            → number_in (put (k + w a) (map Scalar (filter t (a ∷ range_with_len (a + 1) n)))) p 0 other ≡ value (Scalar p, k + w p)
        by_test true e later =
            let same : k + w (a + 1) ≡ suc (k + w a) = omega (arith, counted a e) in
            rw e (by_place (a == p) refl (put (suc (k + w a)) (scalars (a + 1) n)) (λ less. subst (λ x. number_in (put x (scalars (a + 1) n)) p 0 other ≡ value (Scalar p, k + w p)) same (later less)))
        by_test false e later =
            let same : k + w (a + 1) ≡ k + w a = omega (arith, passed a e) in
            let less : a < p = ⊎_elim (λ lt. lt) (λ le. absurd (apart a e (omega (arith, le, low)))) (cases_lt a p) in
            rw e (subst (λ x. number_in (put x (scalars (a + 1) n)) p 0 other ≡ value (Scalar p, k + w p)) same (later less))

    scalar_miss : (k a n p i other : ℕ) → ((q : ℕ) → q < a + n → t q ≡ true → is_at p i (Scalar q) ≡ false) → number_in (put k (scalars a n)) p i other ≡ other
    scalar_miss k a zero p i other h = refl
    scalar_miss k a (suc n) p i other h = by_test (t a) refl (λ j. scalar_miss j (a + 1) n p i other (λ q lt. h q (omega (arith, lt))))
      where
        by_test : (b : Bool) → t a ≡ b → ((j : ℕ) → number_in (put j (scalars (a + 1) n)) p i other ≡ other) → number_in (put k (map Scalar (filter t (a ∷ range_with_len (a + 1) n)))) p i other ≡ other
        by_test true e later = rw e (ap (λ b. if b then value (Scalar a, k) else number_in (put (suc k) (scalars (a + 1) n)) p i other) (h a (omega arith) e) ∙ later (suc k))
        by_test false e later = rw e (later k)

    scalars_long : (a n : ℕ) → length (scalars a n) + w a ≡ w (a + n)
    scalars_long a zero = let e : a + 0 ≡ a = omega arith in rw e (omega arith)
    scalars_long a (suc n) = by_test (t a) refl (scalars_long (a + 1) n)
      where
        by_test : (b : Bool) → t a ≡ b → length (scalars (a + 1) n) + w (a + 1) ≡ w (a + 1 + n) → length (map Scalar (filter t (a ∷ range_with_len (a + 1) n))) + w a ≡ w (a + suc n)
        by_test true e later = let at : a + 1 + n ≡ a + suc n = omega arith in let same = ap w at in let one = counted a e in rw e (omega (arith, later, same, one))
        by_test false e later = let at : a + 1 + n ≡ a + suc n = omega arith in let same = ap w at in let one = passed a e in rw e (omega (arith, later, same, one))

    sizes_miss : (k : ℕ) (ps : List ℕ) (p i other : ℕ) → number_in (put k (map Size ps)) p i other ≡ other
    sizes_miss k [] p i other = refl
    sizes_miss k (q ∷ ps) p i other = sizes_miss (suc k) ps p i other

    no_scalar_size : (k : ℕ) (ps : List ℕ) (p other : ℕ) → size_in (put k (map Scalar ps)) p other ≡ other
    no_scalar_size k [] p other = refl
    no_scalar_size k (q ∷ ps) p other = no_scalar_size (suc k) ps p other

    size_hit : (k a n p other : ℕ) → a ≤ p → p < a + n → t p ≡ true → size_in (put (k + w a) (map Size (filter t (range_with_len a n)))) p other ≡ value (Size p, k + w p)
    size_hit k a zero p other low high h = absurd (omega (arith, low, high))
    size_hit k a (suc n) p other low high h = by_test (t a) refl (λ less. size_hit k (a + 1) n p other (omega (arith, less)) (omega (arith, high)) h)
      where
        apart : (q : ℕ) → t q ≡ false → q ≡ p → ⊥
        apart q fails equal = let passes = subst (λ x. t x ≡ false) equal fails in cc

        by_place : (c : Bool) → (a == p) ≡ c → (rest : List (Slot × ℕ)) → (a < p → size_in rest p other ≡ value (Size p, k + w p)) → size_in ((Size a, value (Size a, k + w a)) ∷ rest) p other ≡ value (Size p, k + w p)
        by_place true e rest later = rw e (ap (λ q. value (Size q, k + w q)) (eqb-true a p e))
        by_place false e rest later = rw e (later (⊎_elim (λ lt. lt) (λ le. absurd (eqb-false a p e (omega (arith, le, low)))) (cases_lt a p)))

        by_test : (b : Bool) → t a ≡ b → (a < p → size_in (put (k + w (a + 1)) (map Size (filter t (range_with_len (a + 1) n)))) p other ≡ value (Size p, k + w p))
            → size_in (put (k + w a) (map Size (filter t (a ∷ range_with_len (a + 1) n)))) p other ≡ value (Size p, k + w p)
        by_test true e later =
            let same : k + w (a + 1) ≡ suc (k + w a) = omega (arith, counted a e) in
            rw e (by_place (a == p) refl (put (suc (k + w a)) (map Size (filter t (range_with_len (a + 1) n)))) (λ less. subst (λ x. size_in (put x (map Size (filter t (range_with_len (a + 1) n)))) p other ≡ value (Size p, k + w p)) same (later less)))
        by_test false e later =
            let same : k + w (a + 1) ≡ k + w a = omega (arith, passed a e) in
            let less : a < p = ⊎_elim (λ lt. lt) (λ le. absurd (apart a e (omega (arith, le, low)))) (cases_lt a p) in
            rw e (subst (λ x. size_in (put x (map Size (filter t (range_with_len (a + 1) n)))) p other ≡ value (Size p, k + w p)) same (later less))

    size_miss : (k a n p other : ℕ) → ((q : ℕ) → q < a + n → t q ≡ true → is_size_of p (Size q) ≡ false) → size_in (put k (map Size (filter t (range_with_len a n)))) p other ≡ other
    size_miss k a zero p other h = refl
    size_miss k a (suc n) p other h = by_test (t a) refl (λ j. size_miss j (a + 1) n p other (λ q lt. h q (omega (arith, lt))))
      where
        by_test : (b : Bool) → t a ≡ b → ((j : ℕ) → size_in (put j (map Size (filter t (range_with_len (a + 1) n)))) p other ≡ other) → size_in (put k (map Size (filter t (a ∷ range_with_len (a + 1) n)))) p other ≡ other
        by_test true e later = rw e (ap (λ b. if b then value (Size a, k) else size_in (put (suc k) (map Size (filter t (range_with_len (a + 1) n)))) p other) (h a (omega arith) e) ∙ later (suc k))
        by_test false e later = rw e (later k)

  -- ---- elements
  element_hit : (k b m p i other : ℕ) → b ≤ i → i < b + m → number_in (put (k + b) (map (Element p) (range_with_len b m))) p i other ≡ value (Element p i, k + i)
  element_hit k b zero p i other low high = absurd (omega (arith, low, high))
  element_hit k b (suc m) p i other low high = by_place (b == i) refl (λ less. element_hit k (b + 1) m p i other (omega (arith, less)) (omega (arith, high)))
    where
      by_place : (c : Bool) → (b == i) ≡ c → (b < i → number_in (put (k + (b + 1)) (map (Element p) (range_with_len (b + 1) m))) p i other ≡ value (Element p i, k + i))
          → number_in ((Element p b, value (Element p b, k + b)) ∷ put (suc (k + b)) (map (Element p) (range_with_len (b + 1) m))) p i other ≡ value (Element p i, k + i)
      by_place true e later = rw (eq-eqb p p refl, e) (ap (λ j. value (Element p j, k + j)) (eqb-true b i e))
      by_place false e later =
          let same : k + (b + 1) ≡ suc (k + b) = omega arith in
          let less : b < i = ⊎_elim (λ lt. lt) (λ le. absurd (eqb-false b i e (omega (arith, le, low)))) (cases_lt b i) in
          rw (eq-eqb p p refl, e) (subst (λ x. number_in (put x (map (Element p) (range_with_len (b + 1) m))) p i other ≡ value (Element p i, k + i)) same (later less))

  element_miss : (k b m q p i other : ℕ) → ((j : ℕ) → j < b + m → is_at p i (Element q j) ≡ false) → number_in (put k (map (Element q) (range_with_len b m))) p i other ≡ other
  element_miss k b zero q p i other h = refl
  element_miss k b (suc m) q p i other h =
      ap (λ c. if c then value (Element q b, k) else number_in (put (suc k) (map (Element q) (range_with_len (b + 1) m))) p i other) (h b (omega arith))
      ∙ element_miss (suc k) (b + 1) m q p i other (λ j lt. h j (omega (arith, lt)))

  no_element_size : (k b m q p other : ℕ) → size_in (put k (map (Element q) (range_with_len b m))) p other ≡ other
  no_element_size k b zero q p other = refl
  no_element_size k b (suc m) q p other = no_element_size (suc k) (b + 1) m q p other

  long_elements : (q b m : ℕ) → length (map (Element q) (range_with_len b m)) ≡ m
  long_elements q b zero = refl
  long_elements q b (suc m) = ap (λ n. suc n) (long_elements q (b + 1) m)

  module _ (t : ℕ → Bool) (size w : ℕ → ℕ) (step : (n : ℕ) → w (suc n) ≡ w n + (if t n then size n else 0)) where
    abbrev slots : ℕ → List Slot
    slots q = map (Element q) (range_with_len 0 (size q))

    abbrev elements : ℕ → ℕ → List Slot
    elements a n = flat_map (λ q. map (Element q) (range_with_len 0 (size q))) (filter t (range_with_len a n))

    more : (a : ℕ) → t a ≡ true → w (a + 1) ≡ w a + size a
    more a h = let e : a + 1 ≡ suc a = omega arith in let n = step a in let one = ap {B = ℕ} (λ b. if b then size a else 0) h in rw e (omega (arith, n, one))

    same_words : (a : ℕ) → t a ≡ false → w (a + 1) ≡ w a
    same_words a h = let e : a + 1 ≡ suc a = omega arith in let n = step a in let one = ap {B = ℕ} (λ b. if b then size a else 0) h in rw e (omega (arith, n, one))

    -- the elements of one array, then the others
    first_array : (k a n p i other : ℕ) → number_in (put k (flat_map (λ q. map (Element q) (range_with_len 0 (size q))) (a ∷ filter t (range_with_len (a + 1) n)))) p i other
        ≡ number_in (put k (slots a)) p i (number_in (put (k + size a) (elements (a + 1) n)) p i other)
    first_array k a n p i other =
        ap (λ (ss : List Slot). number_in (put k ss) p i other) (flat_map-cons (λ q. map (Element q) (range_with_len 0 (size q))) a (filter t (range_with_len (a + 1) n)))
        ∙ ap (λ (xs : List (Slot × ℕ)). number_in xs p i other) (put_append k (slots a) (elements (a + 1) n))
        ∙ number_append (put k (slots a)) (put (k + length (slots a)) (elements (a + 1) n)) p i other
        ∙ ap (λ m. number_in (put k (slots a)) p i (number_in (put (k + m) (elements (a + 1) n)) p i other)) (long_elements a 0 (size a))

    array_hit : (k a n p i other : ℕ) → a ≤ p → p < a + n → t p ≡ true → i < size p → number_in (put (k + w a) (elements a n)) p i other ≡ value (Element p i, k + w p + i)
    array_hit k a zero p i other low high h lt = absurd (omega (arith, low, high))
    array_hit k a (suc n) p i other low high h lt = by_test (t a) refl (λ less. array_hit k (a + 1) n p i other (omega (arith, less)) (omega (arith, high)) h lt)
      where
        apart : (q : ℕ) → t q ≡ false → q ≡ p → ⊥
        apart q fails equal = let passes = subst (λ x. t x ≡ false) equal fails in cc

        here : (q : ℕ) → q ≡ p → (rest : ℕ) → number_in (put (k + w q) (map (Element q) (range_with_len 0 (size q)))) p i rest ≡ value (Element p i, k + w p + i)
        here q e rest =
            subst (λ x. number_in (put (k + w x) (map (Element x) (range_with_len 0 (size x)))) p i rest ≡ value (Element p i, k + w p + i)) (sym e)
            (let none : k + w p + 0 ≡ k + w p = omega arith in subst (λ x. number_in (put x (map (Element p) (range_with_len 0 (size p)))) p i rest ≡ value (Element p i, k + w p + i)) none (element_hit (k + w p) 0 (size p) p i rest (omega arith) (omega (arith, lt))))

        by_place : (c : Bool) → (a == p) ≡ c → t a ≡ true → (a < p → number_in (put (k + w (a + 1)) (elements (a + 1) n)) p i other ≡ value (Element p i, k + w p + i))
            → number_in (put (k + w a) (slots a)) p i (number_in (put (k + w a + size a) (elements (a + 1) n)) p i other) ≡ value (Element p i, k + w p + i)
        by_place true e passes later = here a (eqb-true a p e) (number_in (put (k + w a + size a) (elements (a + 1) n)) p i other)
        by_place false e passes later =
            let less : a < p = ⊎_elim (λ l. l) (λ le. absurd (eqb-false a p e (omega (arith, le, low)))) (cases_lt a p) in
            let same : k + w (a + 1) ≡ k + w a + size a = omega (arith, more a passes) in
            element_miss (k + w a) 0 (size a) a p i (number_in (put (k + w a + size a) (elements (a + 1) n)) p i other) (λ j l. ap (λ b. b && (j == i)) e)
            ∙ subst (λ x. number_in (put x (elements (a + 1) n)) p i other ≡ value (Element p i, k + w p + i)) same (later less)

        by_test : (b : Bool) → t a ≡ b → (a < p → number_in (put (k + w (a + 1)) (elements (a + 1) n)) p i other ≡ value (Element p i, k + w p + i))
            → number_in (put (k + w a) (flat_map (λ q. map (Element q) (range_with_len 0 (size q))) (filter t (a ∷ range_with_len (a + 1) n)))) p i other ≡ value (Element p i, k + w p + i)
        by_test true e later = rw e (first_array (k + w a) a n p i other ∙ by_place (a == p) refl e later)
        by_test false e later =
            let same : k + w (a + 1) ≡ k + w a = omega (arith, same_words a e) in
            let less : a < p = ⊎_elim (λ l. l) (λ le. absurd (apart a e (omega (arith, le, low)))) (cases_lt a p) in
            rw e (subst (λ x. number_in (put x (elements (a + 1) n)) p i other ≡ value (Element p i, k + w p + i)) same (later less))

    array_miss : (k a n p i other : ℕ) → ((q : ℕ) → q < a + n → t q ≡ true → (j : ℕ) → j < size q → is_at p i (Element q j) ≡ false) → number_in (put k (elements a n)) p i other ≡ other
    array_miss k a zero p i other h = refl
    array_miss k a (suc n) p i other h = by_test (t a) refl (λ j. array_miss j (a + 1) n p i other (λ q lt. h q (omega (arith, lt))))
      where
        by_test : (b : Bool) → t a ≡ b → ((j : ℕ) → number_in (put j (elements (a + 1) n)) p i other ≡ other)
            → number_in (put k (flat_map (λ q. map (Element q) (range_with_len 0 (size q))) (filter t (a ∷ range_with_len (a + 1) n)))) p i other ≡ other
        by_test true e later =
            rw e (first_array k a n p i other
            ∙ element_miss k 0 (size a) a p i (number_in (put (k + size a) (elements (a + 1) n)) p i other) (λ j l. h a (omega arith) e j (omega (arith, l)))
            ∙ later (k + size a))
        by_test false e later = rw e (later k)

-- ---- the size of a scalar

one_number : (k : ArrayKind) (n : ℕ) → is_scalar_kind k ≡ true → SizeIsOf k n → n ≡ 1
one_number array.Scalar n h s = s
one_number (array.Fixed m) n h s = cc
one_number array.Dynamic n h s = cc

not_both : (k : ArrayKind) → is_scalar_kind k ≡ true → is_dynamic_kind k ≡ true → ⊥
not_both array.Scalar h d = cc
not_both (array.Fixed m) h d = cc
not_both array.Dynamic h d = cc

not_false : (b : Bool) → not b ≡ false → b ≡ true
not_false true h = refl
not_false false h = cc

both_true : (a b c : Bool) → ((a && b) && c) ≡ true → (a ≡ true) × (b ≡ true)
both_true true true c h = (refl, refl)
both_true true false c h = cc
both_true false b c h = cc

and_true : (a b : Bool) → (a && b) ≡ true → (a ≡ true) × (b ≡ true)
and_true true true h = (refl, refl)
and_true true false h = cc
and_true false b h = cc

not_true : (b : Bool) → not b ≡ true → b ≡ false
not_true true h = cc
not_true false h = refl

-- what passes a test that p does not pass is not p
other_than : (t : ℕ → Bool) (p q : ℕ) → t p ≡ false → t q ≡ true → (q == p) ≡ false
other_than t p q fails passes = by (q == p) refl
  where
    by : (b : Bool) → (q == p) ≡ b → b ≡ false
    by true e = let moved = subst (λ x. t x ≡ true) (eqb-true q p e) passes in cc
    by false e = refl

other_by_place : (q p n : ℕ) → q < n → n ≤ p → (q == p) ≡ false
other_by_place q p n lt le = by (q == p) refl
  where
    by : (b : Bool) → (q == p) ≡ b → b ≡ false
    by true e = let same = eqb-true q p e in absurd (omega (arith, same, lt, le))
    by false e = refl

and_no : (b : Bool) → (b && false) ≡ false
and_no true = refl
and_no false = refl

not_first : (i : ℕ) → (suc i == 0) ≡ false
not_first i = by (suc i == 0) refl
  where
    by : (b : Bool) → (suc i == 0) ≡ b → b ≡ false
    by true e = let same = eqb-true (suc i) 0 e in absurd (omega (arith, same))
    by false e = refl

sizes_long : (ps : List ℕ) → length (map Size ps) ≡ length (map Scalar ps)
sizes_long [] = refl
sizes_long (p ∷ ps) = ap (λ n. suc n) (sizes_long ps)

module _ (f : FrameTerm) (ns : List ℕ) (sound : IsSound f) (fit : SizesFit f ns) where
  abbrev count : ℕ
  count = length f.class.props

  scalar_size : (p : ℕ) → p < count → is_array f p ≡ false → slice_index ns p ≡ 1
  scalar_size p lt h =
      let kinds : slice_index_or (map (λ (x : Prop). is_scalar_kind x.array) f.class.props) p false ≡ is_scalar_kind (slice_index_or f.class.props p any_prop).array = get_or-map (λ (x : Prop). is_scalar_kind x.array) f.class.props p any_prop false lt in
      let dynamics : slice_index_or (map (λ (x : Prop). is_dynamic_kind x.array) f.class.props) p false ≡ is_dynamic_kind (slice_index_or f.class.props p any_prop).array = get_or-map (λ (x : Prop). is_dynamic_kind x.array) f.class.props p any_prop false lt in
      let scalar : is_scalar_kind (slice_index_or f.class.props p any_prop).array ≡ true = sym kinds ∙ not_false (slice_index_or (map (λ (x : Prop). is_scalar_kind x.array) f.class.props) p false) h in
      let one = one_number (slice_index_or f.class.props p any_prop).array (slice_index f.state.sizes p) scalar (sound.state.of_kind p any_prop lt) in
      fit.same p (kept (has_free_size f p) refl (λ e. not_both (slice_index_or f.class.props p any_prop).array scalar (sym dynamics ∙ (sound.free p e).1))) ∙ one
    where
      kept : (b : Bool) → has_free_size f p ≡ b → (has_free_size f p ≡ true → ⊥) → has_free_size f p ≡ false
      kept true e never = absurd (never e)
      kept false e never = e

  none_past : (p : ℕ) → count ≤ p → slice_index ns p ≡ 0
  none_past p le = past_end ns p 0 (omega (arith, fit.long, le))

  module _ (cap : ℕ) (g : Lcg) where
    abbrev value_of : (Slot × ℕ) → ℕ
    value_of x = preferred_number f ns cap x.0 (word_of g x.1)

    module _ (q : Part) where
      abbrev scalar_list : List Slot
      scalar_list = map Scalar (filter (draws_scalar f q) (range_with_len 0 count))

      abbrev element_list : List Slot
      element_list = flat_map (λ p. map (Element p) (range_with_len 0 (slice_index ns p))) (filter (draws_elements f q) (range_with_len 0 count))

      abbrev scalars_first : ℕ
      scalars_first = size_words f q count

      abbrev elements_first : ℕ
      elements_first = size_words f q count + scalar_words f q count

      abbrev expected : ℕ → ℕ → ℕ → ℕ
      expected p i other = number_in (put value_of scalars_first scalar_list) p i (number_in (put value_of elements_first element_list) p i other)

      no_scalars : ((p : ℕ) → draws_scalar f q p ≡ false) → (k p i other : ℕ) → number_in (put value_of k scalar_list) p i other ≡ other
      no_scalars none k p i other = scalar_miss value_of (draws_scalar f q) (scalar_words f q) (λ n. refl) k 0 count p i other (λ r lt e. let clash = none r in cc)

      no_elements : ((p : ℕ) → draws_elements f q p ≡ false) → (k p i other : ℕ) → number_in (put value_of k element_list) p i other ≡ other
      no_elements none k p i other = array_miss value_of (draws_elements f q) (λ p'. slice_index ns p') (element_words f q ns) (λ n. refl) k 0 count p i other (λ r lt e j l. let clash = none r in cc)

      size_count : length (map Size (filter (draws_size f q) (range_with_len 0 count))) ≡ size_words f q count
      size_count =
          let long = scalars_long value_of (draws_size f q) (size_words f q) (λ n. refl) 0 count in
          let at : 0 + count ≡ count = omega arith in
          let same = ap (size_words f q) at in
          let two = sizes_long (filter (draws_size f q) (range_with_len 0 count)) in
          omega (arith, long, same, two)

      scalar_count : length scalar_list ≡ scalar_words f q count
      scalar_count =
          let long = scalars_long value_of (draws_scalar f q) (scalar_words f q) (λ n. refl) 0 count in
          let at : 0 + count ≡ count = omega arith in
          let same = ap (scalar_words f q) at in
          omega (arith, long, same)

    abbrev drawn_in : Part → List (Slot × ℕ)
    drawn_in q = map (λ x. (x.0, value_of x)) (draws_of f q ns)

    number_law : (q : Part) (p i other : ℕ) → number_in (drawn_in q) p i other ≡ expected q p i other
    number_law Randc p i other = sym (no_scalars Randc (λ r. refl) (scalars_first Randc) p i (number_in (put value_of (elements_first Randc) (element_list Randc)) p i other) ∙ no_elements Randc (λ r. refl) (elements_first Randc) p i other)
    number_law Sizes p i other =
        ap (λ (xs : List (Slot × ℕ)). number_in xs p i other) (put_append value_of 0 (size_slots f) (scalar_slots f))
        ∙ number_append (put value_of 0 (size_slots f)) (put value_of (0 + length (size_slots f)) (scalar_slots f)) p i other
        ∙ sizes_miss value_of (draws_size f Sizes) (size_words f Sizes) (λ n. refl) 0 (filter (has_free_size f) (props_of f)) p i (number_in (put value_of (0 + length (size_slots f)) (scalar_slots f)) p i other)
        ∙ (let first : 0 + length (size_slots f) ≡ size_words f Sizes count = omega (arith, size_count Sizes) in ap (λ k. number_in (put value_of k (scalar_slots f)) p i other) first)
        ∙ ap (λ o. number_in (put value_of (scalars_first Sizes) (scalar_list Sizes)) p i o) (sym (no_elements Sizes (λ r. refl) (elements_first Sizes) p i other))
    number_law All p i other =
        ap (λ (xs : List (Slot × ℕ)). number_in xs p i other) (put_append value_of (length (size_slots f)) (scalar_slots f) (element_slots f ns))
        ∙ number_append (put value_of (length (size_slots f)) (scalar_slots f)) (put value_of (length (size_slots f) + length (scalar_slots f)) (element_slots f ns)) p i other
        ∙ (λ k. number_in (put value_of (size_count All k) (scalar_slots f)) p i (number_in (put value_of (size_count All k + scalar_count All k) (element_slots f ns)) p i other))

    -- ---- place by place
    module _ (q : Part) where
      abbrev first : Lcg
      first = after (size_words f q count) g

      abbrev second : Lcg
      second = after (scalar_words f q count) first

      abbrev scalars_drawn : List ℕ
      scalars_drawn = drawn_scalars f q (state_at f ns) first count

      abbrev base : ℕ → ℕ → ℕ
      base p i = if nat_lt i (slice_index ns p) then (reading_of f.state).element p i else 0

      base_none : (p i : ℕ) → slice_index ns p ≤ i → base p i ≡ 0
      base_none p i le = ap (λ b. if b then (reading_of f.state).element p i else 0) (le-ltb i (slice_index ns p) le)

      scalar_apart : (p i other : ℕ) → draws_scalar f q p ≡ false → number_in (put value_of (scalars_first q) (scalar_list q)) p i other ≡ other
      scalar_apart p i other fails =
          scalar_miss value_of (draws_scalar f q) (scalar_words f q) (λ n. refl) (scalars_first q) 0 count p i other (λ r lt e. ap (λ b. b && (i == 0)) (other_than (draws_scalar f q) p r fails e))

      elements_apart : (p i other : ℕ) → draws_elements f q p ≡ false → number_in (put value_of (elements_first q) (element_list q)) p i other ≡ other
      elements_apart p i other fails =
          array_miss value_of (draws_elements f q) (λ r. slice_index ns r) (element_words f q ns) (λ n. refl) (elements_first q) 0 count p i other (λ r lt e j l. ap (λ b. b && (j == i)) (other_than (draws_elements f q) p r fails e))

      scalars_past : (p i other : ℕ) → count ≤ p → number_in (put value_of (scalars_first q) (scalar_list q)) p i other ≡ other
      scalars_past p i other le =
          scalar_miss value_of (draws_scalar f q) (scalar_words f q) (λ n. refl) (scalars_first q) 0 count p i other (λ r lt e. ap (λ b. b && (i == 0)) (other_by_place r p count (omega (arith, lt)) le))

      elements_past : (p i other : ℕ) → count ≤ p → number_in (put value_of (elements_first q) (element_list q)) p i other ≡ other
      elements_past p i other le =
          array_miss value_of (draws_elements f q) (λ r. slice_index ns r) (element_words f q ns) (λ n. refl) (elements_first q) 0 count p i other (λ r lt e j l. ap (λ b. b && (j == i)) (other_by_place r p count (omega (arith, lt)) le))

      -- past the elements of an array
      elements_over : (p i other : ℕ) → slice_index ns p ≤ i → number_in (put value_of (elements_first q) (element_list q)) p i other ≡ other
      elements_over p i other le =
          array_miss value_of (draws_elements f q) (λ r. slice_index ns r) (element_words f q ns) (λ n. refl) (elements_first q) 0 count p i other (λ r lt e j l. by r j l (r == p) refl)
        where
          by : (r j : ℕ) → j < slice_index ns r → (b : Bool) → (r == p) ≡ b → (b && (j == i)) ≡ false
          by r j l true e = let same = ap (slice_index ns) (eqb-true r p e) in other_by_place j i (slice_index ns r) l (omega (arith, same, le))
          by r j l false e = refl

      -- ---- what the code builds
      row_at : (p : ℕ) → p < count → slice_index_or (rows f q ns scalars_drawn second count) p [] ≡ row_of f q (slice_index ns p) (slice_index scalars_drawn p) (after (element_words f q ns p) second) p
      row_at p lt = built_at (λ n. rows f q ns scalars_drawn second n) (λ n. row_of f q (slice_index ns n) (slice_index scalars_drawn n) (after (element_words f q ns n) second) n) refl (λ n. refl) [] count p lt

      scalar_at : (p : ℕ) → p < count → slice_index scalars_drawn p ≡ scalar_number f q (state_at f ns) (word_of (after (scalar_words f q p) first) 0) p
      scalar_at p lt = built_at (λ n. drawn_scalars f q (state_at f ns) first n) (λ n. scalar_number f q (state_at f ns) (word_of (after (scalar_words f q n) first) 0) n) refl (λ n. refl) 0 count p lt

      scalar_word : (p : ℕ) → word_of (after (scalar_words f q p) first) 0 ≡ word_of g (scalars_first q + scalar_words f q p)
      scalar_word p = word_now (scalar_words f q p) first ∙ word_later (size_words f q count) g (scalar_words f q p)

      element_word : (p i : ℕ) → word_of (after i (after (element_words f q ns p) second)) 0 ≡ word_of g (elements_first q + element_words f q ns p + i)
      element_word p i =
          let place : size_words f q count + (scalar_words f q count + (element_words f q ns p + i)) ≡ size_words f q count + scalar_words f q count + element_words f q ns p + i = omega arith in
          word_now i (after (element_words f q ns p) second) ∙ word_later (element_words f q ns p) second i ∙ word_later (scalar_words f q count) first (element_words f q ns p + i)
          ∙ word_later (size_words f q count) g (scalar_words f q count + (element_words f q ns p + i)) ∙ ap (word_of g) place

      in_elements : (p i : ℕ) → p < count → draws_elements f q p ≡ true → draws_scalar f q p ≡ false
          → slice_index (drawn_elements f (after (element_words f q ns p) second) p (slice_index ns p)) i ≡ expected q p i (base p i)
      in_elements p i lt passes fails =
          ⊎_elim
          (λ l. built_at (λ n. drawn_elements f (after (element_words f q ns p) second) p n) (λ n. from_domain f p (members_of f p) (word_of (after n (after (element_words f q ns p) second)) 0)) refl (λ n. refl) 0 (slice_index ns p) i l
          ∙ ap (from_domain f p (members_of f p)) (element_word p i)
          ∙ sym (scalar_apart p i (number_in (put value_of (elements_first q) (element_list q)) p i (base p i)) fails ∙ hit l))
          (λ le. built_past (λ n. drawn_elements f (after (element_words f q ns p) second) p n) (λ n. from_domain f p (members_of f p) (word_of (after n (after (element_words f q ns p) second)) 0)) refl (λ n. refl) 0 (slice_index ns p) i le
          ∙ sym (scalar_apart p i (number_in (put value_of (elements_first q) (element_list q)) p i (base p i)) fails ∙ elements_over p i (base p i) le ∙ base_none p i le))
          (cases_lt i (slice_index ns p))
        where
          hit : i < slice_index ns p → number_in (put value_of (elements_first q) (element_list q)) p i (base p i) ≡ value_of (Element p i, elements_first q + element_words f q ns p + i)
          hit l =
              let same : elements_first q + 0 ≡ elements_first q = omega arith in
              subst (λ k. number_in (put value_of k (element_list q)) p i (base p i) ≡ value_of (Element p i, elements_first q + element_words f q ns p + i)) same
              (array_hit value_of (draws_elements f q) (λ r. slice_index ns r) (element_words f q ns) (λ n. refl) (elements_first q) 0 count p i (base p i) (omega arith) (omega (arith, lt)) passes l)

      in_scalar : (p i : ℕ) → p < count → draws_scalar f q p ≡ true → draws_elements f q p ≡ false → is_array f p ≡ false → slice_index (slice_index scalars_drawn p ∷ []) i ≡ expected q p i (base p i)
      in_scalar p zero lt passes fails scalar =
          scalar_at p lt
          ∙ ap (λ b. if b then from_items f (state_at f ns) p f.items (word_of (after (scalar_words f q p) first) 0) else 0) passes
          ∙ picks f ns p (word_of (after (scalar_words f q p) first) 0) f.items
          ∙ ap (from_dists f ns p (dists_on p f.items)) (scalar_word p)
          ∙ sym hit
        where
          hit : number_in (put value_of (scalars_first q) (scalar_list q)) p 0 (number_in (put value_of (elements_first q) (element_list q)) p 0 (base p 0)) ≡ value_of (Scalar p, scalars_first q + scalar_words f q p)
          hit =
              let same : scalars_first q + 0 ≡ scalars_first q = omega arith in
              subst (λ k. number_in (put value_of k (scalar_list q)) p 0 (number_in (put value_of (elements_first q) (element_list q)) p 0 (base p 0)) ≡ value_of (Scalar p, scalars_first q + scalar_words f q p)) same
              (scalar_hit value_of (draws_scalar f q) (scalar_words f q) (λ n. refl) (scalars_first q) 0 count p (number_in (put value_of (elements_first q) (element_list q)) p 0 (base p 0)) (omega arith) (omega (arith, lt)) passes)
      in_scalar p (suc i) lt passes fails scalar =
          let size = scalar_size p lt scalar in
          sym (scalar_miss value_of (draws_scalar f q) (scalar_words f q) (λ n. refl) (scalars_first q) 0 count p (suc i) (number_in (put value_of (elements_first q) (element_list q)) p (suc i) (base p (suc i))) (λ r l e. ap (λ b. (r == p) && b) (not_first i) ∙ and_no (r == p))
          ∙ elements_apart p (suc i) (base p (suc i)) fails ∙ base_none p (suc i) (omega (arith, size)))

      array_is_no_scalar : (r : Part) (p : ℕ) → draws_elements f r p ≡ true → draws_scalar f r p ≡ false
      array_is_no_scalar Randc p h = refl
      array_is_no_scalar Sizes p h = cc
      array_is_no_scalar All p h = let two = and_true (is_random f p) (is_array f p) h in rw two.1 (and_front (is_random f p) (not (is_cyclic f p)))
        where
          and_front : (a c : Bool) → ((a && false) && c) ≡ false
          and_front true c = refl
          and_front false c = refl

      scalar_is_no_array : (r : Part) (p : ℕ) → draws_scalar f r p ≡ true → is_array f p ≡ false
      scalar_is_no_array Randc p h = cc
      scalar_is_no_array Sizes p h = not_true (is_array f p) (both_true (is_random f p) (not (is_array f p)) (not (is_cyclic f p)) h).1
      scalar_is_no_array All p h = not_true (is_array f p) (both_true (is_random f p) (not (is_array f p)) (not (is_cyclic f p)) h).1

      inside : (p i : ℕ) → p < count → slice_index (row_of f q (slice_index ns p) (slice_index scalars_drawn p) (after (element_words f q ns p) second) p) i ≡ expected q p i (base p i)
      inside p i lt = by (draws_elements f q p) refl (draws_scalar f q p) refl
        where
          by : (b : Bool) → draws_elements f q p ≡ b → (c : Bool) → draws_scalar f q p ≡ c → slice_index (row_of f q (slice_index ns p) (slice_index scalars_drawn p) (after (element_words f q ns p) second) p) i ≡ expected q p i (base p i)
          by true e c h =
              ap (λ b. slice_index (if b then drawn_elements f (after (element_words f q ns p) second) p (slice_index ns p) else (if draws_scalar f q p then slice_index scalars_drawn p ∷ [] else state_numbers f p (slice_index ns p))) i) e
              ∙ in_elements p i lt e (array_is_no_scalar q p e)
          by false e true h =
              (λ k. slice_index (if e k then drawn_elements f (after (element_words f q ns p) second) p (slice_index ns p) else (if h k then slice_index scalars_drawn p ∷ [] else state_numbers f p (slice_index ns p))) i)
              ∙ in_scalar p i lt h e (scalar_is_no_array q p h)
          by false e false h =
              (λ k. slice_index (if e k then drawn_elements f (after (element_words f q ns p) second) p (slice_index ns p) else (if h k then slice_index scalars_drawn p ∷ [] else state_numbers f p (slice_index ns p))) i)
              ∙ numbers_at f ns p (slice_index ns p) i
              ∙ sym (scalar_apart p i (number_in (put value_of (elements_first q) (element_list q)) p i (base p i)) h ∙ elements_apart p i (base p i) e)

      element_law : (p i : ℕ) → slice_index (slice_index_or (rows f q ns scalars_drawn second count) p []) i ≡ number_in (drawn_in q) p i (base p i)
      element_law p i =
          ⊎_elim
          (λ lt. ap (λ (r : List ℕ). slice_index r i) (row_at p lt) ∙ inside p i lt)
          (λ le. ap (λ (r : List ℕ). slice_index r i) (built_past (λ n. rows f q ns scalars_drawn second n) (λ n. row_of f q (slice_index ns n) (slice_index scalars_drawn n) (after (element_words f q ns n) second) n) refl (λ n. refl) [] count p le)
          ∙ (let none = none_past p le in sym (scalars_past p i (number_in (put value_of (elements_first q) (element_list q)) p i (base p i)) le ∙ elements_past p i (base p i) le ∙ base_none p i (omega (arith, none)))))
          (cases_lt p count)
          ∙ sym (number_law q p i (base p i))

    -- ---- sizes
    arrays_no_size : (k : ℕ) (ps : List ℕ) (p other : ℕ) → size_in (put value_of k (flat_map (λ r. map (Element r) (range_with_len 0 (slice_index ns r))) ps)) p other ≡ other
    arrays_no_size k [] p other = refl
    arrays_no_size k (r ∷ ps) p other =
        ap (λ (ss : List Slot). size_in (put value_of k ss) p other) (flat_map-cons (λ x. map (Element x) (range_with_len 0 (slice_index ns x))) r ps)
        ∙ ap (λ (xs : List (Slot × ℕ)). size_in xs p other) (put_append value_of k (map (Element r) (range_with_len 0 (slice_index ns r))) (flat_map (λ x. map (Element x) (range_with_len 0 (slice_index ns x))) ps))
        ∙ size_append (put value_of k (map (Element r) (range_with_len 0 (slice_index ns r)))) (put value_of (k + length (map (Element r) (range_with_len 0 (slice_index ns r)))) (flat_map (λ x. map (Element x) (range_with_len 0 (slice_index ns x))) ps)) p other
        ∙ no_element_size value_of k 0 (slice_index ns r) r p (size_in (put value_of (k + length (map (Element r) (range_with_len 0 (slice_index ns r)))) (flat_map (λ x. map (Element x) (range_with_len 0 (slice_index ns x))) ps)) p other)
        ∙ arrays_no_size (k + length (map (Element r) (range_with_len 0 (slice_index ns r)))) ps p other

    all_sizes_stay : (p other : ℕ) → size_in (drawn_in All) p other ≡ other
    all_sizes_stay p other =
        ap (λ (xs : List (Slot × ℕ)). size_in xs p other) (put_append value_of (length (size_slots f)) (scalar_slots f) (element_slots f ns))
        ∙ size_append (put value_of (length (size_slots f)) (scalar_slots f)) (put value_of (length (size_slots f) + length (scalar_slots f)) (element_slots f ns)) p other
        ∙ no_scalar_size value_of (draws_size f All) (size_words f All) (λ n. refl) (length (size_slots f)) (filter (draws_scalar f All) (props_of f)) p (size_in (put value_of (length (size_slots f) + length (scalar_slots f)) (element_slots f ns)) p other)
        ∙ arrays_no_size (length (size_slots f) + length (scalar_slots f)) (filter (draws_elements f All) (props_of f)) p other

    sizes_alone : (p other : ℕ) → size_in (drawn_in Sizes) p other ≡ size_in (put value_of 0 (size_slots f)) p other
    sizes_alone p other =
        ap (λ (xs : List (Slot × ℕ)). size_in xs p other) (put_append value_of 0 (size_slots f) (scalar_slots f))
        ∙ size_append (put value_of 0 (size_slots f)) (put value_of (0 + length (size_slots f)) (scalar_slots f)) p other
        ∙ ap (λ o. size_in (put value_of 0 (size_slots f)) p o) (no_scalar_size value_of (draws_size f Sizes) (size_words f Sizes) (λ n. refl) (0 + length (size_slots f)) (filter (draws_scalar f Sizes) (props_of f)) p other)

    one_size : (p : ℕ) → p < count → size_number f cap Sizes (word_of (after (size_words f Sizes p) g) 0) (slice_index ns p) p ≡ size_in (put value_of 0 (size_slots f)) p (slice_index ns p)
    one_size p lt = by (has_free_size f p) refl
      where
        by : (b : Bool) → has_free_size f p ≡ b → (if has_free_size f p then word_of (after (size_words f Sizes p) g) 0 % (cap + 1) else slice_index ns p) ≡ size_in (put value_of 0 (size_slots f)) p (slice_index ns p)
        by true e =
            ap (λ b. if b then word_of (after (size_words f Sizes p) g) 0 % (cap + 1) else slice_index ns p) e
            ∙ (let same : 0 + size_words f Sizes p ≡ size_words f Sizes p = omega arith in ap (λ x. x % (cap + 1)) (word_now (size_words f Sizes p) g ∙ ap (word_of g) (sym same)))
            ∙ sym (size_hit value_of (draws_size f Sizes) (size_words f Sizes) (λ n. refl) 0 0 count p (slice_index ns p) (omega arith) (omega (arith, lt)) e)
        by false e =
            ap (λ b. if b then word_of (after (size_words f Sizes p) g) 0 % (cap + 1) else slice_index ns p) e
            ∙ sym (size_miss value_of (draws_size f Sizes) (size_words f Sizes) (λ n. refl) 0 0 count p (slice_index ns p) (λ r l h. other_than (has_free_size f) p r e h))

    size_law : (q : Part) (p : ℕ) → slice_index (drawn_sizes f q ns cap g count) p ≡ size_in (drawn_in q) p (slice_index ns p)
    size_law q p =
        ⊎_elim
        (λ lt. built_at (λ n. drawn_sizes f q ns cap g n) (λ n. size_number f cap q (word_of (after (size_words f q n) g) 0) (slice_index ns n) n) refl (λ n. refl) 0 count p lt ∙ within q lt)
        (λ le. built_past (λ n. drawn_sizes f q ns cap g n) (λ n. size_number f cap q (word_of (after (size_words f q n) g) 0) (slice_index ns n) n) refl (λ n. refl) 0 count p le ∙ sym (beyond q le ∙ none_past p le))
        (cases_lt p count)
      where
        within : (r : Part) → p < count → size_number f cap r (word_of (after (size_words f r p) g) 0) (slice_index ns p) p ≡ size_in (drawn_in r) p (slice_index ns p)
        within Randc lt = refl
        within Sizes lt = one_size p lt ∙ sym (sizes_alone p (slice_index ns p))
        within All lt = sym (all_sizes_stay p (slice_index ns p))

        beyond : (r : Part) → count ≤ p → size_in (drawn_in r) p (slice_index ns p) ≡ slice_index ns p
        beyond Randc le = refl
        beyond Sizes le = sizes_alone p (slice_index ns p) ∙ size_miss value_of (draws_size f Sizes) (size_words f Sizes) (λ n. refl) 0 0 count p (slice_index ns p) (λ r l h. other_by_place r p count (omega (arith, l)) le)
        beyond All le = all_sizes_stay p (slice_index ns p)

    -- ---- the preferred assignment
    pub drawn_is : (q : Part) → reading_of (drawn f q ns (state_at f ns) cap g) ≡ preferred_of f q ns cap (word_of g)
    drawn_is q = λ k. record { element = λ p i. element_law q p i k; size = λ p. size_law q p k; script = λ v. slice_index f.state.script v }

    pub drawn_here_is : (q : Part) → reading_of (drawn f q ns (reading_of (state_here f ns)) cap g) ≡ preferred_of f q ns cap (word_of g)
    drawn_here_is q = ap (λ (a : Reading). reading_of (drawn f q ns a cap g)) (here_is f ns fit) ∙ drawn_is q
