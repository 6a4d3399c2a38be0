-- Lists of numbers that grow at the end.
use Rattle.std.proofs.Common.{◌≡◌, ℕ, zero, suc, ◌+◌, Bool, true, false, cond, List, [], ◌∷◌, ◌++◌, map, refl, sym, ap, ◌∙◌, arith}
use Rattle.std.specs.Prelude.{filter, slice_index}
use Rattle.std.specs.List.{range_with_len}
use Rattle.std.proofs.lemmas.List.Elements.{filter-append}
use Rattle.std.proofs.lemmas.List.FromFn.{map-range_with_len_more}
use Rattle.svr_eval.specs.Reading.{Reading}
use Rattle.svr_world.specs.declared.change.Replacement.{Replacement}
use Rattle.svr_call.specs.Call.{numbers_read}

range_suc : (a n : ℕ) → range_with_len a (suc n) ≡ range_with_len a n ++ (a + n) ∷ []
range_suc a zero = ap (λ k. k ∷ []) (let e : a ≡ a + zero = omega arith in e)
range_suc a (suc n) =
    ap (λ xs. a ∷ xs) (range_suc (a + 1) n ∙ ap (λ k. range_with_len (a + 1) n ++ k ∷ []) (let e : a + 1 + n ≡ a + suc n = omega arith in e))

range_more : (a n : ℕ) → range_with_len a (n + 1) ≡ range_with_len a n ++ (a + n) ∷ []
range_more a n = ap (range_with_len a) (let e : n + 1 ≡ suc n = omega arith in e) ∙ range_suc a n

pub mapped_more : (f : ℕ → ℕ) (n : ℕ) → map f (range_with_len 0 (n + 1)) ≡ map f (range_with_len 0 n) ++ f n ∷ []
mapped_more f n = map-range_with_len_more f 0 n n (omega arith)

-- one number more of a row
pub row_more : (f : ℕ → ℕ) (n value at : ℕ) (old new : List ℕ) → new ≡ old ++ value ∷ [] → value ≡ f at → at ≡ n → old ≡ map f (range_with_len 0 n) → new ≡ map f (range_with_len 0 (n + 1))
row_more f n value at old new pushed is same before =
    pushed ∙ (λ i. before i ++ (is ∙ ap f same) i ∷ []) ∙ sym (mapped_more f n)

numbers_append : (sizes : List ℕ) (a : Reading) (ps qs : List ℕ) → numbers_read sizes a (ps ++ qs) ≡ numbers_read sizes a ps ++ numbers_read sizes a qs
numbers_append sizes a [] qs = refl
numbers_append sizes a (p ∷ ps) qs = ap (λ (rs : List Replacement). record { prop = p; numbers = map (λ i. a.element p i) (range_with_len 0 (slice_index sizes p)) } ∷ rs) (numbers_append sizes a ps qs)

kept_more : (t : ℕ → Bool) (n : ℕ) → filter t (range_with_len 0 (n + 1)) ≡ filter t (range_with_len 0 n) ++ filter t (n ∷ [])
kept_more t n = ap (filter t) (range_more 0 n) ∙ filter-append t (range_with_len 0 n) ((0 + n) ∷ []) ∙ ap (λ k. filter t (range_with_len 0 n) ++ filter t (k ∷ [])) (let e : 0 + n ≡ n = omega arith in e)

-- one property more that passes the test
numbers_taken : (sizes : List ℕ) (a : Reading) (t : ℕ → Bool) (n : ℕ) → t n ≡ true
    → numbers_read sizes a (filter t (range_with_len 0 (n + 1))) ≡ numbers_read sizes a (filter t (range_with_len 0 n)) ++ record { prop = n; numbers = map (λ i. a.element n i) (range_with_len 0 (slice_index sizes n)) } ∷ []
numbers_taken sizes a t n h =
    ap (numbers_read sizes a) (kept_more t n)
    ∙ numbers_append sizes a (filter t (range_with_len 0 n)) (filter t (n ∷ []))
    ∙ ap (λ b. numbers_read sizes a (filter t (range_with_len 0 n)) ++ numbers_read sizes a (cond b (n ∷ []) [])) h

-- and one that does not
numbers_left : (sizes : List ℕ) (a : Reading) (t : ℕ → Bool) (n : ℕ) → t n ≡ false
    → numbers_read sizes a (filter t (range_with_len 0 (n + 1))) ≡ numbers_read sizes a (filter t (range_with_len 0 n))
numbers_left sizes a t n h =
    ap (numbers_read sizes a) (kept_more t n)
    ∙ numbers_append sizes a (filter t (range_with_len 0 n)) (filter t (n ∷ []))
    ∙ ap (λ b. numbers_read sizes a (filter t (range_with_len 0 n)) ++ numbers_read sizes a (cond b (n ∷ []) [])) h
    ∙ append_none (numbers_read sizes a (filter t (range_with_len 0 n)))
  where
    append_none : (rs : List Replacement) → rs ++ [] ≡ rs
    append_none [] = refl
    append_none (r ∷ rs) = ap (λ (xs : List Replacement). r ∷ xs) (append_none rs)

-- as far as a loop over the properties has come
pub rows_taken : (sizes : List ℕ) (a : Reading) (t : ℕ → Bool) (n : ℕ) (old new : List Replacement) → t n ≡ true → old ≡ numbers_read sizes a (filter t (range_with_len 0 n))
    → new ≡ old ++ record { prop = n; numbers = map (λ i. a.element n i) (range_with_len 0 (slice_index sizes n)) } ∷ [] → new ≡ numbers_read sizes a (filter t (range_with_len 0 (n + 1)))
rows_taken sizes a t n old new h before pushed =
    pushed ∙ ap (λ (rs : List Replacement). rs ++ record { prop = n; numbers = map (λ i. a.element n i) (range_with_len 0 (slice_index sizes n)) } ∷ []) before ∙ sym (numbers_taken sizes a t n h)

pub rows_left : (sizes : List ℕ) (a : Reading) (t : ℕ → Bool) (n : ℕ) (old : List Replacement) → t n ≡ false → old ≡ numbers_read sizes a (filter t (range_with_len 0 n)) → old ≡ numbers_read sizes a (filter t (range_with_len 0 (n + 1)))
rows_left sizes a t n old h before = before ∙ sym (numbers_left sizes a t n h)
