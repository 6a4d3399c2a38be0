-- Lists over the numbers that pass a test, one number after the other.
use Rattle.std.proofs.Common.{◌≡◌, ◌+◌, ℕ, zero, suc, add-one, Bool, true, false, sym, ◌∙◌, ap, List, [], ◌∷◌, ◌++◌, map, arith, append_assoc, append-nil}
use Rattle.std.specs.Prelude.{filter, if◌then◌else◌}
use Rattle.std.specs.List.{flat_map, range_with_len}
use Rattle.std.proofs.lemmas.Grind.{flat_map-append}
use Rattle.std.proofs.lemmas.List.{map-append}
use Rattle.std.proofs.lemmas.List.Elements.{filter-append}

range_last : (a n : ℕ) → range_with_len a (suc n) ≡ range_with_len a n ++ (a + n) ∷ []
range_last a zero = let e : a ≡ a + 0 = omega arith in ap (λ j. j ∷ []) e
range_last a (suc n) = let e : a + 1 + n ≡ a + suc n = omega arith in ap (λ xs. a ∷ xs) (range_last (a + 1) n) ∙ ap (λ j. a ∷ (range_with_len (a + 1) n ++ j ∷ [])) e

pub range_more : (n : ℕ) → range_with_len 0 (n + 1) ≡ range_with_len 0 n ++ n ∷ []
range_more n = let e : 0 + n ≡ n = omega arith in rw (add-one n) (range_last 0 n ∙ ap (λ j. range_with_len 0 n ++ j ∷ []) e)

one_kept : {B : Type 0} (g : ℕ → B) (p : ℕ → Bool) (n : ℕ) → map g (filter p (range_with_len 0 (n + 1))) ≡ map g (filter p (range_with_len 0 n)) ++ map g (filter p (n ∷ []))
one_kept g p n = ap (λ xs. map g (filter p xs)) (range_more n) ∙ ap (map g) (filter-append p (range_with_len 0 n) (n ∷ [])) ∙ map-append g (filter p (range_with_len 0 n)) (filter p (n ∷ []))

-- a number that passes
pub mapped_kept : {B : Type 0} (g : ℕ → B) (p : ℕ → Bool) (n : ℕ) (old mid new : List B) → p n ≡ true → mid ≡ old ++ map g (filter p (range_with_len 0 n)) → new ≡ mid ++ g n ∷ [] → new ≡ old ++ map g (filter p (range_with_len 0 (n + 1)))
mapped_kept g p n old mid new passes h k =
    k ∙ ap (λ xs. xs ++ g n ∷ []) h ∙ append_assoc old (map g (filter p (range_with_len 0 n))) (g n ∷ [])
    ∙ ap (λ xs. old ++ xs) (sym (one_kept g p n ∙ ap (λ b. map g (filter p (range_with_len 0 n)) ++ map g (if b then n ∷ [] else [])) passes))

-- a number that does not
pub mapped_left : {B : Type 0} (g : ℕ → B) (p : ℕ → Bool) (n : ℕ) (old mid : List B) → p n ≡ false → mid ≡ old ++ map g (filter p (range_with_len 0 n)) → mid ≡ old ++ map g (filter p (range_with_len 0 (n + 1)))
mapped_left g p n old mid fails h =
    h ∙ ap (λ xs. old ++ xs) (sym (one_kept g p n ∙ ap (λ b. map g (filter p (range_with_len 0 n)) ++ map g (if b then n ∷ [] else [])) fails ∙ append-nil (map g (filter p (range_with_len 0 n)))))

one_joined : {B : Type 0} (g : ℕ → List B) (p : ℕ → Bool) (n : ℕ) → flat_map g (filter p (range_with_len 0 (n + 1))) ≡ flat_map g (filter p (range_with_len 0 n)) ++ flat_map g (filter p (n ∷ []))
one_joined g p n = ap (λ xs. flat_map g (filter p xs)) (range_more n) ∙ ap (flat_map g) (filter-append p (range_with_len 0 n) (n ∷ [])) ∙ flat_map-append g (filter p (range_with_len 0 n)) (filter p (n ∷ []))

pub joined_kept : {B : Type 0} (g : ℕ → List B) (p : ℕ → Bool) (n : ℕ) (old mid new : List B) → p n ≡ true → mid ≡ old ++ flat_map g (filter p (range_with_len 0 n)) → new ≡ mid ++ g n → new ≡ old ++ flat_map g (filter p (range_with_len 0 (n + 1)))
joined_kept g p n old mid new passes h k =
    k ∙ ap (λ xs. xs ++ g n) h ∙ append_assoc old (flat_map g (filter p (range_with_len 0 n))) (g n)
    ∙ ap (λ xs. old ++ xs)
    (sym (one_joined g p n ∙ ap (λ b. flat_map g (filter p (range_with_len 0 n)) ++ flat_map g (if b then n ∷ [] else [])) passes ∙ ap (λ xs. flat_map g (filter p (range_with_len 0 n)) ++ xs) (append-nil (g n))))

pub joined_left : {B : Type 0} (g : ℕ → List B) (p : ℕ → Bool) (n : ℕ) (old mid : List B) → p n ≡ false → mid ≡ old ++ flat_map g (filter p (range_with_len 0 n)) → mid ≡ old ++ flat_map g (filter p (range_with_len 0 (n + 1)))
joined_left g p n old mid fails h =
    h
    ∙ ap (λ xs. old ++ xs)
    (sym (one_joined g p n ∙ ap (λ b. flat_map g (filter p (range_with_len 0 n)) ++ flat_map g (if b then n ∷ [] else [])) fails ∙ append-nil (flat_map g (filter p (range_with_len 0 n)))))
