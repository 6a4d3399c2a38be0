-- Cut numbers read as the state at the sizes.
use Rattle.std.proofs.Common.{◌≡◌, ℕ, zero, suc, ◌+◌, add-one, Bool, true, false, refl, sym, ◌∙◌, ap, List, [], ◌∷◌, ◌++◌, ◌≤◌, append_assoc, take, arith}
use Rattle.std.proofs.lemmas.List.{get_or-take}
use Rattle.std.proofs.lemmas.Bool.{ltb-true, ltb-false}
use Rattle.std.specs.Prelude.{nat_lt, if◌then◌else◌, slice_index, slice_index_or}
use Rattle.svr_eval.specs.Reading.{reading_of}
use Rattle.svr_eval.specs.declared.assign.Assign.{Assign}
use Rattle.svr_frame.specs.Frame.{FrameTerm, state_at}
use Rattle.svr_expand.specs.Cut.{cut_from}

past : (n : ℕ) (v : List ℕ) (i : ℕ) → n ≤ i → slice_index (take n v) i ≡ 0
past zero v i h = refl
past (suc n) [] i h = refl
past (suc n) (x ∷ v) zero h = absurd (omega (arith, h))
past (suc n) (x ∷ v) (suc i) h = past n v i (omega (arith, h))

take_read : (n : ℕ) (v : List ℕ) (i : ℕ) → slice_index (take n v) i ≡ (if nat_lt i n then slice_index v i else 0)
take_read n v i = by (nat_lt i n) refl
  where
    by : (b : Bool) → nat_lt i n ≡ b → slice_index (take n v) i ≡ (if nat_lt i n then slice_index v i else 0)
    by true e = get_or-take n v i 0 (ltb-true i n e) ∙ ap (λ b. if b then slice_index v i else 0) (sym e)
    by false e = past n v i (ltb-false i n e) ∙ ap (λ b. if b then slice_index v i else 0) (sym e)

take_none : (n : ℕ) (vs : List ℕ) → vs ≡ [] → vs ≡ take n vs
take_none zero [] h = refl
take_none (suc n) [] h = refl
take_none n (v ∷ vs) h = cc

cut_read : (k : ℕ) (vs : List (List ℕ)) (ns : List ℕ) (p : ℕ) → slice_index_or (cut_from k vs ns) p [] ≡ take (slice_index ns (k + p)) (slice_index_or vs p [])
cut_read k [] ns p = take_none (slice_index ns (k + p)) [] refl
cut_read k (v ∷ vs) ns zero = ap (λ n. take (slice_index ns n) v) (omega arith)
cut_read k (v ∷ vs) ns (suc p) = cut_read (suc k) vs ns p ∙ ap (λ n. take (slice_index ns n) (slice_index_or vs p [])) (omega arith)

none_before : (p : ℕ) → 0 + p ≡ p
none_before p = omega arith

pub cut_reading : (f : FrameTerm) (ns : List ℕ) (a : Assign) → a.values ≡ cut_from 0 f.state.values ns → a.sizes ≡ ns → a.script ≡ f.state.script → reading_of a ≡ state_at f ns
cut_reading f ns a is_values is_sizes is_script = λ k. record { element = λ p i. number p i k; size = λ p. ap (λ xs. slice_index xs p) is_sizes k; script = λ v. ap (λ xs. slice_index xs v) is_script k }
  where
    number : (p i : ℕ) → (reading_of a).element p i ≡ (state_at f ns).element p i
    number p i =
        ap (λ vs. slice_index (slice_index_or vs p []) i) is_values
        ∙ ap (λ v. slice_index v i) (cut_read 0 f.state.values ns p)
        ∙ ap (λ n. slice_index (take (slice_index ns n) (slice_index_or f.state.values p [])) i) (none_before p)
        ∙ take_read (slice_index ns p) (slice_index_or f.state.values p []) i

-- one property more
pub cut_turn : (kept : List (List ℕ)) (i : ℕ) (v : List ℕ) (vs : List (List ℕ)) (ns : List ℕ) → (kept ++ take (slice_index ns i) v ∷ []) ++ cut_from (i + 1) vs ns ≡ kept ++ cut_from i (v ∷ vs) ns
cut_turn kept i v vs ns = rw (add-one i) (append_assoc kept (take (slice_index ns i) v ∷ []) (cut_from (suc i) vs ns))
