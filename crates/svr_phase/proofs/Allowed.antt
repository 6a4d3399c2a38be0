-- The sizes at which a call looks for values fit its frame.
use Rattle.std.proofs.Common.{◌≡◌, ◌<◌, ◌≤◌, ◌==◌, ◌+◌, ◌-◌, ◌/◌, ◌%◌, ◌^◌, ℕ, zero, suc, pos, negsuc, ◌⊎◌, inl, inr, Bool, true, false, not, cond, ◌&&◌, ◌||◌, refl, sym, ◌∙◌, ap, subst, List, [], ◌∷◌, ◌++◌, map, length, get_or, arith}
use Rattle.std.specs.Prelude.{filter, nat_lt, int_lt, slice_index, if◌then◌else◌}
use Rattle.std.specs.List.{list_any, list_all, range_with_len}
use Rattle.std.proofs.Math.Nat.{mod-lt}
use Rattle.std.proofs.lemmas.Bool.{and_parts, eqb-true, eqb-false, lt-ltb, ltb-true, ltb-false}
use Rattle.std.proofs.lemmas.List.Folds.{list_all-append}
use Rattle.std.proofs.lemmas.List.FromFn.{length-map-range_with_len, get_or-map-range_with_len}
use Rattle.svr_limits.specs.declared.limit.TheConstants.{ELEMENT_LIMIT}
use Rattle.svr_num.specs.Num.{residue, signed_of, extend_of, less_of}
use Rattle.svr_typed.specs.declared.class.Prop.{Prop}
use Rattle.svr_eval.specs.Reading.{Reading}
use Rattle.svr_eval.specs.Value.{truth, is_set}
use Rattle.svr_frame.specs.declared.part.Part.TheVariants.{Sizes}
use Rattle.svr_frame.specs.declared.slot.Slot.{Slot}
use Rattle.svr_frame.specs.declared.slot.Slot.TheVariants.{Scalar, Element, Size}
use Rattle.svr_frame.specs.Frame.{FrameTerm, props_of, is_dynamic_kind, has_free_size, state_at}
use Rattle.svr_frame.specs.Occurrences.{Occurrence, is_true, all_true}
use Rattle.svr_frame.specs.Phases.{at_most, cap_items, domain_items, size_items, asked_of, size_slots, scalar_slots, live_of, unknowns_of}
use Rattle.svr_frame.specs.Satisfaction.{is_size_of, AllFit, IsAssignment, kept_of}
use Rattle.svr_frame.specs.Sound.{IsSound, SizesFit}
use Rattle.svr_frame_laws.proofs.Answers.{found}
use Rattle.svr_encoded.proofs.UnknownLemmas.{none_unsought}
use Rattle.svr_draw.specs.Preferred.{with_words, preferred_number, size_in, preferred_of}
use Rattle.svr_draw.proofs.Fits.{preferred_is}
use Rattle.svr_phase.specs.declared.choice.Choice.{Choice}
use Rattle.svr_phase.specs.Sizes.{Asked, sizes_read, meets_all, within_cap, preferred_sizes, AreAllowed, IsSolved, words_after}
use Rattle.svr_phase.specs.Ends.{Call, question_of, HasSizes, kept_sizes, chosen_sizes}
use Rattle.svr_phase.proofs.Preferred.{past_end, state_sizes_fit, same_sizes_in}

-- ---- an array with at most so many elements

-- a number that is not negative reads as itself
signed_small : (x : ℕ) → x < 2 ^ 31 → signed_of 32 x ≡ pos x
signed_small x lt = ap (λ b. cond b (pos x) (negsuc (2 ^ 32 - suc x))) (lt-ltb x (2 ^ 31) lt)

extended_small : (x : ℕ) → x < 2 ^ 31 → extend_of true 32 32 x ≡ x
extended_small x lt = ap (residue 32) (signed_small x lt) ∙ (let e : x % 2 ^ 32 ≡ x = omega (arith, lt) in e)

less_small : (x y : ℕ) → x < 2 ^ 31 → y < 2 ^ 31 → less_of true 32 x y ≡ nat_lt x y
less_small x y lx ly = λ i. int_lt (signed_small x lx i) (signed_small y ly i)

one_bit : (b : Bool) → is_set (truth 1 false b) ≡ b
one_bit true = refl
one_bit false = refl

not_less : (x y : ℕ) (b : Bool) → nat_lt y x ≡ b → not b ≡ true → x ≤ y
not_less x y true e h = absurd (cc)
not_less x y false e h = ltb-false y x e

cap_met : (f : FrameTerm) (a : Reading) (p cap : ℕ) → a.size p < 2 ^ 31 → cap < 2 ^ 31 → is_true a (at_most f cap p) ≡ true → a.size p ≤ cap
cap_met f a p cap ls lc h =
    let same : a.size p / 1 ≡ a.size p = omega arith in
    let read : extend_of true 32 32 (a.size p / 1) ≡ a.size p = ap (extend_of true 32 32) same ∙ extended_small (a.size p) ls in
    let less : less_of true 32 (extend_of true 32 32 cap) (extend_of true 32 32 (a.size p / 1)) ≡ nat_lt cap (a.size p)
    = (λ i. less_of true 32 (extended_small cap lc i) (read i)) ∙ less_small cap (a.size p) lc ls in
    not_less (a.size p) cap (nat_lt cap (a.size p)) refl (ap not (sym less) ∙ sym (one_bit (not (less_of true 32 (extend_of true 32 32 cap) (extend_of true 32 32 (a.size p / 1))))) ∙ h)

-- the item of one of the properties that pass a test
met_at : (f : FrameTerm) (a : Reading) (cap : ℕ) (t : ℕ → Bool) (p k n : ℕ) → k ≤ p → p < k + n → t p ≡ true → all_true a (map (at_most f cap) (filter t (range_with_len k n))) ≡ true → is_true a (at_most f cap p) ≡ true
met_at f a cap t p k zero le lt h all = absurd (omega (arith, le, lt))
met_at f a cap t p k (suc n) le lt h all = by_place (k == p) refl (met_at f a cap t p (k + 1) n)
  where
    rest_met : (b : Bool) → t k ≡ b → all_true a (map (at_most f cap) (filter t (range_with_len (k + 1) n))) ≡ true
    rest_met true e = (and_parts (is_true a (at_most f cap k)) (all_true a (map (at_most f cap) (filter t (range_with_len (k + 1) n)))) (sym (ap (λ b. all_true a (map (at_most f cap) (cond b (k ∷ filter t (range_with_len (k + 1) n)) (filter t (range_with_len (k + 1) n))))) e) ∙ all)).1
    rest_met false e = sym (ap (λ b. all_true a (map (at_most f cap) (cond b (k ∷ filter t (range_with_len (k + 1) n)) (filter t (range_with_len (k + 1) n))))) e) ∙ all

    first_met : t k ≡ true → is_true a (at_most f cap k) ≡ true
    first_met e = (and_parts (is_true a (at_most f cap k)) (all_true a (map (at_most f cap) (filter t (range_with_len (k + 1) n)))) (sym (ap (λ b. all_true a (map (at_most f cap) (cond b (k ∷ filter t (range_with_len (k + 1) n)) (filter t (range_with_len (k + 1) n))))) e) ∙ all)).0

    by_place : (b : Bool) → (k == p) ≡ b
        → (k + 1 ≤ p → p < k + 1 + n → t p ≡ true → all_true a (map (at_most f cap) (filter t (range_with_len (k + 1) n))) ≡ true → is_true a (at_most f cap p) ≡ true)
        → is_true a (at_most f cap p) ≡ true
    by_place true e rest = let same = eqb-true k p e in subst (λ (x : ℕ). is_true a (at_most f cap x) ≡ true) same (first_met (ap t same ∙ h))
    by_place false e rest = rest (let ne = eqb-false k p e in omega (arith, le, ne)) (omega (arith, lt)) h (rest_met (t k) refl)

-- ---- readings whose sizes fit

module _ (f : FrameTerm) (sound : IsSound f) (a : Reading) where
  size_fits : (p : ℕ) (ss : List Slot) → AllFit f a ss → list_any (is_size_of p) ss ≡ true → a.size p < 2 ^ 31
  size_fits p [] h e = cc
  size_fits p (Scalar q ∷ ss) h e = size_fits p ss h.1 e
  size_fits p (Element q j ∷ ss) h e = size_fits p ss h.1 e
  size_fits p (Size q ∷ ss) h e = by_test (q == p) refl (size_fits p ss h.1)
    where
      by_test : (b : Bool) → (q == p) ≡ b → (list_any (is_size_of p) ss ≡ true → a.size p < 2 ^ 31) → a.size p < 2 ^ 31
      by_test true t rest = subst (λ (x : ℕ). a.size x < 2 ^ 31) (eqb-true q p t) h.0
      by_test false t rest = rest (sym (ap (λ b. b || list_any (is_size_of p) ss) t) ∙ e)

  free_within : (p : ℕ) → has_free_size f p ≡ true → p < length f.class.props
  free_within p h = (found (λ (x : Prop). is_dynamic_kind x.array) f.class.props p (sound.free p h).1).0

  -- those that are not free are the state's, and the free ones are few
  sizes_fit : ((p : ℕ) → has_free_size f p ≡ false → a.size p ≡ slice_index f.state.sizes p) → ((p : ℕ) → has_free_size f p ≡ true → a.size p ≤ ELEMENT_LIMIT) → SizesFit f (sizes_read f a)
  sizes_fit same few = record {
    long = length-map-range_with_len a.size 0 (length f.class.props);
    most = λ p. most p (nat_lt p (length f.class.props)) refl (has_free_size f p) refl;
    same = λ p h. kept p h (nat_lt p (length f.class.props)) refl;
  }
    where
      read : (p : ℕ) → p < length f.class.props → slice_index (sizes_read f a) p ≡ a.size p
      read p lt = get_or-map-range_with_len a.size 0 (length f.class.props) p p 0 lt (omega arith)

      nothing : (p : ℕ) → length f.class.props ≤ p → slice_index (sizes_read f a) p ≡ 0
      nothing p ge = past_end (sizes_read f a) p (omega (arith, ge, length-map-range_with_len a.size 0 (length f.class.props)))

      most : (p : ℕ) (b : Bool) → nat_lt p (length f.class.props) ≡ b → (c : Bool) → has_free_size f p ≡ c → slice_index (sizes_read f a) p ≤ ELEMENT_LIMIT
      most p false e c h = let none = nothing p (ltb-false p (length f.class.props) e) in omega (arith, none)
      most p true e true h = let is = read p (ltb-true p (length f.class.props) e) in omega (arith, is, few p h)
      most p true e false h = let is = read p (ltb-true p (length f.class.props) e) in omega (arith, is, same p h, (state_sizes_fit f sound).most p)

      kept : (p : ℕ) → has_free_size f p ≡ false → (b : Bool) → nat_lt p (length f.class.props) ≡ b → slice_index (sizes_read f a) p ≡ slice_index f.state.sizes p
      kept p h true e = read p (ltb-true p (length f.class.props) e) ∙ same p h
      kept p h false e =
          let ge = ltb-false p (length f.class.props) e in
          nothing p ge ∙ sym (past_end f.state.sizes p (omega (arith, ge, sound.state.sizes)))

-- ---- chosen sizes

module _ (f : FrameTerm) (sound : IsSound f) (q : Asked) (le : q.cap ≤ 2048) where
  -- an assignment that meets the hard items within the cap has such sizes where the call chooses them
  pub free_within_cap : (a : Reading) (fixed : List (ℕ × ℕ)) → IsAssignment f Sizes f.state.sizes fixed a → all_true a (within_cap f q) ≡ true → (p : ℕ) → has_free_size f p ≡ true → a.size p ≤ q.cap
  free_within_cap a fixed is meets p h =
      cap_met f a p q.cap (short (list_any (is_size_of p) (unknowns_of f Sizes f.state.sizes)) refl) (omega (arith, le))
      (met_at f a q.cap (has_free_size f) p 0 (length f.class.props) (omega arith) (omega (arith, free_within f sound a p h)) h capped)
    where
      short : (b : Bool) → list_any (is_size_of p) (unknowns_of f Sizes f.state.sizes) ≡ b → a.size p < 2 ^ 31
      short true e = size_fits f sound a p (unknowns_of f Sizes f.state.sizes) is.fits e
      short false e = omega (arith, is.same_sizes p e, (state_sizes_fit f sound).most p)

      capped : all_true a (cap_items f q.cap) ≡ true
      capped =
          let front = and_parts (all_true a (domain_items f Sizes f.state.sizes ++ size_items f Sizes ++ cap_items f q.cap)) (all_true a (asked_of f Sizes f.state.sizes))
          (sym (list_all-append (is_true a) (domain_items f Sizes f.state.sizes ++ size_items f Sizes ++ cap_items f q.cap) (asked_of f Sizes f.state.sizes)) ∙ meets) in
          (and_parts (all_true a (domain_items f Sizes f.state.sizes ++ size_items f Sizes)) (all_true a (cap_items f q.cap))
          (sym (list_all-append (is_true a) (domain_items f Sizes f.state.sizes ++ size_items f Sizes) (cap_items f q.cap)) ∙ front.0)).1

  solved_fit : (a : Reading) (fixed : List (ℕ × ℕ)) → IsAssignment f Sizes f.state.sizes fixed a → all_true a (within_cap f q) ≡ true → SizesFit f (sizes_read f a)
  solved_fit a fixed is meets =
      sizes_fit f sound a (λ p h. is.same_sizes p (none_unsought f f.state.sizes p Sizes h)) (λ p h. let few = free_within_cap a fixed is meets p h in omega (arith, le, few))

  -- a preferred size is at most the cap
  preferred_few : (words : ℕ → ℕ) (p other : ℕ) → other ≤ ELEMENT_LIMIT → (n : ℕ) (ss : List Slot)
      → size_in (map (λ x. (x.0, preferred_number f f.state.sizes q.cap x.0 (words x.1))) (with_words n ss)) p other ≤ ELEMENT_LIMIT
  preferred_few words p other h n [] = h
  preferred_few words p other h n (Scalar r ∷ ss) = preferred_few words p other h (suc n) ss
  preferred_few words p other h n (Element r j ∷ ss) = preferred_few words p other h (suc n) ss
  preferred_few words p other h n (Size r ∷ ss) = by_test (r == p) (preferred_few words p other h (suc n) ss)
    where
      by_test : (b : Bool) → size_in (map (λ x. (x.0, preferred_number f f.state.sizes q.cap x.0 (words x.1))) (with_words (suc n) ss)) p other ≤ ELEMENT_LIMIT
          → (if b then words n % (q.cap + 1) else size_in (map (λ x. (x.0, preferred_number f f.state.sizes q.cap x.0 (words x.1))) (with_words (suc n) ss)) p other) ≤ ELEMENT_LIMIT
      by_test true rest = let lt = mod-lt (words n) (let some : 0 < q.cap + 1 = omega arith in some) in omega (arith, lt, le)
      by_test false rest = rest

  preferred_fit : SizesFit f (sizes_read f (preferred_sizes f q))
  preferred_fit = sizes_fit f sound (preferred_sizes f q) same few
    where
      same : (p : ℕ) → has_free_size f p ≡ false → (preferred_sizes f q).size p ≡ slice_index f.state.sizes p
      same p h =
          same_sizes_in q.chosen p ((preferred_of f Sizes f.state.sizes q.cap (words_after (length q.chosen) q.words)).size p)
          ∙ (preferred_is f f.state.sizes sound (state_sizes_fit f sound) q.cap le (words_after (length q.chosen) q.words) Sizes).same_sizes p (none_unsought f f.state.sizes p Sizes h)

      few : (p : ℕ) → has_free_size f p ≡ true → (preferred_sizes f q).size p ≤ ELEMENT_LIMIT
      few p h =
          subst (λ (n : ℕ). n ≤ ELEMENT_LIMIT) (sym (same_sizes_in q.chosen p ((preferred_of f Sizes f.state.sizes q.cap (words_after (length q.chosen) q.words)).size p)))
          (preferred_few (words_after (length q.chosen) q.words) p (slice_index f.state.sizes p) ((state_sizes_fit f sound).most p) 0 (size_slots f ++ scalar_slots f))

  pub allowed_fit : (sizes : List ℕ) → AreAllowed f q sizes → SizesFit f sizes
  allowed_fit sizes (inl h) = subst (SizesFit f) (sym h.1) preferred_fit
  allowed_fit sizes (inr h) =
      let is = h.1 in
      let met = and_parts (all_true is.values (within_cap f q)) (all_true is.values (kept_of (live_of f Sizes f.state.sizes) is.fates))
      (sym (list_all-append (is_true is.values) (within_cap f q) (kept_of (live_of f Sizes f.state.sizes) is.fates)) ∙ is.meets) in
      subst (SizesFit f) (sym is.sized) (solved_fit is.values q.chosen is.fits met.0)

-- the sizes of a call, chosen or kept
pub has_sizes_fit : (c : Call) (choices : List Choice) (sizes : List ℕ) → IsSound c.frame → c.cap ≤ 2048 → HasSizes c choices sizes → SizesFit c.frame sizes
has_sizes_fit c choices sizes sound le (kept_sizes passes none same) = subst (SizesFit c.frame) (sym same) (state_sizes_fit c.frame sound)
has_sizes_fit c choices sizes sound le (chosen_sizes reached allowed) = allowed_fit c.frame sound (question_of c choices) le sizes allowed
