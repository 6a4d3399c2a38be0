-- Ranks that rise, and the fates that they stand for.
use Rattle.std.proofs.Common.{◌≡◌, ◌<◌, ◌≤◌, ◌+◌, ◌-◌, ℕ, zero, suc, Bool, true, false, not, ◌||◌, List, [], ◌∷◌, ◌++◌, map, length, take, drop, get_or, set, replicate, reverse, refl, sym, ap, ◌∙◌, subst, arith, nat_eq, nat_lt, append_assoc, append-nil, drop-cons, inl, inr}
use Rattle.std.specs.Prelude.{filter, slice_index, slice_get, option_to_list}
use Rattle.std.specs.List.{All}
use Rattle.std.specs.List.Sorted.{IsStrictlyIncreasing}
use Rattle.std.proofs.lemmas.Bool.{cases_eq, cond-true, cond-false, eq-eqb, ne_eqb, eqb-false, lt-ltb, le-ltb, or_parts, false≢true, both_ways}
use Rattle.std.proofs.lemmas.List.{take_more, at_drop_more, at_drop_all, length-set, length-take-le, reverse-append}
use Rattle.std.proofs.lemmas.List.Elements.{All-head, All-tail, All-weaker}
use Rattle.svr_chain.specs.declared.clause.Lit.{Lit}
use Rattle.svr_chain.specs.Lists.{is_among}
use Rattle.svr_chain.specs.Views.{RefutationView}
use Rattle.svr_query.specs.Answer.{IsRefutation}
use Rattle.svr_frame.specs.Satisfaction.{kept_ranks, dropped_ranks}
use Rattle.svr_phase.specs.Proof.{kept_lits, down_to}
use Rattle.svr_soft.specs.Kept.{lit_at, with_kept, assumed_at, AreRanks, rank_of, AreDropped}

-- ---- lists that rise from s on, below e

abbrev pub Rises : ℕ → ℕ → List ℕ → Type 0
Rises s e [] = Unit {0}
Rises s e (x ∷ xs) = (s ≤ x) × (x < e) × Rises (suc x) e xs

rises_from : (s n : ℕ) (xs : List ℕ) → All (λ r. (0 < r) × (r ≤ n)) xs → IsStrictlyIncreasing xs → (0 < length xs → s ≤ slice_index xs 0) → Rises s (suc n) xs
rises_from s n [] within rising low = tt
rises_from s n (x ∷ xs) within rising low =
    let high : x ≤ n = (All-head (λ r. (0 < r) × (r ≤ n)) x xs within).1 in
    (low (omega arith), omega (arith, high), rises_from (suc x) n xs (All-tail (λ r. (0 < r) × (r ≤ n)) x xs within) next above)
  where
    next : (k : ℕ) → k + 1 < length xs → slice_index xs k < slice_index xs (k + 1)
    next k lt =
        let e : suc k + 1 ≡ suc (k + 1) = omega arith in
        subst (λ (j : ℕ). slice_index xs k < slice_index (x ∷ xs) j) e (rising (suc k) (omega (arith, lt)))

    above : 0 < length xs → suc x ≤ slice_index xs 0
    above lt = let up : x < slice_index xs 0 = rising 0 (omega (arith, lt)) in omega (arith, up)

pub ranks_rise : (n : ℕ) (xs : List ℕ) → AreRanks n xs → Rises 1 (suc n) xs
ranks_rise n xs h = rises_from 1 n xs h.within h.rising (λ lt. let low : 0 < get_or xs 0 0 = (h.within 0 0 lt).0 in omega (arith, low))

rises_lower : (s t e : ℕ) (xs : List ℕ) → s ≤ t → Rises t e xs → Rises s e xs
rises_lower s t e [] le h = tt
rises_lower s t e (x ∷ xs) le h = (omega (arith, le, h.0), h.1, h.2)

-- the lower bound of one, and the upper one of the other
both_rise : (s t e u : ℕ) (xs : List ℕ) → Rises s e xs → Rises t u xs → Rises t e xs
both_rise s t e u [] h k = tt
both_rise s t e u (x ∷ xs) h k = (k.0, h.1, h.2)

pub rise_at : (s e : ℕ) (xs : List ℕ) (i : ℕ) → i < length xs → Rises s e xs → (s ≤ get_or xs i 0) × (get_or xs i 0 < e)
rise_at s e [] i lt h = absurd (omega (arith, lt))
rise_at s e (x ∷ xs) zero lt h = (h.0, h.1)
rise_at s e (x ∷ xs) (suc i) lt h = let rest = rise_at (suc x) e xs i (omega (arith, lt)) h.2 in (omega (arith, h.0, rest.0), rest.1)

rises_front : (s e : ℕ) (xs : List ℕ) (i : ℕ) → i < length xs → Rises s e xs → Rises s (get_or xs i 0) (take i xs)
rises_front s e [] i lt h = absurd (omega (arith, lt))
rises_front s e (x ∷ xs) zero lt h = tt
rises_front s e (x ∷ xs) (suc i) lt h =
    let up = rise_at (suc x) e xs i (omega (arith, lt)) h.2 in
    (h.0, omega (arith, up.0), rises_front (suc x) e xs i (omega (arith, lt)) h.2)

rises_back : (s e : ℕ) (xs : List ℕ) (i : ℕ) → i < length xs → Rises s e xs → Rises (get_or xs i 0) e (drop i xs)
rises_back s e [] i lt h = absurd (omega (arith, lt))
rises_back s e (x ∷ xs) zero lt h = (omega arith, h.1, h.2)
rises_back s e (x ∷ xs) (suc i) lt h = rises_back (suc x) e xs i (omega (arith, lt)) h.2

-- what is below all of them is not among them
none_below : (r s e : ℕ) (xs : List ℕ) → Rises s e xs → r < s → is_among r xs ≡ false
none_below r s e [] h lt = refl
none_below r s e (x ∷ xs) h lt = λ i. ne_eqb x r (λ q. absurd (omega (arith, h.0, lt, q))) i || none_below r (suc x) e xs h.2 (omega (arith, h.0, lt)) i

raised : (s e : ℕ) (xs : List ℕ) → Rises s e xs → is_among s xs ≡ false → Rises (suc s) e xs
raised s e [] h out = tt
raised s e (x ∷ xs) h out =
    let two = or_parts (nat_eq x s) (is_among s xs) out in
    let ne = eqb-false x s two.0 in
    (omega (arith, h.0, ne), h.1, h.2)

none_left : (s e r : ℕ) (xs : List ℕ) → r ≤ s → Rises s e xs → filter (λ k. nat_lt k r) xs ≡ []
none_left s e r [] le h = refl
none_left s e r (x ∷ xs) le h =
    cond-false (nat_lt x r) (x ∷ filter (λ k. nat_lt k r) xs) (filter (λ k. nat_lt k r) xs) (le-ltb x r (omega (arith, le, h.0)))
    ∙ none_left (suc x) e r xs (omega (arith, le, h.0)) h.2

empty : (s e : ℕ) (xs : List ℕ) → e ≤ s → Rises s e xs → xs ≡ []
empty s e [] le h = refl
empty s e (x ∷ xs) le h = absurd (omega (arith, le, h.0, h.1))

-- ---- the ranks of fates

pub kept_rise : (s : ℕ) (fates : List Bool) → Rises s (s + length fates) (kept_ranks s fates)
kept_rise s [] = tt
kept_rise s (true ∷ fates) =
    let e : suc s + length fates ≡ s + suc (length fates) = omega arith in
    (omega arith, omega arith, subst (λ (u : ℕ). Rises (suc s) u (kept_ranks (suc s) fates)) e (kept_rise (suc s) fates))
kept_rise s (false ∷ fates) =
    let e : suc s + length fates ≡ s + suc (length fates) = omega arith in
    rises_lower s (suc s) (s + suc (length fates)) (kept_ranks (suc s) fates) (omega arith) (subst (λ (u : ℕ). Rises (suc s) u (kept_ranks (suc s) fates)) e (kept_rise (suc s) fates))

-- a rank is among the kept ones just where its fate is true
pub fate_is : (s : ℕ) (fates : List Bool) (i : ℕ) → i < length fates → is_among (s + i) (kept_ranks s fates) ≡ get_or fates i false
fate_is s [] i lt = absurd (omega (arith, lt))
fate_is s (true ∷ fates) zero lt = ap (λ (b : Bool). b || is_among (s + 0) (kept_ranks (suc s) fates)) (eq-eqb s (s + 0) (omega arith))
fate_is s (false ∷ fates) zero lt = none_below (s + 0) (suc s) (suc s + length fates) (kept_ranks (suc s) fates) (kept_rise (suc s) fates) (omega arith)
fate_is s (true ∷ fates) (suc i) lt =
    let e : s + suc i ≡ suc s + i = omega arith in
    ap (λ (b : Bool). b || is_among (s + suc i) (kept_ranks (suc s) fates)) (ne_eqb s (s + suc i) (λ q. absurd (omega (arith, q))))
    ∙ ap (λ (r : ℕ). is_among r (kept_ranks (suc s) fates)) e
    ∙ fate_is (suc s) fates i (omega (arith, lt))
fate_is s (false ∷ fates) (suc i) lt =
    let e : s + suc i ≡ suc s + i = omega arith in
    ap (λ (r : ℕ). is_among r (kept_ranks (suc s) fates)) e ∙ fate_is (suc s) fates i (omega (arith, lt))

-- a list that rises and has just the others is that of the dropped ranks
pub same_ranks : (s : ℕ) (fates : List Bool) (ds : List ℕ) → Rises s (s + length fates) ds
    → ((r : ℕ) → s ≤ r → r < s + length fates → is_among r ds ≡ not (is_among r (kept_ranks s fates))) → ds ≡ dropped_ranks s fates
same_ranks s [] [] h others = refl
same_ranks s [] (d ∷ ds) h others = absurd (omega (arith, h.0, h.1))
same_ranks s (true ∷ fates) ds h others =
    let e : s + suc (length fates) ≡ suc s + length fates = omega arith in
    let out : is_among s ds ≡ false = others s (omega arith) (omega arith) ∙ ap (λ (b : Bool). not (b || is_among s (kept_ranks (suc s) fates))) (eq-eqb s s refl) in
    same_ranks (suc s) fates ds (subst (λ (u : ℕ). Rises (suc s) u ds) e (raised s (s + suc (length fates)) ds h out))
    (λ r le lt. others r (omega (arith, le)) (omega (arith, lt)) ∙ ap (λ (b : Bool). not (b || is_among r (kept_ranks (suc s) fates))) (ne_eqb s r (λ q. absurd (omega (arith, le, q)))))
same_ranks s (false ∷ fates) [] h others =
    let none = none_below s (suc s) (suc s + length fates) (kept_ranks (suc s) fates) (kept_rise (suc s) fates) (omega arith) in
    absurd (false≢true (others s (omega arith) (omega arith) ∙ ap not none))
same_ranks s (false ∷ fates) (d ∷ ds) h others =
    let e : s + suc (length fates) ≡ suc s + length fates = omega arith in
    let none = none_below s (suc s) (suc s + length fates) (kept_ranks (suc s) fates) (kept_rise (suc s) fates) (omega arith) in
    let here : is_among s (d ∷ ds) ≡ true = others s (omega arith) (omega arith) ∙ ap not none in
    elim (cases_eq d s) [
      | inl q ↦
          let rest : ds ≡ dropped_ranks (suc s) fates
          = same_ranks (suc s) fates ds (subst (λ (u : ℕ). Rises (suc s) u ds) e (subst (λ (x : ℕ). Rises (suc x) (s + suc (length fates)) ds) q h.2))
          (λ r le lt. ap (λ (b : Bool). b || is_among r ds) (sym (ne_eqb d r (λ p. absurd (omega (arith, le, p, q))))) ∙ others r (omega (arith, le)) (omega (arith, lt))) in
          λ i. q i ∷ rest i
      | inr ne ↦ absurd (both_ways (is_among s (d ∷ ds)) (none_below s (suc s) (s + suc (length fates)) (d ∷ ds) (omega (arith, h.0, ne), h.1, h.2) (omega arith)) here)
    ]

-- some fates have these kept ranks
pub some_fates : (s n : ℕ) (xs : List ℕ) → Rises s (s + n) xs → (fates : List Bool) × (length fates ≡ n) × (kept_ranks s fates ≡ xs)
some_fates s zero [] h = ([], refl, refl)
some_fates s zero (x ∷ xs) h = absurd (omega (arith, h.0, h.1))
some_fates s (suc n) [] h = let rest = some_fates (suc s) n [] tt in (false ∷ rest.0, ap suc rest.1, rest.2)
some_fates s (suc n) (x ∷ xs) h =
    let e : s + suc n ≡ suc s + n = omega arith in
    elim (cases_eq x s) [
      | inl q ↦
          let rest = some_fates (suc s) n xs (subst (λ (u : ℕ). Rises (suc s) u xs) e (subst (λ (y : ℕ). Rises (suc y) (s + suc n) xs) q h.2)) in
          (true ∷ rest.0, ap suc rest.1, λ i. sym q i ∷ rest.2 i)
      | inr ne ↦
          let up : Rises (suc s) (s + suc n) (x ∷ xs) = (omega (arith, h.0, ne), h.1, h.2) in
          let rest = some_fates (suc s) n (x ∷ xs) (subst (λ (u : ℕ). Rises (suc s) u (x ∷ xs)) e up) in
          (false ∷ rest.0, ap suc rest.1, rest.2)
    ]

-- ---- the dropped ranks of a pass

none_dropped : (kept : List ℕ) (r : ℕ) (ds : List (ℕ × RefutationView)) → is_among r kept ≡ true → All (λ (d : ℕ × RefutationView). is_among (rank_of d) kept ≡ false) ds → is_among r (map rank_of ds) ≡ false
none_dropped kept r [] e all = refl
none_dropped kept r (d ∷ ds) e all =
    let other : nat_eq (rank_of d) r ≡ false
    = ne_eqb (rank_of d) r (λ q. both_ways (is_among r kept) (subst (λ (x : ℕ). is_among x kept ≡ false) q (All-head (λ (y : ℕ × RefutationView). is_among (rank_of y) kept ≡ false) d ds all)) e) in
    λ i. other i || none_dropped kept r ds e (All-tail (λ (y : ℕ × RefutationView). is_among (rank_of y) kept ≡ false) d ds all) i

pub dropped_are : (ks : List (List Lit)) (base soft : List Lit) (n : ℕ) (kept : List ℕ) (ds : List (ℕ × RefutationView)) (fates : List Bool) → AreDropped ks base soft n kept ds → length fates ≡ n → kept_ranks 1 fates ≡ kept
    → map rank_of ds ≡ dropped_ranks 1 fates
dropped_are ks base soft n kept ds fates h long ranks =
    let e : suc n ≡ 1 + length fates = omega (arith, long) in
    same_ranks 1 fates (map rank_of ds) (subst (λ (u : ℕ). Rises 1 u (map rank_of ds)) e (ranks_rise n (map rank_of ds) h.ranks))
    (λ r low high. by_fate r low (omega (arith, high, long)) (is_among r kept) refl ∙ ap (λ (xs : List ℕ). not (is_among r xs)) (sym ranks))
  where
    by_fate : (r : ℕ) → 1 ≤ r → r ≤ n → (b : Bool) → is_among r kept ≡ b → is_among r (map rank_of ds) ≡ not (is_among r kept)
    by_fate r low high true e =
        none_dropped kept r ds e
        (All-weaker (λ (d : ℕ × RefutationView). (is_among (rank_of d) kept ≡ false) × IsRefutation ks (assumed_at base soft kept (rank_of d)) d.1) (λ (d : ℕ × RefutationView). is_among (rank_of d) kept ≡ false) (λ d k. k.0) ds h.refuted)
        ∙ sym (ap not e)
    by_fate r low high false e = h.all r (omega (arith, low)) high e ∙ sym (ap not e)

-- ---- the literals of kept ranks

first_of_rest : (soft : List Lit) (p : ℕ) → lit_at soft (suc p) ≡ get_or soft p (record { var = 0; neg = false })
first_of_rest soft p = ap (λ (j : ℕ). get_or soft j (record { var = 0; neg = false })) (let e : suc p - 1 ≡ p = omega arith in e)

-- of those below a rank
lits_above : (soft : List Lit) (p m r : ℕ) (fates : List Bool) → r ≡ suc p + m → p + length fates ≤ length soft
    → map (lit_at soft) (filter (λ k. nat_lt k r) (kept_ranks (suc p) fates)) ≡ kept_lits (take m fates) (drop p soft)
lits_above soft p zero r fates is le =
    ap (map (lit_at soft)) (none_left (suc p) (suc p + length fates) r (kept_ranks (suc p) fates) (omega (arith, is)) (kept_rise (suc p) fates))
lits_above soft p (suc m) r [] is le = refl
lits_above soft p (suc m) r (true ∷ fates) is le =
    let d : Lit = record { var = 0; neg = false } in
    let rest = lits_above soft (suc p) m r fates (omega (arith, is)) (omega (arith, le)) in
    ap (map (lit_at soft)) (cond-true (nat_lt (suc p) r) (suc p ∷ filter (λ k. nat_lt k r) (kept_ranks (suc (suc p)) fates)) (filter (λ k. nat_lt k r) (kept_ranks (suc (suc p)) fates)) (lt-ltb (suc p) r (omega (arith, is))))
    ∙ (λ i. first_of_rest soft p i ∷ rest i)
    ∙ sym (ap (kept_lits (true ∷ take m fates)) (drop-cons soft p d (omega (arith, le))))
lits_above soft p (suc m) r (false ∷ fates) is le =
    let d : Lit = record { var = 0; neg = false } in
    lits_above soft (suc p) m r fates (omega (arith, is)) (omega (arith, le)) ∙ sym (ap (kept_lits (false ∷ take m fates)) (drop-cons soft p d (omega (arith, le))))

-- and of all of them
lits_of_all : (soft : List Lit) (p : ℕ) (fates : List Bool) → p + length fates ≤ length soft → map (lit_at soft) (kept_ranks (suc p) fates) ≡ kept_lits fates (drop p soft)
lits_of_all soft p [] le = refl
lits_of_all soft p (true ∷ fates) le =
    let d : Lit = record { var = 0; neg = false } in
    let rest = lits_of_all soft (suc p) fates (omega (arith, le)) in
    (λ i. first_of_rest soft p i ∷ rest i) ∙ sym (ap (kept_lits (true ∷ fates)) (drop-cons soft p d (omega (arith, le))))
lits_of_all soft p (false ∷ fates) le =
    let d : Lit = record { var = 0; neg = false } in
    lits_of_all soft (suc p) fates (omega (arith, le)) ∙ sym (ap (kept_lits (false ∷ fates)) (drop-cons soft p d (omega (arith, le))))

pub with_kept_is : (base soft : List Lit) (fates : List Bool) → length fates ≤ length soft → with_kept base soft (kept_ranks 1 fates) ≡ base ++ kept_lits fates soft
with_kept_is base soft fates le = ap (λ (ls : List Lit). base ++ ls) (lits_of_all soft 0 fates (omega (arith, le)))

one_at : (xs : List Lit) (i : ℕ) (d : Lit) → i < length xs → get_or xs i d ∷ [] ≡ option_to_list (slice_get xs i)
one_at [] i d lt = absurd (omega (arith, lt))
one_at (x ∷ xs) zero d lt = refl
one_at (x ∷ xs) (suc i) d lt = one_at xs i d (omega (arith, lt))

-- what a pass assumes for a rank is the base and what is kept down to it
pub assumed_is : (base soft : List Lit) (fates : List Bool) (r : ℕ) → length fates ≤ length soft → 0 < r → r ≤ length soft → assumed_at base soft (kept_ranks 1 fates) r ≡ base ++ down_to fates r soft
assumed_is base soft fates r le some high =
    let d : Lit = record { var = 0; neg = false } in
    let kept = lits_above soft 0 (r - 1) r fates (omega (arith, some)) (omega (arith, le)) in
    let own = one_at soft (r - 1) d (omega (arith, some, high)) in
    (λ i. (base ++ kept i) ++ own i) ∙ append_assoc base (kept_lits (take (r - 1) fates) soft) (option_to_list (slice_get soft (r - 1)))

-- that is what fates keep of which the last one is true
pushed : (gs : List Bool) (ls : List Lit) → length gs < length ls → kept_lits (gs ++ true ∷ []) ls ≡ kept_lits gs ls ++ option_to_list (slice_get ls (length gs))
pushed [] [] lt = absurd (omega (arith, lt))
pushed [] (l ∷ ls) lt = refl
pushed (g ∷ gs) [] lt = absurd (omega (arith, lt))
pushed (true ∷ gs) (l ∷ ls) lt = ap (λ (xs : List Lit). l ∷ xs) (pushed gs ls (omega (arith, lt)))
pushed (false ∷ gs) (l ∷ ls) lt = pushed gs ls (omega (arith, lt))

pub assumed_next : (base soft : List Lit) (fates : List Bool) (i : ℕ) → i < length fates → length fates ≤ length soft → assumed_at base soft (kept_ranks 1 fates) (i + 1) ≡ base ++ kept_lits (take i fates ++ true ∷ []) soft
assumed_next base soft fates i lt le =
    let n : i + 1 - 1 ≡ i = omega arith in
    let long : length (take i fates) ≡ i = length-take-le i fates (omega (arith, lt)) in
    assumed_is base soft fates (i + 1) le (omega arith) (omega (arith, lt, le))
    ∙ ap (λ (j : ℕ). base ++ (kept_lits (take j fates) soft ++ option_to_list (slice_get soft j))) n
    ∙ ap (λ (j : ℕ). base ++ (kept_lits (take i fates) soft ++ option_to_list (slice_get soft j))) (sym long)
    ∙ ap (λ (ls : List Lit). base ++ ls) (sym (pushed (take i fates) soft (omega (arith, lt, le, long))))

-- ---- fates, one after the other

pub no_fates : (s n : ℕ) → kept_ranks s (replicate n false) ≡ []
no_fates s zero = refl
no_fates s (suc n) = no_fates (suc s) n

raised_fate : (s : ℕ) (fates : List Bool) (k : ℕ) → k < length fates → Rises s (s + k) (kept_ranks s fates) → kept_ranks s (set fates k true) ≡ kept_ranks s fates ++ (s + k) ∷ []
raised_fate s [] k lt h = absurd (omega (arith, lt))
raised_fate s (true ∷ fates) zero lt h = absurd (omega (arith, h.1))
raised_fate s (false ∷ fates) zero lt h =
    let none = empty (suc s) (s + 0) (kept_ranks (suc s) fates) (omega arith) (both_rise s (suc s) (s + 0) (suc s + length fates) (kept_ranks (suc s) fates) h (kept_rise (suc s) fates)) in
    let same : s ≡ s + 0 = omega arith in
    (λ i. same i ∷ none i) ∙ sym (ap (λ (xs : List ℕ). xs ++ (s + 0) ∷ []) none)
raised_fate s (true ∷ fates) (suc k) lt h =
    let e : suc s + k ≡ s + suc k = omega arith in
    ap (λ (xs : List ℕ). s ∷ xs) (raised_fate (suc s) fates k (omega (arith, lt)) (subst (λ (u : ℕ). Rises (suc s) u (kept_ranks (suc s) fates)) (sym e) h.2))
    ∙ ap (λ (r : ℕ). s ∷ (kept_ranks (suc s) fates ++ r ∷ [])) e
raised_fate s (false ∷ fates) (suc k) lt h =
    let e : suc s + k ≡ s + suc k = omega arith in
    raised_fate (suc s) fates k (omega (arith, lt))
    (subst (λ (u : ℕ). Rises (suc s) u (kept_ranks (suc s) fates)) (sym e) (both_rise s (suc s) (s + suc k) (suc s + length fates) (kept_ranks (suc s) fates) h (kept_rise (suc s) fates)))
    ∙ ap (λ (r : ℕ). kept_ranks (suc s) fates ++ r ∷ []) e

-- one fate more
pub fate_more : (n : ℕ) (kept : List ℕ) (i at : ℕ) (fates new : List Bool) → AreRanks n kept → i < length kept → at ≡ get_or kept i 0 - 1 → length fates ≡ n → kept_ranks 1 fates ≡ take i kept → new ≡ set fates at true
    → (at < length fates) × (length new ≡ n) × (kept_ranks 1 new ≡ take (i + 1) kept)
fate_more n kept i at fates new ranks lt is long before changed =
    let rises = ranks_rise n kept ranks in
    let r = get_or kept i 0 in
    let here = rise_at 1 (suc n) kept i lt rises in
    let same : r ≡ 1 + at = omega (arith, here.0, is) in
    let within : at < length fates = omega (arith, here.0, here.1, is, long) in
    let front : Rises 1 (1 + at) (kept_ranks 1 fates)
    = subst (λ (xs : List ℕ). Rises 1 (1 + at) xs) (sym before) (subst (λ (u : ℕ). Rises 1 u (take i kept)) same (rises_front 1 (suc n) kept i lt rises)) in (
      within,
      ap length changed ∙ length-set fates at true ∙ long,
      ap (kept_ranks 1) changed ∙ raised_fate 1 fates at within front ∙ (λ k. before k ++ sym same k ∷ []) ∙ sym (take_more kept i 0 lt),
    )

-- where it stands
pub fate_within : (n : ℕ) (kept : List ℕ) (i at : ℕ) (fates : List Bool) → AreRanks n kept → i < length kept → at ≡ get_or kept i 0 - 1 → length fates ≡ n → at < length fates
fate_within n kept i at fates ranks lt is long =
    let here = rise_at 1 (suc n) kept i lt (ranks_rise n kept ranks) in
    omega (arith, here.0, here.1, is, long)

-- ---- the kept literals above a rank, one after the other

pub above_more : (soft : List Lit) (kept : List ℕ) (i r : ℕ) (old new all : List Lit) → i < length kept → get_or kept i 0 < r → new ≡ old ++ lit_at soft (get_or kept i 0) ∷ []
    → old ++ map (lit_at soft) (filter (λ k. nat_lt k r) (drop i kept)) ≡ all → new ++ map (lit_at soft) (filter (λ k. nat_lt k r) (drop (i + 1) kept)) ≡ all
above_more soft kept i r old new all within lt is before =
    let x = get_or kept i 0 in
    let rest = filter (λ k. nat_lt k r) (drop (i + 1) kept) in
    (λ j. is j ++ map (lit_at soft) rest)
    ∙ append_assoc old (lit_at soft x ∷ []) (map (lit_at soft) rest)
    ∙ sym (ap (λ (ks : List ℕ). old ++ map (lit_at soft) ks) (cond-true (nat_lt x r) (x ∷ rest) rest (lt-ltb x r lt)))
    ∙ sym (at_drop_more (λ (ks : List ℕ). old ++ map (lit_at soft) (filter (λ k. nat_lt k r) ks)) kept i 0 within)
    ∙ before

-- the next one is not above it
pub above_ends : (soft : List Lit) (n : ℕ) (kept : List ℕ) (i r : ℕ) (old all : List Lit) → AreRanks n kept → i < length kept → r ≤ get_or kept i 0 → old ++ map (lit_at soft) (filter (λ k. nat_lt k r) (drop i kept)) ≡ all → old ≡ all
above_ends soft n kept i r old all ranks within le before =
    let none = none_left (get_or kept i 0) (suc n) r (drop i kept) le (rises_back 1 (suc n) kept i within (ranks_rise n kept ranks)) in
    sym (append-nil old) ∙ sym (ap (λ (ks : List ℕ). old ++ map (lit_at soft) ks) none) ∙ before

-- no one is left
pub above_all : (soft : List Lit) (kept : List ℕ) (i r : ℕ) (old all : List Lit) → length kept ≤ i → old ++ map (lit_at soft) (filter (λ k. nat_lt k r) (drop i kept)) ≡ all → old ≡ all
above_all soft kept i r old all le before =
    sym (append-nil old) ∙ sym (at_drop_all (λ (ks : List ℕ). old ++ map (lit_at soft) (filter (λ k. nat_lt k r) ks)) kept i le) ∙ before

-- ---- a list that is made from the end of another

pub mapped_turn : {A B : Type 0} (g : A → B) (left rest : List A) (out new all : List B) (e : A) → left ≡ rest ++ e ∷ [] → new ≡ out ++ g e ∷ [] → out ++ map g (reverse left) ≡ all → new ++ map g (reverse rest) ≡ all
mapped_turn g left rest out new all e is pushed_one before =
    let back : reverse left ≡ e ∷ reverse rest = ap reverse is ∙ reverse-append rest (e ∷ []) in
    (λ i. pushed_one i ++ map g (reverse rest)) ∙ append_assoc out (g e ∷ []) (map g (reverse rest)) ∙ (λ i. out ++ map g (sym back i)) ∙ before
