-- The literals of values that are fixed for the first cyclic properties: row after row, of variables that rise, and below the roots.
use Rattle.std.proofs.Common.{◌≡◌, ◌≤◌, ◌<◌, ◌+◌, ◌/◌, ◌%◌, ◌==◌, ℕ, zero, suc, Bool, true, false, ◌&&◌, List, [], ◌∷◌, ◌++◌, map, sum, length, get_or, slice_index_or, Option, Some, refl, sym, ap, ◌∙◌, subst, arith, append_assoc, append-nil}
use Rattle.std.specs.Prelude.{⊤, filter, if◌then◌else◌}
use Rattle.std.specs.List.{flat_map, range_with_len}
use Rattle.std.proofs.lemmas.Bool.{eq-eqb, ne_eqb}
use Rattle.std.proofs.lemmas.List.Concat.{flat_map-cons}
use Rattle.std.proofs.lemmas.List.Sums.{sum_by-cons}
use Rattle.svr_chain.specs.declared.clause.Lit.{Lit}
use Rattle.svr_chain.specs.Clauses.{flip, AreWithin, is_tautology}
use Rattle.svr_vector.specs.Places.{rows}
use Rattle.svr_frame.specs.declared.slot.Slot.{Slot}
use Rattle.svr_frame.specs.declared.slot.Slot.TheVariants.{Scalar}
use Rattle.svr_frame.specs.Frame.{FrameTerm, is_cyclic, width_of}
use Rattle.svr_frame.specs.Satisfaction.{is_at}
use Rattle.svr_encoded.specs.declared.encoded.Encoded.{Encoded}
use Rattle.svr_encoded.specs.Slots.{bits_where, positives, positive_bits, widths_of}
use Rattle.svr_encoded.specs.Encodes.{AreRising}
use Rattle.svr_phase.specs.Proof.{spelling, spelling_at, fixed_lits}
use Rattle.svr_phase.specs.Ends.{cyclic_props}
use Rattle.svr_question.proofs.Roots.{rising_within, rising_apart}
use Rattle.svr_cyclic.specs.Questions.{EncodesCyclic, CanBeFixed, IsRowOf}

-- ---- properties that rise

abbrev pub prop_of : ℕ × ℕ → ℕ
prop_of x = x.0

abbrev pub Rise : ℕ → List ℕ → Type 0
Rise a [] = ⊤
Rise a (p ∷ ps) = (a ≤ p) × Rise (p + 1) ps

rise_less : (a b : ℕ) (ps : List ℕ) → a ≤ b → Rise b ps → Rise a ps
rise_less a b [] le h = tt
rise_less a b (p ∷ ps) le h = (omega (arith, le, h.0), h.1)

pub rise_range : (t : ℕ → Bool) (a n : ℕ) → Rise a (filter t (range_with_len a n))
rise_range t a zero = tt
rise_range t a (suc n) = by_test (t a) refl (rise_range t (a + 1) n)
  where
    by_test : (b : Bool) → t a ≡ b → Rise (a + 1) (filter t (range_with_len (a + 1) n)) → Rise a (filter t (range_with_len a (suc n)))
    by_test true e rest = rw e (omega arith, rest)
    by_test false e rest = rw e (rise_less a (a + 1) (filter t (range_with_len (a + 1) n)) (omega arith) rest)

-- those of fixed values
abbrev Behind : ℕ → List (ℕ × ℕ) → Type 0
Behind a [] = ⊤
Behind a (x ∷ xs) = (a ≤ x.0) × Behind (x.0 + 1) xs

behind_less : (a b : ℕ) (xs : List (ℕ × ℕ)) → a ≤ b → Behind b xs → Behind a xs
behind_less a b [] le h = tt
behind_less a b (x ∷ xs) le h = (omega (arith, le, h.0), h.1)

behind_front : (xs : List (ℕ × ℕ)) (others : List ℕ) (a : ℕ) → Rise a (map prop_of xs ++ others) → Behind a xs
behind_front [] others a h = tt
behind_front (x ∷ xs) others a h = (h.0, behind_front xs others (x.0 + 1) h.1)

-- ---- row after row

abbrev pub lits_at : List Slot → List (List Lit) → ℕ × ℕ → List Lit
lits_at slots bits c = spelling_at (bits_where (is_at c.0 0) slots bits) c.1

-- a property in front is passed over
skip_first : (q : ℕ) (row : List Lit) (slots : List Slot) (bits : List (List Lit)) (xs : List (ℕ × ℕ)) → Behind (q + 1) xs → flat_map (lits_at (Scalar q ∷ slots) (row ∷ bits)) xs ≡ flat_map (lits_at slots bits) xs
skip_first q row slots bits [] h = refl
skip_first q row slots bits (x ∷ xs) h =
    flat_map-cons (lits_at (Scalar q ∷ slots) (row ∷ bits)) x xs
    ∙ (λ i. passed i ++ skip_first q row slots bits xs (behind_less (q + 1) (x.0 + 1) xs (omega (arith, h.0)) h.1) i)
    ∙ sym (flat_map-cons (lits_at slots bits) x xs)
  where
    passed : lits_at (Scalar q ∷ slots) (row ∷ bits) x ≡ lits_at slots bits x
    passed = ap (λ b. spelling_at (if b && true then Some row else bits_where (is_at x.0 0) slots bits) x.1) (ne_eqb q x.0 (λ e. absurd (omega (arith, h.0, e))))

module _ (f : FrameTerm) where
  abbrev pub spelled_from : ℕ → List (ℕ × ℕ) → List Lit
  spelled_from n [] = []
  spelled_from n (x ∷ xs) = spelling (positives n (width_of f x.0)) x.1 ++ spelled_from (n + width_of f x.0) xs

  abbrev slots_of : List ℕ → List Slot
  slots_of ps = map Scalar ps

  abbrev bits_from : ℕ → List ℕ → List (List Lit)
  bits_from n ps = positive_bits n (widths_of f 1 (slots_of ps))

  spelled_rows : (n : ℕ) (xs : List (ℕ × ℕ)) (others : List ℕ) (a : ℕ) → Rise a (map prop_of xs ++ others) → flat_map (lits_at (slots_of (map prop_of xs ++ others)) (bits_from n (map prop_of xs ++ others))) xs ≡ spelled_from n xs
  spelled_rows n [] others a h = refl
  spelled_rows n (x ∷ xs) others a h =
      flat_map-cons (lits_at (Scalar x.0 ∷ slots_of (map prop_of xs ++ others)) (positives n (width_of f x.0) ∷ bits_from (n + width_of f x.0) (map prop_of xs ++ others))) x xs
      ∙ (λ i. here i
      ++ (skip_first x.0 (positives n (width_of f x.0)) (slots_of (map prop_of xs ++ others)) (bits_from (n + width_of f x.0) (map prop_of xs ++ others)) xs (behind_front xs others (x.0 + 1) h.1)
      ∙ spelled_rows (n + width_of f x.0) xs others (x.0 + 1) h.1) i)
    where
      here : lits_at (Scalar x.0 ∷ slots_of (map prop_of xs ++ others)) (positives n (width_of f x.0) ∷ bits_from (n + width_of f x.0) (map prop_of xs ++ others)) x ≡ spelling (positives n (width_of f x.0)) x.1
      here =
          ap
          (λ b. spelling_at (if b && true then Some (positives n (width_of f x.0)) else bits_where (is_at x.0 0) (slots_of (map prop_of xs ++ others)) (bits_from (n + width_of f x.0) (map prop_of xs ++ others))) x.1)
          (eq-eqb x.0 x.0 refl)

  pub front_rises : (fixed : List (ℕ × ℕ)) (others : List ℕ) → map prop_of fixed ++ others ≡ cyclic_props f → Rise 0 (map prop_of fixed ++ others)
  front_rises fixed others front = subst (Rise 0) (sym front) (rise_range (is_cyclic f) 0 (length f.class.props))

  pub fixed_are : (e : Encoded) → EncodesCyclic f e → (fixed : List (ℕ × ℕ)) (others : List ℕ) → map prop_of fixed ++ others ≡ cyclic_props f → fixed_lits e fixed ≡ spelled_from 0 fixed
  fixed_are e encodes fixed others front =
      (λ i. flat_map (lits_at ((encodes.slots ∙ ap slots_of (sym front)) i) ((encodes.bits ∙ ap (bits_from 0) (sym front)) i)) fixed)
      ∙ spelled_rows 0 fixed others 0 (front_rises fixed others front)

  -- ---- the row of one property

  rise_at : (a i : ℕ) (ps : List ℕ) → Rise a ps → i < length ps → a ≤ get_or ps i 0
  rise_at a i [] h lt = absurd (omega (arith, lt))
  rise_at a zero (p ∷ ps) h lt = h.0
  rise_at a (suc i) (p ∷ ps) h lt =
      let rest = rise_at (p + 1) i ps h.1 (omega (arith, lt)) in
      let all : a ≤ get_or ps i 0 = omega (arith, h.0, rest) in
      all

  bits_at : (n a i : ℕ) (ps : List ℕ) → Rise a ps → i < length ps → bits_where (is_at (get_or ps i 0) 0) (slots_of ps) (bits_from n ps) ≡ Some (slice_index_or (bits_from n ps) i [])
  bits_at n a i [] h lt = absurd (omega (arith, lt))
  bits_at n a zero (p ∷ ps) h lt = ap (λ b. if b && true then Some (positives n (width_of f p)) else bits_where (is_at p 0) (slots_of ps) (bits_from (n + width_of f p) ps)) (eq-eqb p p refl)
  bits_at n a (suc i) (p ∷ ps) h lt =
      let here : i < length ps = omega (arith, lt) in
      let above = rise_at (p + 1) i ps h.1 here in
      ap (λ b. if b && true then Some (positives n (width_of f p)) else bits_where (is_at (get_or ps i 0) 0) (slots_of ps) (bits_from (n + width_of f p) ps))
      (ne_eqb p (get_or ps i 0) (λ e. absurd (omega (arith, above, e)))) ∙ bits_at (n + width_of f p) (p + 1) i ps h.1 here

  -- the bits of the property at a place among the cyclic ones
  pub row_there : (e : Encoded) → EncodesCyclic f e → (i : ℕ) → i < length (cyclic_props f) → IsRowOf e (get_or (cyclic_props f) i 0) (slice_index_or (rows e.bits.items) i [])
  row_there e encodes i lt v =
      let found : bits_where (is_at (get_or (cyclic_props f) i 0) 0) e.slots.items (rows e.bits.items) ≡ Some (slice_index_or (rows e.bits.items) i [])
      =
      (λ k. bits_where (is_at (get_or (cyclic_props f) i 0) 0) (encodes.slots k) (encodes.bits k)) ∙ bits_at 0 0 i (cyclic_props f) (rise_range (is_cyclic f) 0 (length f.class.props)) lt
      ∙ ap (λ (bs : List (List Lit)). Some (slice_index_or bs i [])) (sym encodes.bits) in
      append-nil (spelling_at (bits_where (is_at (get_or (cyclic_props f) i 0) 0) e.slots.items (rows e.bits.items)) v) ∙ ap (λ (o : Option (List Lit)). spelling_at o v) found

  -- ---- variables that rise

  spelled_rising : (n w v : ℕ) (rest : List Lit) (top : ℕ) → AreRising (n + w) rest top → AreRising n (spelling (positives n w) v ++ rest) top
  spelled_rising n zero v rest top h = subst (λ (k : ℕ). AreRising k rest top) (let e : n + zero ≡ n = omega arith in e) h
  spelled_rising n (suc w) v rest top h =
      by_bit (v % 2 == 0) (spelled_rising (suc n) w (v / 2) rest top (subst (λ (k : ℕ). AreRising k rest top) (let e : n + suc w ≡ suc n + w = omega arith in e) h))
    where
      by_bit : (b : Bool) → AreRising (suc n) (spelling (positives (suc n) w) (v / 2) ++ rest) top
          → AreRising n ((if b then flip (record { var = suc n; neg = false }) else record { var = suc n; neg = false }) ∷ (spelling (positives (suc n) w) (v / 2) ++ rest)) top
      by_bit true k = (omega arith, k)
      by_bit false k = (omega arith, k)

  rising_less : (a b : ℕ) (ls : List Lit) (top : ℕ) → a ≤ b → AreRising b ls top → AreRising a ls top
  rising_less a b [] top le h = omega (arith, le, h)
  rising_less a b (l ∷ ls) top le h = (omega (arith, le, h.0), h.1)

  assumed_rising : (n : ℕ) (xs : List (ℕ × ℕ)) (others : List ℕ) (roots : List Lit) (top : ℕ) → AreRising (n + sum (widths_of f 1 (slots_of (map prop_of xs ++ others)))) roots top → AreRising n (spelled_from n xs ++ roots) top
  assumed_rising n [] others roots top h = rising_less n (n + sum (widths_of f 1 (slots_of others))) roots top (omega arith) h
  assumed_rising n (x ∷ xs) others roots top h =
      let w = width_of f x.0 in
      let ws = widths_of f 1 (slots_of (map prop_of xs ++ others)) in
      let both : sum (width_of f x.0 ∷ widths_of f 1 (slots_of (map prop_of xs ++ others))) ≡ width_of f x.0 + sum (widths_of f 1 (slots_of (map prop_of xs ++ others))) = sum_by-cons (λ (k : ℕ). k) w ws in
      let e : n + sum (width_of f x.0 ∷ widths_of f 1 (slots_of (map prop_of xs ++ others))) ≡ n + width_of f x.0 + sum (widths_of f 1 (slots_of (map prop_of xs ++ others))) = omega (arith, both) in
      subst (λ (ls : List Lit). AreRising n ls top) (sym (append_assoc (spelling (positives n w) x.1) (spelled_from (n + w) xs) roots))
      (spelled_rising n w x.1 (spelled_from (n + w) xs ++ roots) top (assumed_rising (n + w) xs others roots top (subst (λ (k : ℕ). AreRising k roots top) e h)))

  -- what the search asks of the literals that are assumed
  pub assumed_fit : (e : Encoded) → EncodesCyclic f e → (fixed : List (ℕ × ℕ)) → CanBeFixed f fixed → (ls : List Lit) → ls ≡ fixed_lits e fixed ++ e.roots.items → AreWithin e.cnf.vars ls × (is_tautology ls ≡ false)
  assumed_fit e encodes fixed can ls is =
      let start : sum (widths_of f 1 (slots_of (cyclic_props f))) ≡ 0 + sum (widths_of f 1 (slots_of (cyclic_props f))) = omega arith in
      let above : AreRising (0 + sum (widths_of f 1 (slots_of (map prop_of fixed ++ can.others)))) e.roots.items e.cnf.vars
      = subst (λ (ps : List ℕ). AreRising (0 + sum (widths_of f 1 (slots_of ps))) e.roots.items e.cnf.vars) (sym can.front) (subst (λ (k : ℕ). AreRising k e.roots.items e.cnf.vars) start encodes.apart) in
      let all : AreRising 0 ls e.cnf.vars
      = subst (λ (xs : List Lit). AreRising 0 xs e.cnf.vars) (sym (is ∙ ap (λ (xs : List Lit). xs ++ e.roots.items) (fixed_are e encodes fixed can.others can.front)))
      (assumed_rising 0 fixed can.others e.roots.items e.cnf.vars above) in
      (rising_within 0 ls e.cnf.vars all, rising_apart 0 ls e.cnf.vars all)
