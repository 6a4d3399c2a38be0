-- Chosen values of cyclic random properties as literals: their variables rise, and a valuation that makes them true reads as an assignment that has the values.
use Rattle.std.proofs.Common.{◌≡◌, ◌<◌, ◌≤◌, ◌==◌, ◌+◌, ◌/◌, ◌%◌, ◌^◌, ℕ, zero, suc, Bool, true, false, cond, ◌&&◌, ◌||◌, List, [], ◌∷◌, ◌++◌, map, length, sum, Option, Some, refl, sym, ap, ◌∙◌, subst, arith, append-nil, append_assoc}
use Rattle.std.specs.Prelude.{⊤, filter, if◌then◌else◌}
use Rattle.std.specs.List.{All, list_any, list_all, flat_map, range_with_len}
use Rattle.std.proofs.Math.Nat.{pow-suc}
use Rattle.std.proofs.lemmas.Bool.{and_parts, or_left, or_right, or_parts, not-true, eqb-true, eqb-false, eq-eqb, ne_eqb, false≢true}
use Rattle.std.proofs.lemmas.List.{map-append}
use Rattle.std.proofs.lemmas.List.Elements.{All-head, All-tail}
use Rattle.std.proofs.lemmas.List.Folds.{list_all-append, list_any-append}
use Rattle.std.proofs.lemmas.List.Sums.{sum_by-cons}
use Rattle.svr_chain.specs.declared.clause.Lit.{Lit}
use Rattle.svr_chain.specs.Clauses.{flip}
use Rattle.svr_chain.specs.Valuations.{lit_value}
use Rattle.svr_gate.specs.Numbers.{bit, number}
use Rattle.svr_gate.proofs.NumberLemmas.{number-nil, number-cons, lit_value-flip}
use Rattle.svr_typed.specs.ExprTerm.{ExprTerm}
use Rattle.svr_frame.specs.declared.part.Part.{Part}
use Rattle.svr_frame.specs.declared.part.Part.TheVariants.{Randc, Sizes, All as Whole}
use Rattle.svr_frame.specs.declared.slot.Slot.{Slot}
use Rattle.svr_frame.specs.declared.slot.Slot.TheVariants.{Scalar}
use Rattle.svr_frame.specs.Frame.{FrameTerm, is_cyclic, width_of, domain_of, state_at}
use Rattle.svr_frame.specs.Phases.{cyclic_slots, size_slots, scalar_slots, element_slots, unknowns_of}
use Rattle.svr_frame.specs.Satisfaction.{is_at, AreFixed, IsAssignment}
use Rattle.svr_frame.specs.Sound.{IsSound, SizesFit}
use Rattle.svr_inputs.specs.Inputs.{read_or}
use Rattle.svr_encoded.specs.declared.encoded.Encoded.{Encoded}
use Rattle.svr_encoded.specs.Slots.{bits_where, bits_of_slot, positives, positive_bits, widths_of}
use Rattle.svr_encoded.specs.Encodes.{AreRising, Encodes}
use Rattle.svr_encoded.proofs.ServedLemmas.{found, at_width}
use Rattle.svr_encoded.proofs.BridgeLemmas.{read_of_phase, read_is_assignment}
use Rattle.svr_phase.specs.Chosen.{AreCyclicValues}
use Rattle.svr_phase.specs.Cyclic.{is_among}
use Rattle.svr_phase.specs.Ends.{cyclic_props}
use Rattle.svr_phase.specs.Proof.{spelling, spelling_at, fixed_lits}
use Rattle.svr_phase.proofs.ChosenValues.{value_below}

-- ---- spelled numbers

-- bits that are as the number is spelled read as the number
pub reads_spelled : (v : ℕ → Bool) (ls : List Lit) (n : ℕ) → n < 2 ^ length ls → list_all (lit_value v) (spelling ls n) ≡ true → number v ls ≡ n
reads_spelled v [] n lt h = number-nil v ∙ (let e : 0 ≡ n = omega (arith, lt) in e)
reads_spelled v (l ∷ ls) n lt h =
    let parts = and_parts (lit_value v (if n % 2 == 0 then flip l else l)) (list_all (lit_value v) (spelling ls (n / 2))) h in
    let high : n / 2 < 2 ^ length ls = omega (arith, lt, pow-suc 2 (length ls)) in
    let rest : number v ls ≡ n / 2 = reads_spelled v ls (n / 2) high parts.1 in
    let first : bit (lit_value v l) ≡ n % 2 = by_digit (n % 2 == 0) refl parts.0 in
    omega (arith, number-cons v l ls, first, rest)
  where
    by_digit : (b : Bool) → (n % 2 == 0) ≡ b → lit_value v (if b then flip l else l) ≡ true → bit (lit_value v l) ≡ n % 2
    by_digit true e t = ap bit (not-true (lit_value v l) (sym (lit_value-flip v l) ∙ t)) ∙ sym (eqb-true (n % 2) 0 e)
    by_digit false e t = ap bit t ∙ (let odd = eqb-false (n % 2) 0 e in let one : 1 ≡ n % 2 = omega (arith, odd) in one)

-- ---- literals in the order of their variables

same_var : (l : Lit) (b : Bool) → (if b then flip l else l).var ≡ l.var
same_var l true = refl
same_var l false = refl

rising_spelled : (n w value : ℕ) → AreRising n (spelling (positives n w) value) (n + w)
rising_spelled n zero value = omega arith
rising_spelled n (suc w) value =
    let first : Lit = record { var = suc n; neg = false } in
    let var : (if value % 2 == 0 then flip first else first).var ≡ suc n = same_var first (value % 2 == 0) in
    let top : suc n + w ≡ n + suc w = omega arith in (
      omega (arith, var),
      subst (λ (k : ℕ). AreRising k (spelling (positives (suc n) w) (value / 2)) (n + suc w)) (sym var)
          (subst (λ (k : ℕ). AreRising (suc n) (spelling (positives (suc n) w) (value / 2)) k) top (rising_spelled (suc n) w (value / 2))),
    )

rising_lower : (m n : ℕ) (ls : List Lit) (top : ℕ) → m ≤ n → AreRising n ls top → AreRising m ls top
rising_lower m n [] top le h = omega (arith, le, h)
rising_lower m n (l ∷ ls) top le h = (omega (arith, le, h.0), h.1)

pub rising_join : (n : ℕ) (xs : List Lit) (m : ℕ) (ys : List Lit) (top : ℕ) → AreRising n xs m → AreRising m ys top → AreRising n (xs ++ ys) top
rising_join n [] m ys top h k = rising_lower n m ys top h k
rising_join n (x ∷ xs) m ys top h k = (h.0, rising_join x.var xs m ys top h.1 k)

-- ---- the literals of values, among slots of which the first are those of the properties

abbrev pub spelled_in : List Slot → List (List Lit) → List (ℕ × ℕ) → List Lit
spelled_in slots bits fixed = flat_map (λ (c : ℕ × ℕ). spelling_at (bits_where (is_at c.0 0) slots bits) c.1) fixed

abbrev pub props_in : List (ℕ × ℕ) → List ℕ
props_in fixed = map (λ (c : ℕ × ℕ). c.0) fixed

-- no property stands twice
abbrev pub AreApart : List ℕ → Type 0
AreApart [] = ⊤
AreApart (p ∷ ps) = (list_any (λ q. p == q) ps ≡ false) × AreApart ps

-- a slot in front for which none of them asks
skipped : (p : ℕ) (slots : List Slot) (row : List Lit) (bits : List (List Lit)) (fixed : List (ℕ × ℕ)) → list_any (λ q. p == q) (props_in fixed) ≡ false
    → spelled_in (Scalar p ∷ slots) (row ∷ bits) fixed ≡ spelled_in slots bits fixed
skipped p slots row bits [] h = refl
skipped p slots row bits (x ∷ fixed) h =
    let two = or_parts (p == x.0) (list_any (λ q. p == q) (props_in fixed)) h in
    λ k. spelling_at (if two.0 k && true then Some row else bits_where (is_at x.0 0) slots bits) x.1 ++ skipped p slots row bits fixed two.1 k

fixed_rising : (f : FrameTerm) (k n : ℕ) (fixed : List (ℕ × ℕ)) (rest : List Slot) → AreApart (props_in fixed)
    → AreRising n (spelled_in (map Scalar (props_in fixed) ++ rest) (positive_bits n (widths_of f k (map Scalar (props_in fixed) ++ rest))) fixed) (n + sum (widths_of f k (map Scalar (props_in fixed) ++ rest)))
fixed_rising f k n [] rest h = omega arith
fixed_rising f k n (x ∷ fixed) rest h =
    let slots = map Scalar (props_in fixed) ++ rest in
    let w = width_of f x.0 in
    let bits = positive_bits (n + w) (widths_of f k slots) in
    let first : spelling_at (bits_where (is_at x.0 0) (Scalar x.0 ∷ slots) (positives n w ∷ bits)) x.1 ≡ spelling (positives n w) x.1
    = ap (λ (b : Bool). spelling_at (if b && true then Some (positives n w) else bits_where (is_at x.0 0) slots bits) x.1) (eq-eqb x.0 x.0 refl) in
    let same : spelled_in (Scalar x.0 ∷ slots) (positives n w ∷ bits) (x ∷ fixed) ≡ spelling (positives n w) x.1 ++ spelled_in slots bits fixed
    = λ i. first i ++ skipped x.0 slots (positives n w) bits fixed h.0 i in
    let top : n + w + sum (widths_of f k slots) ≡ n + sum (w ∷ widths_of f k slots) = omega (arith, sum_by-cons (λ (y : ℕ). y) w (widths_of f k slots)) in
    subst (λ (ls : List Lit). AreRising n ls (n + sum (w ∷ widths_of f k slots))) (sym same)
    (subst (λ (t : ℕ). AreRising n (spelling (positives n w) x.1 ++ spelled_in slots bits fixed) t) top
    (rising_join n (spelling (positives n w) x.1) (n + w) (spelled_in slots bits fixed) (n + w + sum (widths_of f k slots)) (rising_spelled n w x.1) (fixed_rising f k (n + w) fixed rest h.1)))

-- ---- cyclic properties

-- those of a range that pass a test stand there once
none_above : (t : ℕ → Bool) (p a n : ℕ) → p < a → list_any (λ q. p == q) (filter t (range_with_len a n)) ≡ false
none_above t p a zero lt = refl
none_above t p a (suc n) lt = by_test (t a) (none_above t p (a + 1) n (omega (arith, lt)))
  where
    by_test : (b : Bool) → list_any (λ q. p == q) (filter t (range_with_len (a + 1) n)) ≡ false → list_any (λ q. p == q) (cond b (a ∷ filter t (range_with_len (a + 1) n)) (filter t (range_with_len (a + 1) n))) ≡ false
    by_test true rest = λ i. ne_eqb p a (λ s. absurd (omega (arith, lt, s))) i || rest i
    by_test false rest = rest

apart_in_range : (t : ℕ → Bool) (a n : ℕ) → AreApart (filter t (range_with_len a n))
apart_in_range t a zero = tt
apart_in_range t a (suc n) = by_test (t a) (apart_in_range t (a + 1) n)
  where
    by_test : (b : Bool) → AreApart (filter t (range_with_len (a + 1) n)) → AreApart (cond b (a ∷ filter t (range_with_len (a + 1) n)) (filter t (range_with_len (a + 1) n)))
    by_test true rest = (none_above t a (a + 1) n (omega arith), rest)
    by_test false rest = rest

apart_front : (xs ys : List ℕ) → AreApart (xs ++ ys) → AreApart xs
apart_front [] ys h = tt
apart_front (x ∷ xs) ys h = ((or_parts (list_any (λ q. x == q) xs) (list_any (λ q. x == q) ys) (sym (list_any-append (λ q. x == q) xs ys) ∙ h.0)).0, apart_front xs ys h.1)

-- they are the first unknowns of each phase
cyclic_first : (f : FrameTerm) (part : Part) (sizes : List ℕ) → (rest : List Slot) × (unknowns_of f part sizes ≡ map Scalar (cyclic_props f) ++ rest)
cyclic_first f Randc sizes = ([], sym (append-nil (cyclic_slots f)))
cyclic_first f Sizes sizes = (size_slots f ++ scalar_slots f, append_assoc (cyclic_slots f) (size_slots f) (scalar_slots f))
cyclic_first f Whole sizes = (scalar_slots f ++ element_slots f sizes, append_assoc (cyclic_slots f) (scalar_slots f) (element_slots f sizes))

and_true : (b : Bool) → (b && true) ≡ b
and_true true = refl
and_true false = refl

any_scalar : (p : ℕ) (ps : List ℕ) → list_any (is_at p 0) (map Scalar ps) ≡ list_any (λ q. q == p) ps
any_scalar p [] = refl
any_scalar p (q ∷ ps) = λ i. and_true (q == p) i || any_scalar p ps i

abbrev pub IsMember : FrameTerm → ℕ × ℕ → Type 0
IsMember f c = is_among c.1 (domain_of f c.0) ≡ true

-- ---- what a valuation reads that makes the literals true

some_where : (f : FrameTerm) (k : ℕ) (t : Slot → Bool) (n : ℕ) (slots : List Slot) → list_any t slots ≡ true → (ls : List Lit) × (bits_where t slots (positive_bits n (widths_of f k slots)) ≡ Some ls)
some_where f k t n [] h = absurd (false≢true h)
some_where f k t n (s ∷ slots) h = by_test (t s) h (some_where f k t (n + bits_of_slot f k s) slots)
  where
    by_test : (b : Bool) → (b || list_any t slots) ≡ true → (list_any t slots ≡ true → (ls : List Lit) × (bits_where t slots (positive_bits (n + bits_of_slot f k s) (widths_of f k slots)) ≡ Some ls))
        → (ls : List Lit) × (cond b (Some (positives n (bits_of_slot f k s))) (bits_where t slots (positive_bits (n + bits_of_slot f k s) (widths_of f k slots))) ≡ Some ls)
    by_test true e rest = (positives n (bits_of_slot f k s), refl)
    by_test false e rest = rest e

module _ (f : FrameTerm) (part : Part) (sizes : List ℕ) (k : ℕ) (sound : IsSound f) where
  abbrev slots : List Slot
  slots = unknowns_of f part sizes

  abbrev bits : List (List Lit)
  bits = positive_bits 0 (widths_of f k slots)

  reads_fixed : (v : ℕ → Bool) (fixed : List (ℕ × ℕ)) → ((p : ℕ) → list_any (λ q. q == p) (props_in fixed) ≡ true → list_any (is_at p 0) slots ≡ true) → All (IsMember f) fixed
      → list_all (lit_value v) (spelled_in slots bits fixed) ≡ true → AreFixed f (read_of_phase f part sizes k v) fixed
  reads_fixed v [] there members h = tt
  reads_fixed v (x ∷ fixed) there members h =
      let some = some_where f k (is_at x.0 0) 0 slots (there x.0 (or_left (x.0 == x.0) (list_any (λ q. q == x.0) (props_in fixed)) (eq-eqb x.0 x.0 refl))) in
      let slot = found f k (is_at x.0 0) 0 slots some.0 some.1 in
      let parts = and_parts (list_all (lit_value v) (spelling_at (bits_where (is_at x.0 0) slots bits) x.1)) (list_all (lit_value v) (spelled_in slots bits fixed))
      (sym (list_all-append (lit_value v) (spelling_at (bits_where (is_at x.0 0) slots bits) x.1) (spelled_in slots bits fixed)) ∙ h) in
      let own : list_all (lit_value v) (spelling some.0 x.1) ≡ true = subst (λ (o : Option (List Lit)). list_all (lit_value v) (spelling_at o x.1) ≡ true) some.1 parts.0 in
      let low : x.1 < 2 ^ length some.0
      = subst (λ (w : ℕ). x.1 < 2 ^ w) (sym (slot.2 ∙ at_width f k x.0 0 slot.0 slot.1)) (value_below f sound x.0 x.1 (All-head (IsMember f) x fixed members)) in (
        ap (read_or ((state_at f sizes).element x.0 0) v) some.1 ∙ reads_spelled v some.0 x.1 low own,
        reads_fixed v fixed (λ p e. there p (or_right (x.0 == p) (list_any (λ q. q == p) (props_in fixed)) e)) (All-tail (IsMember f) x fixed members) parts.1,
      )

-- The first cyclic properties of a phase with values of their domains, and clauses that encode items of the phase, with at most 31 bits for each size.
module _ (f : FrameTerm) (part : Part) (sizes : List ℕ) (k : ℕ) (asked : List ExprTerm) (e : Encoded) (encodes : Encodes f part sizes k asked e) (fixed : List (ℕ × ℕ)) (later : List ℕ) (order : props_in fixed ++ later ≡ cyclic_props f) where
  abbrev rest : List Slot
  rest = map Scalar later ++ (cyclic_first f part sizes).0

  in_order : unknowns_of f part sizes ≡ map Scalar (props_in fixed) ++ rest
  in_order =
      (cyclic_first f part sizes).1
      ∙ ap (λ (ps : List ℕ). map Scalar ps ++ (cyclic_first f part sizes).0) (sym order)
      ∙ ap (λ (ss : List Slot). ss ++ (cyclic_first f part sizes).0) (map-append Scalar (props_in fixed) later)
      ∙ append_assoc (map Scalar (props_in fixed)) (map Scalar later) (cyclic_first f part sizes).0

  spelled_are : fixed_lits e fixed ≡ spelled_in (unknowns_of f part sizes) (positive_bits 0 (widths_of f k (unknowns_of f part sizes))) fixed
  spelled_are = λ i. spelled_in (encodes.slots i) (encodes.bits i) fixed

  -- their literals are of rising variables, all of them bits
  pub chosen_rising : AreRising 0 (fixed_lits e fixed) (sum (widths_of f k (unknowns_of f part sizes)))
  chosen_rising =
      let once : AreApart (props_in fixed) = apart_front (props_in fixed) later (subst AreApart (sym order) (apart_in_range (is_cyclic f) 0 (length f.class.props))) in
      let same : 0 + sum (widths_of f k (unknowns_of f part sizes)) ≡ sum (widths_of f k (unknowns_of f part sizes)) = omega arith in
      subst (λ (ls : List Lit). AreRising 0 ls (sum (widths_of f k (unknowns_of f part sizes)))) (sym spelled_are)
      (subst (λ (t : ℕ). AreRising 0 (spelled_in (unknowns_of f part sizes) (positive_bits 0 (widths_of f k (unknowns_of f part sizes))) fixed) t) same
      (subst (λ (ss : List Slot). AreRising 0 (spelled_in ss (positive_bits 0 (widths_of f k ss)) fixed) (0 + sum (widths_of f k ss))) (sym in_order) (fixed_rising f k 0 fixed rest once)))

  there_are : (p : ℕ) → list_any (λ q. q == p) (props_in fixed) ≡ true → list_any (is_at p 0) (unknowns_of f part sizes) ≡ true
  there_are p h =
      ap (list_any (is_at p 0)) in_order
      ∙ list_any-append (is_at p 0) (map Scalar (props_in fixed)) rest
      ∙ or_left (list_any (is_at p 0) (map Scalar (props_in fixed))) (list_any (is_at p 0) rest) (any_scalar p (props_in fixed) ∙ h)

  -- a valuation that makes their literals true reads as a reading that has the values
  pub chosen_read : IsSound f → All (IsMember f) fixed → (v : ℕ → Bool) → list_all (lit_value v) (fixed_lits e fixed) ≡ true → AreFixed f (read_of_phase f part sizes k v) fixed
  chosen_read sound members v h = reads_fixed f part sizes k sound v fixed there_are members (sym (ap (list_all (lit_value v)) spelled_are) ∙ h)

  -- which is an assignment of the phase
  pub read_with_chosen : k ≤ 31 → IsSound f → SizesFit f sizes → All (IsMember f) fixed → (v : ℕ → Bool) → list_all (lit_value v) (fixed_lits e fixed) ≡ true → IsAssignment f part sizes fixed (read_of_phase f part sizes k v)
  read_with_chosen high sound fit members v h =
      let is = read_is_assignment f part sizes k high sound fit v in
      record { fits = is.fits; same_numbers = is.same_numbers; same_sizes = is.same_sizes; same_script = is.same_script; chosen = chosen_read sound members v h }

-- where the values are those of all cyclic properties
pub all_in_order : (f : FrameTerm) (chosen : List (ℕ × ℕ)) → AreCyclicValues f chosen → props_in chosen ++ [] ≡ cyclic_props f
all_in_order f chosen are = append-nil (props_in chosen) ∙ are.props

pub all_members : (f : FrameTerm) (chosen : List (ℕ × ℕ)) → AreCyclicValues f chosen → All (IsMember f) chosen
all_members f chosen are = are.members
