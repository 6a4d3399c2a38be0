-- Values that a valuation spells: what its bits read as has them.
use Rattle.std.proofs.Common.{◌≡◌, ◌<◌, ◌+◌, ◌*◌, ◌/◌, ◌%◌, ◌^◌, ◌==◌, ℕ, Bool, true, false, not, ◌&&◌, ◌||◌, List, [], ◌∷◌, ◌++◌, map, length, Option, Some, refl, sym, ap, ◌∙◌, subst, arith}
use Rattle.std.specs.Prelude.{⊤, if◌then◌else◌}
use Rattle.std.specs.List.{All, list_any, list_all, flat_map}
use Rattle.std.proofs.Math.Nat.{pow-suc}
use Rattle.std.proofs.lemmas.Bool.{and_parts, eq-eqb, eqb-true, eqb-false}
use Rattle.std.proofs.lemmas.List.Concat.{flat_map-cons}
use Rattle.std.proofs.lemmas.List.Elements.{All-head, All-tail}
use Rattle.std.proofs.lemmas.List.Folds.{list_all-append}
use Rattle.svr_chain.specs.declared.clause.Lit.{Lit}
use Rattle.svr_chain.specs.Clauses.{flip}
use Rattle.svr_chain.specs.Valuations.{lit_value}
use Rattle.svr_gate.specs.Numbers.{bit, number}
use Rattle.svr_gate.proofs.NumberLemmas.{number-nil, number-cons, lit_value-flip}
use Rattle.svr_eval.specs.Reading.{Reading}
use Rattle.svr_frame.specs.declared.slot.Slot.TheVariants.{Scalar}
use Rattle.svr_frame.specs.Frame.{FrameTerm, width_of}
use Rattle.svr_frame.specs.Satisfaction.{is_at, AreFixed}
use Rattle.svr_inputs.specs.Inputs.{read_or}
use Rattle.svr_encoded.specs.Slots.{bits_where, positives, positive_bits, widths_of, reading_at}
use Rattle.svr_phase.specs.Proof.{spelling, spelling_at}
use Rattle.svr_question.proofs.Roots.{positives_long}
use Rattle.svr_cyclic.proofs.Rows.{prop_of, lits_at}

-- ---- one number

not_true : (b : Bool) → not b ≡ true → b ≡ false
not_true true h = cc
not_true false h = refl

low_bit : (a : ℕ → Bool) (l : Lit) (n : ℕ) → lit_value a (if n % 2 == 0 then flip l else l) ≡ true → bit (lit_value a l) ≡ n % 2
low_bit a l n h = by_test (n % 2 == 0) refl h
  where
    by_test : (b : Bool) → (n % 2 == 0) ≡ b → lit_value a (if b then flip l else l) ≡ true → bit (lit_value a l) ≡ n % 2
    by_test true e k =
        let none : lit_value a l ≡ false = not_true (lit_value a l) (sym (lit_value-flip a l) ∙ k) in
        ap bit none ∙ sym (eqb-true (n % 2) 0 e)
    by_test false e k =
        let odd = eqb-false (n % 2) 0 e in
        let one : bit (lit_value a l) ≡ 1 = ap bit k in
        omega (arith, odd, one)

-- bits that spell a number read as it, where it has no more
pub spelled_back : (a : ℕ → Bool) (ls : List Lit) (n : ℕ) → n < 2 ^ length ls → list_all (lit_value a) (spelling ls n) ≡ true → number a ls ≡ n
spelled_back a [] n lt h = number-nil a ∙ omega (arith, lt)
spelled_back a (l ∷ ls) n lt h =
    let parts = and_parts (lit_value a (if n % 2 == 0 then flip l else l)) (list_all (lit_value a) (spelling ls (n / 2))) h in
    let twice : 2 ^ length (l ∷ ls) ≡ 2 * 2 ^ length ls = pow-suc 2 (length ls) ∙ omega arith in
    let half : n / 2 < 2 ^ length ls = omega (arith, lt, twice) in
    let rest = spelled_back a ls (n / 2) half parts.1 in
    let low = low_bit a l n parts.0 in
    number-cons a l ls ∙ omega (arith, rest, low)

-- ---- the numbers of an assignment

or_true : (b c : Bool) → c ≡ true → (b || c) ≡ true
or_true true c h = refl
or_true false c h = h

abbrev AllAmong : List ℕ → List (ℕ × ℕ) → Type 0
AllAmong ps [] = ⊤
AllAmong ps (x ∷ xs) = (list_any (λ q. q == x.0) ps ≡ true) × AllAmong ps xs

among_more : (q : ℕ) (ps : List ℕ) (xs : List (ℕ × ℕ)) → AllAmong ps xs → AllAmong (q ∷ ps) xs
among_more q ps [] h = tt
among_more q ps (x ∷ xs) h = (or_true (q == x.0) (list_any (λ p. p == x.0) ps) h.0, among_more q ps xs h.1)

among_front : (xs : List (ℕ × ℕ)) (others : List ℕ) → AllAmong (map prop_of xs ++ others) xs
among_front [] others = tt
among_front (x ∷ xs) others =
    (ap (λ b. b || list_any (λ q. q == x.0) (map prop_of xs ++ others)) (eq-eqb x.0 x.0 refl), among_more x.0 (map prop_of xs ++ others) xs (among_front xs others))

module _ (f : FrameTerm) where
  -- each property has a row of its width
  has_row : (p n : ℕ) (ps : List ℕ) → list_any (λ q. q == p) ps ≡ true → (ls : List Lit) × (bits_where (is_at p 0) (map Scalar ps) (positive_bits n (widths_of f 1 (map Scalar ps))) ≡ Some ls) × (length ls ≡ width_of f p)
  has_row p n [] h = absurd (cc)
  has_row p n (q ∷ ps) h = by_test (q == p) refl h (has_row p (n + width_of f q) ps)
    where
      by_test : (b : Bool) → (q == p) ≡ b → (b || list_any (λ r. r == p) ps) ≡ true
          → (list_any (λ r. r == p) ps ≡ true → (ls : List Lit) × (bits_where (is_at p 0) (map Scalar ps) (positive_bits (n + width_of f q) (widths_of f 1 (map Scalar ps))) ≡ Some ls) × (length ls ≡ width_of f p))
          → (ls : List Lit) × (bits_where (is_at p 0) (map Scalar (q ∷ ps)) (positive_bits n (widths_of f 1 (map Scalar (q ∷ ps)))) ≡ Some ls) × (length ls ≡ width_of f p)
      by_test true e k rest = (
        positives n (width_of f q),
        ap (λ b. if b && true then Some (positives n (width_of f q)) else bits_where (is_at p 0) (map Scalar ps) (positive_bits (n + width_of f q) (widths_of f 1 (map Scalar ps)))) e,
        positives_long n (width_of f q) ∙ ap (width_of f) (eqb-true q p e),
      )
      by_test false e k rest =
          let r = rest k in
          (r.0, ap (λ b. if b && true then Some (positives n (width_of f q)) else bits_where (is_at p 0) (map Scalar ps) (positive_bits (n + width_of f q) (widths_of f 1 (map Scalar ps)))) e ∙ r.1, r.2)

  module _ (st : Reading) (ps : List ℕ) (v : ℕ → Bool) where
    abbrev bits : List (List Lit)
    bits = positive_bits 0 (widths_of f 1 (map Scalar ps))

    abbrev read : Reading
    read = reading_at st (map Scalar ps) bits v

    value_read : (x : ℕ × ℕ) → x.1 < 2 ^ width_of f x.0 → list_any (λ q. q == x.0) ps ≡ true → list_all (lit_value v) (lits_at (map Scalar ps) bits x) ≡ true → read.element x.0 0 ≡ x.1
    value_read x lt among h =
        let r = has_row x.0 0 ps among in
        let spelled : list_all (lit_value v) (spelling r.0 x.1) ≡ true = sym (ap (λ (o : Option (List Lit)). list_all (lit_value v) (spelling_at o x.1)) r.1) ∙ h in
        ap (read_or (st.element x.0 0) v) r.1 ∙ spelled_back v r.0 x.1 (subst (λ (k : ℕ). x.1 < 2 ^ k) (sym r.2) lt) spelled

    values_read : (xs : List (ℕ × ℕ)) → All (λ (x : ℕ × ℕ). x.1 < 2 ^ width_of f x.0) xs → AllAmong ps xs → list_all (lit_value v) (flat_map (lits_at (map Scalar ps) bits) xs) ≡ true → AreFixed f read xs
    values_read [] below among h = tt
    values_read (x ∷ xs) below among h =
        let whole = sym (list_all-append (lit_value v) (lits_at (map Scalar ps) bits x) (flat_map (lits_at (map Scalar ps) bits) xs)) ∙ sym (ap (list_all (lit_value v)) (flat_map-cons (lits_at (map Scalar ps) bits) x xs)) ∙ h in
        let parts = and_parts (list_all (lit_value v) (lits_at (map Scalar ps) bits x)) (list_all (lit_value v) (flat_map (lits_at (map Scalar ps) bits) xs)) whole in
        (value_read x (All-head (λ (y : ℕ × ℕ). y.1 < 2 ^ width_of f y.0) x xs below) among.0 parts.0, values_read xs (All-tail (λ (y : ℕ × ℕ). y.1 < 2 ^ width_of f y.0) x xs below) among.1 parts.1)

    pub front_read : (xs : List (ℕ × ℕ)) (others : List ℕ) → map prop_of xs ++ others ≡ ps → All (λ (x : ℕ × ℕ). x.1 < 2 ^ width_of f x.0) xs → list_all (lit_value v) (flat_map (lits_at (map Scalar ps) bits) xs) ≡ true → AreFixed f read xs
    front_read xs others front below h = values_read xs below (subst (λ (qs : List ℕ). AllAmong qs xs) front (among_front xs others)) h
