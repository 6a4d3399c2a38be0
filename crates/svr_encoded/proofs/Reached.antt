-- Each fitting assignment is what some valuation that meets the clauses reads as
use Rattle.std.proofs.Common.{◌≡◌, ℕ, zero, suc, ◌+◌, ◌-◌, ◌*◌, ◌/◌, ◌%◌, ◌^◌, ◌<◌, ◌≤◌, Bool, true, false, cond, ◌&&◌, leb, eqb, List, [], ◌∷◌, ◌++◌, length, map, sum, Option, None, Some, refl, sym, ap, ◌∙◌, arith, subst, add-one, add_comm}
use Rattle.std.specs.List.{list_all}
use Rattle.std.proofs.lemmas.Bool.{and_parts, eqb-true, le-leb, lt-leb}
use Rattle.std.proofs.lemmas.Nat.{mod-pow-add}
use Rattle.std.proofs.lemmas.List.Sums.{sum_by-cons}
use Rattle.std.proofs.Math.Nat.{mod-eq_of_lt}
use Rattle.svr_typed.specs.ExprTerm.{ExprTerm}
use Rattle.svr_chain.specs.declared.clause.Lit.{Lit}
use Rattle.svr_chain.specs.Valuations.{lit_value, Meets}
use Rattle.svr_gate.specs.Numbers.{bit, number}
use Rattle.svr_gate.proofs.NumberLemmas.{number-nil, number-push, lit_value-positive}
use Rattle.svr_eval.specs.Reading.{Reading}
use Rattle.svr_frame.specs.declared.slot.Slot.{Slot}
use Rattle.svr_frame.specs.declared.slot.Slot.TheVariants.{Scalar, Element, Size}
use Rattle.svr_encoded.specs.declared.encoded.Encoded.{Encoded}
use Rattle.svr_frame.specs.Satisfaction.{is_at, is_size_of, value_at}
use Rattle.svr_inputs.specs.Inputs.{read_or}
use Rattle.svr_encoded.specs.Slots.{bits_where, reading_at, positives, positive_bits}
use Rattle.svr_encoded.specs.Encodes.{EncodesOver, holds}
use Rattle.svr_encoded.specs.Fits.{AllHaveBits, FitsIn}
use Rattle.svr_vector.proofs.LiteralLemmas.{bit_of_odd}
use Rattle.svr_encoded.proofs.EncodedLemmas.{positives-push}

-- the bits of each slot's number
abbrev pub valuation_of : Reading → ℕ → List Slot → List ℕ → ℕ → Bool
valuation_of r n [] widths v = false
valuation_of r n (s ∷ slots) [] v = false
valuation_of r n (s ∷ slots) (w ∷ widths) v = cond (leb v (n + w)) (eqb (value_at r s / 2 ^ (v - suc n) % 2) 1) (valuation_of r (n + w) slots widths v)

length-positives : (n w : ℕ) → length (positives n w) ≡ w
length-positives n zero = refl
length-positives n (suc w) = ap suc (length-positives (suc n) w)

-- bits in a row read as the number whose bits they are
pub number-positives : (a : ℕ → Bool) (n x w : ℕ) → ((i : ℕ) → i < w → a (n + 1 + i) ≡ eqb (x / 2 ^ i % 2) 1) → number a (positives n w) ≡ x % 2 ^ w
number-positives a n x zero h = number-nil a ∙ omega arith
number-positives a n x (suc w) h =
    ap (number a) (positives-push n w) ∙ number-push a (positives n w) (record { var = n + 1 + w; neg = false })
    ∙ ap (λ k. number a (positives n w) + 2 ^ k * bit (lit_value a (record { var = n + 1 + w; neg = false }))) (length-positives n w)
    ∙ ap (λ k. k + 2 ^ w * bit (lit_value a (record { var = n + 1 + w; neg = false }))) (number-positives a n x w (λ i l. h i (omega arith)))
    ∙ ap (λ b. x % 2 ^ w + 2 ^ w * bit b) (lit_value-positive a (n + 1 + w) ∙ h w (omega arith))
    ∙ ap (λ k. x % 2 ^ w + 2 ^ w * k) (bit_of_odd (x / 2 ^ w)) ∙ omega (arith, mod-pow-add x 1 w, ap (λ k. x % 2 ^ k) (let e : 1 + w ≡ suc w = omega arith in e))

-- the valuation gives each of the bits what the assignment says
abbrev pub Gives : (ℕ → Bool) → Reading → ℕ → List Slot → List ℕ → Type 0
Gives a r n slots widths = (v : ℕ) → n < v → v ≤ n + sum widths → a v ≡ valuation_of r n slots widths v

module _ (a : ℕ → Bool) (r : Reading) (s : Slot) (slots : List Slot) (w : ℕ) (widths : List ℕ) (n : ℕ) (g : Gives a r n (s ∷ slots) (w ∷ widths)) where
  total : sum (w ∷ widths) ≡ w + sum widths
  total = sum_by-cons (λ (x : ℕ). x) w widths

  pub first_gives : value_at r s < 2 ^ w → number a (positives n w) ≡ value_at r s
  first_gives fits =
      number-positives a n (value_at r s) w (λ i l.
      g (n + 1 + i) (omega arith) (omega (arith, total))
      ∙ ap (λ b. cond b (eqb (value_at r s / 2 ^ (n + 1 + i - suc n) % 2) 1) (valuation_of r (n + w) slots widths (n + 1 + i))) (le-leb (n + 1 + i) (n + w) (omega arith))
      ∙ ap (λ k. eqb (value_at r s / 2 ^ k % 2) 1) (let e : n + 1 + i - suc n ≡ i = omega arith in e))
      ∙ mod-eq_of_lt fits

  pub rest_gives : Gives a r (n + w) slots widths
  rest_gives v low high =
      g v (omega arith) (omega (arith, total))
      ∙ ap (λ b. cond b (eqb (value_at r s / 2 ^ (v - suc n) % 2) 1) (valuation_of r (n + w) slots widths v)) (lt-leb v (n + w) low)

either : (a : ℕ → Bool) (r : Reading) (f : Slot → Bool) (s : Slot) (t : Bool) (b : List Lit) (rest : Option (List Lit)) (ls : List Lit) → f s ≡ t → number a b ≡ value_at r s
    → (rest ≡ Some ls → (x : Slot) × (f x ≡ true) × (number a ls ≡ value_at r x)) → cond t (Some b) rest ≡ Some ls → (x : Slot) × (f x ≡ true) × (number a ls ≡ value_at r x)
either a r f s true b rest ls e h k q = let same : ls ≡ b = cc in (s, e, ap (number a) same ∙ h)
either a r f s false b rest ls e h k q = k q

-- the bits that are found read as what the assignment says of a slot that passes the test
pub found_gives : (a : ℕ → Bool) (r : Reading) (f : Slot → Bool) (slots : List Slot) (widths : List ℕ) (n : ℕ) (ls : List Lit) → AllHaveBits r slots widths → Gives a r n slots widths
    → bits_where f slots (positive_bits n widths) ≡ Some ls → (x : Slot) × (f x ≡ true) × (number a ls ≡ value_at r x)
found_gives a r f [] widths n ls h g e = cc
found_gives a r f (s ∷ slots) [] n ls h g e = cc
found_gives a r f (s ∷ slots) (w ∷ widths) n ls h g e =
    either a r f s (f s) (positives n w) (bits_where f slots (positive_bits (n + w) widths)) ls refl (first_gives a r s slots w widths n g h.0)
    (found_gives a r f slots widths (n + w) ls h.1 (rest_gives a r s slots w widths n g)) e

at_place : (r : Reading) (s : Slot) (p i : ℕ) → is_at p i s ≡ true → value_at r s ≡ r.element p i
at_place r (Scalar q) p i h = let b = and_parts _ _ h in ap (λ x. r.element x 0) (eqb-true q p b.0) ∙ ap (r.element p) (sym (eqb-true i 0 b.1))
at_place r (Element q j) p i h = let b = and_parts _ _ h in ap (λ x. r.element x j) (eqb-true q p b.0) ∙ ap (r.element p) (eqb-true j i b.1)
at_place r (Size q) p i h = cc

at_size : (r : Reading) (s : Slot) (p : ℕ) → is_size_of p s ≡ true → value_at r s ≡ r.size p
at_size r (Scalar q) p h = cc
at_size r (Element q j) p h = cc
at_size r (Size q) p h = ap r.size (eqb-true q p h)

same_read : (n m : ℕ) (a : ℕ → Bool) (o : Option (List Lit)) → (o ≡ None → m ≡ n) → ((ls : List Lit) → o ≡ Some ls → number a ls ≡ m) → read_or n a o ≡ m
same_read n m a None h k = sym (h refl)
same_read n m a (Some ls) h k = k ls refl

module _ (st r : Reading) (slots : List Slot) (widths : List ℕ) (fits : FitsIn st slots widths r) (a : ℕ → Bool) (g : Gives a r 0 slots widths) where
  same_element : (p i : ℕ) → (reading_at st slots (positive_bits 0 widths) a).element p i ≡ r.element p i
  same_element p i =
      same_read (st.element p i) (r.element p i) a (bits_where (is_at p i) slots (positive_bits 0 widths)) (fits.elements p i)
      (λ ls e. let f = found_gives a r (is_at p i) slots widths 0 ls fits.all g e in f.2 ∙ at_place r f.0 p i f.1)

  same_size : (p : ℕ) → (reading_at st slots (positive_bits 0 widths) a).size p ≡ r.size p
  same_size p =
      same_read (st.size p) (r.size p) a (bits_where (is_size_of p) slots (positive_bits 0 widths)) (fits.sizes p)
      (λ ls e. let f = found_gives a r (is_size_of p) slots widths 0 ls fits.all g e in f.2 ∙ at_size r f.0 p f.1)

  pub reads_back : reading_at st slots (positive_bits 0 widths) a ≡ r
  reads_back = λ k. record { element = λ p i. same_element p i k; size = λ p. same_size p k; script = λ v. sym (fits.script v) k }

-- each fitting assignment is reached
pub reached : (st : Reading) (slots : List Slot) (widths : List ℕ) (asked : List ExprTerm) (e : Encoded) (r : Reading) → EncodesOver st slots widths asked e → FitsIn st slots widths r
    → (b : ℕ → Bool) × Meets b (e.cnf.clauses.items) × (reading_at st slots (positive_bits 0 widths) b ≡ r)
reached st slots widths asked e r h fits =
    let b = h.extends (valuation_of r 0 slots widths) in
    (b.0, b.2, reads_back st r slots widths fits b.0 (λ v low high. b.1 v (omega arith)))

same_all : (xs : List Lit) (ys : List ExprTerm) (f : Lit → Bool) (g : ExprTerm → Bool) → map f xs ≡ map g ys → list_all f xs ≡ list_all g ys
same_all [] [] f g e = refl
same_all [] (y ∷ ys) f g e = cc
same_all (x ∷ xs) [] f g e = cc
same_all (x ∷ xs) (y ∷ ys) f g e =
    let first : f x ≡ g y = cc in
    let rest : map f xs ≡ map g ys = cc in
    ap (λ b. b && list_all f xs) first ∙ ap (λ b. g y && b) (same_all xs ys f g rest)

-- a valuation that meets the clauses and all roots reads as an assignment that meets the items
pub satisfied : (st : Reading) (slots : List Slot) (widths : List ℕ) (asked : List ExprTerm) (e : Encoded) (v : ℕ → Bool) → EncodesOver st slots widths asked e
    → Meets v (e.cnf.clauses.items) → list_all (lit_value v) e.roots.items ≡ true → list_all (holds (reading_at st slots (positive_bits 0 widths) v)) asked ≡ true
satisfied st slots widths asked e v h m roots = sym (same_all e.roots.items asked (lit_value v) (holds (reading_at st slots (positive_bits 0 widths) v)) (h.roots v m)) ∙ roots

-- where no valuation meets the clauses and all roots, no fitting assignment meets the items
pub refuted : (st : Reading) (slots : List Slot) (widths : List ℕ) (asked : List ExprTerm) (e : Encoded) → EncodesOver st slots widths asked e
    → ((v : ℕ → Bool) → Meets v (e.cnf.clauses.items) → list_all (lit_value v) e.roots.items ≡ true → ⊥)
    → (r : Reading) → FitsIn st slots widths r → list_all (holds r) asked ≡ true → ⊥
refuted st slots widths asked e h none r fits all =
    let b = reached st slots widths asked e r h fits in
    none b.0 b.1 (same_all e.roots.items asked (lit_value b.0) (holds (reading_at st slots (positive_bits 0 widths) b.0)) (h.roots b.0 b.1) ∙ ap (λ (x : Reading). list_all (holds x) asked) b.2 ∙ all)
