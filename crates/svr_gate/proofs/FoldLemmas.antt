-- Gates that need no clauses, and what the builder answers for a gate without one
use Rattle.std.proofs.Common.{◌≡◌, ℕ, zero, suc, ◌+◌, ◌*◌, ◌/◌, ◌%◌, ◌^◌, ◌<◌, ◌≤◌, ◌⊎◌, inl, inr, ⊎_elim, Bool, true, false, cond, not, eqb, Option, Some, None, List, [], ◌∷◌, length, take, get_or, refl, sym, ap, ◌∙◌, subst, arith}
use Rattle.std.specs.Int.{bit_at}
use Rattle.std.specs.Prelude.{MatchOption, ⊤}
use Rattle.std.proofs.lemmas.Bool.{cases_eq, true≢false, false≢true, cond-true, eq-eqb}
use Rattle.std.proofs.lemmas.Nat.{pow_pos, pow_below}
use Rattle.std.proofs.lemmas.Nat.Bits.{bit_at-zero, bit_at-suc, bit_at_lowest, bit_at-pow_same, bit_at-pow_other}
use Rattle.std.proofs.lemmas.List.{length-take-le}
use Rattle.svr_chain.specs.declared.clause.Lit.{Lit}
use Rattle.svr_chain.specs.Clauses.{flip, IsWithin, same_sign}
use Rattle.svr_chain.specs.Valuations.{lit_value}
use Rattle.svr_gate.specs.declared.gate.Gate.{Gate}
use Rattle.svr_gate.specs.Numbers.{bit, number}
use Rattle.svr_gate.specs.Gates.{table_value, copy_of}
use Rattle.svr_gate.specs.Keys.{inputs_of, no_input, gate_value, in_order}
use Rattle.svr_gate.specs.Folding.{copy_lit, IsConstant, IsCopy, IsProper}
use Rattle.svr_gate.specs.Circuit.{Circuit, known_of, literal_of}
use Rattle.svr_gate.specs.Answers.{is_unknown, open_inputs, row_with, full_row, open_rows, open_gate, HasLiteral, Answers, IsOpenRow, HasOneValue, IsInput}
use Rattle.svr_gate.proofs.NumberLemmas.{number-lt, number_bit, bit_test, bit-le, lit_value-flip}
use Rattle.svr_gate.proofs.OpenLemmas.{full_row-cons, full_row-nil, full_row-lt, open_rows_value, inputs_of_open}

pub length-inputs_of : (g : Gate) → g.count ≤ 4 → length g.places ≡ 4 → length (inputs_of g) ≡ g.count
length-inputs_of g few four = length-take-le g.count g.places (omega arith)

row_in : (g : Gate) → g.count ≤ 4 → length g.places ≡ 4 → (a : ℕ → Bool) → number a (inputs_of g) < 2 ^ g.count
row_in g few four a = subst (λ (k : ℕ). number a (inputs_of g) < 2 ^ k) (length-inputs_of g few four) (number-lt a (inputs_of g))

pub constant_told : (g : Gate) → g.count ≤ 4 → length g.places ≡ 4 → (v : Bool) → IsConstant g v → (a : ℕ → Bool) → v ≡ gate_value g a
constant_told g few four v t a = sym (t (number a (inputs_of g)) (row_in g few four a))

-- an input under a valuation is its bit of the row
input_bit : (a : ℕ → Bool) (ins : List Lit) (j : ℕ) → j < length ins → lit_value a (get_or ins j no_input) ≡ eqb (bit_at (number a ins) j) 1
input_bit a ins j h = sym (bit_test (lit_value a (get_or ins j no_input))) ∙ ap (λ m. eqb m 1) (sym (number_bit a ins j no_input h))

pub copy_lit-value : (a : ℕ → Bool) (same : Bool) (l : Lit) → lit_value a (copy_lit same l) ≡ copy_of same (lit_value a l)
copy_lit-value a true l = refl
copy_lit-value a false l = lit_value-flip a l

pub copy_told : (g : Gate) → g.count ≤ 4 → length g.places ≡ 4 → (j : ℕ) (same : Bool) → IsCopy g j same → (a : ℕ → Bool) → lit_value a (copy_lit same (get_or (inputs_of g) j no_input)) ≡ gate_value g a
copy_told g few four j same t a =
    copy_lit-value a same (get_or (inputs_of g) j no_input)
    ∙ ap (copy_of same) (input_bit a (inputs_of g) j (omega (arith, t.0, length-inputs_of g few four)))
    ∙ sym (t.1 (number a (inputs_of g)) (row_in g few four a))

-- a gate is folded in one way only
copies_differ : (same : Bool) → copy_of same true ≡ copy_of same false → ⊥
copies_differ true h = true≢false h
copies_differ false h = false≢true h

same_copies : (s t : Bool) → copy_of s false ≡ copy_of t false → s ≡ t
same_copies true true h = refl
same_copies true false h = absurd (false≢true h)
same_copies false true h = absurd (true≢false h)
same_copies false false h = refl

constant_constant : (g : Gate) (v w : Bool) → IsConstant g v → IsConstant g w → v ≡ w
constant_constant g v w h k = sym (h 0 (pow_pos g.count)) ∙ k 0 (pow_pos g.count)

at_zero : (g : Gate) (j : ℕ) (s : Bool) → IsCopy g j s → table_value g.table 0 ≡ copy_of s false
at_zero g j s h = h.1 0 (pow_pos g.count) ∙ ap (λ n. copy_of s (eqb n 1)) (bit_at-zero j)

at_own : (g : Gate) (j : ℕ) (s : Bool) → IsCopy g j s → table_value g.table (2 ^ j) ≡ copy_of s true
at_own g j s h = h.1 (2 ^ j) (pow_below j g.count h.0) ∙ ap (λ n. copy_of s (eqb n 1)) (bit_at-pow_same j)

constant_copy : (g : Gate) (v : Bool) (j : ℕ) (s : Bool) → IsConstant g v → IsCopy g j s → ⊥
constant_copy g v j s h k =
    copies_differ s (sym (at_own g j s k) ∙ h (2 ^ j) (pow_below j g.count k.0) ∙ sym (h 0 (pow_pos g.count)) ∙ at_zero g j s k)

copy_copy : (g : Gate) (j i : ℕ) (s t : Bool) → IsCopy g j s → IsCopy g i t → (j ≡ i) × (s ≡ t)
copy_copy g j i s t h k =
    let signs : s ≡ t = same_copies s t (sym (at_zero g j s h) ∙ at_zero g i t k) in
    ⊎_elim
    (λ (e : j ≡ i). (e, signs))
    (λ (n : j ≡ i → ⊥).
    absurd (copies_differ s
    (sym (at_own g j s h) ∙ k.1 (2 ^ j) (pow_below j g.count h.0) ∙ ap (λ m. copy_of t (eqb m 1)) (bit_at-pow_other j i (λ e. n (sym e))) ∙ ap (λ b. copy_of b false) (sym signs))))
    (cases_eq j i)

-- what the builder has for a gate that is folded, and for one that is not
module _ (c : Circuit) (g : Gate) (l : Lit) (has : HasLiteral c g l) where
  pub constant_has : (v : Bool) → IsConstant g v → (o : Lit) × ((c.one ≡ Some o) × (l ≡ copy_lit v o))
  constant_has v h =
      elim has [
        | inl k ↦ (k.1.1.0, (k.1.1.1.0, k.1.1.1.1 ∙ ap (λ b. copy_lit b k.1.1.0) (constant_constant g k.0 v k.1.0 h)))
        | inr r ↦ elim r [
          | inl k ↦ absurd (constant_copy g v k.0 k.1.0 h k.1.1.0)
          | inr k ↦ absurd (k.0.constant v h)
        ]
      ]

  pub copy_has : (j : ℕ) (same : Bool) → IsCopy g j same → l ≡ copy_lit same (get_or (inputs_of g) j no_input)
  copy_has j same h =
      elim has [
        | inl k ↦ absurd (constant_copy g k.0 j same k.1.0 h)
        | inr r ↦ elim r [
          | inl k ↦
              let p = copy_copy g k.0 j k.1.0 same k.1.1.0 h in
              k.1.1.1 ∙ ap (λ b. copy_lit b (get_or (inputs_of g) k.0 no_input)) p.1 ∙ ap (λ i. copy_lit same (get_or (inputs_of g) i no_input)) p.0
          | inr k ↦ absurd (k.0.copy j same h)
        ]
      ]

  pub proper_has : IsProper g → literal_of c.gates (in_order g) ≡ Some l
  proper_has h =
      elim has [
        | inl k ↦ absurd (h.constant k.0 k.1.0)
        | inr r ↦ elim r [
          | inl k ↦ absurd (h.copy k.0 k.1.0 k.1.1.0)
          | inr k ↦ k.1
        ]
      ]

-- the rows of the gate over the open inputs are the open rows
bit_is_one : (v : Bool) (n : ℕ) → eqb ((bit v + 2 * n) % 2) 1 ≡ v
bit_is_one true n = let e : (1 + 2 * n) % 2 ≡ 1 = omega arith in ap (λ m. eqb m 1) e
bit_is_one false n = let e : (0 + 2 * n) % 2 ≡ 0 = omega arith in ap (λ m. eqb m 1) e

full_row_is_open : (one : Option Lit) (ins : List Lit) (i : ℕ) → IsOpenRow one ins (full_row one ins i)
full_row_is_open one [] i = tt
full_row_is_open one (l ∷ ls) i = rw full_row-cons (by_known (known_of one l) (λ k. full_row_is_open one ls k)) where
  halved : (b n : ℕ) → b ≤ 1 → (b + 2 * n) / 2 ≡ n
  halved b n h = omega arith

  by_known : (o : Option Bool) → ((k : ℕ) → IsOpenRow one ls (full_row one ls k)) → MatchOption o ⊤ (λ v. eqb (row_with o (full_row one ls) i % 2) 1 ≡ v) × IsOpenRow one ls (row_with o (full_row one ls) i / 2)
  by_known None rest = (tt, subst (λ (n : ℕ). IsOpenRow one ls n) (sym (halved (i % 2) (full_row one ls (i / 2)) (omega arith))) (rest (i / 2)))
  by_known (Some v) rest = (bit_is_one v (full_row one ls i), subst (λ (n : ℕ). IsOpenRow one ls n) (sym (halved (bit v) (full_row one ls i) (bit-le v))) (rest i))

pub constant_open : (one : Option Lit) (t : ℕ) (ins : List Lit) (v : Bool) → HasOneValue one t ins v → IsConstant (open_gate one t ins) v
constant_open one t ins v h i lt = open_rows_value t one ins (2 ^ length (open_inputs one ins)) i lt ∙ h (full_row one ins i) (full_row-lt one ins i) (full_row_is_open one ins i)

-- an input that is not known has a place among the open ones
record Placed (one : Option Lit) (ins : List Lit) (j : ℕ) : Type 0 where
  place : ℕ
  below : place < length (open_inputs one ins)
  input : get_or (open_inputs one ins) place no_input ≡ get_or ins j no_input
  bits : (i : ℕ) → bit_at (full_row one ins i) j ≡ bit_at i place

placed : (one : Option Lit) (ins : List Lit) (j : ℕ) → j < length ins → known_of one (get_or ins j no_input) ≡ None → Placed one ins j
placed one [] j h u = absurd (omega arith)
placed one (l ∷ ls) zero h u =
    let o : open_inputs one (l ∷ ls) ≡ l ∷ open_inputs one ls = ap (λ x. cond (is_unknown x) (l ∷ open_inputs one ls) (open_inputs one ls)) u in
    record {
      place = 0;
      below = omega (arith, ap length o);
      input = ap (λ ms. get_or ms 0 no_input) o;
      bits = λ i.
          let r : full_row one (l ∷ ls) i ≡ i % 2 + 2 * full_row one ls (i / 2) = full_row-cons one l ls i ∙ ap (λ x. row_with x (full_row one ls) i) u in
          bit_at_lowest (full_row one (l ∷ ls) i) ∙ omega (arith, r) ∙ sym (bit_at_lowest i);
    }
placed one (l ∷ ls) (suc j) h u = by_known (known_of one l) refl (placed one ls j (omega arith) u) where
  by_known : (x : Option Bool) → known_of one l ≡ x → Placed one ls j → Placed one (l ∷ ls) (suc j)
  by_known None e p =
      let o : open_inputs one (l ∷ ls) ≡ l ∷ open_inputs one ls = ap (λ x. cond (is_unknown x) (l ∷ open_inputs one ls) (open_inputs one ls)) e in
      record {
        place = suc p.place;
        below = omega (arith, ap length o, p.below);
        input = ap (λ ms. get_or ms (suc p.place) no_input) o ∙ p.input;
        bits = λ i.
            let r : full_row one (l ∷ ls) i ≡ i % 2 + 2 * full_row one ls (i / 2) = full_row-cons one l ls i ∙ ap (λ x. row_with x (full_row one ls) i) e in
            let half : full_row one (l ∷ ls) i / 2 ≡ full_row one ls (i / 2) = omega (arith, r) in
            bit_at-suc (full_row one (l ∷ ls) i) j ∙ ap (λ n. bit_at n j) half ∙ p.bits (i / 2) ∙ sym (bit_at-suc i p.place);
      }
  by_known (Some v) e p =
      let o : open_inputs one (l ∷ ls) ≡ open_inputs one ls = ap (λ x. cond (is_unknown x) (l ∷ open_inputs one ls) (open_inputs one ls)) e in
      record {
        place = p.place;
        below = omega (arith, ap length o, p.below);
        input = ap (λ ms. get_or ms p.place no_input) o ∙ p.input;
        bits = λ i.
            let r : full_row one (l ∷ ls) i ≡ bit v + 2 * full_row one ls i = full_row-cons one l ls i ∙ ap (λ x. row_with x (full_row one ls) i) e in
            let half : full_row one (l ∷ ls) i / 2 ≡ full_row one ls i = omega (arith, r, bit-le v) in
            bit_at-suc (full_row one (l ∷ ls) i) j ∙ ap (λ n. bit_at n j) half ∙ p.bits i;
      }

pub copy_open : (one : Option Lit) (t : ℕ) (ins : List Lit) (j : ℕ) (same : Bool) → IsInput one t ins j same
    → (k : ℕ) × (IsCopy (open_gate one t ins) k same × (get_or (inputs_of (open_gate one t ins)) k no_input ≡ get_or ins j no_input))
copy_open one t ins j same h =
    let p = placed one ins j h.0 h.1.0 in (
      p.place,
      (
        (
          p.below,
          λ i lt.
              open_rows_value t one ins (2 ^ length (open_inputs one ins)) i lt
              ∙ h.1.1 (full_row one ins i) (full_row-lt one ins i) (full_row_is_open one ins i)
              ∙ ap (λ n. copy_of same (eqb n 1)) (p.bits i),
        ),
        ap (λ ls. get_or ls p.place no_input) (inputs_of_open one t ins) ∙ p.input,
      ),
    )

pub copy_lit_within : (n : ℕ) (same : Bool) (l : Lit) → IsWithin n l → IsWithin n (copy_lit same l)
copy_lit_within n true l w = w
copy_lit_within n false l w = w

-- what the builder answers
pub Answers-from : (c : Circuit) (t : ℕ) (ins : List Lit) (l : Lit) → HasLiteral c (open_gate c.one t ins) l → Answers c t ins l
unfolding Answers
Answers-from c t ins l h = h

pub Answers-to : (c : Circuit) (t : ℕ) (ins : List Lit) (l : Lit) → Answers c t ins l → HasLiteral c (open_gate c.one t ins) l
unfolding Answers
Answers-to c t ins l h = h

pub known_copy_lit : (v : Bool) (o : Lit) → known_of (Some o) (copy_lit v o) ≡ Some v
known_copy_lit true o = cond-true (eqb o.var o.var) (Some (same_sign o.neg o.neg)) None (eq-eqb o.var o.var refl) ∙ ap (λ b. Some b) (signs o.neg) where
  signs : (n : Bool) → same_sign n n ≡ true
  signs true = refl
  signs false = refl
known_copy_lit false o = cond-true (eqb o.var o.var) (Some (same_sign o.neg (not o.neg))) None (eq-eqb o.var o.var refl) ∙ ap (λ b. Some b) (signs o.neg) where
  signs : (n : Bool) → same_sign n (not n) ≡ false
  signs true = refl
  signs false = refl
