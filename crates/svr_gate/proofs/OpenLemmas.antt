-- Gates over the inputs that are not known
use Rattle.std.proofs.Common.{◌≡◌, ℕ, zero, suc, ◌+◌, ◌-◌, ◌*◌, ◌/◌, ◌%◌, ◌^◌, ◌<◌, ◌≤◌, ⊎_elim, Bool, true, false, cond, not, eqb, Option, Some, None, List, [], ◌∷◌, ◌++◌, length, take, drop, filter, replicate, get_or, refl, sym, ap, ◌∙◌, subst, arith, add-one, append_assoc}
use Rattle.std.specs.Prelude.{slice_set, is_some}
use Rattle.std.specs.Int.{bit_at}
use Rattle.std.proofs.lemmas.Bool.{cases_eq, cases_Bool, cond-true, cond-false, eqb-true, true≢false, false≢true}
use Rattle.std.proofs.lemmas.Nat.Bits.{bit_at-lt, bit_at-suc}
use Rattle.std.proofs.lemmas.List.{at_drop_more, length_push, take_more, append-nil}
use Rattle.std.proofs.lemmas.List.Sums.{length-filter, count_by-le-length}
use Rattle.std.proofs.lemmas.List.Elements.{filter-append}
use Rattle.std.proofs.Math.Nat.{pow-suc, mul-le-mul_left}
use Rattle.std.proofs.Math.Seq.{set-append_seam, take-append_seam}
use Rattle.std.specs.List.{All}
use Rattle.std.proofs.lemmas.List.Elements.{All-head, All-tail}
use Rattle.svr_chain.specs.declared.clause.Lit.{Lit}
use Rattle.svr_gate.specs.declared.gate.Gate.{Gate}
use Rattle.svr_chain.specs.Clauses.{same_sign}
use Rattle.svr_chain.specs.Valuations.{lit_value, Meets}
use Rattle.svr_gate.specs.Numbers.{bit, number}
use Rattle.svr_gate.specs.Gates.{table_value}
use Rattle.svr_gate.specs.Keys.{inputs_of, places_of, no_input, gate_value}
use Rattle.svr_gate.specs.Circuit.{Circuit, IsAlwaysTrue, known_of}
use Rattle.svr_gate.specs.Answers.{is_unknown, open_inputs, row_with, full_row, open_rows, open_gate}
use Rattle.svr_gate.proofs.NumberLemmas.{number-nil, number-cons, number-lt, bit-le}
use Rattle.svr_gate.proofs.BitLemmas.{row_before, row_last}

value_of : (n m v : Bool) → cond n (not v) v ≡ true → cond m (not v) v ≡ same_sign n m
value_of true true true e = cc
value_of true true false e = refl
value_of true false true e = cc
value_of true false false e = refl
value_of false true true e = refl
value_of false true false e = cc
value_of false false true e = refl
value_of false false false e = cc

-- a literal of the variable of the one that is always true
same_var_told : (a : ℕ → Bool) (one l : Lit) → lit_value a one ≡ true → one.var ≡ l.var → lit_value a l ≡ same_sign one.neg l.neg
unfolding lit_value
same_var_told a one l h e = value_of one.neg l.neg (a l.var) (ap (λ v. cond one.neg (not (a v)) (a v)) (sym e) ∙ h)

some_same : {A : Type 0} {x y : A} → Some x ≡ Some y → x ≡ y
some_same {A} {x} {y} e = ap (λ (o : Option A). elim o [ None ↦ x | Some z ↦ z ]) e

-- what is known of a literal is its value
pub known_told : (c : Circuit) (o : Option Lit) → IsAlwaysTrue c o → (a : ℕ → Bool) → Meets a c.clauses → (l : Lit) (v : Bool) → known_of o l ≡ Some v → lit_value a l ≡ v
known_told c None h a m l v e = absurd (none_some e) where
  none_some : None ≡ Some v → ⊥
  none_some e = cc
known_told c (Some one) h a m l v e =
    ⊎_elim
    (λ (same : eqb one.var l.var ≡ true).
    same_var_told a one l (h.value a m) (eqb-true one.var l.var same)
    ∙ some_same (sym (cond-true (eqb one.var l.var) (Some (same_sign one.neg l.neg)) None same) ∙ e))
    (λ (other : eqb one.var l.var ≡ false). absurd (none_some (sym (cond-false (eqb one.var l.var) (Some (same_sign one.neg l.neg)) None other) ∙ e)))
    (cases_Bool (eqb one.var l.var)) where
      none_some : None ≡ Some v → ⊥
      none_some e = cc

-- rows of all inputs
pub full_row-nil : (one : Option Lit) (i : ℕ) → full_row one [] i ≡ 0
unfolding full_row
full_row-nil one i = refl

pub full_row-cons : (one : Option Lit) (l : Lit) (ls : List Lit) (i : ℕ) → full_row one (l ∷ ls) i ≡ row_with (known_of one l) (full_row one ls) i
unfolding full_row
full_row-cons one l ls i = refl

pub full_row-lt : (one : Option Lit) (ls : List Lit) (i : ℕ) → full_row one ls i < 2 ^ length ls
full_row-lt one [] i = rw full_row-nil (omega arith)
full_row-lt one (l ∷ ls) i = rw full_row-cons (by_known (known_of one l) (full_row-lt one ls i) (full_row-lt one ls (i / 2))) where
  by_known : (o : Option Bool) → full_row one ls i < 2 ^ length ls → full_row one ls (i / 2) < 2 ^ length ls → row_with o (full_row one ls) i < 2 ^ length (l ∷ ls)
  by_known None h k = omega (arith, k, pow-suc 2 (length ls))
  by_known (Some v) h k = omega (arith, h, bit-le v, pow-suc 2 (length ls))

open-cons : (one : Option Lit) (l : Lit) (ls : List Lit) (o : Option Bool) → known_of one l ≡ o → open_inputs one (l ∷ ls) ≡ cond (is_unknown o) (l ∷ open_inputs one ls) (open_inputs one ls)
open-cons one l ls o e = ap (λ x. cond (is_unknown x) (l ∷ open_inputs one ls) (open_inputs one ls)) e

-- where what is known holds, the inputs read as the row that the open ones read as
pub number_full : (a : ℕ → Bool) (one : Option Lit) → ((l : Lit) (v : Bool) → known_of one l ≡ Some v → lit_value a l ≡ v) → (ins : List Lit) → number a ins ≡ full_row one ins (number a (open_inputs one ins))
number_full a one told [] = number-nil a ∙ sym (full_row-nil one (number a []))
number_full a one told (l ∷ ls) =
    number-cons a l ls ∙ by_known (known_of one l) refl (number_full a one told ls) ∙ sym (full_row-cons one l ls (number a (open_inputs one (l ∷ ls)))) where
      by_known : (o : Option Bool) → known_of one l ≡ o → number a ls ≡ full_row one ls (number a (open_inputs one ls)) → bit (lit_value a l) + 2 * number a ls ≡ row_with o (full_row one ls) (number a (open_inputs one (l ∷ ls)))
      by_known None e rest =
          let n : number a (open_inputs one (l ∷ ls)) ≡ bit (lit_value a l) + 2 * number a (open_inputs one ls) = ap (number a) (open-cons one l ls None e) ∙ number-cons a l (open_inputs one ls) in
          let low : number a (open_inputs one (l ∷ ls)) % 2 ≡ bit (lit_value a l) = omega (arith, n, bit-le (lit_value a l)) in
          let high : number a (open_inputs one (l ∷ ls)) / 2 ≡ number a (open_inputs one ls) = omega (arith, n, bit-le (lit_value a l)) in
          ap (λ x. bit (lit_value a l) + 2 * x) (rest ∙ ap (full_row one ls) (sym high)) ∙ ap (λ x. x + 2 * full_row one ls (number a (open_inputs one (l ∷ ls)) / 2)) (sym low)
      by_known (Some v) e rest =
          let n : number a (open_inputs one (l ∷ ls)) ≡ number a (open_inputs one ls) = ap (number a) (open-cons one l ls (Some v) e) in
          ap (λ x. bit (lit_value a l) + 2 * x) (rest ∙ ap (full_row one ls) (sym n)) ∙ ap (λ b. bit b + 2 * full_row one ls (number a (open_inputs one (l ∷ ls)))) (told l v e)

-- the table over the open inputs
pub open_rows-zero : (t : ℕ) (one : Option Lit) (ins : List Lit) → open_rows t one ins 0 ≡ 0
unfolding open_rows
open_rows-zero t one ins = refl

pub open_rows-suc : (t : ℕ) (one : Option Lit) (ins : List Lit) (n : ℕ) → open_rows t one ins (suc n) ≡ open_rows t one ins n + bit_at t (full_row one ins n) * 2 ^ n
unfolding open_rows
open_rows-suc t one ins n = refl

pub open_rows-lt : (t : ℕ) (one : Option Lit) (ins : List Lit) (n : ℕ) → open_rows t one ins n < 2 ^ n
open_rows-lt t one ins zero = rw open_rows-zero (omega arith)
open_rows-lt t one ins (suc n) =
    let b : bit_at t (full_row one ins n) ≤ 1 = omega (arith, bit_at-lt t (full_row one ins n)) in
    omega (arith, open_rows-suc t one ins n, open_rows-lt t one ins n, pow-suc 2 n, mul-le-mul_left (2 ^ n) b)

pub open_rows_value : (t : ℕ) (one : Option Lit) (ins : List Lit) (n i : ℕ) → i < n → table_value (open_rows t one ins n) i ≡ table_value t (full_row one ins i)
open_rows_value t one ins zero i h = absurd (omega arith)
open_rows_value t one ins (suc n) i h =
    let b = bit_at t (full_row one ins n) in
    ap (λ x. table_value x i) (open_rows-suc t one ins n) ∙
    ⊎_elim
    (λ (e : i ≡ n). ap (table_value (open_rows t one ins n + b * 2 ^ n)) e ∙ row_last (open_rows t one ins n) b n (open_rows-lt t one ins n) (bit_at-lt t (full_row one ins n)) ∙ ap (λ x. table_value t (full_row one ins x)) (sym e))
    (λ (e : i ≡ n → ⊥). let lt : i < n = omega arith in row_before (open_rows t one ins n) b n i lt ∙ open_rows_value t one ins n i lt)
    (cases_eq i n)

pub few_open : (one : Option Lit) (ins : List Lit) → length (open_inputs one ins) ≤ length ins
few_open one ins = omega (arith, length-filter (λ l. is_unknown (known_of one l)) ins, count_by-le-length (λ l. is_unknown (known_of one l)) ins)

pub inputs_of_open : (one : Option Lit) (t : ℕ) (ins : List Lit) → inputs_of (open_gate one t ins) ≡ open_inputs one ins
inputs_of_open one t ins = take-append_seam (open_inputs one ins) (replicate (4 - length (open_inputs one ins)) no_input)

-- the gate over the open inputs is the table
pub open_gate_value : (c : Circuit) → IsAlwaysTrue c c.one → (t : ℕ) (ins : List Lit) (a : ℕ → Bool) → Meets a c.clauses → gate_value (open_gate c.one t ins) a ≡ table_value t (number a ins)
open_gate_value c h t ins a m =
    let opens = open_inputs c.one ins in
    ap (λ ls. table_value (open_rows t c.one ins (2 ^ length opens)) (number a ls)) (inputs_of_open c.one t ins)
    ∙ open_rows_value t c.one ins (2 ^ length opens) (number a opens) (number-lt a opens)
    ∙ ap (table_value t) (sym (number_full a c.one (known_told c c.one h a m) ins))

-- an input more among the places
pub places_more : (ls : List Lit) (l : Lit) → length ls < 4 → slice_set (places_of ls) (length ls) l ≡ places_of (ls ++ l ∷ [])
places_more ls l h =
    let k : (n : ℕ) × (4 - length ls ≡ suc n) × (4 - length (ls ++ l ∷ []) ≡ n) = (4 - length (ls ++ l ∷ []), omega (arith, length_push ls l), refl) in
    let r : replicate (4 - length ls) no_input ≡ no_input ∷ replicate k.0 no_input = ap (λ n. replicate n no_input) k.1 in
    ap (λ xs. slice_set (ls ++ xs) (length ls) l) r
    ∙ set-append_seam ls no_input (replicate k.0 no_input) l
    ∙ sym (append_assoc ls (l ∷ []) (replicate k.0 no_input))

-- one place of a row, as the code reads it: an input that is known, and one that is not
module _ (one : Option Lit) (ins : List Lit) (i : ℕ) (d : Lit) (full weight left all : ℕ) (h : i < length ins) (e : full + weight * full_row one (drop i ins) left ≡ all) where
  pub known_step : (v : Bool) → known_of one (get_or ins i d) ≡ Some v → (full + weight * bit v) + weight * 2 * full_row one (drop (i + 1) ins) left ≡ all
  known_step v u =
      let rest = full_row one (drop (i + 1) ins) in
      let n : full_row one (drop i ins) left ≡ bit v + 2 * rest left =
      at_drop_more (λ xs. full_row one xs left) ins i d h ∙ full_row-cons one (get_or ins i d) (drop (i + 1) ins) left ∙ ap (λ o. row_with o rest left) u in
      omega (arith, e, ap (λ k. weight * k) n)

  pub unknown_step : known_of one (get_or ins i d) ≡ None → (full + weight * (left % 2)) + weight * 2 * full_row one (drop (i + 1) ins) (left / 2) ≡ all
  unknown_step u =
      let rest = full_row one (drop (i + 1) ins) in
      let n : full_row one (drop i ins) left ≡ left % 2 + 2 * rest (left / 2) =
      at_drop_more (λ xs. full_row one xs left) ins i d h ∙ full_row-cons one (get_or ins i d) (drop (i + 1) ins) left ∙ ap (λ o. row_with o rest left) u in
      omega (arith, e, ap (λ k. weight * k) n)

pub row_below : (full weight value i : ℕ) → value ≤ 1 → weight ≡ 2 ^ i → full < 2 ^ i → (weight * 2 ≡ 2 ^ (i + 1)) × (full + weight * value < 2 ^ (i + 1))
row_below full weight value i v w b =
    let m = mul-le-mul_left weight v in
    let p : 2 ^ (i + 1) ≡ 2 ^ i * 2 = ap (λ k. 2 ^ k) (add-one i) ∙ pow-suc 2 i in
    (omega (arith, w, p), omega (arith, w, p, m, b))

-- the open inputs among one input more
pub open_taken : (one : Option Lit) (ins : List Lit) (i : ℕ) (d : Lit) → i < length ins → known_of one (get_or ins i d) ≡ None → open_inputs one (take (i + 1) ins) ≡ open_inputs one (take i ins) ++ get_or ins i d ∷ []
open_taken one ins i d h u =
    ap (open_inputs one) (take_more ins i d h)
    ∙ filter-append (λ l. is_unknown (known_of one l)) (take i ins) (get_or ins i d ∷ [])
    ∙ ap (λ o. open_inputs one (take i ins) ++ cond (is_unknown o) (get_or ins i d ∷ []) []) u

pub open_left : (one : Option Lit) (ins : List Lit) (i : ℕ) (d : Lit) (v : Bool) → i < length ins → known_of one (get_or ins i d) ≡ Some v → open_inputs one (take (i + 1) ins) ≡ open_inputs one (take i ins)
open_left one ins i d v h u =
    ap (open_inputs one) (take_more ins i d h)
    ∙ filter-append (λ l. is_unknown (known_of one l)) (take i ins) (get_or ins i d ∷ [])
    ∙ ap (λ o. open_inputs one (take i ins) ++ cond (is_unknown o) (get_or ins i d ∷ []) []) u
    ∙ append-nil (open_inputs one (take i ins))

pub none_from : (o : Option Bool) → is_some o ≡ false → o ≡ None
none_from None h = refl
none_from (Some v) h = absurd (true≢false h)

pub some_from : (o : Option Bool) → is_some o ≡ true → (v : Bool) × (o ≡ Some v)
some_from None h = absurd (false≢true h)
some_from (Some v) h = (v, refl)

-- where the same is known of the inputs, the gate over the open ones is the same
module _ (one two : Option Lit) (t : ℕ) where
  open_same : (ins : List Lit) → All (λ l. known_of two l ≡ known_of one l) ins → open_inputs two ins ≡ open_inputs one ins
  open_same [] h = refl
  open_same (l ∷ ls) h =
      ap (λ o. cond (is_unknown o) (l ∷ open_inputs two ls) (open_inputs two ls)) (All-head (λ l. known_of two l ≡ known_of one l) l ls h)
      ∙ ap (λ xs. cond (is_unknown (known_of one l)) (l ∷ xs) xs) (open_same ls (All-tail (λ l. known_of two l ≡ known_of one l) l ls h))

  row_same : (ins : List Lit) → All (λ l. known_of two l ≡ known_of one l) ins → (i : ℕ) → full_row two ins i ≡ full_row one ins i
  row_same [] h i = full_row-nil two i ∙ sym (full_row-nil one i)
  row_same (l ∷ ls) h i =
      full_row-cons two l ls i
      ∙ ap (λ o. row_with o (full_row two ls) i) (All-head (λ l. known_of two l ≡ known_of one l) l ls h)
      ∙ by_known (known_of one l) (row_same ls (All-tail (λ l. known_of two l ≡ known_of one l) l ls h))
      ∙ sym (full_row-cons one l ls i) where
        by_known : (o : Option Bool) → ((k : ℕ) → full_row two ls k ≡ full_row one ls k) → row_with o (full_row two ls) i ≡ row_with o (full_row one ls) i
        by_known None e = ap (λ n. i % 2 + 2 * n) (e (i / 2))
        by_known (Some v) e = ap (λ n. bit v + 2 * n) (e i)

  rows_same : (ins : List Lit) → All (λ l. known_of two l ≡ known_of one l) ins → (n : ℕ) → open_rows t two ins n ≡ open_rows t one ins n
  rows_same ins h zero = open_rows-zero t two ins ∙ sym (open_rows-zero t one ins)
  rows_same ins h (suc n) =
      open_rows-suc t two ins n
      ∙ ap (λ x. x + bit_at t (full_row two ins n) * 2 ^ n) (rows_same ins h n)
      ∙ ap (λ x. open_rows t one ins n + bit_at t x * 2 ^ n) (row_same ins h n)
      ∙ sym (open_rows-suc t one ins n)

  pub open_gate_same : (ins : List Lit) → All (λ l. known_of two l ≡ known_of one l) ins → open_gate two t ins ≡ open_gate one t ins
  open_gate_same ins h =
      let opens = open_inputs one ins in
      let with_inputs : List Lit → Gate = λ ls. record { count = length ls; table = open_rows t two ins (2 ^ length ls); places = places_of ls } in
      let with_table : ℕ → Gate = λ n. record { count = length opens; table = n; places = places_of opens } in
      ap with_inputs (open_same ins h) ∙ ap with_table (rows_same ins h (2 ^ length opens))
