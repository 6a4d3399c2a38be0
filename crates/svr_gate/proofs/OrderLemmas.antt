-- Inputs that change places where the table does not tell them apart
use Rattle.std.proofs.Common.{◌≡◌, ℕ, zero, suc, ◌+◌, ◌*◌, ◌/◌, ◌%◌, ◌^◌, ◌<◌, ◌≤◌, ◌⊎◌, inl, inr, ⊎_elim, Bool, true, false, not, ◌&&◌, eqb, List, [], ◌∷◌, length, take, get_or, refl, sym, ap, ◌∙◌, subst, arith, add-one, cond}
use Rattle.std.specs.Prelude.{slice_set, swap, nat_lt}
use Rattle.std.specs.List.{All}
use Rattle.std.specs.Int.{bit_at}
use Rattle.std.proofs.lemmas.Bool.{cases_Bool, and_parts, eqb-true, eq-eqb, ltb-true, cond-true, cond-false, false≢true}
use Rattle.std.proofs.lemmas.List.{length-set, length-take-le}
use Rattle.std.proofs.lemmas.List.Edits.{swap_is}
use Rattle.std.proofs.lemmas.List.Elements.{All-head, All-tail, All-cons}
use Rattle.std.proofs.lemmas.Nat.{shr-shr}
use Rattle.std.proofs.Math.Nat.{pow-suc}
use Rattle.svr_chain.specs.declared.clause.Lit.{Lit}
use Rattle.svr_chain.specs.Clauses.{IsWithin, AreWithin}
use Rattle.svr_chain.specs.Valuations.{lit_value}
use Rattle.svr_gate.specs.declared.gate.Gate.{Gate}
use Rattle.svr_gate.specs.Numbers.{bit, number}
use Rattle.svr_gate.specs.Gates.{table_value}
use Rattle.svr_gate.specs.Keys.{inputs_of, no_input, gate_value, all_below, tells_apart, is_symmetric_at, is_to_exchange, with_order_at, in_order}
use Rattle.svr_gate.proofs.NumberLemmas.{number-cons, number-lt, bit-le}
use Rattle.svr_gate.proofs.BitLemmas.{all_below-at}

-- the elements at j and behind it exchanged
abbrev exchange : ℕ → List Lit → List Lit
exchange j ps = slice_set (slice_set ps j (get_or ps (suc j) no_input)) (suc j) (get_or ps j no_input)

-- two rows are one, or one reads 1, 0 at j and behind it and the other 0, 1
abbrev AreExchanged : ℕ → ℕ → ℕ → Type 0
AreExchanged j m k = (m ≡ k) ⊎ (((m / 2 ^ j % 4 ≡ 1) × (k ≡ m + 2 ^ j)) ⊎ ((k / 2 ^ j % 4 ≡ 1) × (m ≡ k + 2 ^ j)))

exchanged_first : (a : ℕ → Bool) (p q : Lit) (r : List Lit) → AreExchanged 0 (number a (p ∷ q ∷ r)) (number a (q ∷ p ∷ r))
exchanged_first a p q r =
    let m : number a (p ∷ q ∷ r) ≡ bit (lit_value a p) + 2 * (bit (lit_value a q) + 2 * number a r) = number-cons a p (q ∷ r) ∙ ap (λ n. bit (lit_value a p) + 2 * n) (number-cons a q r) in
    let k : number a (q ∷ p ∷ r) ≡ bit (lit_value a q) + 2 * (bit (lit_value a p) + 2 * number a r) = number-cons a q (p ∷ r) ∙ ap (λ n. bit (lit_value a q) + 2 * n) (number-cons a p r) in
    by_value (lit_value a p) (lit_value a q) m k where
      by_value : (x y : Bool) → number a (p ∷ q ∷ r) ≡ bit x + 2 * (bit y + 2 * number a r) → number a (q ∷ p ∷ r) ≡ bit y + 2 * (bit x + 2 * number a r) → AreExchanged 0 (number a (p ∷ q ∷ r)) (number a (q ∷ p ∷ r))
      by_value true true m k = inl (omega arith)
      by_value true false m k = inr (inl (omega arith, omega arith))
      by_value false true m k = inr (inr (omega arith, omega arith))
      by_value false false m k = inl (omega arith)

exchanged_later : (j b m k : ℕ) → b ≤ 1 → AreExchanged j m k → AreExchanged (suc j) (b + 2 * m) (b + 2 * k)
exchanged_later j b m k h e =
    let p = pow-suc 2 j in
    let shifted : (n : ℕ) → (b + 2 * n) / 2 ^ suc j ≡ n / 2 ^ j = λ n.
    let half : (b + 2 * n) / 2 ^ 1 ≡ n = omega arith in
    let e : suc j ≡ 1 + j = omega arith in
    ap (λ x. (b + 2 * n) / 2 ^ x) e ∙ sym (shr-shr (b + 2 * n) 1 j) ∙ ap (λ x. x / 2 ^ j) half in
    ⊎_elim
    (λ (s : m ≡ k). inl (ap (λ x. b + 2 * x) s))
    (λ (o : ((m / 2 ^ j % 4 ≡ 1) × (k ≡ m + 2 ^ j)) ⊎ ((k / 2 ^ j % 4 ≡ 1) × (m ≡ k + 2 ^ j))).
    inr (⊎_elim
    (λ (x : (m / 2 ^ j % 4 ≡ 1) × (k ≡ m + 2 ^ j)). inl (ap (λ y. y % 4) (shifted m) ∙ x.0, omega (arith, x.1, p)))
    (λ (x : (k / 2 ^ j % 4 ≡ 1) × (m ≡ k + 2 ^ j)). inr (ap (λ y. y % 4) (shifted k) ∙ x.0, omega (arith, x.1, p)))
    o))
    e

rows_exchanged : (a : ℕ → Bool) (n j : ℕ) (ps : List Lit) → suc j < n → n ≤ length ps → AreExchanged j (number a (take n ps)) (number a (take n (exchange j ps)))
rows_exchanged a zero j ps h k = absurd (omega arith)
rows_exchanged a (suc n) j [] h k = absurd (omega arith)
rows_exchanged a (suc zero) zero ps h k = absurd (omega arith)
rows_exchanged a (suc (suc n)) zero (p ∷ []) h k = absurd (omega arith)
rows_exchanged a (suc (suc n)) zero (p ∷ q ∷ r) h k = exchanged_first a p q (take n r)
rows_exchanged a (suc n) (suc j) (p ∷ ps) h k =
    let rest = rows_exchanged a n j ps (omega arith) (omega arith) in
    rw (number-cons a p (take n ps)) (rw (number-cons a p (take n (exchange j ps))) (exchanged_later j (bit (lit_value a p)) (number a (take n ps)) (number a (take n (exchange j ps))) (bit-le (lit_value a p)) rest))

within_exchanged : (v n j : ℕ) (ps : List Lit) → suc j < n → n ≤ length ps → AreWithin v (take n ps) → AreWithin v (take n (exchange j ps))
within_exchanged v zero j ps h k w = absurd (omega arith)
within_exchanged v (suc n) j [] h k w = absurd (omega arith)
within_exchanged v (suc zero) zero ps h k w = absurd (omega arith)
within_exchanged v (suc (suc n)) zero (p ∷ []) h k w = absurd (omega arith)
within_exchanged v (suc (suc n)) zero (p ∷ q ∷ r) h k w =
    let t = All-tail (IsWithin v) p (q ∷ take n r) w in
    All-cons (IsWithin v) q (p ∷ take n r) (All-head (IsWithin v) q (take n r) t) (All-cons (IsWithin v) p (take n r) (All-head (IsWithin v) p (q ∷ take n r) w) (All-tail (IsWithin v) q (take n r) t))
within_exchanged v (suc n) (suc j) (p ∷ ps) h k w =
    All-cons (IsWithin v) p (take n (exchange j ps)) (All-head (IsWithin v) p (take n ps) w) (within_exchanged v n j ps (omega arith) (omega arith) (All-tail (IsWithin v) p (take n ps) w))

-- the gate under another order of its inputs
pub record IsReordered (g h : Gate) : Type 0 where
  pub count : h.count ≡ g.count
  pub table : h.table ≡ g.table
  pub four : length h.places ≡ length g.places
  pub within : (v : ℕ) → AreWithin v (inputs_of g) → AreWithin v (inputs_of h)
  pub value : (a : ℕ → Bool) → gate_value h a ≡ gate_value g a

reordered_refl : (g : Gate) → IsReordered g g
reordered_refl g = record { count = refl; table = refl; four = refl; within = λ v w. w; value = λ a. refl }

reordered_trans : {g h k : Gate} → IsReordered g h → IsReordered h k → IsReordered g k
reordered_trans p q = record {
  count = q.count ∙ p.count;
  table = q.table ∙ p.table;
  four = q.four ∙ p.four;
  within = λ v w. q.within v (p.within v w);
  value = λ a. q.value a ∙ p.value a;
}

-- rows that are exchanged have one value where the table is symmetric
symmetric_rows : (t j n m k : ℕ) → all_below (λ i. not (tells_apart t j i)) n ≡ true → m < n → k < n → AreExchanged j m k → table_value t k ≡ table_value t m
symmetric_rows t j n m k s h g e =
    let apart : (i : ℕ) → i < n → i / 2 ^ j % 4 ≡ 1 → bit_at t i ≡ bit_at t (i + 2 ^ j) = λ i lt first.
    let no : not (eqb (i / 2 ^ j % 4) 1 && not (eqb (bit_at t i) (bit_at t (i + 2 ^ j)))) ≡ true = all_below-at (λ i. not (tells_apart t j i)) n i s lt in
    eqb-true (bit_at t i) (bit_at t (i + 2 ^ j)) (same (eqb (i / 2 ^ j % 4) 1) (eqb (bit_at t i) (bit_at t (i + 2 ^ j))) (eq-eqb (i / 2 ^ j % 4) 1 first) no) in
    ⊎_elim
    (λ (x : m ≡ k). ap (table_value t) (sym x))
    (λ (o : ((m / 2 ^ j % 4 ≡ 1) × (k ≡ m + 2 ^ j)) ⊎ ((k / 2 ^ j % 4 ≡ 1) × (m ≡ k + 2 ^ j))).
    ⊎_elim
    (λ (x : (m / 2 ^ j % 4 ≡ 1) × (k ≡ m + 2 ^ j)). ap (table_value t) x.1 ∙ ap (λ b. eqb b 1) (sym (apart m h x.0)))
    (λ (x : (k / 2 ^ j % 4 ≡ 1) × (m ≡ k + 2 ^ j)). ap (λ b. eqb b 1) (apart k g x.0) ∙ ap (table_value t) (sym x.1))
    o)
    e where
      same : (x y : Bool) → x ≡ true → not (x && not y) ≡ true → y ≡ true
      same true true e h = refl
      same true false e h = h
      same false y e h = absurd (false≢true e)

pub is_symmetric_at-test : (g : Gate) (j : ℕ) → is_symmetric_at g j ≡ all_below (λ i. not (tells_apart g.table j i)) (2 ^ g.count)
unfolding is_symmetric_at
is_symmetric_at-test g j = refl

pub with_order_at-cases : (j : ℕ) (g : Gate) → with_order_at j g ≡ cond (is_to_exchange j g) (record g { places = swap g.places j (j + 1) }) g
unfolding with_order_at
with_order_at-cases j g = refl

swap-exchange : (ps : List Lit) (j : ℕ) → suc j < length ps → swap ps j (j + 1) ≡ exchange j ps
swap-exchange ps j h =
    sym (swap_is ps j (j + 1) no_input (omega arith) (omega arith)) ∙ ap (λ k. slice_set (slice_set ps j (get_or ps k no_input)) k (get_or ps j no_input)) (add-one j)

pub with_order_at_is_reordered : (j : ℕ) (g : Gate) → g.count ≤ 4 → length g.places ≡ 4 → IsReordered g (with_order_at j g)
with_order_at_is_reordered j g few four =
    rw with_order_at-cases
    (⊎_elim
    (λ (e : is_to_exchange j g ≡ true).
    let p = and_parts (nat_lt (j + 1) g.count) (nat_lt (get_or g.places (j + 1) no_input).var (get_or g.places j no_input).var && is_symmetric_at g j) e in
    let q = and_parts (nat_lt (get_or g.places (j + 1) no_input).var (get_or g.places j no_input).var) (is_symmetric_at g j) p.1 in
    let lt : suc j < g.count = omega (arith, ltb-true (j + 1) g.count p.0) in
    let s : swap g.places j (j + 1) ≡ exchange j g.places = swap-exchange g.places j (omega arith) in
    let len : length (exchange j g.places) ≡ length g.places = length-set (slice_set g.places j (get_or g.places (suc j) no_input)) (suc j) (get_or g.places j no_input) ∙ length-set g.places j (get_or g.places (suc j) no_input) in
    let inputs : length (take g.count g.places) ≡ g.count = length-take-le g.count g.places (omega arith) in
    let inputs_after : length (take g.count (exchange j g.places)) ≡ g.count = length-take-le g.count (exchange j g.places) (omega arith) in
    let moved : IsReordered g (record g { places = exchange j g.places }) = record {
      count = refl;
      table = refl;
      four = len;
      within = λ v w. within_exchanged v g.count j g.places lt (omega arith) w;
      value = λ a.
          symmetric_rows g.table j (2 ^ g.count) (number a (take g.count g.places)) (number a (take g.count (exchange j g.places)))
          (sym (is_symmetric_at-test g j) ∙ q.1)
          (subst (λ (k : ℕ). number a (take g.count g.places) < 2 ^ k) inputs (number-lt a (take g.count g.places)))
          (subst (λ (k : ℕ). number a (take g.count (exchange j g.places)) < 2 ^ k) inputs_after (number-lt a (take g.count (exchange j g.places))))
          (rows_exchanged a g.count j g.places lt (omega arith));
    } in
    subst (λ (h : Gate). IsReordered g h) (sym (cond-true (is_to_exchange j g) (record g { places = swap g.places j (j + 1) }) g e ∙ ap (λ ps. record g { places = ps }) s)) moved)
    (λ (e : is_to_exchange j g ≡ false). subst (λ (h : Gate). IsReordered g h) (sym (cond-false (is_to_exchange j g) (record g { places = swap g.places j (j + 1) }) g e)) (reordered_refl g))
    (cases_Bool (is_to_exchange j g)))

pub in_order_is_reordered : (g : Gate) → g.count ≤ 4 → length g.places ≡ 4 → IsReordered g (in_order g)
in_order_is_reordered g few four = next 0 _ (next 1 _ (next 0 _ (next 2 _ (next 1 _ (next 0 g (reordered_refl g)))))) where
  next : (j : ℕ) (h : Gate) → IsReordered g h → IsReordered g (with_order_at j h)
  next j h r = reordered_trans r (with_order_at_is_reordered j h (omega (arith, r.count)) (r.four ∙ four))

pub with_order_at-count : (j : ℕ) (g : Gate) → (with_order_at j g).count ≡ g.count
with_order_at-count j g = ap (λ (h : Gate). h.count) (with_order_at-cases j g) ∙ either (is_to_exchange j g) where
  either : (b : Bool) → (cond b (record g { places = swap g.places j (j + 1) }) g).count ≡ g.count
  either true = refl
  either false = refl
