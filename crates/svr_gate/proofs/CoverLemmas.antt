-- What the clauses of cubes that cover a table say of its output
use Rattle.std.proofs.Common.{◌≡◌, ℕ, zero, suc, ◌+◌, ◌*◌, ◌/◌, ◌%◌, ◌^◌, ◌<◌, ◌≤◌, ◌⊎◌, ⊎_elim, Bool, true, false, cond, not, ◌&&◌, ◌||◌, eqb, ltb, List, [], ◌∷◌, ◌++◌, length, map, drop, get_or, Some, None, refl, sym, ◌∙◌, ap, arith, append_assoc}
use Rattle.std.specs.Prelude.{unwrap_or}
use Rattle.std.proofs.lemmas.Nat.{pow_pos}
use Rattle.std.specs.List.{All, list_any, list_all}
use Rattle.std.specs.Int.{bit_at}
use Rattle.std.proofs.lemmas.Bool.{cases_eq, cases_Bool, or_left, or_right, not-true, and_from, and_parts, eqb-true, eq-eqb, false≢true, cond-true, cond-false}
use Rattle.std.proofs.lemmas.List.{at_drop_more, drop_all, append-nil, length_push}
use Rattle.std.proofs.lemmas.List.Folds.{list_any-append, list_all-append}
use Rattle.std.proofs.lemmas.List.Elements.{All-head, All-tail, All-nil, All-cons, All-push, All-weaker}
use Rattle.std.proofs.Math.Nat.{pow-suc}
use Rattle.svr_chain.specs.declared.clause.Lit.{Lit}
use Rattle.svr_chain.specs.Clauses.{IsWithin, AreWithin, flip}
use Rattle.svr_chain.specs.Valuations.{lit_value, clause_value, Meets}
use Rattle.svr_chain.proofs.ValuationLemmas.{Meets-nil}
use Rattle.svr_gate.specs.declared.cover.Cube.{Cube}
use Rattle.svr_gate.specs.Numbers.{bit, number}
use Rattle.svr_gate.specs.Gates.{table_value}
use Rattle.svr_gate.specs.Keys.{all_below}
use Rattle.svr_gate.specs.Covers.{cube_inputs, cube_clause, rows_upto, is_like, is_in, is_right_at, is_cover, clause_count, has_lone_row, Defines}
use Rattle.svr_gate.proofs.NumberLemmas.{number-cons, number-lt, bit-le, lit_value-flip}
use Rattle.svr_gate.proofs.BitLemmas.{all_below-at}

-- the literals of a cube, one by one
pub cube_inputs-nil : (row mask : ℕ) → cube_inputs [] row mask ≡ []
unfolding cube_inputs
cube_inputs-nil row mask = refl

pub cube_inputs-cons : (l : Lit) (ls : List Lit) (row mask : ℕ)
    → cube_inputs (l ∷ ls) row mask ≡ cond (eqb (mask % 2) 1) (cond (eqb (row % 2) 1) (flip l) l ∷ cube_inputs ls (row / 2) (mask / 2)) (cube_inputs ls (row / 2) (mask / 2))
unfolding cube_inputs
cube_inputs-cons l ls row mask = refl

-- one literal of a cube says that its input reads otherwise
sign_value : (a : ℕ → Bool) (l : Lit) (r : Bool) → lit_value a (cond r (flip l) l) ≡ not (eqb (bit (lit_value a l)) (bit r))
sign_value a l true = lit_value-flip a l ∙ by_value (lit_value a l) where
  by_value : (b : Bool) → not b ≡ not (eqb (bit b) 1)
  by_value true = refl
  by_value false = refl
sign_value a l false = by_value (lit_value a l) where
  by_value : (b : Bool) → b ≡ not (eqb (bit b) 0)
  by_value true = refl
  by_value false = refl

bit_eqb : (n : ℕ) → n < 2 → n ≡ bit (eqb n 1)
bit_eqb zero h = refl
bit_eqb (suc zero) h = refl
bit_eqb (suc (suc n)) h = absurd (omega arith)

not_both : (x y : Bool) → (not x || not y) ≡ not (x && y)
not_both true y = refl
not_both false y = refl

halves : (b : Bool) (n : ℕ) → ((bit b + 2 * n) % 2 ≡ bit b) × ((bit b + 2 * n) / 2 ≡ n)
halves true n = (omega arith, omega arith)
halves false n = (omega arith, omega arith)

-- a cube's literals are all false just where the inputs read as a row of it
pub cube_value : (a : ℕ → Bool) (ins : List Lit) (row mask : ℕ) → list_any (lit_value a) (cube_inputs ins row mask) ≡ not (is_like (length ins) row mask (number a ins))
cube_value a [] row mask = ap (list_any (lit_value a)) (cube_inputs-nil row mask)
cube_value a (l ∷ ls) row mask =
    let b = lit_value a l in
    let m = number a ls in
    let n = number-cons a l ls in
    let h = halves b m in
    let low : number a (l ∷ ls) % 2 ≡ bit b = ap (λ x. x % 2) n ∙ h.0 in
    let high : number a (l ∷ ls) / 2 ≡ m = ap (λ x. x / 2) n ∙ h.1 in
    let rest = cube_value a ls (row / 2) (mask / 2) in
    let r : row % 2 ≡ bit (eqb (row % 2) 1) = bit_eqb (row % 2) (omega arith) in
    let X = is_like (length ls) (row / 2) (mask / 2) m in
    let like : is_like (length (l ∷ ls)) row mask (number a (l ∷ ls)) ≡ ((not (eqb (mask % 2) 1) || eqb (bit b) (row % 2)) && X) =
    ap (λ x. (not (eqb (mask % 2) 1) || eqb x (row % 2)) && is_like (length ls) (row / 2) (mask / 2) (number a (l ∷ ls) / 2)) low
    ∙ ap (λ x. (not (eqb (mask % 2) 1) || eqb (bit b) (row % 2)) && is_like (length ls) (row / 2) (mask / 2) x) high in
    ap (list_any (lit_value a)) (cube_inputs-cons l ls row mask)
    ∙ by_mask (eqb (mask % 2) 1) rest r
    ∙ ap not (sym like) where
      by_mask : (s : Bool) → list_any (lit_value a) (cube_inputs ls (row / 2) (mask / 2)) ≡ not (is_like (length ls) (row / 2) (mask / 2) (number a ls)) → row % 2 ≡ bit (eqb (row % 2) 1)
          → list_any (lit_value a) (cond s (cond (eqb (row % 2) 1) (flip l) l ∷ cube_inputs ls (row / 2) (mask / 2)) (cube_inputs ls (row / 2) (mask / 2)))
          ≡ not ((not s || eqb (bit (lit_value a l)) (row % 2)) && is_like (length ls) (row / 2) (mask / 2) (number a ls))
      by_mask true rest r =
          ap (λ x. lit_value a (cond (eqb (row % 2) 1) (flip l) l) || x) rest
          ∙ ap (λ x. x || not (is_like (length ls) (row / 2) (mask / 2) (number a ls))) (sign_value a l (eqb (row % 2) 1))
          ∙ not_both (eqb (bit (lit_value a l)) (bit (eqb (row % 2) 1))) (is_like (length ls) (row / 2) (mask / 2) (number a ls))
          ∙ ap (λ x. not (eqb (bit (lit_value a l)) x && is_like (length ls) (row / 2) (mask / 2) (number a ls))) (sym r)
      by_mask false rest r = rest

-- the literal of the output in a row where the table has b
abbrev pub out_lit : ℕ → Bool → Lit
out_lit out b = record { var = out; neg = not b }

out_true : (a : ℕ → Bool) (out : ℕ) (b : Bool) → a out ≡ b → lit_value a (out_lit out b) ≡ true
unfolding lit_value
out_true a out true e = e
out_true a out false e = ap not e

out_told : (a : ℕ → Bool) (out : ℕ) (b : Bool) → lit_value a (out_lit out b) ≡ true → a out ≡ b
unfolding lit_value
out_told a out true e = e
out_told a out false e = not-true (a out) e

list_any_one : (a : ℕ → Bool) (l : Lit) → list_any (lit_value a) (l ∷ []) ≡ lit_value a l
list_any_one a l = or_false (lit_value a l) where
  or_false : (b : Bool) → (b || false) ≡ b
  or_false true = refl
  or_false false = refl

clause_value-cube : (a : ℕ → Bool) (table : ℕ) (ins : List Lit) (out : ℕ) (c : Cube)
    → clause_value a (cube_clause table ins out c) ≡ (not (is_in (length ins) c (number a ins)) || lit_value a (out_lit out (table_value table c.row)))
unfolding clause_value cube_clause
clause_value-cube a table ins out c =
    list_any-append (lit_value a) (cube_inputs ins c.row c.mask) (out_lit out (table_value table c.row) ∷ [])
    ∙ ap (λ b. list_any (lit_value a) (cube_inputs ins c.row c.mask) || b) (list_any_one a (out_lit out (table_value table c.row)))
    ∙ ap (λ b. b || lit_value a (out_lit out (table_value table c.row))) (cube_value a ins c.row c.mask)

Meets-cons : (a : ℕ → Bool) (c : List Lit) (cs : List (List Lit)) → clause_value a c ≡ true → Meets a cs → Meets a (c ∷ cs)
unfolding Meets
Meets-cons a c cs h k = and_from (clause_value a c) (list_all (clause_value a) cs) h k

Meets-parts : (a : ℕ → Bool) (c : List Lit) (cs : List (List Lit)) → Meets a (c ∷ cs) → (clause_value a c ≡ true) × Meets a cs
unfolding Meets
Meets-parts a c cs m = let p = and_parts (clause_value a c) (list_all (clause_value a) cs) m in (p.0, p.1)

-- where the table has one value
right_value : (k table n : ℕ) (c : Cube) → is_right_at k table n c ≡ true → is_in k c n ≡ true → table_value table c.row ≡ table_value table n
right_value k table n c h i =
    let e : (not true || eqb (bit_at table c.row) (bit_at table n)) ≡ true = ap (λ b. not b || eqb (bit_at table c.row) (bit_at table n)) (sym i) ∙ h in
    ap (λ b. eqb b 1) (eqb-true (bit_at table c.row) (bit_at table n) e)

module _ (a : ℕ → Bool) (table : ℕ) (ins : List Lit) (out : ℕ) where
  abbrev told : List Cube → Type 0
  told cubes = Meets a (map (cube_clause table ins out) cubes)

  -- where a cube of this row is among those whose clauses hold, the output is the table's value
  cubes_tell : (cubes : List Cube) → list_any (λ c. is_in (length ins) c (number a ins)) cubes ≡ true → list_all (is_right_at (length ins) table (number a ins)) cubes ≡ true → told cubes → a out ≡ table_value table (number a ins)
  cubes_tell [] h r m = absurd (false≢true h)
  cubes_tell (c ∷ cs) h r m =
      let n = number a ins in
      let k = length ins in
      let rights = and_parts (is_right_at k table n c) (list_all (is_right_at k table n) cs) r in
      let parts = Meets-parts a (cube_clause table ins out c) (map (cube_clause table ins out) cs) m in
      ⊎_elim
      (λ (i : is_in k c n ≡ true).
      let v : (not true || lit_value a (out_lit out (table_value table c.row))) ≡ true =
      ap (λ b. not b || lit_value a (out_lit out (table_value table c.row))) (sym i) ∙ sym (clause_value-cube a table ins out c) ∙ parts.0 in
      out_told a out (table_value table c.row) v ∙ right_value k table n c rights.0 i)
      (λ (i : is_in k c n ≡ false). cubes_tell cs (ap (λ b. b || list_any (λ d. is_in k d n) cs) (sym i) ∙ h) rights.1 parts.1)
      (cases_Bool (is_in k c n))

  -- and where it is, all their clauses hold
  cubes_met : (cubes : List Cube) → list_all (is_right_at (length ins) table (number a ins)) cubes ≡ true → a out ≡ table_value table (number a ins) → told cubes
  cubes_met [] r e = Meets-nil a
  cubes_met (c ∷ cs) r e =
      let n = number a ins in
      let k = length ins in
      let rights = and_parts (is_right_at k table n c) (list_all (is_right_at k table n) cs) r in
      Meets-cons a (cube_clause table ins out c) (map (cube_clause table ins out) cs)
      (clause_value-cube a table ins out c ∙
      ⊎_elim
      (λ (i : is_in k c n ≡ true). or_right _ _ (out_true a out (table_value table c.row) (e ∙ sym (right_value k table n c rights.0 i))))
      (λ (i : is_in k c n ≡ false). or_left _ _ (ap not i))
      (cases_Bool (is_in k c n)))
      (cubes_met cs rights.1 e)

-- the clauses speak of the inputs and the output
cube_inputs_within : (n : ℕ) (ins : List Lit) (row mask : ℕ) → AreWithin n ins → AreWithin n (cube_inputs ins row mask)
cube_inputs_within n [] row mask w = rw cube_inputs-nil (All-nil (IsWithin n))
cube_inputs_within n (l ∷ ls) row mask w =
    rw cube_inputs-cons
    (by_mask (cond (eqb (row % 2) 1) (flip l) l ∷ cube_inputs ls (row / 2) (mask / 2)) (cube_inputs ls (row / 2) (mask / 2)) (eqb (mask % 2) 1) (All-cons (IsWithin n) (cond (eqb (row % 2) 1) (flip l) l) (cube_inputs ls (row / 2) (mask / 2))
    (within_either (eqb (row % 2) 1) (All-head (IsWithin n) l ls w)) (cube_inputs_within n ls (row / 2) (mask / 2) (All-tail (IsWithin n) l ls w)))
    (cube_inputs_within n ls (row / 2) (mask / 2) (All-tail (IsWithin n) l ls w))) where
      by_mask : (x y : List Lit) (s : Bool) → AreWithin n x → AreWithin n y → AreWithin n (cond s x y)
      by_mask x y true h k = h
      by_mask x y false h k = k

      within_either : (b : Bool) → IsWithin n l → IsWithin n (cond b (flip l) l)
      within_either true h = h
      within_either false h = h

cube_clause_within : (n out table : ℕ) (ins : List Lit) (c : Cube) → AreWithin n ins → n < out → AreWithin out (cube_clause table ins out c)
unfolding cube_clause
cube_clause_within n out table ins c w h =
    All-push (IsWithin out) (cube_inputs ins c.row c.mask) (out_lit out (table_value table c.row))
    (All-weaker (IsWithin n) (IsWithin out) (λ l k. (k.0, omega arith)) (cube_inputs ins c.row c.mask) (cube_inputs_within n ins c.row c.mask w))
    (omega arith, omega arith)

cubes_within : (n out table : ℕ) (ins : List Lit) (cubes : List Cube) → AreWithin n ins → n < out → All (AreWithin out) (map (cube_clause table ins out) cubes)
cubes_within n out table ins [] w h = All-nil (AreWithin out)
cubes_within n out table ins (c ∷ cs) w h =
    All-cons (AreWithin out) (cube_clause table ins out c) (map (cube_clause table ins out) cs) (cube_clause_within n out table ins c w h) (cubes_within n out table ins cs w h)

-- cubes that are a cover at each row define the output
pub covers_define : (table : ℕ) (ins : List Lit) (out : ℕ) (cubes : List Cube)
    → ((n : ℕ) → n < 2 ^ length ins → (list_any (λ c. is_in (length ins) c n) cubes ≡ true) × (list_all (is_right_at (length ins) table n) cubes ≡ true))
    → Defines table ins out (map (cube_clause table ins out) cubes)
covers_define table ins out cubes h = record {
  within = λ n w lt. cubes_within n out table ins cubes w lt;
  holds = λ a e. cubes_met a table ins out cubes (h (number a ins) (number-lt a ins)).1 e;
  tells = λ a m. let at = h (number a ins) (number-lt a ins) in cubes_tell a table ins out cubes at.0 at.1 m;
}

-- a short list
pub cover_rows : (k table : ℕ) (cubes : List Cube) → is_cover k table cubes ≡ true → list_all (λ c. ltb c.row 16) cubes ≡ true
cover_rows k table cubes h = (and_parts (list_all (λ c. ltb c.row 16) cubes) (all_below (λ n. list_any (λ c. is_in k c n) cubes && list_all (is_right_at k table n) cubes) (2 ^ k)) h).0

pub cover_at : (k table : ℕ) (cubes : List Cube) → is_cover k table cubes ≡ true → (n : ℕ) → n < 2 ^ k → (list_any (λ c. is_in k c n) cubes ≡ true) × (list_all (is_right_at k table n) cubes ≡ true)
cover_at k table cubes h n lt =
    let p = and_parts (list_all (λ c. ltb c.row 16) cubes) (all_below (λ n. list_any (λ c. is_in k c n) cubes && list_all (is_right_at k table n) cubes) (2 ^ k)) h in
    let q = and_parts (list_any (λ c. is_in k c n) cubes) (list_all (is_right_at k table n) cubes) (all_below-at (λ n. list_any (λ c. is_in k c n) cubes && list_all (is_right_at k table n) cubes) (2 ^ k) n p.1 lt) in
    (q.0, q.1)

-- a clause for each row
pub rows_upto-zero : rows_upto 0 ≡ []
unfolding rows_upto
rows_upto-zero = refl

pub rows_upto-suc : (n : ℕ) → rows_upto (suc n) ≡ rows_upto n ++ record { row = n; mask = 15 } ∷ []
unfolding rows_upto
rows_upto-suc n = refl

pub length-rows_upto : (n : ℕ) → length (rows_upto n) ≡ n
length-rows_upto zero = ap length rows_upto-zero
length-rows_upto (suc n) = ap length (rows_upto-suc n) ∙ omega (arith, length-rows_upto n, length_push (rows_upto n) (record { row = n; mask = 15 }))

is_like_self : (k n mask : ℕ) → is_like k n mask n ≡ true
is_like_self zero n mask = refl
is_like_self (suc k) n mask = and_from (not (eqb (mask % 2) 1) || eqb (n % 2) (n % 2)) (is_like k (n / 2) (mask / 2) (n / 2)) (or_right _ _ (eq-eqb (n % 2) (n % 2) refl)) (is_like_self k (n / 2) (mask / 2))

abbrev AreOnes : ℕ → ℕ → Type 0
AreOnes zero mask = Unit {0}
AreOnes (suc k) mask = (mask % 2 ≡ 1) × AreOnes k (mask / 2)

-- a cube of all inputs is one row
like_same : (k row mask n : ℕ) → AreOnes k mask → row < 2 ^ k → n < 2 ^ k → is_like k row mask n ≡ true → row ≡ n
like_same zero row mask n ones h g e = omega arith
like_same (suc k) row mask n ones h g e =
    let p = and_parts (not (eqb (mask % 2) 1) || eqb (n % 2) (row % 2)) (is_like k (row / 2) (mask / 2) (n / 2)) e in
    let low : (not true || eqb (n % 2) (row % 2)) ≡ true = ap (λ b. not b || eqb (n % 2) (row % 2)) (sym (eq-eqb (mask % 2) 1 ones.0)) ∙ p.0 in
    let same : n % 2 ≡ row % 2 = eqb-true (n % 2) (row % 2) low in
    let rest : row / 2 ≡ n / 2 = like_same k (row / 2) (mask / 2) (n / 2) ones.1 (omega (arith, pow-suc 2 k)) (omega (arith, pow-suc 2 k)) p.1 in
    omega (arith, same, rest)

ones_15 : (k : ℕ) → k ≤ 4 → AreOnes k 15
ones_15 zero h = tt
ones_15 (suc zero) h = (refl, tt)
ones_15 (suc (suc zero)) h = (refl, (refl, tt))
ones_15 (suc (suc (suc zero))) h = (refl, (refl, (refl, tt)))
ones_15 (suc (suc (suc (suc zero)))) h = (refl, (refl, (refl, (refl, tt))))
ones_15 (suc (suc (suc (suc (suc k))))) h = absurd (omega arith)

row_is_right : (k table n i : ℕ) → k ≤ 4 → i < 2 ^ k → n < 2 ^ k → is_right_at k table n (record { row = i; mask = 15 }) ≡ true
row_is_right k table n i few h g =
    ⊎_elim
    (λ (e : is_like k i 15 n ≡ true). or_right _ _ (eq-eqb (bit_at table i) (bit_at table n) (ap (bit_at table) (like_same k i 15 n (ones_15 k few) h g e))))
    (λ (e : is_like k i 15 n ≡ false). or_left _ _ (ap not e))
    (cases_Bool (is_like k i 15 n))

rows_found : (k n m : ℕ) → n < m → list_any (λ c. is_in k c n) (rows_upto m) ≡ true
rows_found k n zero h = absurd (omega arith)
rows_found k n (suc m) h =
    ap (list_any (λ c. is_in k c n)) (rows_upto-suc m)
    ∙ list_any-append (λ c. is_in k c n) (rows_upto m) (record { row = m; mask = 15 } ∷ [])
    ∙ ⊎_elim
    (λ (e : n ≡ m). or_right _ _ (or_left _ _ (ap (λ i. is_like k i 15 n) (sym e) ∙ is_like_self k n 15)))
    (λ (e : n ≡ m → ⊥). or_left _ _ (rows_found k n m (omega arith)))
    (cases_eq n m)

rows_right : (k table n m : ℕ) → k ≤ 4 → m ≤ 2 ^ k → n < 2 ^ k → list_all (is_right_at k table n) (rows_upto m) ≡ true
rows_right k table n zero few h g = ap (list_all (is_right_at k table n)) rows_upto-zero
rows_right k table n (suc m) few h g =
    ap (list_all (is_right_at k table n)) (rows_upto-suc m)
    ∙ list_all-append (is_right_at k table n) (rows_upto m) (record { row = m; mask = 15 } ∷ [])
    ∙ and_from _ _ (rows_right k table n m few (omega arith) g) (and_from _ _ (row_is_right k table n m few (omega arith) g) refl)

pub rows_at : (k table : ℕ) → k ≤ 4 → (n : ℕ) → n < 2 ^ k → (list_any (λ c. is_in k c n) (rows_upto (2 ^ k)) ≡ true) × (list_all (is_right_at k table n) (rows_upto (2 ^ k)) ≡ true)
rows_at k table few n h = (rows_found k n (2 ^ k) h, rows_right k table n (2 ^ k) few (omega arith) h)

-- how the code builds a clause
pub cube_skip : (ins done : List Lit) (i row mask : ℕ) (d : Lit) (all : List Lit) → i < length ins → eqb (mask % 2) 1 ≡ false → done ++ cube_inputs (drop i ins) row mask ≡ all → done ++ cube_inputs (drop (i + 1) ins) (row / 2) (mask / 2) ≡ all
cube_skip ins done i row mask d all h s k =
    ap (λ xs. done ++ xs)
    (sym (at_drop_more (λ (xs : List Lit). cube_inputs xs row mask) ins i d h ∙ cube_inputs-cons (get_or ins i d) (drop (i + 1) ins) row mask ∙ cond-false _ _ _ s))
    ∙ k

pub cube_take : (ins done : List Lit) (i row mask : ℕ) (l d : Lit) (all : List Lit) → i < length ins → l ≡ get_or ins i d → eqb (mask % 2) 1 ≡ true → done ++ cube_inputs (drop i ins) row mask ≡ all
    → (done ++ cond (eqb (row % 2) 1) (flip l) l ∷ []) ++ cube_inputs (drop (i + 1) ins) (row / 2) (mask / 2) ≡ all
cube_take ins done i row mask l d all h e s k =
    append_assoc done (cond (eqb (row % 2) 1) (flip l) l ∷ []) (cube_inputs (drop (i + 1) ins) (row / 2) (mask / 2))
    ∙ ap (λ x. done ++ cond (eqb (row % 2) 1) (flip x) x ∷ cube_inputs (drop (i + 1) ins) (row / 2) (mask / 2)) e
    ∙ ap (λ xs. done ++ xs)
    (sym (at_drop_more (λ (xs : List Lit). cube_inputs xs row mask) ins i d h ∙ cube_inputs-cons (get_or ins i d) (drop (i + 1) ins) row mask ∙ cond-true _ _ _ s))
    ∙ k

is_zero-is_one : (n : ℕ) → n < 2 → eqb n 0 ≡ not (eqb n 1)
is_zero-is_one zero h = refl
is_zero-is_one (suc zero) h = refl
is_zero-is_one (suc (suc n)) h = absurd (omega arith)

pub cube_made : (table : ℕ) (ins done : List Lit) (i row mask out : ℕ) (c : Cube) → length ins ≤ i → done ++ cube_inputs (drop i ins) row mask ≡ cube_inputs ins c.row c.mask → done ++ record { var = out; neg = eqb (table / 2 ^ c.row % 2) 0 } ∷ [] ≡ cube_clause table ins out c
unfolding cube_clause
cube_made table ins done i row mask out c h k =
    let n = is_zero-is_one (table / 2 ^ c.row % 2) (omega arith) in
    let d : cube_inputs (drop i ins) row mask ≡ [] = ap (λ (xs : List Lit). cube_inputs xs row mask) (drop_all i ins h) ∙ cube_inputs-nil row mask in
    let e : done ≡ cube_inputs ins c.row c.mask = sym (append-nil done) ∙ ap (λ xs. done ++ xs) (sym d) ∙ k in
    ap (λ (xs : List Lit). xs ++ record { var = out; neg = eqb (table / 2 ^ c.row % 2) 0 } ∷ []) e
    ∙ ap (λ (b : Bool). cube_inputs ins c.row c.mask ++ record { var = out; neg = b } ∷ []) n

-- a table takes a clause at least
pub clause_count-pos : (k table : ℕ) → 1 ≤ clause_count k table
clause_count-pos k table = by_test (eqb k 2 && has_lone_row table) (eqb k 3 && eqb table 0x82) (eqb k 3 && eqb table 0xe8) (eqb k 3 && eqb table 0xd8) where
  by_test : (p q r s : Bool) → 1 ≤ unwrap_or (cond p (Some 3) (cond q (Some 5) (cond r (Some 6) (cond s (Some 4) None)))) (2 ^ k)
  by_test true q r s = omega arith
  by_test false true r s = omega arith
  by_test false false true s = omega arith
  by_test false false false true = omega arith
  by_test false false false false = omega (arith, pow_pos k)
