-- Vectors and bits by an index
use Rattle.std.proofs.Common.{◌≡◌, ℕ, zero, suc, ◌+◌, ◌-◌, ◌*◌, ◌/◌, ◌%◌, ◌^◌, ◌<◌, ◌≤◌, Bool, true, false, cond, ◌&&◌, not, eqb, ltb, ⊎_elim, List, [], ◌∷◌, ◌++◌, length, get_or, refl, sym, ◌∙◌, ap, subst, arith, add_comm, add-one, ℤ, pos, negsuc, Option, None, Some, Vec, Global}
use Rattle.std.specs.Prelude.{◌-ℤ◌, ◌+ℤ◌, slice_index}
use Rattle.std.specs.Ordering.{int_eq}
use Rattle.std.proofs.lemmas.Bool.{cases_lt, cases_eq, lt-ltb, le-ltb}
use Rattle.std.proofs.lemmas.Bool.Decides.{Decides-eqb, Decides-int_eq, same_from_decides}
use Rattle.std.proofs.lemmas.Int.{ints}
use Rattle.std.proofs.lemmas.Nat.{pow-add, mod-pow-add, pow_pos, div-mul-add}
use Rattle.std.proofs.Math.Nat.{div-div-eq-div-mul}
use Rattle.std.proofs.lemmas.Nat.Bits.{bit_at_above}
use Rattle.svr_chain.specs.declared.clause.Lit.{Lit}
use Rattle.svr_chain.specs.Clauses.{AreWithin}
use Rattle.std.proofs.lemmas.List.Elements.{All-head, All-tail}
use Rattle.svr_chain.specs.Valuations.{lit_value, Meets}
use Rattle.svr_gate.specs.Numbers.{bit, number}
use Rattle.svr_gate.specs.Circuit.{Circuit, Extends, Tells, GivesNumber}
use Rattle.svr_gate.specs.Gates.{table_value}
use Rattle.svr_gate.proofs.NumberLemmas.{number-nil, number_bit, bit_test}
use Rattle.svr_gate.proofs.Circuits.{Tells-same}
use Rattle.svr_gate.proofs.TableLemmas.{Tells-choice}
use Rattle.svr_gate.proofs.Vectors.{GivesNumber-same, GivesNumber-push}
use Rattle.svr_num.specs.Num.{read_of, residue, extend_of}
use Rattle.svr_shape.specs.Shape.{fill_of}
use Rattle.svr_shape.proofs.ExtensionLemmas.{extend_value}
use Rattle.svr_eval.specs.Value.{bits_from}
use Rattle.svr_eval.proofs.Bits.{moved_past}
use Rattle.svr_vector.proofs.LiteralLemmas.{bit_of_odd}
use Rattle.svr_vector.specs.Places.{bit_at_place, bit_below, number_at, number_below, rows, AreVectors}

-- a number read at its own width is itself
pub own_value : (s : Bool) (w n : ℕ) → 1 ≤ w → n < 2 ^ w → residue w (read_of s w n) ≡ n
own_value s w n low h =
    sym (extend_value s w w n low (omega arith) h) ∙ ap (λ k. n + 2 ^ w * cond (fill_of s w n) (2 ^ k - 1) 0) (let e : w - w ≡ 0 = omega arith in e) ∙ none (fill_of s w n) where
      none : (b : Bool) → n + 2 ^ w * cond b (2 ^ 0 - 1) 0 ≡ n
      none true = omega arith
      none false = omega arith

-- two numbers that read the same are the same
pub read_apart : (s : Bool) (w m n : ℕ) → 1 ≤ w → m < 2 ^ w → n < 2 ^ w → read_of s w m ≡ read_of s w n → m ≡ n
read_apart s w m n low h g e = sym (own_value s w m low h) ∙ ap (residue w) e ∙ own_value s w n low g

-- where a number reads as the place, just that number does
pub told_by : (s : Bool) (w k n : ℕ) (z : ℤ) → 1 ≤ w → k < 2 ^ w → read_of s w k ≡ z → n < 2 ^ w → eqb n k ≡ int_eq (read_of s w n) z
told_by s w k n z low h same g =
    same_from_decides (eqb n k) (int_eq (read_of s w n) z) (Decides-eqb n k)
    ((λ t. read_apart s w n k low g h ((Decides-int_eq (read_of s w n) z).0 t ∙ sym same)), (λ e. (Decides-int_eq (read_of s w n) z).1 (ap (read_of s w) e ∙ same)))

-- where none reads as the place
pub told_by_none : (s : Bool) (w n : ℕ) (z : ℤ) → ((m : ℕ) → m < 2 ^ w → read_of s w m ≡ z → ⊥) → n < 2 ^ w → false ≡ int_eq (read_of s w n) z
told_by_none s w n z none g = by_test (int_eq (read_of s w n) z) refl where
  by_test : (b : Bool) → int_eq (read_of s w n) z ≡ b → false ≡ b
  by_test true e = absurd (none n g ((Decides-int_eq (read_of s w n) z).0 e))
  by_test false e = refl

pub spelled_none : (s : Bool) (w : ℕ) (z : ℤ) → 1 ≤ w → int_eq (read_of s w (residue w z)) z ≡ false → (n : ℕ) → n < 2 ^ w → read_of s w n ≡ z → ⊥
spelled_none s w z low t n h e =
    let k : residue w z ≡ n = ap (residue w) (sym e) ∙ own_value s w n low h in
    let told : int_eq (read_of s w (residue w z)) z ≡ true = (Decides-int_eq (read_of s w (residue w z)) z).1 (ap (read_of s w) k ∙ e) in
    cc

-- ---- a choice over vectors

-- a number before n is that one, or the one at n
pub number_more : (n : ℕ) (a : ℕ → Bool) (xs : List (List Lit)) (z : ℤ) → cond (int_eq z (pos n)) (number a (get_or xs n [])) (number_below n a xs z) ≡ number_below (suc n) a xs z
number_more n a xs (negsuc k) = by_test (int_eq (negsuc k) (pos n)) refl where
  by_test : (b : Bool) → int_eq (negsuc k) (pos n) ≡ b → cond b (number a (get_or xs n [])) 0 ≡ 0
  by_test true e = let same : negsuc k ≡ pos n = (Decides-int_eq (negsuc k) (pos n)).0 e in cc
  by_test false e = refl
number_more n a xs (pos k) =
    ⊎_elim
    (λ (e : k ≡ n).
    ap (λ b. cond b (number a (get_or xs n [])) (number_below n a xs (pos k))) ((Decides-int_eq (pos k) (pos n)).1 (ap pos e))
    ∙ ap (λ j. number a (get_or xs j [])) (sym e) ∙ sym (ap (λ b. cond b (number a (get_or xs k [])) 0) (lt-ltb k (suc n) (omega arith))))
    (λ (e : k ≡ n → ⊥).
    ap (λ b. cond b (number a (get_or xs n [])) (number_below n a xs (pos k))) (off (int_eq (pos k) (pos n)) refl e)
    ∙ ap (λ b. cond b (number a (get_or xs k [])) 0) (⊎_elim (λ (l : k < n). lt-ltb k n l ∙ sym (lt-ltb k (suc n) (omega arith))) (λ (g : n ≤ k). le-ltb k n g ∙ sym (le-ltb k (suc n) (past g e))) (cases_lt k n)))
    (cases_eq k n) where
      off : (b : Bool) → int_eq (pos k) (pos n) ≡ b → (k ≡ n → ⊥) → int_eq (pos k) (pos n) ≡ false
      off true t e = absurd (e (let same : pos k ≡ pos n = (Decides-int_eq (pos k) (pos n)).0 t in cc))
      off false t e = t

      past : n ≤ k → (k ≡ n → ⊥) → suc n ≤ k
      past g e = ⊎_elim (λ (l : n < k). omega arith) (λ (l : k ≤ n). absurd (e (omega arith))) (cases_lt n k)

-- before the first there is none
pub number_none : (a : ℕ → Bool) (xs : List (List Lit)) (z : ℤ) → 0 ≡ number_below 0 a xs z
number_none a xs (negsuc k) = refl
number_none a xs (pos k) = sym (ap (λ b. cond b (number a (get_or xs k [])) 0) (le-ltb k 0 (omega arith)))

-- past the last one nothing stands
pub number_all : (a : ℕ → Bool) (xs : List (List Lit)) (z : ℤ) → number_below (length xs) a xs z ≡ number_at a xs z
number_all a xs (negsuc k) = refl
number_all a xs (pos k) =
    ⊎_elim
    (λ (l : k < length xs). ap (λ b. cond b (number a (get_or xs k [])) 0) (lt-ltb k (length xs) l))
    (λ (g : length xs ≤ k). ap (λ b. cond b (number a (get_or xs k [])) 0) (le-ltb k (length xs) g) ∙ sym (ap (number a) (get_or-past xs k g) ∙ number-nil a))
    (cases_lt k (length xs)) where
      get_or-past : (ys : List (List Lit)) (k : ℕ) → length ys ≤ k → get_or ys k [] ≡ []
      get_or-past [] k h = refl
      get_or-past (y ∷ ys) zero h = absurd (omega arith)
      get_or-past (y ∷ ys) (suc k) h = get_or-past ys k (omega arith)

-- ---- a choice over the bits of a vector

-- a bit before n is that bit, or the one at n
pub bit_more : (n : ℕ) (z : ℤ) (v : ℕ) → cond (int_eq z (pos n)) (eqb (v / 2 ^ n % 2) 1) (bit_below n z v) ≡ bit_below (suc n) z v
bit_more n (negsuc k) v = by_test (int_eq (negsuc k) (pos n)) refl where
  by_test : (b : Bool) → int_eq (negsuc k) (pos n) ≡ b → cond b (eqb (v / 2 ^ n % 2) 1) false ≡ false
  by_test true e = let same : negsuc k ≡ pos n = (Decides-int_eq (negsuc k) (pos n)).0 e in cc
  by_test false e = refl
bit_more n (pos k) v =
    ⊎_elim
    (λ (e : k ≡ n).
    ap (λ b. cond b (eqb (v / 2 ^ n % 2) 1) (bit_below n (pos k) v)) ((Decides-int_eq (pos k) (pos n)).1 (ap pos e))
    ∙ ap (λ j. eqb (v / 2 ^ j % 2) 1) (sym e) ∙ sym (ap (λ b. b && eqb (v / 2 ^ k % 2) 1) (lt-ltb k (suc n) (omega arith))))
    (λ (e : k ≡ n → ⊥).
    ap (λ b. cond b (eqb (v / 2 ^ n % 2) 1) (bit_below n (pos k) v)) (off (int_eq (pos k) (pos n)) refl e)
    ∙ ap (λ b. b && eqb (v / 2 ^ k % 2) 1) (⊎_elim (λ (l : k < n). lt-ltb k n l ∙ sym (lt-ltb k (suc n) (omega arith))) (λ (g : n ≤ k). le-ltb k n g ∙ sym (le-ltb k (suc n) (past g e))) (cases_lt k n)))
    (cases_eq k n) where
      off : (b : Bool) → int_eq (pos k) (pos n) ≡ b → (k ≡ n → ⊥) → int_eq (pos k) (pos n) ≡ false
      off true t e = absurd (e (let same : pos k ≡ pos n = (Decides-int_eq (pos k) (pos n)).0 t in cc))
      off false t e = t

      past : n ≤ k → (k ≡ n → ⊥) → suc n ≤ k
      past g e = ⊎_elim (λ (l : n < k). omega arith) (λ (l : k ≤ n). absurd (e (omega arith))) (cases_lt n k)

-- a place that is no bit of a vector
pub outside_bit : (n v : ℕ) (z : ℤ) → v < 2 ^ n → ((k : ℕ) → k < n → z ≡ pos k → ⊥) → false ≡ bit_at_place z v
outside_bit n v (negsuc k) lt h = refl
outside_bit n v (pos k) lt h =
    ⊎_elim (λ (l : k < n). absurd (h k l refl)) (λ (g : n ≤ k). ap (λ x. eqb x 1) (sym (bit_at_above v n k lt g))) (cases_lt k n)

pub sum_below : (n i : ℕ) (b : Bool) → n < 2 ^ i → n + 2 ^ i * bit b < 2 ^ (i + 1)
sum_below n i true h = let e : 2 ^ (i + 1) ≡ 2 ^ i * 2 = pow-add 2 i 1 in omega (arith, e, h)
sum_below n i false h = let e : 2 ^ (i + 1) ≡ 2 ^ i * 2 = pow-add 2 i 1 in omega (arith, e, h)

pub shifted_place : (z low : ℤ) (n : ℕ) → int_eq z (low +ℤ pos n) ≡ int_eq (z -ℤ low) (pos n)
shifted_place z low n =
    same_from_decides (int_eq z (low +ℤ pos n)) (int_eq (z -ℤ low) (pos n)) (Decides-int_eq z (low +ℤ pos n))
    ((λ t. let e = (Decides-int_eq (z -ℤ low) (pos n)).0 t in omega (arith, ints, e)), (λ e. (Decides-int_eq (z -ℤ low) (pos n)).1 (omega (arith, ints, e))))

-- ---- bits from a place on, one by one

next_bit : (n j : ℕ) (b : Bool) → bit b ≡ n / 2 ^ j % 2 → n % 2 ^ j + 2 ^ j * bit b ≡ n % 2 ^ (j + 1)
next_bit n j b e = ap (λ k. n % 2 ^ j + 2 ^ j * k) e ∙ omega (arith, mod-pow-add n 1 j, ap (λ k. n % 2 ^ k) (add_comm j 1))

over : (v k j : ℕ) → v / 2 ^ k / 2 ^ j ≡ v / 2 ^ (k + j)
over v k j = div-div-eq-div-mul v (2 ^ k) (2 ^ j) ∙ ap (λ n. v / n) (sym (pow-add 2 k j))

-- a bit above the zeros
above : (v s j : ℕ) → s ≤ j → v * 2 ^ s / 2 ^ j ≡ v / 2 ^ (j - s)
above v s j h =
    let e : 2 ^ j ≡ 2 ^ s * 2 ^ (j - s) = ap (λ k. 2 ^ k) (let k : j ≡ s + (j - s) = omega arith in k) ∙ pow-add 2 s (j - s) in
    let z : v * 2 ^ s ≡ v * 2 ^ s + 0 = omega arith in
    ap (λ k. v * 2 ^ s / k) e ∙ sym (div-div-eq-div-mul (v * 2 ^ s) (2 ^ s) (2 ^ (j - s)))
    ∙ ap (λ k. k / 2 ^ (j - s)) (ap (λ n. n / 2 ^ s) z ∙ div-mul-add v (2 ^ s) 0 (pow_pos s))

-- one more bit
pub bits_more : (z : ℤ) (j v : ℕ) → bits_from z j v + 2 ^ j * bit (bit_at_place (z +ℤ pos j) v) ≡ bits_from z (j + 1) v
bits_more (pos k) j v = next_bit (v / 2 ^ k) j (eqb (v / 2 ^ (k + j) % 2) 1) (bit_of_odd (v / 2 ^ (k + j)) ∙ ap (λ n. n % 2) (sym (over v k j)))
bits_more (negsuc k) j v = ⊎_elim zeros bits (cases_lt j (suc k)) where
  zeros : j < suc k → bits_from (negsuc k) j v + 2 ^ j * bit (bit_at_place (negsuc k +ℤ pos j) v) ≡ bits_from (negsuc k) (j + 1) v
  zeros l =
      let at : negsuc k +ℤ pos j ≡ negsuc (k - j) = omega (arith, ints) in
      ap (λ z. v * 2 ^ suc k % 2 ^ j + 2 ^ j * bit (bit_at_place z v)) at
      ∙ omega (arith, moved_past v (suc k) j (omega arith), moved_past v (suc k) (j + 1) (omega arith))

  bits : suc k ≤ j → bits_from (negsuc k) j v + 2 ^ j * bit (bit_at_place (negsuc k +ℤ pos j) v) ≡ bits_from (negsuc k) (j + 1) v
  bits g =
      let at : negsuc k +ℤ pos j ≡ pos (j - suc k) = omega (arith, ints) in
      ap (λ z. v * 2 ^ suc k % 2 ^ j + 2 ^ j * bit (bit_at_place z v)) at
      ∙ next_bit (v * 2 ^ suc k) j (eqb (v / 2 ^ (j - suc k) % 2) 1) (bit_of_odd (v / 2 ^ (j - suc k)) ∙ ap (λ n. n % 2) (sym (above v (suc k) j g)))

-- none yet
pub bits_none : (z : ℤ) (v : ℕ) → 0 ≡ bits_from z 0 v
bits_none (pos k) v = omega arith
bits_none (negsuc k) v = omega arith

-- the place of the bit j from a place on
pub next_place : (z low : ℤ) (j : ℕ) → z -ℤ (low -ℤ pos j) ≡ z -ℤ low +ℤ pos j
next_place z low j = omega (arith, ints)

-- one more bit of a choice over the bits of a vector
pub bit_step : {c d e : Circuit} (x index : List Lit) (s : Bool) (low place : ℤ) (i : ℕ) (here found next : Lit) (dx : Lit) → Extends c d → Extends d e → i < length x
    → Tells c found (λ a. bit_below i (read_of s (length index) (number a index) -ℤ low) (number a x)) → Tells d here (λ a. int_eq (read_of s (length index) (number a index)) place)
    → Tells e next (λ a. table_value 0xd8 (number a (here ∷ get_or x i dx ∷ found ∷ []))) → place ≡ low +ℤ pos i → Tells e next (λ a. bit_below (i + 1) (read_of s (length index) (number a index) -ℤ low) (number a x))
bit_step x index s low place i here found next dx p q lt f h t at =
    Tells-same (λ a. bit_below (i + 1) (read_of s (length index) (number a index) -ℤ low) (number a x)) (Tells-choice here (get_or x i dx) found t)
    (λ a m.
    let z = read_of s (length index) (number a index) in
    ap (λ b. cond b (lit_value a (get_or x i dx)) (lit_value a found)) (h.value a (q.keeps a m) ∙ ap (int_eq z) at ∙ shifted_place z low i)
    ∙ ap (λ b. cond (int_eq (z -ℤ low) (pos i)) b (lit_value a found)) (sym (ap (λ k. eqb k 1) (number_bit a x i dx lt) ∙ bit_test (lit_value a (get_or x i dx))))
    ∙ ap (λ b. cond (int_eq (z -ℤ low) (pos i)) (eqb (number a x / 2 ^ i % 2) 1) b) (f.value a (p.keeps a (q.keeps a m)))
    ∙ bit_more i (z -ℤ low) (number a x) ∙ ap (λ n. bit_below n (z -ℤ low) (number a x)) (sym (add-one i)))

pub bit_none : (z : ℤ) (v : ℕ) → false ≡ bit_below 0 z v
bit_none (negsuc k) v = refl
bit_none (pos k) v = sym (ap (λ b. b && eqb (v / 2 ^ k % 2) 1) (le-ltb k 0 (omega arith)))

-- past the last bit there is none
pub bit_all : (n v : ℕ) (z : ℤ) → v < 2 ^ n → bit_below n z v ≡ bit_at_place z v
bit_all n v (negsuc k) lt = refl
bit_all n v (pos k) lt =
    ⊎_elim
    (λ (l : k < n). ap (λ b. b && eqb (v / 2 ^ k % 2) 1) (lt-ltb k n l))
    (λ (g : n ≤ k). ap (λ b. b && eqb (v / 2 ^ k % 2) 1) (le-ltb k n g) ∙ ap (λ x. eqb x 1) (sym (bit_at_above v n k lt g)))
    (cases_lt k n)

-- one more vector of a choice over vectors
pub pick_step : {c d e : Circuit} (xs : List (List Lit)) (index : List Lit) (s : Bool) (place : ℤ) (i w : ℕ) (here : Lit) (now found next : List Lit) → Extends c d → Extends d e → now ≡ get_or xs i []
    → GivesNumber c found w (λ a. number_below i a xs (read_of s (length index) (number a index))) → Tells d here (λ a. int_eq (read_of s (length index) (number a index)) place)
    → GivesNumber e next w (λ a. cond (lit_value a here) (number a now) (number a found)) → place ≡ pos i → GivesNumber e next w (λ a. number_below (i + 1) a xs (read_of s (length index) (number a index)))
pick_step xs index s place i w here now found next p q same f h t at =
    GivesNumber-same (λ a. number_below (i + 1) a xs (read_of s (length index) (number a index))) t
    (λ a m.
    let z = read_of s (length index) (number a index) in
    ap (λ b. cond b (number a now) (number a found)) (h.value a (q.keeps a m) ∙ ap (int_eq z) at)
    ∙ ap (λ ls. cond (int_eq z (pos i)) (number a ls) (number a found)) same
    ∙ ap (λ n. cond (int_eq z (pos i)) (number a (get_or xs i [])) n) (f.value a (p.keeps a (q.keeps a m)))
    ∙ number_more i a xs z ∙ ap (λ n. number_below n a xs z) (sym (add-one i)))

-- one more bit from a place on
pub from_step : {c d : Circuit} (x index : List Lit) (s : Bool) (low place : ℤ) (k : ℕ) (bits : List Lit) (one : Lit) → Extends c d
    → GivesNumber c bits k (λ a. bits_from (read_of s (length index) (number a index) -ℤ low) k (number a x)) → Tells d one (λ a. bit_at_place (read_of s (length index) (number a index) -ℤ place) (number a x)) → place ≡ low -ℤ pos k
    → GivesNumber d (bits ++ one ∷ []) (k + 1) (λ a. bits_from (read_of s (length index) (number a index) -ℤ low) (k + 1) (number a x))
from_step x index s low place k bits one p g t at =
    GivesNumber-same (λ a. bits_from (read_of s (length index) (number a index) -ℤ low) (k + 1) (number a x)) (GivesNumber-push p g t)
    (λ a m.
    let z = read_of s (length index) (number a index) in
    ap (λ y. bits_from (z -ℤ low) k (number a x) + 2 ^ k * bit (bit_at_place (z -ℤ y) (number a x))) at
    ∙ ap (λ y. bits_from (z -ℤ low) k (number a x) + 2 ^ k * bit (bit_at_place y (number a x))) (next_place z low k)
    ∙ bits_more (z -ℤ low) k (number a x))

-- ---- vectors in a row

pub rows_len : (vs : List (Vec Lit Global)) → length (rows vs) ≡ length vs
rows_len [] = refl
rows_len (v ∷ vs) = ap suc (rows_len vs)

pub row_at : (vs : List (Vec Lit Global)) (k : ℕ) (x : Vec Lit Global) → k < length vs → x ≡ get_or vs k x → x.items ≡ get_or (rows vs) k []
row_at [] k x h e = absurd (omega arith)
row_at (v ∷ vs) zero x h e = ap (λ (y : Vec Lit Global). y.items) e
row_at (v ∷ vs) (suc k) x h e = row_at vs k x (omega arith) e

pub vector_at : (n w : ℕ) (vs : List (Vec Lit Global)) (k : ℕ) (x : Vec Lit Global) → k < length vs → x ≡ get_or vs k x → AreVectors n w (rows vs) → AreWithin n x.items × (length x.items ≡ w)
vector_at n w [] k x h e all = absurd (omega arith)
vector_at n w (v ∷ vs) zero x h e all =
    subst (λ (y : Vec Lit Global). AreWithin n y.items × (length y.items ≡ w)) (sym e) (All-head (λ (ls : List Lit). AreWithin n ls × (length ls ≡ w)) v.items (rows vs) all)
vector_at n w (v ∷ vs) (suc k) x h e all = vector_at n w vs k x (omega arith) e (All-tail (λ (ls : List Lit). AreWithin n ls × (length ls ≡ w)) v.items (rows vs) all)
