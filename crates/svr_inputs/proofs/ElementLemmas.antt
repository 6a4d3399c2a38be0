-- Vectors for elements in a row, and the one that an index names
use Rattle.std.proofs.Common.{◌≡◌, ℕ, zero, suc, ◌+◌, ◌*◌, ◌^◌, ◌<◌, ◌≤◌, ◌==◌, ◌||◌, Bool, true, false, cond, ltb, List, [], ◌∷◌, ◌++◌, length, get_or, refl, sym, ap, ◌∙◌, arith, subst, add-one, pos, negsuc, ℤ, ⊎_elim, Vec, Global}
use Rattle.std.proofs.lemmas.List.{map_push}
use Rattle.std.proofs.lemmas.Nat.{row_fits}
use Rattle.svr_vector.specs.Places.{rows}
use Rattle.svr_inputs.specs.declared.inputs.Inputs.{Inputs}
use Rattle.svr_inputs.specs.Inputs.{read_at, AreInputs}
use Rattle.svr_inputs.proofs.ReadLemmas.{past_zero}
use Rattle.std.specs.Prelude.{nat_lt, if◌then◌else◌, slice_index, Result, Ok, Err, IfOk}
use Rattle.std.specs.List.{All}
use Rattle.std.proofs.lemmas.Bool.{le-ltb, lt-ltb, cases_lt}
use Rattle.std.proofs.lemmas.List.Elements.{All-nil, All-cons}
use Rattle.svr_chain.specs.declared.clause.Lit.{Lit}
use Rattle.svr_chain.specs.Clauses.{AreWithin}
use Rattle.svr_chain.specs.Valuations.{lit_value, Meets}
use Rattle.svr_gate.specs.Numbers.{number}
use Rattle.svr_gate.specs.Circuit.{Circuit, Extends, Tells, GivesNumber}
use Rattle.svr_gate.proofs.Circuits.{Tells-same}
use Rattle.svr_num.specs.Num.{extend_of, read_of}
use Rattle.svr_gate.proofs.NumberLemmas.{number-nil}
use Rattle.svr_gate.proofs.Vectors.{GivesNumber-later, GivesNumber-same}
use Rattle.svr_eval.specs.Reading.{Reading}
use Rattle.svr_eval.specs.Value.{element_at, cell_at, any_below}
use Rattle.svr_vector.specs.Places.{AreVectors, number_at}
use Rattle.svr_inputs.specs.Elements.{GiveNumbers}

pub give_none : (c : Circuit) (w : ℕ) (f : (ℕ → Bool) → ℕ → ℕ) → GiveNumbers c [] 0 w f
give_none c w f = record { len = refl; each = λ k h. absurd (omega arith) }

length_more : (xs : List (List Lit)) (y : List Lit) → length (xs ++ y ∷ []) ≡ length xs + 1
length_more [] y = refl
length_more (x ∷ xs) y = omega (arith, length_more xs y)

front : (xs : List (List Lit)) (y : List Lit) (k : ℕ) → k < length xs → get_or (xs ++ y ∷ []) k [] ≡ get_or xs k []
front [] y k h = absurd (omega arith)
front (x ∷ xs) y zero h = refl
front (x ∷ xs) y (suc k) h = front xs y k (omega arith)

last : (xs : List (List Lit)) (y : List Lit) → get_or (xs ++ y ∷ []) (length xs) [] ≡ y
last [] y = refl
last (x ∷ xs) y = last xs y

pub give_more : {c d : Circuit} {xs : List (List Lit)} {n w : ℕ} {f : (ℕ → Bool) → ℕ → ℕ} (y : List Lit) → Extends c d → GiveNumbers c xs n w f → GivesNumber d y w (λ a. f a n) → GiveNumbers d (xs ++ y ∷ []) (n + 1) w f
give_more {c} {d} {xs} {n} {w} {f} y x g h = record {
  len = omega (arith, length_more xs y, g.len);
  each = λ k lt.
      ⊎_elim
      (λ (l : k < n). subst (λ (ls : List Lit). GivesNumber d ls w (λ a. f a k)) (sym (front xs y k (omega (arith, g.len)))) (GivesNumber-later x (g.each k l)))
      (λ (u : n ≤ k).
      let at : k ≡ length xs = omega (arith, g.len) in
      let same : n ≡ k = omega arith in
      subst (λ (ls : List Lit). GivesNumber d ls w (λ a. f a k)) (sym (ap (λ j. get_or (xs ++ y ∷ []) j []) at ∙ last xs y)) (subst (λ (j : ℕ). GivesNumber d y w (λ a. f a j)) same h))
      (cases_lt k n);
}

-- as vectors of one width
pub as_vectors : {c : Circuit} {xs : List (List Lit)} {n w : ℕ} {f : (ℕ → Bool) → ℕ → ℕ} → GiveNumbers c xs n w f → AreVectors c.vars w xs
as_vectors {c} {xs} {n} {w} {f} g = all xs (λ k h. let e = g.each k (omega (arith, g.len)) in (e.within, e.len)) where
  all : (ys : List (List Lit)) → ((k : ℕ) → k < length ys → AreWithin c.vars (get_or ys k []) × (length (get_or ys k []) ≡ w)) → AreVectors c.vars w ys
  all [] h = All-nil (λ (ls : List Lit). AreWithin c.vars ls × (length ls ≡ w))
  all (y ∷ ys) h = All-cons (λ (ls : List Lit). AreWithin c.vars ls × (length ls ≡ w)) y ys (h 0 (omega arith)) (all ys (λ k l. h (suc k) (omega arith)))

-- the number at a place below n, 0 elsewhere
abbrev pub pick : ℕ → (ℕ → ℕ) → ℤ → ℕ
pick n g (pos k) = if nat_lt k n then g k else 0
pick n g (negsuc k) = 0

past_last : (xs : List (List Lit)) (k : ℕ) → length xs ≤ k → get_or xs k [] ≡ []
past_last [] k h = refl
past_last (x ∷ xs) zero h = absurd (omega arith)
past_last (x ∷ xs) (suc k) h = past_last xs k (omega arith)

pub picks : {c : Circuit} {xs : List (List Lit)} {n w : ℕ} {f : (ℕ → Bool) → ℕ → ℕ} → GiveNumbers c xs n w f → (a : ℕ → Bool) → Meets a c.clauses → (z : ℤ) → number_at a xs z ≡ pick n (f a) z
picks g a m (negsuc k) = refl
picks {c} {xs} {n} {w} {f} g a m (pos k) =
    ⊎_elim
    (λ (l : k < n). (g.each k l).value a m ∙ sym (ap (λ b. cond b (f a k) 0) (lt-ltb k n l)))
    (λ (u : n ≤ k). ap (number a) (past_last xs k (omega (arith, g.len))) ∙ number-nil a ∙ sym (ap (λ b. cond b (f a k) 0) (le-ltb k n u)))
    (cases_lt k n)

pub picks_element : (r : Reading) (p n : ℕ) (z : ℤ) → ((k : ℕ) → n ≤ k → r.element p k ≡ 0) → pick n (λ k. r.element p (0 + k)) z ≡ element_at r p z
picks_element r p n (negsuc k) past = refl
picks_element r p n (pos k) past =
    ⊎_elim
    (λ (l : k < n). ap (λ b. cond b (r.element p (0 + k)) 0) (lt-ltb k n l) ∙ ap (r.element p) (let e : 0 + k ≡ k = omega arith in e))
    (λ (u : n ≤ k). ap (λ b. cond b (r.element p (0 + k)) 0) (le-ltb k n u) ∙ sym (past k u))
    (cases_lt k n)

pub picks_in_row : (r : Reading) (p m row : ℕ) (z : ℤ) → pick m (λ k. r.element p (row * m + k)) z ≡ cell_at r p m (pos row) z
picks_in_row r p m row (negsuc k) = refl
picks_in_row r p m row (pos k) = refl

no_cell : (r : Reading) (p m row : ℕ) (column : ℤ) → ((k : ℕ) → row * m ≤ k → r.element p k ≡ 0) → 0 ≡ cell_at r p m (pos row) column
no_cell r p m row (negsuc j) past = refl
no_cell r p m row (pos j) past = by_test (ltb j m) (past (row * m + j) (omega arith)) where
  by_test : (b : Bool) → r.element p (row * m + j) ≡ 0 → 0 ≡ cond b (r.element p (row * m + j)) 0
  by_test true e = sym e
  by_test false e = refl

pub picks_row : (r : Reading) (p m n size : ℕ) (row column : ℤ) → size ≤ n * m → ((k : ℕ) → size ≤ k → r.element p k ≡ 0) → pick n (λ i. cell_at r p m (pos i) column) row ≡ cell_at r p m row column
picks_row r p m n size (negsuc i) (pos j) all past = refl
picks_row r p m n size (negsuc i) (negsuc j) all past = refl
picks_row r p m n size (pos i) column all past =
    ⊎_elim
    (λ (l : i < n). ap (λ b. cond b (cell_at r p m (pos i) column) 0) (lt-ltb i n l))
    (λ (u : n ≤ i). ap (λ b. cond b (cell_at r p m (pos i) column) 0) (le-ltb i n u) ∙ no_cell r p m i column (λ k h. past k (omega (arith, h, all, more n i m u))))
    (cases_lt i n) where
      more : (n i m : ℕ) → n ≤ i → n * m ≤ i * m
      more n i m h = grind arith

-- two indexes that are known
pub known_row : (r : Reading) (p m i j : ℕ) → j < m → r.element p (i * m + j) ≡ cell_at r p m (pos i) (pos j)
known_row r p m i j h = sym (ap (λ b. cond b (r.element p (i * m + j)) 0) (lt-ltb j m h))

-- one element more in a row
pub element_next : {c d : Circuit} (i : Inputs) (vs : List (Vec Lit Global)) (y : Vec Lit Global) (p first n w k : ℕ) → Extends c d → GiveNumbers c (rows vs) n w (λ v j. (read_at i v).element p (first + j))
    → GivesNumber d y.items w (λ v. (read_at i v).element p k) → k ≡ first + n → GiveNumbers d (rows (vs ++ y ∷ [])) (n + 1) w (λ v j. (read_at i v).element p (first + j))
element_next {c} {d} i vs y p first n w k x g h at =
    subst (λ (xs : List (List Lit)). GiveNumbers d xs (n + 1) w (λ v j. (read_at i v).element p (first + j))) (sym (map_push (λ (v : Vec Lit Global). v.items) vs y))
    (give_more y.items x g (subst (λ (j : ℕ). GivesNumber d y.items w (λ v. (read_at i v).element p j)) at h))

-- an index outside its dimension names no element
pub row_outside : (r : Reading) (p m size : ℕ) (row column : ℤ) → ((k : ℕ) → k < size → row ≡ pos k → ⊥) → ((k : ℕ) → size ≤ k → r.element p k ≡ 0) → 0 ≡ cell_at r p m row column
row_outside r p m size (negsuc i) column none past = refl
row_outside r p m size (pos i) (negsuc j) none past = refl
row_outside r p m size (pos i) (pos j) none past =
    ⊎_elim
    (λ (l : i < size). absurd (none i l refl))
    (λ (g : size ≤ i).
    ⊎_elim
    (λ (l : j < m). sym (ap (λ b. cond b (r.element p (i * m + j)) 0) (lt-ltb j m l) ∙ past (i * m + j) (omega (arith, g, times i m j l))))
    (λ (u : m ≤ j). sym (ap (λ b. cond b (r.element p (i * m + j)) 0) (le-ltb j m u)))
    (cases_lt j m))
    (cases_lt i size) where
      times : (i m j : ℕ) → j < m → i ≤ i * m
      times i m j h = grind arith

pub column_outside : (r : Reading) (p m : ℕ) (row column : ℤ) → ((k : ℕ) → k < m → column ≡ pos k → ⊥) → 0 ≡ cell_at r p m row column
column_outside r p m (negsuc i) column none = refl
column_outside r p m (pos i) (negsuc j) none = refl
column_outside r p m (pos i) (pos j) none =
    ⊎_elim
    (λ (l : j < m). absurd (none j l refl))
    (λ (u : m ≤ j). sym (ap (λ b. cond b (r.element p (i * m + j)) 0) (le-ltb j m u)))
    (cases_lt j m)

-- the element that an index picks in a row that begins at a place
pub row_picked : {c : Circuit} {xs : List (List Lit)} {w : ℕ} (read : (ℕ → Bool) → Reading) (p first m row : ℕ) → GiveNumbers c xs m w (λ v k. (read v).element p (first + k)) → (a : ℕ → Bool) → Meets a c.clauses → (z : ℤ) → first ≡ row * m
    → number_at a xs z ≡ cell_at (read a) p m (pos row) z
row_picked read p first m row g a h z at =
    picks g a h z ∙ ap (λ n. pick m (λ k. (read a).element p (n + k)) z) at ∙ picks_in_row (read a) p m row z

-- one vector more
pub numbers_next : {c d : Circuit} (vs : List (Vec Lit Global)) (y : Vec Lit Global) (n w : ℕ) (f : (ℕ → Bool) → ℕ → ℕ) → Extends c d → GiveNumbers c (rows vs) n w f → GivesNumber d y.items w (λ v. f v n) → GiveNumbers d (rows (vs ++ y ∷ [])) (n + 1) w f
numbers_next {c} {d} vs y n w f x g h = subst (λ (xs : List (List Lit)). GiveNumbers d xs (n + 1) w f) (sym (map_push (λ (v : Vec Lit Global). v.items) vs y)) (give_more y.items x g h)

-- the row that an index picks among all of them
pub cell_picked : {c : Circuit} {xs : List (List Lit)} {w n : ℕ} (i : Inputs) (p m size : ℕ) (column : (ℕ → Bool) → ℤ) → AreInputs i → size ≡ slice_index i.sizes.now p → GiveNumbers c xs n w (λ v k. cell_at (read_at i v) p m (pos k) (column v)) → (a : ℕ → Bool) → Meets a c.clauses
    → (row : ℤ) → size ≤ n * m → number_at a xs row ≡ cell_at (read_at i a) p m row (column a)
cell_picked {c} {xs} {w} {n} i p m size column h len g a met row all =
    picks g a met row ∙ picks_row (read_at i a) p m n size row (column a) all (λ k u. past_zero i a p k h (omega (arith, u, len)))

-- one element more among which a number is looked for
pub found_more : {c d e f : Circuit} (i : Inputs) (p k n w : ℕ) (s : Bool) (x y : List Lit) (equal found next : Lit) → Extends c d → Extends d e → Extends e f
    → Tells c found (λ v. any_below n (λ j. number v x == extend_of s (length x) w ((read_at i v).element p j))) → GivesNumber d y (length x) (λ v. extend_of s (length x) w ((read_at i v).element p k))
    → Tells e equal (λ v. number v x == number v y) → Tells f next (λ v. lit_value v found || lit_value v equal) → k ≡ n
    → Tells f next (λ v. any_below (n + 1) (λ j. number v x == extend_of s (length x) w ((read_at i v).element p j)))
found_more {c} {d} {e} {f} i p k n w s x y equal found next pc pd pe t g q u at =
    Tells-same (λ v. any_below (n + 1) (λ j. number v x == extend_of s (length x) w ((read_at i v).element p j))) u
    (λ v m.
    let md = pd.keeps v (pe.keeps v m) in
    ap (λ b. b || lit_value v equal) (t.value v (pc.keeps v md))
    ∙ ap (λ b. any_below n (λ j. number v x == extend_of s (length x) w ((read_at i v).element p j)) || b)
    (q.value v (pe.keeps v m) ∙ ap (λ z. number v x == z) (g.value v md ∙ ap (λ j. extend_of s (length x) w ((read_at i v).element p j)) at))
    ∙ ap (λ j. any_below j (λ h. number v x == extend_of s (length x) w ((read_at i v).element p h))) (sym (add-one n)))

-- the places of a row fit
pub row_end : (row inner a b : ℕ) → a ≡ row → b ≡ inner → row < 2 ^ 32 → inner < 2 ^ 32 → a * b + inner < 2 ^ 64
row_end row inner a b is_row is_inner p q =
    let fits : row * inner + inner ≤ 4294967296 * 4294967295 = row_fits row inner 4294967296 4294967295 p (omega (arith, q)) in
    let at : a * b ≡ row * inner = ap (λ n. n * b) is_row ∙ ap (λ n. row * n) is_inner in
    omega (arith, fits, at)

-- two indexes that are known
pub cell_known : {E : Type 0} {c d : Circuit} (read : (ℕ → Bool) → Reading) (p m w first second : ℕ) (row column : List Lit) (s t : Bool) (x y : ℤ) (r : Result (Vec Lit Global) E) → GivesNumber c row (length row) (λ v. first)
    → GivesNumber c column (length column) (λ v. second) → Extends c d → x ≡ read_of s (length row) first → y ≡ read_of t (length column) second → IfOk r (λ ls. GivesNumber d ls.items w (λ v. cell_at (read v) p m x y))
    → IfOk r (λ ls. GivesNumber d ls.items w (λ v. cell_at (read v) p m (read_of s (length row) (number v row)) (read_of t (length column) (number v column))))
cell_known read p m w first second row column s t x y (Err e) f g later is_x is_y h = tt
cell_known read p m w first second row column s t x y (Ok ls) f g later is_x is_y h =
    GivesNumber-same (λ v. cell_at (read v) p m (read_of s (length row) (number v row)) (read_of t (length column) (number v column))) h
    (λ v met.
    let here = later.keeps v met in
    ap (λ z. cell_at (read v) p m z y) (is_x ∙ ap (read_of s (length row)) (sym (f.value v here)))
    ∙ ap (cell_at (read v) p m (read_of s (length row) (number v row))) (is_y ∙ ap (read_of t (length column)) (sym (g.value v here))))
