-- What a place gives, where it has bits and where it has none
use Rattle.std.proofs.Common.{◌≡◌, ℕ, ◌+◌, ◌*◌, ◌/◌, ◌%◌, ◌<◌, ◌≤◌, ◌^◌, Bool, true, false, cond, eqb, ltb, List, [], ◌∷◌, length, map, get_or, zero, suc, Option, None, Some, refl, sym, ap, ◌∙◌, subst, arith, pos, negsuc, ℤ, ⊎_elim, Vec, Global}
use Rattle.std.specs.Prelude.{slice_index}
use Rattle.std.specs.List.{All}
use Rattle.std.proofs.lemmas.Bool.{le-ltb, cases_lt, eqb-true}
use Rattle.std.proofs.lemmas.List.Elements.{All-weaker, All-head, All-tail}
use Rattle.svr_chain.specs.declared.clause.Lit.{Lit}
use Rattle.svr_chain.specs.Clauses.{IsWithin, AreWithin}
use Rattle.svr_eval.specs.Reading.{Reading, reading_of}
use Rattle.svr_eval.specs.Value.{element_at, cell_at}
use Rattle.svr_gate.specs.Numbers.{number}
use Rattle.svr_gate.specs.Circuit.{Circuit, GivesNumber}
use Rattle.svr_gate.proofs.Vectors.{GivesNumber-same}
use Rattle.std.proofs.Math.Nat.{div-le_self, mod-eq_of_lt}
use Rattle.svr_num.specs.Num.{extend_of, div_of}
use Rattle.svr_inputs.specs.declared.inputs.Inputs.{Inputs}
use Rattle.svr_inputs.specs.Inputs.{bits_of, read_or, PlaceIsReady, AreInputs, read_at, state_of, number_bits}

pub ready_some : (w n : ℕ) (o : Option (List Lit)) (ls : List Lit) → o ≡ Some ls → PlaceIsReady w n o → (1 ≤ length ls) × (length ls ≤ w)
ready_some w n o ls e h = subst (PlaceIsReady w n) e h

pub ready_none : (w n : ℕ) (o : Option (List Lit)) → o ≡ None → PlaceIsReady w n o → n < 2 ^ w
ready_none w n o e h = subst (PlaceIsReady w n) e h

pub gives_some : {c : Circuit} {v : List Lit} (w n : ℕ) (o : Option (List Lit)) (ls : List Lit) → o ≡ Some ls → GivesNumber c v w (λ a. number a ls) → GivesNumber c v w (λ a. read_or n a o)
gives_some w n o ls e g = GivesNumber-same (λ a. read_or n a o) g (λ a m. ap (read_or n a) (sym e))

pub gives_none : {c : Circuit} {v : List Lit} (w n : ℕ) (o : Option (List Lit)) → o ≡ None → GivesNumber c v w (λ a. n) → GivesNumber c v w (λ a. read_or n a o)
gives_none w n o e g = GivesNumber-same (λ a. read_or n a o) g (λ a m. ap (read_or n a) (sym e))

pub within_room : (n m : ℕ) (ls : List Lit) → n ≤ m → AreWithin n ls → AreWithin m ls
within_room n m ls h w = All-weaker (IsWithin n) (IsWithin m) (λ l k. (k.0, omega (arith, h, k.1))) ls w

row_within : (n k : ℕ) (bits : List (List Lit)) → k < length bits → All (AreWithin n) bits → AreWithin n (get_or bits k [])
row_within n k [] h w = absurd (omega arith)
row_within n zero (b ∷ bits) h w = All-head (AreWithin n) b bits w
row_within n (suc k) (b ∷ bits) h w = row_within n k bits (omega arith) (All-tail (AreWithin n) b bits w)

-- what is found is one of the rows
pub found_within : (n : ℕ) (bits : List (List Lit)) (row : Option ℕ) (ls : List Lit) → All (AreWithin n) bits → bits_of bits row ≡ Some ls → AreWithin n ls
found_within n bits None ls w e = cc
found_within n bits (Some k) ls w e =
    ⊎_elim
    (λ (l : k < length bits). by_test (ltb k (length bits)) e (row_within n k bits l w))
    (λ (g : length bits ≤ k). let none : None ≡ Some ls = sym (ap (λ b. cond b (Some (get_or bits k [])) None) (le-ltb k (length bits) g)) ∙ e in cc)
    (cases_lt k (length bits)) where
      by_test : (b : Bool) → cond b (Some (get_or bits k [])) None ≡ Some ls → AreWithin n (get_or bits k []) → AreWithin n ls
      by_test true e h = let same : get_or bits k [] ≡ ls = cc in subst (AreWithin n) same h
      by_test false e h = cc

pub row_at : (vs : List (Vec Lit Global)) (k : ℕ) (d : Vec Lit Global) → k < length vs → get_or (map (λ (v : Vec Lit Global). v.items) vs) k [] ≡ (get_or vs k d).items
row_at [] k d h = absurd (omega arith)
row_at (v ∷ vs) zero d h = refl
row_at (v ∷ vs) (suc k) d h = row_at vs k d (omega arith)

-- past the size of an array everything reads 0
pub past_zero : (i : Inputs) (v : ℕ → Bool) (p k : ℕ) → AreInputs i → slice_index i.sizes.now p ≤ k → (read_at i v).element p k ≡ 0
past_zero i v p k h past =
    ap (read_or ((state_of i).element p k) v) (h.bounded p k past)
    ∙ ap (λ b. cond b ((reading_of i.state.now).element p k) 0) (le-ltb k (slice_index i.sizes.now p) past)

pub outside_zero : (a : Reading) (p n : ℕ) (z : ℤ) → ((k : ℕ) → k < n → z ≡ pos k → ⊥) → ((k : ℕ) → n ≤ k → a.element p k ≡ 0) → element_at a p z ≡ 0
outside_zero a p n (negsuc k) h past = refl
outside_zero a p n (pos k) h past = ⊎_elim (λ (l : k < n). absurd (h k l refl)) (λ (g : n ≤ k). past k g) (cases_lt k n)

not_zero : (n : ℕ) → eqb (suc n) 0 ≡ false
not_zero n = by_test (eqb (suc n) 0) refl where
  by_test : (b : Bool) → eqb (suc n) 0 ≡ b → b ≡ false
  by_test true e = let z : suc n ≡ 0 = eqb-true (suc n) 0 e in absurd (omega arith)
  by_test false e = refl

-- a number of 32 bits divided
pub whole_rows : (m n : ℕ) → m < 2 ^ 32 → 1 ≤ n → div_of false 32 m n ≡ m / n
whole_rows m zero h k = absurd (omega arith)
whole_rows m (suc n) h k = ap (λ b. cond b 0 (m / suc n % 2 ^ 32)) (not_zero n) ∙ mod-eq_of_lt (let l : m / suc n < 2 ^ 32 = omega (arith, h, div-le_self m (suc n)) in l)
