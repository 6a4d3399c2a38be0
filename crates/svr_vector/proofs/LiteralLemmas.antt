-- Constants, and numbers at more bits
use Rattle.std.proofs.Common.{◌≡◌, ℕ, zero, suc, ◌+◌, ◌-◌, ◌*◌, ◌/◌, ◌%◌, ◌^◌, ◌<◌, ◌≤◌, Bool, true, false, cond, ◌&&◌, not, leb, eqb, List, [], ◌∷◌, ◌++◌, length, take, get_or, replicate, refl, sym, ◌∙◌, ap, subst, arith, add_comm, add-one}
use Rattle.std.proofs.lemmas.List.{append-nil, append_assoc}
use Rattle.std.proofs.lemmas.Nat.{mod-pow-add}
use Rattle.std.proofs.Math.Nat.{mod-eq_of_lt}
use Rattle.std.proofs.Math.Pow.{pow_mono}
use Rattle.svr_chain.specs.declared.clause.Lit.{Lit}
use Rattle.svr_chain.specs.Clauses.{IsWithin, AreWithin, flip}
use Rattle.svr_chain.specs.Valuations.{lit_value, Meets}
use Rattle.svr_gate.specs.Numbers.{bit, number}
use Rattle.svr_gate.specs.Circuit.{Circuit, Extends, Tells, GivesNumber}
use Rattle.svr_gate.proofs.NumberLemmas.{number-lt, number-one}
use Rattle.svr_gate.proofs.Circuits.{Extends-refl, Tells-flipped, Tells-same}
use Rattle.svr_gate.proofs.Vectors.{GivesNumber-push, GivesNumber-same, GivesNumber-nil, GivesNumber-width, GivesNumber-append}
use Rattle.svr_num.specs.Num.{extend_of, residue, read_of}
use Rattle.svr_eval.specs.Value.{truth, bit_of, literal, copied}
use Rattle.svr_vector.specs.Literals.{chosen, copies_of}

pub chosen_tells : (c : Circuit) (one : Lit) (b : Bool) → Tells c one (λ a. true) → Tells c (chosen one b) (λ a. b)
chosen_tells c one true t = t
chosen_tells c one false t = Tells-flipped t

pub bit_of_odd : (n : ℕ) → bit (eqb (n % 2) 1) ≡ n % 2
bit_of_odd n = by_cases (n % 2) (omega arith) where
  by_cases : (k : ℕ) → k < 2 → bit (eqb k 1) ≡ k
  by_cases zero h = refl
  by_cases (suc zero) h = refl
  by_cases (suc (suc k)) h = absurd (omega arith)

pub literal_step : (c : Circuit) (v : List Lit) (one : Lit) (n i : ℕ) → Tells c one (λ a. true) → GivesNumber c v i (λ a. n % 2 ^ i)
    → GivesNumber c (v ++ chosen one (eqb (n / 2 ^ i % 2) 1) ∷ []) (i + 1) (λ a. n % 2 ^ (i + 1))
literal_step c v one n i t g =
    GivesNumber-same (λ a. n % 2 ^ (i + 1)) (GivesNumber-push (Extends-refl c) g (chosen_tells c one (eqb (n / 2 ^ i % 2) 1) t))
    (λ a m. ap (λ k. n % 2 ^ i + 2 ^ i * k) (bit_of_odd (n / 2 ^ i)) ∙ omega (arith, mod-pow-add n 1 i, ap (λ k. n % 2 ^ k) (add_comm i 1)))

-- zeros above a number leave it as it is
pub filled_same : (own from n : ℕ) → from ≤ own → n < 2 ^ from → extend_of false own from n ≡ n
filled_same own from n h lt = mod-eq_of_lt (omega (arith, pow_mono {i = from} {j = own} h))

pub bit-is : (b : Bool) → bit b ≡ bit_of b
bit-is true = refl
bit-is false = refl

pub truth_of_bit : (a : ℕ → Bool) (l : Lit) (w : ℕ) (s : Bool) → extend_of s w 1 (number a (l ∷ [])) ≡ truth w s (lit_value a l)
truth_of_bit a l w s = ap (extend_of s w 1) (number-one a l ∙ bit-is (lit_value a l))

pub every_bit : (w from : ℕ) (s every : Bool) (v : ℕ) → every ≡ true → cond (not (eqb v 0)) (2 ^ w - 1) 0 ≡ literal w from s every v
every_bit w from s false v h = cc
every_bit w from s true v h = by_zero (eqb v 0) where
  by_zero : (b : Bool) → cond (not b) (2 ^ w - 1) 0 ≡ cond b 0 (2 ^ w - 1)
  by_zero true = refl
  by_zero false = refl

copies_push : (n : ℕ) (ls : List Lit) → ls ++ copies_of n ls ≡ copies_of n ls ++ ls
copies_push zero ls = append-nil ls
copies_push (suc n) ls = ap (λ x. ls ++ x) (copies_push n ls) ∙ sym (append_assoc ls (copies_of n ls) ls)

pub copies_more : (n : ℕ) (ls : List Lit) → copies_of (n + 1) ls ≡ copies_of n ls ++ ls
copies_more n ls = ap (λ k. copies_of k ls) (add-one n) ∙ copies_push n ls

pub copies_give : {c : Circuit} {ls : List Lit} {w : ℕ} {f : (ℕ → Bool) → ℕ} (n : ℕ) → GivesNumber c ls w f → GivesNumber c (copies_of n ls) (n * w) (λ a. copied n w (f a))
copies_give {c} zero g = GivesNumber-width (omega arith) (GivesNumber-nil c)
copies_give {c} {ls} {w} {f} (suc n) g =
    GivesNumber-same (λ a. copied (suc n) w (f a)) (GivesNumber-width (omega arith) (GivesNumber-append g (copies_give n g))) (λ a m. omega arith)
