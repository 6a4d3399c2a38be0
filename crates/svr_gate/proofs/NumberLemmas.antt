-- Numbers of lists of literals, under any valuation. Crates above may cite these.
use Rattle.std.proofs.Common.{◌≡◌, ℕ, zero, suc, ◌+◌, ◌-◌, ◌*◌, ◌/◌, ◌%◌, ◌^◌, ◌<◌, ◌≤◌, Bool, true, false, cond, not, eqb, List, [], ◌∷◌, ◌++◌, length, map, replicate, take, drop, get_or, refl, subst, sym, ◌∙◌, ap, arith}
use Rattle.std.proofs.lemmas.List.{take_more, length-take-le, take-append-drop}
use Rattle.std.proofs.lemmas.List.Elements.{All-head, All-tail}
use Rattle.std.proofs.lemmas.Nat.{mod_low, pow_pos, div-mul-add}
use Rattle.std.proofs.lemmas.Nat.Bits.{bit_at-suc}
use Rattle.std.proofs.Math.Nat.{pow-suc}
use Rattle.svr_chain.specs.declared.clause.Lit.{Lit}
use Rattle.svr_chain.specs.Clauses.{IsWithin, AreWithin, flip}
use Rattle.svr_chain.specs.Valuations.{lit_value, AgreeUpTo}
use Rattle.svr_chain.proofs.ValuationLemmas.{lit_value-agree}
use Rattle.svr_gate.specs.Numbers.{bit, number}

pub bit-le : (b : Bool) → bit b ≤ 1
bit-le true = omega arith
bit-le false = omega arith

-- the test that a bit is 1
pub bit_test : (b : Bool) → eqb (bit b) 1 ≡ b
bit_test true = refl
bit_test false = refl

pub lit_value-flip : (a : ℕ → Bool) (l : Lit) → lit_value a (flip l) ≡ not (lit_value a l)
unfolding lit_value
lit_value-flip a l = by_sign l.neg (a l.var) where
  by_sign : (s v : Bool) → cond (not s) (not v) v ≡ not (cond s (not v) v)
  by_sign true true = refl
  by_sign true false = refl
  by_sign false true = refl
  by_sign false false = refl

-- a positive literal says what its variable does
pub lit_value-positive : (a : ℕ → Bool) (v : ℕ) → lit_value a (record { var = v; neg = false }) ≡ a v
unfolding lit_value
lit_value-positive a v = refl

pub number-nil : (a : ℕ → Bool) → number a [] ≡ 0
unfolding number
number-nil a = refl

pub number-cons : (a : ℕ → Bool) (l : Lit) (ls : List Lit) → number a (l ∷ ls) ≡ bit (lit_value a l) + 2 * number a ls
unfolding number
number-cons a l ls = refl

pub number-one : (a : ℕ → Bool) (l : Lit) → number a (l ∷ []) ≡ bit (lit_value a l)
unfolding number
number-one a l = omega arith

pub number-two : (a : ℕ → Bool) (l m : Lit) → number a (l ∷ m ∷ []) ≡ bit (lit_value a l) + 2 * bit (lit_value a m)
unfolding number
number-two a l m = omega arith

pub number-three : (a : ℕ → Bool) (l m n : Lit) → number a (l ∷ m ∷ n ∷ []) ≡ bit (lit_value a l) + 2 * (bit (lit_value a m) + 2 * bit (lit_value a n))
unfolding number
number-three a l m n = omega arith

pub number-lt : (a : ℕ → Bool) (ls : List Lit) → number a ls < 2 ^ length ls
unfolding number
number-lt a [] = omega arith
number-lt a (l ∷ ls) = omega (arith, number-lt a ls, bit-le (lit_value a l), pow-suc 2 (length ls))

pub number-append : (a : ℕ → Bool) (ls ms : List Lit) → number a (ls ++ ms) ≡ number a ls + 2 ^ length ls * number a ms
unfolding number
number-append a [] ms = omega arith
number-append a (l ∷ ls) ms = omega (arith, number-append a ls ms, ap (λ z. z * number a ms) (pow-suc 2 (length ls)))

pub number-push : (a : ℕ → Bool) (ls : List Lit) (l : Lit) → number a (ls ++ l ∷ []) ≡ number a ls + 2 ^ length ls * bit (lit_value a l)
number-push a ls l = number-append a ls (l ∷ []) ∙ ap (λ z. number a ls + 2 ^ length ls * z) (number-one a l)

-- one more place
pub number_more : (a : ℕ → Bool) (ls : List Lit) (i : ℕ) (d : Lit) → i < length ls → number a (take (i + 1) ls) ≡ number a (take i ls) + 2 ^ i * bit (lit_value a (get_or ls i d))
number_more a ls i d h =
    ap (number a) (take_more ls i d h) ∙ number-push a (take i ls) (get_or ls i d)
    ∙ ap (λ n. number a (take i ls) + 2 ^ n * bit (lit_value a (get_or ls i d))) (length-take-le i ls (omega arith))

pub number-agree : (n : ℕ) (a b : ℕ → Bool) (ls : List Lit) → AgreeUpTo n a b → AreWithin n ls → number b ls ≡ number a ls
unfolding number
number-agree n a b [] g w = refl
number-agree n a b (l ∷ ls) g w =
    let e = lit_value-agree n a b l g (All-head (IsWithin n) l ls w).1 in
    let r = number-agree n a b ls g (All-tail (IsWithin n) l ls w) in cc

-- low and high part
pub number_parts : (a : ℕ → Bool) (n : ℕ) (ls : List Lit) → n ≤ length ls → number a ls ≡ number a (take n ls) + 2 ^ n * number a (drop n ls)
number_parts a n ls h =
    ap (number a) (sym (take-append-drop n ls)) ∙ number-append a (take n ls) (drop n ls)
    ∙ ap (λ k. number a (take n ls) + 2 ^ k * number a (drop n ls)) (length-take-le n ls h)

pub number-take-lt : (a : ℕ → Bool) (n : ℕ) (ls : List Lit) → n ≤ length ls → number a (take n ls) < 2 ^ n
number-take-lt a n ls h = subst (λ (k : ℕ). number a (take n ls) < 2 ^ k) (length-take-le n ls h) (number-lt a (take n ls))

pub number-take : (a : ℕ → Bool) (n : ℕ) (ls : List Lit) → n ≤ length ls → number a (take n ls) ≡ number a ls % 2 ^ n
number-take a n ls h =
    let s : number a ls ≡ number a (drop n ls) * 2 ^ n + number a (take n ls) = number_parts a n ls h ∙ omega arith in
    sym (ap (λ x. x % 2 ^ n) s ∙ mod_low (number a (drop n ls)) n (number a (take n ls)) (number-take-lt a n ls h))

pub number-drop : (a : ℕ → Bool) (n : ℕ) (ls : List Lit) → n ≤ length ls → number a (drop n ls) ≡ number a ls / 2 ^ n
number-drop a n ls h =
    let s : number a ls ≡ number a (drop n ls) * 2 ^ n + number a (take n ls) = number_parts a n ls h ∙ omega arith in
    sym (ap (λ x. x / 2 ^ n) s ∙ div-mul-add (number a (drop n ls)) (2 ^ n) (number a (take n ls)) (number-take-lt a n ls h))

-- the bit at a place
pub number_bit : (a : ℕ → Bool) (ls : List Lit) (j : ℕ) (d : Lit) → j < length ls → number a ls / 2 ^ j % 2 ≡ bit (lit_value a (get_or ls j d))
number_bit a [] j d h = absurd (omega arith)
number_bit a (l ∷ ls) zero d h = omega (arith, number-cons a l ls, bit-le (lit_value a l))
number_bit a (l ∷ ls) (suc j) d h =
    let half : number a (l ∷ ls) / 2 ≡ number a ls = omega (arith, number-cons a l ls, bit-le (lit_value a l)) in
    bit_at-suc (number a (l ∷ ls)) j ∙ ap (λ n. n / 2 ^ j % 2) half ∙ number_bit a ls j d (omega arith)

-- the same literal everywhere
pub number-replicate : (a : ℕ → Bool) (l : Lit) (n : ℕ) → number a (replicate n l) ≡ cond (lit_value a l) (2 ^ n - 1) 0
number-replicate a l zero = number-nil a ∙ by_value (lit_value a l) where
  by_value : (b : Bool) → ◌≡◌ {A = ℕ} 0 (cond b (2 ^ 0 - 1) 0)
  by_value true = refl
  by_value false = refl
number-replicate a l (suc n) =
    number-cons a l (replicate n l) ∙ ap (λ k. bit (lit_value a l) + 2 * k) (number-replicate a l n) ∙ by_value (lit_value a l) where
      by_value : (b : Bool) → bit b + 2 * cond b (2 ^ n - 1) 0 ≡ cond b (2 ^ suc n - 1) 0
      by_value true = omega (arith, pow-suc 2 n, pow_pos n)
      by_value false = refl

-- each literal with the other sign
pub number-flipped : (a : ℕ → Bool) (ls : List Lit) → number a (map flip ls) ≡ 2 ^ length ls - 1 - number a ls
number-flipped a [] = number-nil a ∙ omega (arith, number-nil a)
number-flipped a (l ∷ ls) =
    number-cons a (flip l) (map flip ls)
    ∙ ap (λ b. bit b + 2 * number a (map flip ls)) (lit_value-flip a l)
    ∙ ap (λ k. bit (not (lit_value a l)) + 2 * k) (number-flipped a ls)
    ∙ by_value (lit_value a l)
    ∙ ap (λ k. 2 ^ length (l ∷ ls) - 1 - k) (sym (number-cons a l ls)) where
      by_value : (b : Bool) → bit (not b) + 2 * (2 ^ length ls - 1 - number a ls) ≡ 2 ^ length (l ∷ ls) - 1 - (bit b + 2 * number a ls)
      by_value true = omega (arith, pow-suc 2 (length ls), number-lt a ls)
      by_value false = omega (arith, pow-suc 2 (length ls), number-lt a ls)
