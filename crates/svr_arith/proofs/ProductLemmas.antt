-- Products, the highest bit first
use Rattle.std.proofs.Common.{◌≡◌, ℕ, ◌+◌, ◌-◌, ◌*◌, ◌/◌, ◌%◌, ◌^◌, ◌<◌, Bool, true, false, cond, List, [], ◌∷◌, length, take, drop, get_or, sym, ◌∙◌, ap, arith, add-one}
use Rattle.std.proofs.lemmas.List.{drop_more}
use Rattle.std.proofs.lemmas.Nat.{mod_below}
use Rattle.std.proofs.Math.Nat.{add-mul-mod_self_left, mod-add-div, pow-suc}
use Rattle.svr_chain.specs.declared.clause.Lit.{Lit}
use Rattle.svr_chain.specs.Valuations.{lit_value}
use Rattle.svr_gate.specs.Numbers.{bit, number}
use Rattle.svr_gate.specs.Circuit.{Circuit, Extends, Tells, GivesNumber}
use Rattle.svr_gate.proofs.NumberLemmas.{number-cons, number-take}
use Rattle.svr_gate.proofs.Vectors.{GivesNumber-same, GivesNumber-nil}
use Rattle.svr_num.specs.Num.{add_of}

-- d is the high part of the other factor, and t the bit below it
row_sum : (x d k kk : ℕ) (t : Bool) → kk ≡ k * 2 → (2 * ((x * d) % k) + cond t (x % kk) 0) % kk ≡ (x * (bit t + 2 * d)) % kk
row_sum x d k kk true e =
    let p = mod-add-div (x * d) k in
    let q = mod-add-div x kk in
    let s : x * (1 + 2 * d) ≡ (2 * ((x * d) % k) + x % kk) + kk * ((x * d) / k + x / kk) = omega (arith, p, q, ap (λ j. j * ((x * d) / k)) e) in
    sym (ap (λ n. n % kk) s ∙ add-mul-mod_self_left (2 * ((x * d) % k) + x % kk) kk ((x * d) / k + x / kk))
row_sum x d k kk false e =
    let p = mod-add-div (x * d) k in
    let s : x * (0 + 2 * d) ≡ (2 * ((x * d) % k) + 0) + kk * ((x * d) / k) = omega (arith, p, ap (λ j. j * ((x * d) / k)) e) in
    sym (ap (λ n. n % kk) s ∙ add-mul-mod_self_left (2 * ((x * d) % k) + 0) kk ((x * d) / k))

pub product_none : (c : Circuit) (x y : List Lit) → GivesNumber c [] 0 (λ a. (number a x * number a (drop (length y - 0) y)) % 2 ^ 0)
product_none c x y =
    GivesNumber-same (λ a. (number a x * number a (drop (length y - 0) y)) % 2 ^ 0) (GivesNumber-nil c)
    (λ a m. omega (arith, mod_below (number a x * number a (drop (length y - 0) y)) 1 (omega arith)))

module _ (c d e : Circuit) (x y product part sum : List Lit) (z dy : Lit) (i : ℕ) where
  pub product_step : Extends c d → Extends d e → i < length x → length x ≡ length y
      → Tells c z (λ a. false)
      → GivesNumber c product i (λ a. (number a x * number a (drop (length y - i) y)) % 2 ^ i)
      → GivesNumber d part (i + 1) (λ a. cond (lit_value a (get_or y (length y - 1 - i) dy)) (number a (take (i + 1) x)) 0)
      → GivesNumber e sum (i + 1) (λ a. add_of (i + 1) (number a (z ∷ product)) (number a part))
      → GivesNumber e sum (i + 1) (λ a. (number a x * number a (drop (length y - (i + 1)) y)) % 2 ^ (i + 1))
  product_step cd de h len zt p q s =
      GivesNumber-same (λ a. (number a x * number a (drop (length y - (i + 1)) y)) % 2 ^ (i + 1)) s
      (λ a m.
      let md = de.keeps a m in
      let mc = cd.keeps a md in
      let j = length y - 1 - i in
      let t = lit_value a (get_or y j dy) in
      let high = number a (drop (length y - i) y) in
      let k = 2 ^ (i + 1) in
      let rest : drop (length y - (i + 1)) y ≡ get_or y j dy ∷ drop (length y - i) y = ap (λ n. drop n y) (omega arith) ∙ drop_more y j dy (omega arith) ∙ ap (λ n. get_or y j dy ∷ drop n y) (omega arith) in
      let doubled : number a (z ∷ product) ≡ 2 * ((number a x * high) % 2 ^ i) = number-cons a z product ∙ ap (λ b. bit b + 2 * number a product) (zt.value a mc) ∙ ap (λ n. 0 + 2 * n) (p.value a mc) ∙ omega arith in
      ap (λ n. (n + number a part) % k) doubled
      ∙ ap (λ n. (2 * ((number a x * high) % 2 ^ i) + n) % k) (q.value a md)
      ∙ ap (λ n. (2 * ((number a x * high) % 2 ^ i) + cond t n 0) % k) (number-take a (i + 1) x (omega arith))
      ∙ row_sum (number a x) high (2 ^ i) k t (ap (λ n. 2 ^ n) (add-one i) ∙ pow-suc 2 i)
      ∙ ap (λ n. (number a x * n) % k) (sym (ap (number a) rest ∙ number-cons a (get_or y j dy) (drop (length y - i) y))))
