-- How often a number stands among those of the tuples of bins that have the values: the product of how often its digits stand among the bins
use Rattle.std.proofs.Common.{◌≡◌, ℕ, zero, suc, ◌+◌, ◌*◌, ◌/◌, ◌%◌, ◌<◌, ◌==◌, Bool, true, false, List, [], ◌∷◌, ◌++◌, length, map, refl, sym, ap, ◌∙◌, arith, append_assoc, append-nil, if◌then◌else◌}
use Rattle.std.specs.Prelude.{slice_index}
use Rattle.std.proofs.lemmas.Bool.{eqb-true, eqb-false, eq-eqb}
use Rattle.std.proofs.lemmas.Nat.{mod-mul-add, div-mul-add, div-add-mod'}
use Rattle.svr_cover_laws.proofs.Hits.{times, upto}
use Rattle.svr_cover_laws.proofs.Standing.{AreBetween, times-append, not-same}

-- ---- the values of a function at the numbers below one

upto-add : (f : ℕ → ℕ) (a b : ℕ) → upto f (a + b) ≡ upto f a ++ upto (λ d. f (a + d)) b
upto-add f a zero = let e : a + 0 ≡ a = omega arith in ap (upto f) e ∙ sym (append-nil (upto f a))
upto-add f a (suc b) = let e : a + suc b ≡ suc (a + b) = omega arith in ap (upto f) e ∙ ap (λ z. z ++ f (a + b) ∷ []) (upto-add f a b) ∙ append_assoc (upto f a) (upto (λ d. f (a + d)) b) (f (a + b) ∷ [])

pub upto-same : (f g : ℕ → ℕ) (n : ℕ) → ((d : ℕ) → d < n → f d ≡ g d) → upto f n ≡ upto g n
upto-same f g zero h = refl
upto-same f g (suc n) h = ap (λ z. z ++ f n ∷ []) (upto-same f g n (λ d l. h d (omega (arith, l)))) ∙ ap (λ z. upto g n ++ z ∷ []) (h n (omega arith))

upto-front : (f : ℕ → ℕ) (n : ℕ) → upto f (suc n) ≡ f 0 ∷ upto (λ d. f (suc d)) n
upto-front f zero = refl
upto-front f (suc n) = ap (λ z. z ++ f (suc n) ∷ []) (upto-front f n)

upto-items : (k : ℕ → ℕ) (h : List ℕ) → upto (λ d. k (slice_index h d)) (length h) ≡ map k h
upto-items k [] = refl
upto-items k (x ∷ xs) = upto-front (λ d. k (slice_index (x ∷ xs) d)) (length xs) ∙ ap (λ z. k x ∷ z) (upto-items k xs)

-- ---- one digit

abbrev pub some : Bool → ℕ → ℕ
some b n = if b then n else 0

none-some : (b : Bool) → some b 0 ≡ 0
none-some true = refl
none-some false = refl

-- numbers with one digit more, which is one of a list
times-digit : (s q t : ℕ) (h : List ℕ) → 0 < s → AreBetween 0 s h → times t (map (λ x. x + s * q) h) ≡ some (q == t / s) (times (t % s) h)
times-digit s q t [] l a = sym (none-some (q == t / s))
times-digit s q t (x ∷ xs) l a = go (q == t / s) refl (times-digit s q t xs l a.1)
  where
    small : x < s
    small = a.0.1

    -- the rest of a number is that of its parts
    parts : x + s * q ≡ t → q ≡ t / s
    parts e =
        let f : q * s + x ≡ t = omega (arith, e) in
        sym (div-mul-add q s x small) ∙ ap (λ z. z / s) f

    digits : x + s * q ≡ t → x ≡ t % s
    digits e =
        let f : q * s + x ≡ t = omega (arith, e) in
        sym (mod-mul-add q s x small) ∙ ap (λ z. z % s) f

    whole : q ≡ t / s → x ≡ t % s → x + s * q ≡ t
    whole e f =
        let d : t / s * s + t % s ≡ t = div-add-mod' t s in
        let g : q * s + x ≡ t / s * s + t % s = ap (λ z. z * s + x) e ∙ ap (λ z. t / s * s + z) f in
        omega (arith, d, g)

    go : (b : Bool) → (q == t / s) ≡ b → times t (map (λ z. z + s * q) xs) ≡ some b (times (t % s) xs)
        → times t ((x + s * q) ∷ map (λ z. z + s * q) xs) ≡ some b (times (t % s) (x ∷ xs))
    go false e k = not-same (x + s * q) t (λ f. eqb-false q (t / s) e (parts f)) (map (λ z. z + s * q) xs) ∙ k
    go true e k = there (x == t % s) refl
      where
        there : (c : Bool) → (x == t % s) ≡ c → times t ((x + s * q) ∷ map (λ z. z + s * q) xs) ≡ (if c then suc (times (t % s) xs) else times (t % s) xs)
        there true f =
            ap (λ c. if c then suc (times t (map (λ z. z + s * q) xs)) else times t (map (λ z. z + s * q) xs)) (eq-eqb (x + s * q) t (whole (eqb-true q (t / s) e) (eqb-true x (t % s) f)))
            ∙ ap suc k
        there false f = not-same (x + s * q) t (λ g. eqb-false x (t % s) f (digits g)) (map (λ z. z + s * q) xs) ∙ k

module _ (s t : ℕ) (h : List ℕ) (g : ℕ → ℕ) (l : 0 < s) (a : AreBetween 0 s h) where
  -- the number of a tuple of one point more: its digit is the fastest
  abbrev pub number : ℕ → ℕ
  number n = slice_index h (n % length h) + s * g (n / length h)

  block : (n : ℕ) → upto (λ d. number (n * length h + d)) (length h) ≡ map (λ x. x + s * g n) h
  block n =
      upto-same (λ d. number (n * length h + d)) (λ d. slice_index h d + s * g n) (length h)
      (λ d k. ap (λ z. slice_index h z + s * g ((n * length h + d) / length h)) (mod-mul-add n (length h) d k) ∙ ap (λ z. slice_index h d + s * g z) (div-mul-add n (length h) d k))
      ∙ upto-items (λ x. x + s * g n) h

  one-more : (b : Bool) (m n : ℕ) → m * n + some b m ≡ m * (n + some b 1)
  one-more true m n = omega arith
  one-more false m n = omega arith

  last-times : (n : ℕ) → times (t / s) (g n ∷ []) ≡ some (g n == t / s) 1
  last-times n = refl

  pub times-tuples : (n : ℕ) → times t (upto number (n * length h)) ≡ times (t % s) h * times (t / s) (upto g n)
  times-tuples zero =
      let e : 0 * length h ≡ 0 = omega arith in
      ap (λ z. times t (upto number z)) e ∙ (let f : 0 ≡ times (t % s) h * 0 = omega arith in f)
  times-tuples (suc n) =
      let e : suc n * length h ≡ n * length h + length h = omega arith in
      let k : times t (upto number (n * length h)) ≡ times (t % s) h * times (t / s) (upto g n) = times-tuples n in
      let d : times t (map (λ x. x + s * g n) h) ≡ some (g n == t / s) (times (t % s) h) = times-digit s (g n) t h l a in
      ap (λ z. times t (upto number z)) e ∙ ap (times t) (upto-add number (n * length h) (length h)) ∙ ap (λ z. times t (upto number (n * length h) ++ z)) (block n)
      ∙ times-append t (upto number (n * length h)) (map (λ x. x + s * g n) h) ∙ ap (λ z. z + times t (map (λ x. x + s * g n) h)) k ∙ ap (λ z. times (t % s) h * times (t / s) (upto g n) + z) d
      ∙ one-more (g n == t / s) (times (t % s) h) (times (t / s) (upto g n))
      ∙ ap (λ z. times (t % s) h * z) (sym (times-append (t / s) (upto g n) (g n ∷ [])))
