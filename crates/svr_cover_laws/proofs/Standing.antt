-- How often a counter stands among those of bins
use Rattle.std.proofs.Common.{◌≡◌, ℕ, zero, suc, ◌+◌, ◌<◌, ◌≤◌, ◌==◌, Bool, true, false, List, [], ◌∷◌, ◌++◌, length, map, true≢false, length-append, refl, sym, ap, ◌∙◌, arith, if◌then◌else◌}
use Rattle.std.specs.Prelude.{⊤, slice_index_or}
use Rattle.std.specs.List.{list_any, All}
use Rattle.std.proofs.lemmas.Bool.{eqb-true, ne_eqb, eq-eqb}
use Rattle.std.proofs.lemmas.List.Elements.{All-head, All-tail}
use Rattle.svr_cover_union.specs.declared.ranges.Range.{Range}
use Rattle.svr_cover_union.specs.Union.{range_has, hits_of, hits_from}
use Rattle.svr_cover_laws.specs.Counted.{has_at}
use Rattle.svr_cover_laws.proofs.Hits.{times, upto}

-- ---- lists

pub times-append : (i : ℕ) (xs ys : List ℕ) → times i (xs ++ ys) ≡ times i xs + times i ys
times-append i [] ys = omega arith
times-append i (x ∷ xs) ys = go (x == i) (times-append i xs ys)
  where
    go : (b : Bool) → times i (xs ++ ys) ≡ times i xs + times i ys → (if b then suc (times i (xs ++ ys)) else times i (xs ++ ys)) ≡ (if b then suc (times i xs) else times i xs) + times i ys
    go true h = omega (arith, h)
    go false h = h

-- each number is from one up to another, without it
abbrev pub AreBetween : ℕ → ℕ → List ℕ → Type 0
AreBetween low high [] = ⊤
AreBetween low high (x ∷ xs) = ((low ≤ x) × (x < high)) × AreBetween low high xs

pub between-append : (low high : ℕ) (xs ys : List ℕ) → AreBetween low high xs → AreBetween low high ys → AreBetween low high (xs ++ ys)
between-append low high [] ys h k = k
between-append low high (x ∷ xs) ys h k = (h.0, between-append low high xs ys h.1 k)

pub between-wider : (low high below above : ℕ) (xs : List ℕ) → below ≤ low → high ≤ above → AreBetween low high xs → AreBetween below above xs
between-wider low high below above [] l m h = tt
between-wider low high below above (x ∷ xs) l m h =
    let a : low ≤ x = h.0.0 in
    let b : x < high = h.0.1 in
    ((omega (arith, a, l), omega (arith, b, m)), between-wider low high below above xs l m h.1)

pub not-same : (x i : ℕ) → (x ≡ i → ⊥) → (xs : List ℕ) → times i (x ∷ xs) ≡ times i xs
not-same x i h xs = ap (λ b. if b then suc (times i xs) else times i xs) (ne_eqb x i h)

pub times-low : (low high i : ℕ) (xs : List ℕ) → i < low → AreBetween low high xs → times i xs ≡ 0
times-low low high i [] l h = refl
times-low low high i (x ∷ xs) l h = let a : low ≤ x = h.0.0 in not-same x i (λ e. omega (arith, e, a, l)) xs ∙ times-low low high i xs l h.1

pub times-high : (low high i : ℕ) (xs : List ℕ) → high ≤ i → AreBetween low high xs → times i xs ≡ 0
times-high low high i [] l h = refl
times-high low high i (x ∷ xs) l h = let a : x < high = h.0.1 in not-same x i (λ e. omega (arith, e, a, l)) xs ∙ times-high low high i xs l h.1

-- counters from a first one on
pub times-shift : (first b : ℕ) (bs : List ℕ) → times (first + b) (map (λ x. first + x) bs) ≡ times b bs
times-shift first b [] = refl
times-shift first b (x ∷ xs) = go (x == b) refl (times-shift first b xs)
  where
    go : (t : Bool) → (x == b) ≡ t → times (first + b) (map (λ z. first + z) xs) ≡ times b xs
        → times (first + b) ((first + x) ∷ map (λ z. first + z) xs) ≡ (if t then suc (times b xs) else times b xs)
    go true e h =
        let same : x ≡ b = eqb-true x b e in
        ap (λ t. if t then suc (times (first + b) (map (λ z. first + z) xs)) else times (first + b) (map (λ z. first + z) xs)) (eq-eqb (first + x) (first + b) (ap (λ z. first + z) same)) ∙ ap suc h
    go false e h = not-same (first + x) (first + b) (λ q. true≢false (sym (eq-eqb x b (omega (arith, q))) ∙ e)) (map (λ z. first + z) xs) ∙ h

pub between-shift : (first many : ℕ) (bs : List ℕ) → AreBetween 0 many bs → AreBetween first (first + many) (map (λ x. first + x) bs)
between-shift first many [] h = tt
between-shift first many (x ∷ xs) h = let b : x < many = h.0.1 in ((omega arith, omega (arith, b)), between-shift first many xs h.1)

-- ---- the bins of a value

abbrev pub once : Bool → ℕ
once b = if b then 1 else 0

of-between : (n : ℕ) (ranges : List Range) (v : ℕ) → AreBetween n (suc n) (hits_of n ranges v)
of-between n ranges v = go (list_any (range_has v) ranges)
  where
    go : (b : Bool) → AreBetween n (suc n) (if b then n ∷ [] else [])
    go true = ((omega arith, omega arith), tt)
    go false = tt

pub hits-between : (n : ℕ) (bins : List (List Range)) (v : ℕ) → AreBetween n (n + length bins) (hits_from n bins v)
hits-between n [] v = tt
hits-between n (r ∷ rs) v =
    between-append n (n + suc (length rs)) (hits_of n r v) (hits_from (suc n) rs v)
    (between-wider n (suc n) n (n + suc (length rs)) (hits_of n r v) (omega arith) (omega arith) (of-between n r v))
    (between-wider (suc n) (suc n + length rs) n (n + suc (length rs)) (hits_from (suc n) rs v) (omega arith) (omega arith) (hits-between (suc n) rs v))

of-times : (n : ℕ) (ranges : List Range) (v : ℕ) → times n (hits_of n ranges v) ≡ once (list_any (range_has v) ranges)
of-times n ranges v = go (list_any (range_has v) ranges)
  where
    go : (b : Bool) → times n (if b then n ∷ [] else []) ≡ once b
    go true = ap (λ t. if t then suc 0 else 0) (eq-eqb n n refl)
    go false = refl

-- a bin stands once where it has the value, and else not at all
pub hits-times : (n k : ℕ) (bins : List (List Range)) (v : ℕ) → times (n + k) (hits_from n bins v) ≡ once (has_at bins k v)
hits-times n k [] v = refl
hits-times n zero (r ∷ rs) v =
    let e : n + 0 ≡ n = omega arith in
    ap (λ i. times i (hits_from n (r ∷ rs) v)) e ∙ first
  where
    first : times n (hits_of n r v ++ hits_from (suc n) rs v) ≡ once (list_any (range_has v) r)
    first =
        let a : times n (hits_of n r v) ≡ once (list_any (range_has v) r) = of-times n r v in
        let b : times n (hits_from (suc n) rs v) ≡ 0 = times-low (suc n) (suc n + length rs) n (hits_from (suc n) rs v) (omega arith) (hits-between (suc n) rs v) in
        times-append n (hits_of n r v) (hits_from (suc n) rs v) ∙ (let c : times n (hits_of n r v) + times n (hits_from (suc n) rs v) ≡ once (list_any (range_has v) r) = omega (arith, a, b) in c)
hits-times n (suc k) (r ∷ rs) v =
    let a : times (n + suc k) (hits_of n r v) ≡ 0 = times-high n (suc n) (n + suc k) (hits_of n r v) (omega arith) (of-between n r v) in
    let e : n + suc k ≡ suc n + k = omega arith in
    let b : times (n + suc k) (hits_from (suc n) rs v) ≡ once (has_at rs k v) = ap (λ i. times i (hits_from (suc n) rs v)) e ∙ hits-times (suc n) k rs v in
    times-append (n + suc k) (hits_of n r v) (hits_from (suc n) rs v)
    ∙ (let c : times (n + suc k) (hits_of n r v) + times (n + suc k) (hits_from (suc n) rs v) ≡ once (has_at rs k v) = omega (arith, a, b) in c)

-- no more bins than there are
of-length : (n : ℕ) (ranges : List Range) (v : ℕ) → length (hits_of n ranges v) ≤ 1
of-length n ranges v = go (list_any (range_has v) ranges)
  where
    go : (b : Bool) → length (if b then n ∷ [] else []) ≤ 1
    go true = omega arith
    go false = omega arith

pub hits-length : (n : ℕ) (bins : List (List Range)) (v : ℕ) → length (hits_from n bins v) ≤ length bins
hits-length n [] v = omega arith
hits-length n (r ∷ rs) v =
    let a : length (hits_of n r v ++ hits_from (suc n) rs v) ≡ length (hits_of n r v) + length (hits_from (suc n) rs v) = length-append (hits_of n r v) (hits_from (suc n) rs v) in
    omega (arith, a, of-length n r v, hits-length (suc n) rs v)

-- what holds of each is held between
pub between-from : (many : ℕ) (xs : List ℕ) → All (λ b. b < many) xs → AreBetween 0 many xs
between-from many [] h = tt
between-from many (x ∷ xs) h = ((omega arith, All-head (λ b. b < many) x xs h), between-from many xs (All-tail (λ b. b < many) x xs h))

pub upto-between : (f : ℕ → ℕ) (low high n : ℕ) → ((d : ℕ) → low ≤ f d) → ((d : ℕ) → f d < high) → AreBetween low high (upto f n)
upto-between f low high zero h k = tt
upto-between f low high (suc n) h k = between-append low high (upto f n) (f n ∷ []) (upto-between f low high n h k) ((h n, k n), tt)
