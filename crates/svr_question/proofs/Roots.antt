-- The bits of an encoding in a row, and the roots that are assumed.
use Rattle.std.proofs.Common.{◌≡◌, ◌<◌, ◌≤◌, ℕ, zero, suc, ◌+◌, Bool, true, false, not, ◌&&◌, ◌||◌, List, [], ◌∷◌, ◌++◌, length, sum, refl, sym, ap, ◌∙◌, subst, arith, nat_eq, slice_index_or}
use Rattle.std.specs.List.{flat_map, list_any}
use Rattle.std.proofs.lemmas.Bool.{ne_eqb}
use Rattle.std.proofs.lemmas.List.Elements.{All-nil, All-cons}
use Rattle.std.proofs.lemmas.List.Concat.{flat_map-cons}
use Rattle.std.proofs.lemmas.List.Sums.{sum_by-cons}
use Rattle.svr_chain.specs.declared.clause.Lit.{Lit}
use Rattle.svr_chain.specs.Clauses.{same_sign, same_lit, flip, has, is_tautology, IsWithin, AreWithin}
use Rattle.svr_query.specs.Bits.{AreFirst}
use Rattle.svr_encoded.specs.Slots.{positives, positive_bits}
use Rattle.svr_encoded.specs.Encodes.{AreRising}

-- ---- bits

positives_join : (n a b : ℕ) → positives n a ++ positives (n + a) b ≡ positives n (a + b)
positives_join n zero b = (λ i. positives (same i) b) ∙ ap (positives n) (let e : b ≡ zero + b = omega arith in e)
  where
    same : n + zero ≡ n
    same = omega arith
positives_join n (suc a) b =
    ap (λ k. record { var = suc n; neg = false } ∷ positives (suc n) a ++ positives k b) (let e : n + suc a ≡ suc n + a = omega arith in e)
    ∙ ap (λ ls. record { var = suc n; neg = false } ∷ ls) (positives_join (suc n) a b)
    ∙ ap (positives n) (let e : suc (a + b) ≡ suc a + b = omega arith in e)

pub bits_joined : (n : ℕ) (ws : List ℕ) → flat_map (λ ls. ls) (positive_bits n ws) ≡ positives n (sum ws)
bits_joined n [] = refl
bits_joined n (w ∷ ws) =
    flat_map-cons (λ ls. ls) (positives n w) (positive_bits (n + w) ws)
    ∙ ap (λ ls. positives n w ++ ls) (bits_joined (n + w) ws)
    ∙ positives_join n w (sum ws)
    ∙ ap (positives n) (sym (sum_by-cons (λ (x : ℕ). x) w ws))

pub positives_long : (n w : ℕ) → length (positives n w) ≡ w
positives_long n zero = refl
positives_long n (suc w) = ap suc (positives_long (suc n) w)

positive_at : (n w i : ℕ) (l : Lit) → i < w → slice_index_or (positives n w) i l ≡ record { var = n + i + 1; neg = false }
positive_at n zero i l lt = absurd (omega (arith, lt))
positive_at n (suc w) zero l lt = ap (λ k. record { var = k; neg = false }) (let e : suc n ≡ n + 0 + 1 = omega arith in e)
positive_at n (suc w) (suc i) l lt = positive_at (suc n) w i l (omega (arith, lt)) ∙ ap (λ k. record { var = k; neg = false }) (let e : suc n + i + 1 ≡ n + suc i + 1 = omega arith in e)

pub bits_first : (w : ℕ) → AreFirst (positives 0 w)
bits_first w i l lt = positive_at 0 w i l (subst (λ (k : ℕ). i < k) (positives_long 0 w) lt) ∙ ap (λ k. record { var = k; neg = false }) (let e : 0 + i + 1 ≡ i + 1 = omega arith in e)

pub bits_within : (n w top : ℕ) → n + w ≤ top → AreWithin top (positives n w)
bits_within n zero top le = All-nil (IsWithin top)
bits_within n (suc w) top le = All-cons (IsWithin top) (record { var = suc n; neg = false }) (positives (suc n) w) (omega arith, omega (arith, le)) (bits_within (suc n) w top (omega (arith, le)))

-- ---- roots

pub rising_below : (n : ℕ) (ls : List Lit) (top : ℕ) → AreRising n ls top → n ≤ top
rising_below n [] top h = h
rising_below n (l ∷ ls) top h = let rest = rising_below l.var ls top h.1 in omega (arith, h.0, rest)

pub rising_within : (n : ℕ) (ls : List Lit) (top : ℕ) → AreRising n ls top → AreWithin top ls
rising_within n [] top h = All-nil (IsWithin top)
rising_within n (l ∷ ls) top h = All-cons (IsWithin top) l ls (omega (arith, h.0), rising_below l.var ls top h.1) (rising_within l.var ls top h.1)

not_same : (x y : Lit) → nat_eq x.var y.var ≡ false → same_lit x y ≡ false
not_same x y e = ap (λ b. same_sign x.neg y.neg && b) e ∙ none (same_sign x.neg y.neg)
  where
    none : (b : Bool) → (b && false) ≡ false
    none true = refl
    none false = refl

other_sign : (x : Lit) → same_lit x (flip x) ≡ false
other_sign x = ap (λ b. b && nat_eq x.var x.var) (apart x.neg)
  where
    apart : (b : Bool) → same_sign b (not b) ≡ false
    apart true = refl
    apart false = refl

-- a literal of a lower variable is not among them
none_below : (n : ℕ) (ls : List Lit) (top : ℕ) → AreRising n ls top → (y : Lit) → y.var ≤ n → has ls y ≡ false
none_below n [] top h y le = refl
none_below n (l ∷ ls) top h y le =
    let lt : y.var < l.var = omega (arith, le, h.0) in
    ap (λ b. b || has ls y) (not_same l y (ne_eqb l.var y.var (λ e. absurd (omega (arith, lt, e))))) ∙ none_below l.var ls top h.1 y (omega (arith, lt))

-- a literal of a lower variable in front changes nothing for the others
front_apart : (front : Lit) (n : ℕ) (xs : List Lit) (top : ℕ) → AreRising n xs top → front.var ≤ n → (ls : List Lit) → list_any (λ x. has (front ∷ ls) (flip x)) xs ≡ list_any (λ x. has ls (flip x)) xs
front_apart front n [] top h le ls = refl
front_apart front n (x ∷ xs) top h le ls =
    let lt : front.var < x.var = omega (arith, le, h.0) in
    ap (λ b. (b || has ls (flip x)) || list_any (λ y. has (front ∷ ls) (flip y)) xs) (not_same front (flip x) (ne_eqb front.var x.var (λ e. absurd (omega (arith, lt, e)))))
    ∙ ap (λ b. has ls (flip x) || b) (front_apart front x.var xs top h.1 (omega (arith, lt)) ls)

pub rising_apart : (n : ℕ) (ls : List Lit) (top : ℕ) → AreRising n ls top → is_tautology ls ≡ false
rising_apart n [] top h = refl
rising_apart n (l ∷ ls) top h =
    (λ i. (other_sign l i || none_below l.var ls top h.1 (flip l) (omega arith) i) || front_apart l l.var ls top h.1 (omega arith) ls i)
    ∙ rising_apart l.var ls top h.1
