-- The last step that begins at a value or below is the one whose bins have it
use Rattle.std.proofs.Common.{◌≡◌, ℕ, suc, zero, ◌-◌, ◌<◌, ◌≤◌, ◌==◌, Bool, true, false, nat_le, List, [], ◌∷◌, length, get_or, refl, sym, ap, ◌∙◌, arith, if◌then◌else◌}
use Rattle.std.specs.Prelude.{slice_get}
use Rattle.std.specs.List.{AllWithin}
use Rattle.std.proofs.lemmas.Bool.{ne_eqb}
use Rattle.std.specs.List.Sorted.{IsNonDecreasingBy}
use Rattle.svr_cover_steps.specs.declared.steps.Step.{Step}
use Rattle.svr_cover_steps.specs.Steps.{bins_from, bins_at, AreAbove, IsRising, start_of, below, bins_in, last_bins}

-- ---- the steps rise

above-at : (n : ℕ) (ss : List Step) → AreAbove n ss → (j : ℕ) (d : Step) → j < length ss → n ≤ start_of (get_or ss j d)
above-at n [] a j d lt = let l : j < 0 = lt in omega (arith, l)
above-at n (s ∷ ss) a zero d lt =
    let p : n < s.from = a.0 in
    let r : n ≤ s.from = omega arith in
    r
above-at n (s ∷ ss) a (suc j) d lt = let l : suc j < suc (length ss) = lt in above-at n ss a.1 j d (omega (arith, l))

pub starts-rise : (ss : List Step) → IsRising ss → IsNonDecreasingBy start_of ss
starts-rise [] o i j d le lt = let l : j < 0 = lt in omega (arith, l)
starts-rise (s ∷ ss) o zero zero d le lt = let r : s.from ≤ s.from = omega arith in r
starts-rise (s ∷ ss) o zero (suc j) d le lt = let l : suc j < suc (length ss) = lt in above-at s.from ss o.0 j d (omega (arith, l))
starts-rise (s ∷ ss) o (suc i) zero d le lt = let l : suc i ≤ 0 = le in omega (arith, l)
starts-rise (s ∷ ss) o (suc i) (suc j) d le lt =
    let l : suc i ≤ suc j = le in
    let m : suc j < suc (length ss) = lt in
    starts-rise ss o.1 i j d (omega (arith, l)) (omega (arith, m))

-- ---- the place that halving finds

pub place-is : (ss : List Step) (v n : ℕ) → n ≤ length ss → AllWithin (λ s. nat_le (start_of s) v ≡ true) ss 0 n → AllWithin (λ s. nat_le (start_of s) v ≡ false) ss n (length ss) → n ≡ below ss v
place-is [] v n le before behind = let l : n ≤ 0 = le in omega (arith, l)
place-is (s ∷ ss) v zero le before behind =
    let l : 0 < suc (length ss) = omega arith in
    let e : nat_le (start_of s) v ≡ false = behind zero s (omega arith) l in
    sym (ap (λ b. if b then suc (below ss v) else 0) e)
place-is (s ∷ ss) v (suc n) le before behind =
    let l : suc n ≤ suc (length ss) = le in
    let e : nat_le (start_of s) v ≡ true = before zero s (omega arith) (omega arith) in
    let rest : n ≡ below ss v =
    place-is ss v n (omega (arith, l)) (λ k d a b. before (suc k) d (omega arith) (omega (arith, b))) (λ k d a b. behind (suc k) d (omega (arith, a)) (let m : suc k < suc (length ss) = omega (arith, b) in m))
    in
    ap suc rest ∙ sym (ap (λ b. if b then suc (below ss v) else 0) e)

-- ---- the bins there

-- those of the last of so many steps, or the bins below all of them
abbrev bins_there : List ℕ → List Step → ℕ → List ℕ
bins_there bins ss zero = bins
bins_there bins ss (suc n) = bins_in (slice_get ss n)

there-later : (bins : List ℕ) (s : Step) (ss : List Step) (n : ℕ) → bins_there s.bins ss n ≡ bins_there bins (s ∷ ss) (suc n)
there-later bins s ss zero = refl
there-later bins s ss (suc n) = refl

there : (bins : List ℕ) (ss : List Step) (v : ℕ) → bins_there bins ss (below ss v) ≡ bins_from bins ss v
there bins [] v = refl
there bins (s ∷ ss) v = go (nat_le (start_of s) v) (there s.bins ss v)
  where
    go : (b : Bool) → bins_there s.bins ss (below ss v) ≡ bins_from s.bins ss v
        → bins_there bins (s ∷ ss) (if b then suc (below ss v) else 0) ≡ (if b then bins_from s.bins ss v else bins)
    go true h = sym (there-later bins s ss (below ss v)) ∙ h
    go false h = refl

last-there : (ss : List Step) (n : ℕ) → last_bins ss n ≡ bins_there [] ss n
last-there ss zero = refl
last-there ss (suc n) =
    let f : (suc n == 0) ≡ false = ne_eqb (suc n) 0 (λ e. omega (arith, e)) in
    let e : suc n - 1 ≡ n = omega arith in
    ap (λ b. if b then [] else bins_in (slice_get ss (suc n - 1))) f ∙ ap (λ k. bins_in (slice_get ss k)) e

pub at-place : (ss : List Step) (v : ℕ) → last_bins ss (below ss v) ≡ bins_at ss v
at-place ss v = last-there ss (below ss v) ∙ there [] ss v
