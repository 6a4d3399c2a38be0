-- What the bins of a value do where steps are added, and between steps
use Rattle.std.proofs.Common.{◌≡◌, ℕ, suc, zero, ◌+◌, ◌<◌, ◌≤◌, Bool, true, false, nat_le, List, [], ◌∷◌, ◌++◌, take, Option, None, Some, option_map, refl, sym, ap, ◌∙◌, arith, if◌then◌else◌}
use Rattle.std.specs.Prelude.{⊤, slice_get}
use Rattle.std.proofs.lemmas.Bool.{le-leb, lt-leb, leb-true, leb-false}
use Rattle.svr_cover_steps.specs.declared.steps.Step.{Step}
use Rattle.svr_cover_steps.specs.Steps.{bins_from, bins_at, AreAbove, IsRising, start_of}
use Rattle.svr_cover_union.specs.Union.{start_at}

-- below a start, if there is one
abbrev pub IsBelow : ℕ → Option ℕ → Type 0
IsBelow v None = ⊤
IsBelow v (Some s) = v < s

-- each begins at the number or below
abbrev pub AreUpTo : List Step → ℕ → Type 0
AreUpTo [] n = ⊤
AreUpTo (t ∷ ts) n = (t.from ≤ n) × AreUpTo ts n

-- each begins below it
abbrev pub AreUnder : List Step → ℕ → Type 0
AreUnder [] n = ⊤
AreUnder (t ∷ ts) n = (t.from < n) × AreUnder ts n

pub under-up : (ts : List Step) (n m : ℕ) → n ≤ m → AreUnder ts n → AreUpTo ts m
under-up [] n m le h = tt
under-up (t ∷ ts) n m le h = let a : t.from < n = h.0 in (omega (arith, le), under-up ts n m le h.1)

pub up-under : (ts : List Step) (n m : ℕ) → n < m → AreUpTo ts n → AreUnder ts m
up-under [] n m lt h = tt
up-under (t ∷ ts) n m lt h = let a : t.from ≤ n = h.0 in (omega (arith, lt), up-under ts n m lt h.1)

pub up-append : (ts us : List Step) (n : ℕ) → AreUpTo ts n → AreUpTo us n → AreUpTo (ts ++ us) n
up-append [] us n h k = k
up-append (t ∷ ts) us n h k = (h.0, up-append ts us n h.1 k)

-- ---- one step more

-- above a value it changes nothing there
pub append-above : (ts : List Step) (c : List ℕ) (x : Step) (v : ℕ) → v < x.from → bins_from c (ts ++ x ∷ []) v ≡ bins_from c ts v
append-above [] c x v h = ap (λ b. if b then bins_from x.bins [] v else c) (lt-leb x.from v h)
append-above (t ∷ ts) c x v h = ap (λ z. if nat_le t.from v then z else c) (append-above ts t.bins x v h)

-- at a value or below, behind steps that begin no later, it has its bins
pub append-at : (ts : List Step) (c : List ℕ) (x : Step) (v : ℕ) → AreUpTo ts v → x.from ≤ v → bins_from c (ts ++ x ∷ []) v ≡ x.bins
append-at [] c x v a h = ap (λ b. if b then bins_from x.bins [] v else c) (le-leb x.from v h)
append-at (t ∷ ts) c x v a h = ap (λ b. if b then bins_from t.bins (ts ++ x ∷ []) v else c) (le-leb t.from v a.0) ∙ append-at ts t.bins x v a.1 h

above-append : (n : ℕ) (ts : List Step) (x : Step) → AreAbove n ts → n < x.from → AreAbove n (ts ++ x ∷ [])
above-append n [] x a h = (h, tt)
above-append n (t ∷ ts) x a h = (a.0, above-append n ts x a.1 h)

pub rising-append : (ts : List Step) (x : Step) → IsRising ts → AreUnder ts x.from → IsRising (ts ++ x ∷ [])
rising-append [] x r h = (tt, tt)
rising-append (t ∷ ts) x r h = (above-append t.from ts x r.0 h.0, rising-append ts x r.1 h.1)

-- ---- between two starts the bins stay

-- no step begins behind s and up to v
abbrev NoneBetween : ℕ → ℕ → List Step → Type 0
NoneBetween s v [] = ⊤
NoneBetween s v (t ∷ ts) = (t.from ≤ v → t.from ≤ s) × NoneBetween s v ts

steady-from : (c : List ℕ) (ts : List Step) (s v : ℕ) → s ≤ v → NoneBetween s v ts → bins_from c ts v ≡ bins_from c ts s
steady-from c [] s v le h = refl
steady-from c (t ∷ ts) s v le h = go (nat_le t.from v) refl (steady-from t.bins ts s v le h.1)
  where
    go : (b : Bool) → nat_le t.from v ≡ b → bins_from t.bins ts v ≡ bins_from t.bins ts s → (if b then bins_from t.bins ts v else c) ≡ (if nat_le t.from s then bins_from t.bins ts s else c)
    go true e k = k ∙ sym (ap (λ z. if z then bins_from t.bins ts s else c) (le-leb t.from s (h.0 (leb-true t.from v e))))
    go false e k =
        let l : v < t.from = leb-false t.from v e in
        sym (ap (λ z. if z then bins_from t.bins ts s else c) (lt-leb t.from s (omega (arith, l, le))))

none-above : (ts : List Step) (s v n : ℕ) → v < n → AreAbove n ts → NoneBetween s v ts
none-above [] s v n lt a = tt
none-above (t ∷ ts) s v n lt a = let p : n < t.from = a.0 in ((λ le. absurd (omega (arith, lt, p, le))), none-above ts s v n lt a.1)

-- the first n begin at s or below, and the next above v
none-between : (n : ℕ) (ts : List Step) (s v : ℕ) → IsRising ts → AreUpTo (take n ts) s → IsBelow v (start_at ts n) → NoneBetween s v ts
none-between n [] s v r up below = tt
none-between zero (t ∷ ts) s v r up below = let p : v < t.from = below in ((λ le. absurd (omega (arith, p, le))), none-above ts s v t.from p r.0)
none-between (suc n) (t ∷ ts) s v r up below = ((λ _. up.0), none-between n ts s v r.1 up.1 below)

pub steady : (n : ℕ) (ts : List Step) (s v : ℕ) → s ≤ v → IsRising ts → AreUpTo (take n ts) s → IsBelow v (start_at ts n) → bins_at ts v ≡ bins_at ts s
steady n ts s v le r up below = steady-from [] ts s v le (none-between n ts s v r up below)

-- ---- the step at a place

-- a step is followed by later ones
pub next-later : (n : ℕ) (ts : List Step) (s : ℕ) → IsRising ts → start_at ts n ≡ Some s → IsBelow s (start_at ts (suc n))
next-later n [] s r e = tt
next-later zero (t ∷ []) s r e = tt
next-later zero (t ∷ (u ∷ us)) s r e = let z : Some t.from ≡ Some s = e in let same : t.from ≡ s = cc in let p : t.from < u.from = r.0.0 in omega (arith, same, p)
next-later (suc n) (t ∷ ts) s r e = next-later n ts s r.1 e

pub taken-more : (n : ℕ) (ts : List Step) (s : ℕ) → start_at ts n ≡ Some s → AreUpTo (take n ts) s → AreUpTo (take (suc n) ts) s
taken-more n [] s e h = absurd (let z : None ≡ Some s = e in cc)
taken-more zero (t ∷ ts) s e h = let z : Some t.from ≡ Some s = e in let same : t.from ≡ s = cc in (omega (arith, same), tt)
taken-more (suc n) (t ∷ ts) s e h = (h.0, taken-more n ts s e h.1)
