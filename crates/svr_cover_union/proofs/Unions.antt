-- The walk along two lists of steps
use Rattle.std.proofs.Common.{◌≡◌, ℕ, ◌+◌, ◌-◌, ◌<◌, ◌≤◌, Bool, true, false, nat_le, nat_lt, ◌==◌, List, [], ◌∷◌, ◌++◌, length, take, Option, None, Some, option_map, refl, sym, ap, subst, ◌∙◌, ◌⊎◌, inl, inr, arith, add-one, if◌then◌else◌}
use Rattle.std.specs.Prelude.{slice_get}
use Rattle.std.proofs.lemmas.Bool.{leb-true, leb-false, lt-leb, ltb-true, ltb-false, eqb-true, eqb-false, eq-eqb}
use Rattle.std.proofs.lemmas.Option.{slice_get_within}
use Rattle.svr_cover_steps.specs.declared.steps.Step.{Step}
use Rattle.svr_cover_steps.specs.Steps.{bins_from, bins_at, IsRising, start_of}
use Rattle.svr_cover_union.specs.Union.{joined, start_at, earlier, begins, behind, step_at}
use Rattle.svr_cover_union.proofs.Steady.{IsBelow, AreUpTo, AreUnder, under-up, up-under, up-append, append-above, append-at, rising-append, steady, next-later, taken-more}

none_some : {A : Type 0} (x : A) → None ≡ Some x → ⊥
none_some x h = cc

some_none : {A : Type 0} (x : A) → Some x ≡ None → ⊥
some_none x h = cc

same_some : {A : Type 0} (x y : A) → Some x ≡ Some y → x ≡ y
same_some x y h = cc

-- ---- the lower of two starts

-- it is one of them
one-of : (a b : Option ℕ) (s : ℕ) → earlier a b ≡ Some s → (a ≡ Some s) ⊎ (b ≡ Some s)
one-of None b s e = inr e
one-of (Some a) None s e = inl e
one-of (Some a) (Some b) s e = go (nat_le a b) e
  where
    go : (t : Bool) → (if t then Some a else Some b) ≡ Some s → (Some a ≡ Some s) ⊎ (Some b ≡ Some s)
    go true e = inl e
    go false e = inr e

-- and no greater than either
least-first : (a b : Option ℕ) (s : ℕ) → earlier a b ≡ Some s → (n : ℕ) → a ≡ Some n → s ≤ n
least-first None b s e n k = absurd (none_some n k)
least-first (Some a) None s e n k = let same : s ≡ n = same_some s n (sym e ∙ k) in omega (arith, same)
least-first (Some a) (Some b) s e n k = go (nat_le a b) refl e
  where
    go : (t : Bool) → nat_le a b ≡ t → (if t then Some a else Some b) ≡ Some s → s ≤ n
    go true f e = let same : s ≡ n = same_some s n (sym e ∙ k) in omega (arith, same)
    go false f e =
        let l : b < a = leb-false a b f in
        let p : b ≡ s = same_some b s e in
        let q : a ≡ n = same_some a n k in
        omega (arith, l, p, q)

least-second : (a b : Option ℕ) (s : ℕ) → earlier a b ≡ Some s → (n : ℕ) → b ≡ Some n → s ≤ n
least-second None b s e n k = let same : s ≡ n = same_some s n (sym e ∙ k) in omega (arith, same)
least-second (Some a) None s e n k = absurd (none_some n k)
least-second (Some a) (Some b) s e n k = go (nat_le a b) refl e
  where
    go : (t : Bool) → nat_le a b ≡ t → (if t then Some a else Some b) ≡ Some s → s ≤ n
    go true f e =
        let l : a ≤ b = leb-true a b f in
        let p : a ≡ s = same_some a s e in
        let q : b ≡ n = same_some b n k in
        omega (arith, l, p, q)
    go false f e = let same : s ≡ n = same_some s n (sym e ∙ k) in omega (arith, same)

-- what is below both is below it
above-both : (a b : Option ℕ) (s n : ℕ) → earlier a b ≡ Some n → IsBelow s a → IsBelow s b → s < n
above-both a b s n e f g = go (one-of a b n e)
  where
    go : (a ≡ Some n) ⊎ (b ≡ Some n) → s < n
    go (inl k) = subst (IsBelow s) k f
    go (inr k) = subst (IsBelow s) k g

-- what is below it is below both
below-first : (a b : Option ℕ) (s v : ℕ) → earlier a b ≡ Some s → v < s → IsBelow v a
below-first None b s v e lt = tt
below-first (Some a) b s v e lt = let l : s ≤ a = least-first (Some a) b s e a refl in omega (arith, l, lt)

below-second : (a b : Option ℕ) (s v : ℕ) → earlier a b ≡ Some s → v < s → IsBelow v b
below-second a None s v e lt = tt
below-second a (Some b) s v e lt = let l : s ≤ b = least-second a (Some b) s e b refl in omega (arith, l, lt)

-- there is none where neither is
pub neither : (a b : Option ℕ) → earlier a b ≡ None → (a ≡ None) × (b ≡ None)
neither None b e = (refl, e)
neither (Some a) None e = absurd (some_none a e)
neither (Some a) (Some b) e = go (nat_le a b) e
  where
    go : (t : Bool) → (if t then Some a else Some b) ≡ None → (Some a ≡ None) × (Some b ≡ None)
    go true e = absurd (some_none a e)
    go false e = absurd (some_none b e)

-- ---- one list of the two, over a start

apart : (a s : ℕ) → s ≤ a → (a == s) ≡ false → s < a
apart a s le f = go (nat_lt s a) refl
  where
    go : (t : Bool) → nat_lt s a ≡ t → s < a
    go true e = ltb-true s a e
    go false e = let l : a ≤ s = ltb-false s a e in absurd (eqb-false a s f (omega (arith, l, le)))

next-start : (ts : List Step) (n s : ℕ) → IsRising ts → ((a : ℕ) → start_at ts n ≡ Some a → s ≤ a) → IsBelow s (start_at ts (behind ts n s))
next-start ts n s r least = go (slice_get ts n) refl
  where
    by : (t : Step) → slice_get ts n ≡ Some t → (b : Bool) → (t.from == s) ≡ b → IsBelow s (option_map start_of (slice_get ts (if b then n + 1 else n)))
    by t e true k =
        let same : t.from ≡ s = eqb-true t.from s k in
        subst (λ z. IsBelow s (start_at ts z)) (sym (add-one n)) (next-later n ts s r (ap (option_map start_of) e ∙ ap (λ z. Some z) same))
    by t e false k =
        let le : s ≤ t.from = least t.from (ap (option_map start_of) e) in
        subst (λ z. IsBelow s (option_map start_of z)) (sym e) (apart t.from s le k)

    go : (o : Option Step) → slice_get ts n ≡ o → IsBelow s (option_map start_of (slice_get ts (if begins o s then n + 1 else n)))
    go None e = subst (λ z. IsBelow s (option_map start_of z)) (sym e) tt
    go (Some t) e = by t e (t.from == s) refl

passed : (ts : List Step) (n s : ℕ) → AreUpTo (take n ts) s → AreUpTo (take (behind ts n s) ts) s
passed ts n s h = go (slice_get ts n) refl
  where
    by : (t : Step) → slice_get ts n ≡ Some t → (b : Bool) → (t.from == s) ≡ b → AreUpTo (take (if b then n + 1 else n) ts) s
    by t e true k =
        let same : t.from ≡ s = eqb-true t.from s k in
        subst (λ z. AreUpTo (take z ts) s) (sym (add-one n)) (taken-more n ts s (ap (option_map start_of) e ∙ ap (λ z. Some z) same) h)
    by t e false k = h

    go : (o : Option Step) → slice_get ts n ≡ o → AreUpTo (take (if begins o s then n + 1 else n) ts) s
    go None e = h
    go (Some t) e = by t e (t.from == s) refl

up-more : (ts : List Step) (n m : ℕ) → n ≤ m → AreUpTo ts n → AreUpTo ts m
up-more [] n m le h = tt
up-more (t ∷ ts) n m le h = let a : t.from ≤ n = h.0 in (omega (arith, a, le), up-more ts n m le h.1)

-- ---- the walk

pub record IsUnion (same : Bool) (first second done : List Step) (i j : ℕ) : Type 0 where
  pub rising : IsRising done
  pub under : (s : ℕ) → earlier (start_at first i) (start_at second j) ≡ Some s → AreUnder done s
  pub passed_first : (s : ℕ) → earlier (start_at first i) (start_at second j) ≡ Some s → AreUpTo (take i first) s
  pub passed_second : (s : ℕ) → earlier (start_at first i) (start_at second j) ≡ Some s → AreUpTo (take j second) s
  pub made : (v : ℕ) → IsBelow v (start_at first i) → IsBelow v (start_at second j) → bins_at done v ≡ joined same (bins_at first v) (bins_at second v)

-- below the first step there is no bin
none-at : (ts : List Step) (v : ℕ) → IsBelow v (start_at ts 0) → bins_at ts v ≡ []
none-at [] v b = refl
none-at (t ∷ ts) v b = ap (λ z. if z then bins_from t.bins ts v else []) (lt-leb t.from v b)

both-none : (same : Bool) (c d : List ℕ) → c ≡ [] → d ≡ [] → [] ≡ joined same c d
both-none true c d h k = sym (ap (λ z. joined true z d) h ∙ k)
both-none false c d h k = sym (ap (λ z. z ++ d) h ∙ k)

pub begins-union : (same : Bool) (first second : List Step) → IsUnion same first second [] 0 0
begins-union same first second = record {
  rising = tt;
  under = λ s e. tt;
  passed_first = λ s e. tt;
  passed_second = λ s e. tt;
  made = λ v f g. both-none same (bins_at first v) (bins_at second v) (none-at first v f) (none-at second v g);
}

-- over one start
pub goes-on : (same : Bool) (first second done : List Step) (i j s : ℕ) → IsRising first → IsRising second → earlier (start_at first i) (start_at second j) ≡ Some s
    → IsUnion same first second done i j → IsUnion same first second (done ++ step_at same first second s ∷ []) (behind first i s) (behind second j s)
goes-on same first second done i j s r q e h =
    let x : Step = step_at same first second s in
    let f : IsBelow s (start_at first (behind first i s)) = next-start first i s r (least-first (start_at first i) (start_at second j) s e) in
    let g : IsBelow s (start_at second (behind second j s)) = next-start second j s q (least-second (start_at first i) (start_at second j) s e) in
    let up : AreUpTo (take (behind first i s) first) s = passed first i s (h.passed_first s e) in
    let un : AreUpTo (take (behind second j s) second) s = passed second j s (h.passed_second s e) in
    let low : AreUpTo done s = under-up done s s (omega arith) (h.under s e) in
    record {
      rising = rising-append done x h.rising (h.under s e);
      under = λ n k. let lt : s < n = above-both (start_at first (behind first i s)) (start_at second (behind second j s)) s n k f g in
          up-under (done ++ x ∷ []) s n lt (up-append done (x ∷ []) s low (omega arith, tt));
      passed_first = λ n k. let lt : s < n = above-both (start_at first (behind first i s)) (start_at second (behind second j s)) s n k f g in
          up-more (take (behind first i s) first) s n (omega (arith, lt)) up;
      passed_second = λ n k. let lt : s < n = above-both (start_at first (behind first i s)) (start_at second (behind second j s)) s n k f g in
          up-more (take (behind second j s) second) s n (omega (arith, lt)) un;
      made = λ v a b. here x f g up un low v a b (nat_lt v s) refl;
    }
  where
    here : (x : Step) → IsBelow s (start_at first (behind first i s)) → IsBelow s (start_at second (behind second j s))
        → AreUpTo (take (behind first i s) first) s → AreUpTo (take (behind second j s) second) s → AreUpTo done s → (v : ℕ)
        → IsBelow v (start_at first (behind first i s)) → IsBelow v (start_at second (behind second j s)) → (t : Bool) → nat_lt v s ≡ t
        → bins_at (done ++ step_at same first second s ∷ []) v ≡ joined same (bins_at first v) (bins_at second v)
    here x f g up un low v a b true k =
        let lt : v < s = ltb-true v s k in
        append-above done [] (step_at same first second s) v lt
        ∙ h.made v (below-first (start_at first i) (start_at second j) s v e lt) (below-second (start_at first i) (start_at second j) s v e lt)
    here x f g up un low v a b false k =
        let le : s ≤ v = ltb-false v s k in
        append-at done [] (step_at same first second s) v (up-more done s v le low) le
        ∙ ap (λ z. joined same z (bins_at second s)) (sym (steady (behind first i s) first s v le r up a))
        ∙ ap (joined same (bins_at first v)) (sym (steady (behind second j s) second s v le q un b))

-- ---- at the end

pub ends-union : (same : Bool) (first second done : List Step) (i j : ℕ) → IsUnion same first second done i j → earlier (start_at first i) (start_at second j) ≡ None
    → (v : ℕ) → bins_at done v ≡ joined same (bins_at first v) (bins_at second v)
ends-union same first second done i j h e v =
    let n = neither (start_at first i) (start_at second j) e in
    h.made v (subst (IsBelow v) (sym n.0) tt) (subst (IsBelow v) (sym n.1) tt)

-- ---- fewer steps are left

moved : (ts : List Step) (n s : ℕ) → start_at ts n ≡ Some s → (behind ts n s ≡ n + 1) × (n < length ts)
moved ts n s e = go (slice_get ts n) refl e
  where
    go : (o : Option Step) → slice_get ts n ≡ o → option_map start_of o ≡ Some s → ((if begins o s then n + 1 else n) ≡ n + 1) × (n < length ts)
    go None f e = absurd (none_some s e)
    go (Some t) f e = (ap (λ b. if b then n + 1 else n) (eq-eqb t.from s (same_some t.from s e)), slice_get_within ts n t f)

stays : (ts : List Step) (n s : ℕ) → (n ≤ behind ts n s) × (behind ts n s ≤ n + 1)
stays ts n s = go (begins (slice_get ts n) s)
  where
    go : (b : Bool) → (n ≤ (if b then n + 1 else n)) × ((if b then n + 1 else n) ≤ n + 1)
    go true = (omega arith, omega arith)
    go false = (omega arith, omega arith)

pub fewer : (first second : List Step) (i j s : ℕ) → earlier (start_at first i) (start_at second j) ≡ Some s
    → (length first - behind first i s) + (length second - behind second j s) < (length first - i) + (length second - j)
fewer first second i j s e = go (one-of (start_at first i) (start_at second j) s e)
  where
    go : (start_at first i ≡ Some s) ⊎ (start_at second j ≡ Some s) → (length first - behind first i s) + (length second - behind second j s) < (length first - i) + (length second - j)
    go (inl k) =
        let m = moved first i s k in
        let n = stays second j s in
        let a : behind first i s ≡ i + 1 = m.0 in
        let b : i < length first = m.1 in
        let c : j ≤ behind second j s = n.0 in
        omega (arith, a, b, c)
    go (inr k) =
        let m = moved second j s k in
        let n = stays first i s in
        let a : behind second j s ≡ j + 1 = m.0 in
        let b : j < length second = m.1 in
        let c : i ≤ behind first i s = n.0 in
        omega (arith, a, b, c)
