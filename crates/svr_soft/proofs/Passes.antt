-- The pass, one soft literal at a time
use Rattle.std.proofs.Common.{◌≡◌, ℕ, suc, zero, ◌+◌, ◌-◌, ◌<◌, ◌≤◌, Bool, true, false, ◌&&◌, ◌||◌, nat_eq, nat_lt, List, [], ◌∷◌, ◌++◌, length, map, filter, refl, ap, sym, ◌∙◌, subst, arith, get_or, take, All, inl, inr, append-nil}
use Rattle.std.specs.List.{list_all}
use Rattle.std.proofs.lemmas.Bool.{and_from, or_left, or_right, both_ways, false_from_ne_true, false≢true, cases_lt, cond-true, cond-false, ne_eqb}
use Rattle.std.proofs.lemmas.List.{take-take, length_push, get_or_append_left, get_or_at}
use Rattle.std.proofs.lemmas.List.Elements.{All-head, All-tail, All-push, filter-append}
use Rattle.std.proofs.lemmas.List.Folds.{list_any-append, list_all-append}
use Rattle.svr_chain.specs.declared.clause.Lit.{Lit}
use Rattle.svr_chain.specs.Views.{RefutationView}
use Rattle.svr_chain.specs.Clauses.{same_lit, flip, has, is_within, is_tautology, IsWithin, AreWithin}
use Rattle.svr_chain.specs.Lists.{is_among}
use Rattle.svr_chain.specs.Valuations.{lit_value, Meets, HaveNoValuation}
use Rattle.svr_chain.proofs.Same.{all-has, all-from, any-has, any-some, has-at}
use Rattle.svr_chain.proofs.ClauseLemmas.{All-has}
use Rattle.svr_chain.proofs.ListsLemmas.{among-push, among-last}
use Rattle.svr_query.specs.Answer.{IsRefutation}
use Rattle.svr_soft.specs.Kept.{HaveValuation, lit_at, with_kept, assumed_at, AreRanks, IsKept, rank_of, AreDropped, ranks_to}

pub lit_at-next : (soft : List Lit) (i : ℕ) → lit_at soft (i + 1) ≡ get_or soft i (record { var = 0; neg = false })
lit_at-next soft i = let n : i + 1 - 1 ≡ i = omega arith in ap (λ z. get_or soft z (record { var = 0; neg = false })) n

-- literals among others that are apart are apart
pub apart-within : (c d : List Lit) → is_within c d ≡ true → is_tautology d ≡ false → is_tautology c ≡ false
apart-within c d w t =
    false_from_ne_true (is_tautology c) (λ h.
    let r = any-some (λ x. has c (flip x)) c h in
    both_ways (is_tautology d) t (any-has (λ x. has d (flip x)) d r.0 (all-has (λ x. has d x) c r.0 w r.1) (all-has (λ x. has d x) c (flip r.0) w r.2)))

pub within-among : (vars : ℕ) (c d : List Lit) → is_within c d ≡ true → AreWithin vars d → AreWithin vars c
within-among vars c d w a = λ k e h. All-has (IsWithin vars) d (get_or c k e) a (all-has (λ x. has d x) c (get_or c k e) w (has-at c k e h))

has-right : (c d : List Lit) (x : Lit) → has d x ≡ true → has (c ++ d) x ≡ true
has-right c d x h = list_any-append (λ y. same_lit y x) c d ∙ or_right (has c x) (has d x) h

pub within-left : (c d : List Lit) → is_within c (c ++ d) ≡ true
within-left c d = all-from (λ x. has (c ++ d) x) c (λ x h. list_any-append (λ y. same_lit y x) c d ∙ or_left (has c x) (has d x) h)

within-push : (c d : List Lit) (x : Lit) → is_within c d ≡ true → has d x ≡ true → is_within (c ++ x ∷ []) d ≡ true
within-push c d x w h =
    list_all-append (λ y. has d y) c (x ∷ []) ∙ and_from (is_within c d) (has d x && true) w (and_from (has d x) true h refl)

-- the literal of a rank is a soft one
has-lit_at : (base soft : List Lit) (r : ℕ) → 0 < r → r ≤ length soft → has (base ++ soft) (lit_at soft r) ≡ true
has-lit_at base soft r p h = has-right base soft (lit_at soft r) (has-at soft (r - 1) (record { var = 0; neg = false }) (omega (arith, p, h)))

module _ (base soft : List Lit) (n : ℕ) (o : n ≤ length soft) where
  within-kept : (d : List Lit) (kept : List ℕ) → is_within d (base ++ soft) ≡ true → All (λ r. (0 < r) × (r ≤ n)) kept → is_within (d ++ map (lit_at soft) kept) (base ++ soft) ≡ true
  within-kept d kept w a =
      list_all-append (λ y. has (base ++ soft) y) d (map (lit_at soft) kept)
      ∙ and_from (is_within d (base ++ soft)) (is_within (map (lit_at soft) kept) (base ++ soft)) w (each kept a)
    where
      each : (ks : List ℕ) → All (λ r. (0 < r) × (r ≤ n)) ks → is_within (map (lit_at soft) ks) (base ++ soft) ≡ true
      each [] a = refl
      each (k ∷ ks) a =
          let b = All-head (λ r. (0 < r) × (r ≤ n)) k ks a in
          let b0 : 0 < k = b.0 in
          let b1 : k ≤ n = b.1 in
          and_from (has (base ++ soft) (lit_at soft k)) (is_within (map (lit_at soft) ks) (base ++ soft)) (has-lit_at base soft k b0 (omega (arith, b1, o)))
          (each ks (All-tail (λ r. (0 < r) × (r ≤ n)) k ks a))

  -- the base and the kept literals are among the base and the soft ones
  pub within-with_kept : (kept : List ℕ) → AreRanks n kept → is_within (with_kept base soft kept) (base ++ soft) ≡ true
  within-with_kept kept a = within-kept base kept (within-left base soft) a.within

  -- and so with the literal of one rank more
  pub within-next : (kept : List ℕ) → AreRanks n kept → n < length soft → is_within (with_kept base soft kept ++ lit_at soft (n + 1) ∷ []) (base ++ soft) ≡ true
  within-next kept a h = within-push (with_kept base soft kept) (base ++ soft) (lit_at soft (n + 1)) (within-with_kept kept a) (has-lit_at base soft (n + 1) (omega arith) (omega (arith, h)))

-- below a rank above all of them stand all ranks
below-all : (n r : ℕ) (kept : List ℕ) → All (λ k. (0 < k) × (k ≤ n)) kept → n < r → filter (λ k. nat_lt k r) kept ≡ kept
below-all n r [] a h = refl
below-all n r (k ∷ kept) a h =
    let b : k ≤ n = (All-head (λ j. (0 < j) × (j ≤ n)) k kept a).1 in
    let t : nat_lt k r ≡ true = lt-true k r (omega (arith, b, h)) in
    cond-true (nat_lt k r) (k ∷ filter (λ j. nat_lt j r) kept) (filter (λ j. nat_lt j r) kept) t
    ∙ ap (λ z. k ∷ z) (below-all n r kept (All-tail (λ j. (0 < j) × (j ≤ n)) k kept a) h)
  where
    lt-true : (i j : ℕ) → i < j → nat_lt i j ≡ true
    lt-true i j h = grind arith

-- a later rank stands below none of the earlier ones
below-push : (r k : ℕ) (kept : List ℕ) → r ≤ k → filter (λ j. nat_lt j r) (kept ++ k ∷ []) ≡ filter (λ j. nat_lt j r) kept
below-push r k kept h =
    let f : nat_lt k r ≡ false = lt-false k r h in
    filter-append (λ j. nat_lt j r) kept (k ∷ [])
    ∙ (ap (λ z. filter (λ j. nat_lt j r) kept ++ z) (cond-false (nat_lt k r) (k ∷ []) [] f) ∙ append-nil (filter (λ j. nat_lt j r) kept))
  where
    lt-false : (i j : ℕ) → j ≤ i → nat_lt i j ≡ false
    lt-false i j h = grind arith

    append-nil : (xs : List ℕ) → xs ++ [] ≡ xs
    append-nil [] = refl
    append-nil (x ∷ xs) = ap (λ z. x ∷ z) (append-nil xs)

pub assumed-next : (base soft : List Lit) (n : ℕ) (kept : List ℕ) → AreRanks n kept → assumed_at base soft kept (n + 1) ≡ with_kept base soft kept ++ lit_at soft (n + 1) ∷ []
assumed-next base soft n kept a = ap (λ z. with_kept base soft z ++ lit_at soft (n + 1) ∷ []) (below-all n (n + 1) kept a.within (omega arith))

assumed-push : (base soft : List Lit) (r k : ℕ) (kept : List ℕ) → r ≤ k → assumed_at base soft (kept ++ k ∷ []) r ≡ assumed_at base soft kept r
assumed-push base soft r k kept h = ap (λ z. with_kept base soft z ++ lit_at soft r ∷ []) (below-push r k kept h)

not-among : (n : ℕ) (xs : List ℕ) → All (λ k. (0 < k) × (k ≤ n)) xs → is_among (n + 1) xs ≡ false
not-among n [] a = refl
not-among n (x ∷ xs) a =
    let b : x ≤ n = (All-head (λ j. (0 < j) × (j ≤ n)) x xs a).1 in
    let f : nat_eq x (n + 1) ≡ false = ne_eqb x (n + 1) (λ e. absurd (omega (arith, b, e))) in
    ap (λ z. z || is_among (n + 1) xs) f ∙ not-among n xs (All-tail (λ j. (0 < j) × (j ≤ n)) x xs a)

-- ranks, one more
ranks-push : (n : ℕ) (xs : List ℕ) → AreRanks n xs → AreRanks (n + 1) (xs ++ (n + 1) ∷ [])
ranks-push n xs a = record {
  within = All-push (λ r. (0 < r) × (r ≤ n + 1)) xs (n + 1) (λ k d h. let b = a.within k d h in let c : get_or xs k d ≤ n = b.1 in (b.0, omega (arith, c))) (omega arith, omega arith);
  rising = λ k h.
      let l = length_push xs (n + 1) in
      let low : k < length xs = omega (arith, l, h) in
      let x : get_or (xs ++ (n + 1) ∷ []) k 0 ≡ get_or xs k 0 = get_or_append_left xs ((n + 1) ∷ []) 0 k low in
      elim (cases_lt (k + 1) (length xs)) [
        | inl q ↦
            let y : get_or (xs ++ (n + 1) ∷ []) (k + 1) 0 ≡ get_or xs (k + 1) 0 = get_or_append_left xs ((n + 1) ∷ []) 0 (k + 1) q in
            omega (arith, x, y, a.rising k q)
        | inr q ↦
            let e : length xs ≡ k + 1 = omega (arith, q, low) in
            let y : get_or (xs ++ (n + 1) ∷ []) (k + 1) 0 ≡ n + 1 = get_or_at xs (n + 1) [] 0 (k + 1) e in
            let b : get_or xs k 0 ≤ n = (a.within k 0 low).1 in
            omega (arith, x, y, b)
      ];
}

ranks-more : (n : ℕ) (xs : List ℕ) → AreRanks n xs → AreRanks (n + 1) xs
ranks-more n xs a = record { within = λ k d h. let b = a.within k d h in let c : get_or xs k d ≤ n = b.1 in (b.0, omega (arith, c)); rising = a.rising }

ranks-none : AreRanks 0 []
ranks-none = record { within = λ k d h. absurd (omega (arith, h)); rising = λ k h. absurd (omega (arith, h)) }

-- of no rank nothing is kept
pub kept-none : (ks : List (List Lit)) (base soft : List Lit) → IsKept ks base soft 0 []
kept-none ks base soft = record { ranks = ranks-none; stands = λ r p h a. absurd (omega (arith, p, h)); falls = λ r p h a. absurd (omega (arith, p, h)) }

pub dropped-none : (ks : List (List Lit)) (base soft : List Lit) → AreDropped ks base soft 0 [] []
dropped-none ks base soft = record { ranks = ranks-none; all = λ r p h a. absurd (omega (arith, p, h)); refuted = λ k d h. absurd (omega (arith, h)) }

module _ (ks : List (List Lit)) (base soft : List Lit) (n : ℕ) (kept : List ℕ) where
  among-less : (r : ℕ) → r ≤ n → is_among r (kept ++ (n + 1) ∷ []) ≡ is_among r kept
  among-less r h =
      let f : nat_eq (n + 1) r ≡ false = ne_eqb (n + 1) r (λ e. absurd (omega (arith, h, e))) in
      among-push r kept (n + 1) ∙ (ap (λ z. is_among r kept || (z || false)) f ∙ or_false (is_among r kept))
    where
      or_false : (b : Bool) → (b || false) ≡ b
      or_false true = refl
      or_false false = refl

  -- the next literal is kept
  pub kept-push : IsKept ks base soft n kept → HaveValuation ks (with_kept base soft kept ++ lit_at soft (n + 1) ∷ []) → IsKept ks base soft (n + 1) (kept ++ (n + 1) ∷ [])
  kept-push k v = record {
    ranks = ranks-push n kept k.ranks;
    stands = λ r p h a. elim (cases_lt n r) [
      | inl q ↦
          let e : n + 1 ≡ r = omega (arith, h, q) in
          subst (λ z. HaveValuation ks (assumed_at base soft (kept ++ (n + 1) ∷ []) z)) e
          (subst (HaveValuation ks) (sym (assumed-push base soft (n + 1) (n + 1) kept (omega arith) ∙ assumed-next base soft n kept k.ranks)) v)
      | inr q ↦ subst (HaveValuation ks) (sym (assumed-push base soft r (n + 1) kept (omega (arith, q)))) (k.stands r p q (sym (among-less r q) ∙ a))
    ];
    falls = λ r p h a. elim (cases_lt n r) [
      | inl q ↦
          let e : n + 1 ≡ r = omega (arith, h, q) in
          absurd (both_ways (is_among r (kept ++ (n + 1) ∷ [])) a (subst (λ z. is_among z (kept ++ (n + 1) ∷ []) ≡ true) e (among-last (n + 1) kept)))
      | inr q ↦ subst (HaveNoValuation ks) (sym (assumed-push base soft r (n + 1) kept (omega (arith, q)))) (k.falls r p q (sym (among-less r q) ∙ a))
    ];
  }

  pub dropped-same : (dropped : List (ℕ × RefutationView)) → AreDropped ks base soft n kept dropped → AreDropped ks base soft (n + 1) (kept ++ (n + 1) ∷ []) dropped
  dropped-same dropped d = record {
    ranks = ranks-more n (map rank_of dropped) d.ranks;
    all = λ r p h a. elim (cases_lt n r) [
      | inl q ↦
          let e : n + 1 ≡ r = omega (arith, h, q) in
          absurd (both_ways (is_among r (kept ++ (n + 1) ∷ [])) a (subst (λ z. is_among z (kept ++ (n + 1) ∷ []) ≡ true) e (among-last (n + 1) kept)))
      | inr q ↦ d.all r p q (sym (among-less r q) ∙ a)
    ];
    refuted = λ i e h.
        let x : ℕ × RefutationView = get_or dropped i e in
        let b : rank_of x ≤ n = mapped i e h in
        let w = d.refuted i e h in
        (among-less (rank_of x) b ∙ w.0, subst (λ z. IsRefutation ks z x.1) (sym (assumed-push base soft (rank_of x) (n + 1) kept (omega (arith, b)))) w.1);
  }
    where
      mapped : (i : ℕ) (e : ℕ × RefutationView) → i < length dropped → rank_of (get_or dropped i e) ≤ n
      mapped i e h = at dropped d.ranks.within i e h
        where
          at : (xs : List (ℕ × RefutationView)) → All (λ r. (0 < r) × (r ≤ n)) (map rank_of xs) → (i : ℕ) (e : ℕ × RefutationView) → i < length xs → rank_of (get_or xs i e) ≤ n
          at [] a i e h = absurd (omega (arith, h))
          at (x ∷ xs) a zero e h = (All-head (λ r. (0 < r) × (r ≤ n)) (rank_of x) (map rank_of xs) a).1
          at (x ∷ xs) a (suc i) e h = at xs (All-tail (λ r. (0 < r) × (r ≤ n)) (rank_of x) (map rank_of xs) a) i e (omega (arith, h))

  -- the next literal is dropped
  pub kept-same : IsKept ks base soft n kept → HaveNoValuation ks (with_kept base soft kept ++ lit_at soft (n + 1) ∷ []) → IsKept ks base soft (n + 1) kept
  kept-same k v = record {
    ranks = ranks-more n kept k.ranks;
    stands = λ r p h a. elim (cases_lt n r) [
      | inl q ↦
          let e : n + 1 ≡ r = omega (arith, h, q) in
          absurd (both_ways (is_among r kept) (subst (λ z. is_among z kept ≡ false) e (not-among n kept k.ranks.within)) a)
      | inr q ↦ k.stands r p q a
    ];
    falls = λ r p h a. elim (cases_lt n r) [
      | inl q ↦
          let e : n + 1 ≡ r = omega (arith, h, q) in
          subst (λ z. HaveNoValuation ks (assumed_at base soft kept z)) e (subst (HaveNoValuation ks) (sym (assumed-next base soft n kept k.ranks)) v)
      | inr q ↦ k.falls r p q a
    ];
  }

  pub dropped-push : (dropped : List (ℕ × RefutationView)) (log : RefutationView) → IsKept ks base soft n kept → AreDropped ks base soft n kept dropped
      → IsRefutation ks (with_kept base soft kept ++ lit_at soft (n + 1) ∷ []) log → AreDropped ks base soft (n + 1) kept (dropped ++ (n + 1, log) ∷ [])
  dropped-push dropped log k d f =
      let x : ℕ × RefutationView = (n + 1, log) in
      let m : map rank_of (dropped ++ x ∷ []) ≡ map rank_of dropped ++ (n + 1) ∷ [] = map-push dropped x in
      let g : IsRefutation ks (assumed_at base soft kept (n + 1)) log = subst (λ z. IsRefutation ks z log) (sym (assumed-next base soft n kept k.ranks)) f in
      record {
        ranks = subst (AreRanks (n + 1)) (sym m) (ranks-push n (map rank_of dropped) d.ranks);
        all = λ r p h a. ap (is_among r) m ∙ (elim (cases_lt n r) [
          | inl q ↦
              let e : n + 1 ≡ r = omega (arith, h, q) in
              subst (λ z. is_among z (map rank_of dropped ++ (n + 1) ∷ []) ≡ true) e (among-last (n + 1) (map rank_of dropped))
          | inr q ↦ among-push r (map rank_of dropped) (n + 1) ∙ or_left (is_among r (map rank_of dropped)) (nat_eq (n + 1) r || false) (d.all r p q a)
        ]);
        refuted = All-push (λ y. (is_among (rank_of y) kept ≡ false) × IsRefutation ks (assumed_at base soft kept (rank_of y)) y.1) dropped x d.refuted (not-among n kept k.ranks.within, g);
      }
    where
      map-push : (xs : List (ℕ × RefutationView)) (y : ℕ × RefutationView) → map rank_of (xs ++ y ∷ []) ≡ map rank_of xs ++ rank_of y ∷ []
      map-push [] y = refl
      map-push (x ∷ xs) y = ap (λ z. rank_of x ∷ z) (map-push xs y)

-- one kept literal more is one assumed literal more
pub with_kept-push : (base soft : List Lit) (kept : List ℕ) (r : ℕ) → with_kept base soft (kept ++ r ∷ []) ≡ with_kept base soft kept ++ lit_at soft r ∷ []
with_kept-push base soft kept r = ap (λ z. base ++ z) (map-push kept) ∙ append_assoc base (map (lit_at soft) kept) (lit_at soft r ∷ [])
  where
    map-push : (xs : List ℕ) → map (lit_at soft) (xs ++ r ∷ []) ≡ map (lit_at soft) xs ++ lit_at soft r ∷ []
    map-push [] = refl
    map-push (x ∷ xs) = ap (λ z. lit_at soft x ∷ z) (map-push xs)

    append_assoc : (xs ys zs : List Lit) → xs ++ (ys ++ zs) ≡ (xs ++ ys) ++ zs
    append_assoc [] ys zs = refl
    append_assoc (x ∷ xs) ys zs = ap (λ z. x ∷ z) (append_assoc xs ys zs)

-- what makes the base and all soft literals true keeps them all
module _ (ks : List (List Lit)) (base soft : List Lit) (a : ℕ → Bool) (m : Meets a ks) (t : list_all (lit_value a) (base ++ soft) ≡ true) where
  part-true : (c : List Lit) → is_within c (base ++ soft) ≡ true → list_all (lit_value a) c ≡ true
  part-true c w = all-from (lit_value a) c (λ x h. all-has (lit_value a) (base ++ soft) x t (all-has (λ y. has (base ++ soft) y) c x w h))

  all-kept : (n : ℕ) → n ≤ length soft → IsKept ks base soft n (ranks_to n)
  all-kept zero o = kept-none ks base soft
  all-kept (suc n) o =
      let k : IsKept ks base soft n (ranks_to n) = all-kept n (omega (arith, o)) in
      let w : is_within (with_kept base soft (ranks_to n) ++ lit_at soft (n + 1) ∷ []) (base ++ soft) ≡ true = within-next base soft n (omega (arith, o)) (ranks_to n) k.ranks (omega (arith, o)) in
      let e : n + 1 ≡ suc n = omega arith in
      subst (λ z. IsKept ks base soft z (ranks_to n ++ (n + 1) ∷ [])) e (kept-push ks base soft n (ranks_to n) k (a, m, part-true _ w))

  all-dropped : (n : ℕ) → AreDropped ks base soft n (ranks_to n) []
  all-dropped zero = dropped-none ks base soft
  all-dropped (suc n) = let e : n + 1 ≡ suc n = omega arith in subst (λ z. AreDropped ks base soft z (ranks_to n ++ (n + 1) ∷ []) []) e (dropped-same ks base soft n (ranks_to n) [] (all-dropped n))

  pub all-end-kept : IsKept ks base soft (length soft) (ranks_to (length soft))
  all-end-kept = all-kept (length soft) (omega arith)

  pub all-end-dropped : AreDropped ks base soft (length soft) (ranks_to (length soft)) []
  all-end-dropped = all-dropped (length soft)

  pub all-end-true : list_all (lit_value a) (with_kept base soft (ranks_to (length soft))) ≡ true
  all-end-true = part-true _ (within-with_kept base soft (length soft) (omega arith) (ranks_to (length soft)) all-end-kept.ranks)

len-take-le : {X : Type 0} (n : ℕ) (ys : List X) → length (take n ys) ≤ length ys
len-take-le zero ys = omega arith
len-take-le (suc n) [] = omega arith
len-take-le (suc n) (y ∷ ys) = omega (arith, len-take-le n ys)

pub longer-from : {X : Type 0} (xs ys : List X) → take (length xs) ys ≡ xs → length xs ≤ length ys
longer-from xs ys h = let e : length (take (length xs) ys) ≡ length xs = ap length h in omega (arith, len-take-le (length xs) ys)

-- what begins with what begins with xs begins with xs
pub begins-then : {X : Type 0} (xs ys zs : List X) → take (length xs) ys ≡ xs → take (length ys) zs ≡ ys → take (length xs) zs ≡ xs
begins-then xs ys zs h g =
    let o : length xs ≤ length ys = longer-from xs ys h in
    sym (take-take (length xs) (length ys) zs o) ∙ (ap (take (length xs)) g ∙ h)

-- where there is no soft literal the base is all
pub alone : (base soft : List Lit) → length soft ≡ 0 → base ++ soft ≡ base
alone base [] e = append-nil base
alone base (l ∷ soft) e = absurd (cc)
