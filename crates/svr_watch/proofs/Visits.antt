-- The visits of a propagation are no more than the literals of the clauses
use Rattle.std.proofs.Common.{◌≡◌, ℕ, suc, zero, ◌+◌, ◌<◌, ◌≤◌, true, false, cond, List, [], ◌∷◌, length, refl, ap, sym, ◌∙◌, arith, Some, None, get_or, drop, map, inl, inr}
use Rattle.std.specs.List.{sum_by, slice_get}
use Rattle.std.proofs.lemmas.Bool.{or_cases, cases_Bool, false≢true, false_from_ne_true}
use Rattle.std.proofs.lemmas.List.Sums.{sum_by-cons}
use Rattle.svr_arena.specs.Layout.{Layout, names}
use Rattle.svr_arena.specs.Arena.{body}
use Rattle.svr_chain.specs.declared.clause.Lit.{Lit}
use Rattle.svr_chain.specs.Clauses.{has, same_lit}
use Rattle.svr_chain.proofs.Sound.{same_lit-true}
use Rattle.svr_watch.specs.declared.store.Held.{Held}
use Rattle.svr_watch.specs.declared.store.Held.TheVariants.{Watched, Apart}
use Rattle.svr_watch.specs.Codes.{lit_of}
use Rattle.svr_watch.specs.Store.{StoreView, IsStore, clauses_of, held_lits, distinct_in, literals_in, one_unless_empty, visits_of, visits_in}
use Rattle.svr_watch.specs.Watch.{literals_of}
use Rattle.svr_watch.proofs.Numbers.{lit_of-apart}
use Rattle.svr_watch.proofs.Bound.{weight, held-weigh}

pub some-one : (xs : List Lit) (x : Lit) → Some x ≡ slice_get xs 0 → one_unless_empty xs ≡ 1
some-one [] x e = absurd (let z : Some x ≡ None = e in cc)
some-one (y ∷ xs) x e = refl

-- the visits at a place and after it
pub visits-next : (hs : List Held) (n : ℕ) (h : Held) → slice_get hs n ≡ Some h → visits_in (drop n hs) ≡ visits_of h + visits_in (drop (n + 1) hs)
visits-next [] n h e = absurd (let z : None ≡ Some h = e in cc)
visits-next (x ∷ hs) zero h e = let q : x ≡ h = (let z : Some x ≡ Some h = e in cc) in sum_by-cons visits_of x hs ∙ ap (λ z. visits_of z + visits_in hs) q
visits-next (x ∷ hs) (suc n) h e = let p : suc n + 1 ≡ suc (n + 1) = omega arith in visits-next hs n h e ∙ ap (λ z. visits_of h + visits_in (drop z (x ∷ hs))) (sym p)

pub visits-less : (hs : List Held) (n : ℕ) → visits_in (drop (n + 1) hs) ≤ visits_in (drop n hs)
visits-less [] n = omega (arith, none n, none (n + 1))
  where
    none : (m : ℕ) → visits_in (drop m []) ≡ 0
    none zero = refl
    none (suc m) = refl
visits-less (x ∷ hs) zero = omega (arith, sum_by-cons visits_of x hs)
visits-less (x ∷ hs) (suc n) = let p : suc n + 1 ≡ suc (n + 1) = omega arith in let q : visits_in (drop (suc n + 1) (x ∷ hs)) ≡ visits_in (drop (n + 1) hs) = ap (λ z. visits_in (drop z (x ∷ hs))) p in let r = visits-less hs n in omega (arith, q, r)

pub visits-all : (hs : List Held) (n : ℕ) → visits_in (drop n hs) ≤ visits_in hs
visits-all hs zero = omega arith
visits-all [] (suc n) = omega arith
visits-all (x ∷ hs) (suc n) = let r = visits-all hs n in omega (arith, r, sum_by-cons visits_of x hs)

-- numbers that are apart make distinct literals
has-none : (xs : List ℕ) (n : ℕ) → ((j : ℕ) → j < length xs → n ≡ get_or xs j 0 → ⊥) → has (map lit_of xs) (lit_of n) ≡ true → ⊥
has-none [] n f h = false≢true h
has-none (x ∷ xs) n f h =
    elim (or_cases (same_lit (lit_of x) (lit_of n)) (has (map lit_of xs) (lit_of n)) h) [
      | inl e ↦ f 0 (omega arith) (sym (lit_of-apart x n (same_lit-true (lit_of x) (lit_of n) e)))
      | inr e ↦ has-none xs n (λ j o. f (suc j) (omega arith)) e
    ]

pub distinct-all : (xs : List ℕ) → ((j k : ℕ) → j < k → k < length xs → get_or xs j 0 ≡ get_or xs k 0 → ⊥) → distinct_in (map lit_of xs) ≡ length xs
distinct-all [] f = refl
distinct-all (x ∷ xs) f =
    let n : has (map lit_of xs) (lit_of x) ≡ false = false_from_ne_true (has (map lit_of xs) (lit_of x)) (has-none xs x (λ j h. f 0 (suc j) (omega arith) (omega arith))) in
    let r = distinct-all xs (λ j k o h. f (suc j) (suc k) (omega arith) (omega arith)) in
    let q : distinct_in (map lit_of (x ∷ xs)) ≡ 1 + distinct_in (map lit_of xs) = ap (λ z. cond z 0 1 + distinct_in (map lit_of xs)) n in
    omega (arith, q, r)

pub distinct-one : (k : List Lit) → one_unless_empty k ≤ distinct_in k
distinct-one [] = omega arith
distinct-one (x ∷ []) = omega arith
distinct-one (x ∷ y ∷ k) =
    let r = distinct-one (y ∷ k) in
    elim (cases_Bool (has (y ∷ k) x)) [
      | inl e ↦ let q : distinct_in (x ∷ y ∷ k) ≡ 0 + distinct_in (y ∷ k) = ap (λ z. cond z 0 1 + distinct_in (y ∷ k)) e in omega (arith, q, r)
      | inr e ↦ let q : distinct_in (x ∷ y ∷ k) ≡ 1 + distinct_in (y ∷ k) = ap (λ z. cond z 0 1 + distinct_in (y ∷ k)) e in omega (arith, q)
    ]

both-weigh : (f : ℕ → ℕ) (a : Layout) (hs : List Held) → ((c : ℕ) → (i : ℕ) → slice_get hs i ≡ Some (Watched c) → f c ≤ distinct_in (held_lits a (Watched c)))
    → sum_by (weight f (λ k. 0)) hs + visits_in hs ≤ literals_in (map (held_lits a) hs)
both-weigh f a [] h = omega arith
both-weigh f a (Watched c ∷ hs) h =
    let r = both-weigh f a hs (λ d i e. h d (suc i) e) in
    let p = h c 0 refl in
    omega (arith, r, p, sum_by-cons (weight f (λ k. 0)) (Watched c) hs, sum_by-cons visits_of (Watched c) hs, sum_by-cons distinct_in (held_lits a (Watched c)) (map (held_lits a) hs))
both-weigh f a (Apart k ∷ hs) h =
    let r = both-weigh f a hs (λ d i e. h d (suc i) e) in
    let p = distinct-one k in
    omega (arith, r, p, sum_by-cons (weight f (λ k. 0)) (Apart k) hs, sum_by-cons visits_of (Apart k) hs, sum_by-cons distinct_in k (map (held_lits a) hs))

-- all visits
pub visits-bound : (s : StoreView) → IsStore s → (n : ℕ) → literals_of s.arena + visits_in (drop n s.held) ≤ literals_in (clauses_of s)
visits-bound s k n =
    let f : ℕ → ℕ = λ c. length (body s.arena c) in
    let a : literals_of s.arena ≤ sum_by (weight (λ c. length (body s.arena c)) (λ k. 0)) s.held = held-weigh (λ c. length (body s.arena c)) (λ k. 0) s.held (names s.arena) k.arena.distinct k.held_at in
    let b = visits-all s.held n in
    let c = both-weigh (λ c. length (body s.arena c)) s.arena s.held
    (λ d i e. let q = distinct-all (body s.arena d) (k.arena.clause d (k.placed i d e)).apart in omega (arith, q)) in
    omega (arith, a, b, c)
