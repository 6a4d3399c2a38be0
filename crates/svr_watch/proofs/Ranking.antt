-- The literals of a learned clause in the order in which they became false
use Rattle.std.proofs.Common.{◌≡◌, ℕ, suc, zero, ◌+◌, ◌<◌, ◌≤◌, Bool, true, false, ◌||◌, nat_lt, List, [], ◌∷◌, ◌++◌, length, refl, ap, sym, ◌∙◌, subst, arith, Option, Some, None, get_or, take, map, inl, inr}
use Rattle.std.specs.Prelude.{IfSome, IfNone}
use Rattle.std.specs.List.{swap, list_all}
use Rattle.std.proofs.lemmas.Bool.{or_cases, or_left, or_right, both_ways, cases_Bool, cases_eq, cases_lt, ltb-true, lt-ltb}
use Rattle.std.proofs.lemmas.List.{take_all}
use Rattle.std.proofs.lemmas.List.Edits.{length-swap}
use Rattle.std.proofs.lemmas.List.Sorted.{IsPermutation-swap}
use Rattle.svr_arena.specs.Layout.{Layout, IsExchanged}
use Rattle.svr_arena.specs.Arena.{AreLits, body}
use Rattle.svr_arena.proofs.Bodies.{swap-at}
use Rattle.svr_chain.specs.declared.clause.Lit.{Lit}
use Rattle.svr_chain.specs.Clauses.{same_lit}
use Rattle.svr_chain.specs.Same.{SameLits}
use Rattle.svr_chain.proofs.Same.{lit-self, all-has}
use Rattle.svr_chain.proofs.Sound.{same_lit-true}
use Rattle.svr_trail.specs.declared.Entry.{Entry}
use Rattle.svr_trail.specs.Trail.{value_in, is_false, IsUnit}
use Rattle.svr_watch.specs.Codes.{lit_of}
use Rattle.svr_watch.specs.Store.{watch}
use Rattle.svr_watch.specs.Watch.{IsRanked, IsLatest, IsReady, IsWatched, is_false_by, after_force}
use Rattle.svr_watch.proofs.Numbers.{lit_of-apart}
use Rattle.svr_watch.proofs.Keeping.{same-permuted}
use Rattle.svr_watch.proofs.Values.{false-whole, watched-true_0, watched-open, value-put}
use Rattle.svr_watch.proofs.Visit.{all-places, has-place}

-- the order of two literals, by where they became false
pub later-order : (es : List Entry) (x y f g : ℕ) → ((h : ℕ) → h ≤ length es → is_false (value_in (take h es) (lit_of x)) ≡ nat_lt f h)
    → ((h : ℕ) → h ≤ length es → is_false (value_in (take h es) (lit_of y)) ≡ nat_lt g h) → g ≤ f → (h : ℕ) → is_false_by es h x ≡ true → is_false_by es h y ≡ true
later-order es x y f g a b o h q =
    elim (cases_lt (length es) h) [
      | inl p ↦
          let e : take h es ≡ es = take_all h es (omega arith) in
          let r : take (length es) es ≡ es = take_all (length es) es (omega arith) in
          let q' : is_false (value_in (take (length es) es) (lit_of x)) ≡ true = ap (λ z. is_false (value_in z (lit_of x))) (r ∙ sym e) ∙ q in
          ap (λ z. is_false (value_in z (lit_of y))) (e ∙ sym r) ∙ within (length es) (omega arith) q'
      | inr p ↦ within h p q
    ]
  where
    within : (h : ℕ) → h ≤ length es → is_false (value_in (take h es) (lit_of x)) ≡ true → is_false (value_in (take h es) (lit_of y)) ≡ true
    within h p q = let z = ltb-true f h (sym (a h p) ∙ q) in b h p ∙ lt-ltb g h (omega arith)

-- one place more
pub latest-old : (es : List Entry) (xs : List ℕ) (low high best : ℕ) → IsLatest es xs low high best
    → ((h : ℕ) → is_false_by es h (get_or xs best 0) ≡ true → is_false_by es h (get_or xs high 0) ≡ true) → IsLatest es xs low (high + 1) best
latest-old es xs low high best l f h j a b q =
    elim (cases_lt j high) [
      | inl p ↦ l h j a p q
      | inr p ↦ let e : j ≡ high = omega arith in ap (λ z. is_false_by es h (get_or xs z 0)) e ∙ f h q
    ]

pub latest-new : (es : List Entry) (xs : List ℕ) (low high best : ℕ) → IsLatest es xs low high best
    → ((h : ℕ) → is_false_by es h (get_or xs high 0) ≡ true → is_false_by es h (get_or xs best 0) ≡ true) → IsLatest es xs low (high + 1) high
latest-new es xs low high best l f h j a b q =
    elim (cases_lt j high) [
      | inl p ↦ l h j a p (f h q)
      | inr p ↦ let e : j ≡ high = omega arith in ap (λ z. is_false_by es h (get_or xs z 0)) e ∙ q
    ]

pub latest-start : (es : List Entry) (xs : List ℕ) (low : ℕ) → IsLatest es xs low (low + 1) low
latest-start es xs low h j a b q = let e : j ≡ low = omega arith in ap (λ z. is_false_by es h (get_or xs z 0)) e ∙ q

-- exchanges
exchanged-apart : (j k x y z w : ℕ) → IsExchanged j k x z → IsExchanged j k y w → z ≡ w → x ≡ y
exchanged-apart j k x y z w a b e =
    elim a [
      | inl p ↦ elim b [
        | inl q ↦ p.0 ∙ sym q.0
        | inr s ↦ elim s [
          | inl q ↦ let u : k ≡ j = sym p.1 ∙ (e ∙ q.1) in p.0 ∙ (sym u ∙ sym q.0)
          | inr q ↦ absurd (q.1 (sym q.2 ∙ (sym e ∙ p.1)))
        ]
      ]
      | inr r ↦ elim r [
        | inl p ↦ elim b [
          | inl q ↦ let u : j ≡ k = sym p.1 ∙ (e ∙ q.1) in p.0 ∙ (sym u ∙ sym q.0)
          | inr s ↦ elim s [
            | inl q ↦ p.0 ∙ sym q.0
            | inr q ↦ absurd (q.0 (sym q.2 ∙ (sym e ∙ p.1)))
          ]
        ]
        | inr p ↦ elim b [
          | inl q ↦ absurd (p.1 (sym p.2 ∙ (e ∙ q.1)))
          | inr s ↦ elim s [
            | inl q ↦ absurd (p.0 (sym p.2 ∙ (e ∙ q.1)))
            | inr q ↦ sym p.2 ∙ (e ∙ q.2)
          ]
        ]
      ]
    ]

exchanged-within : (j k x z n : ℕ) → IsExchanged j k x z → j < n → k < n → x < n → z < n
exchanged-within j k x z n a p q r = elim a [ inl y ↦ omega (arith, y.1) | inr s ↦ elim s [ inl y ↦ omega (arith, y.1) | inr y ↦ omega (arith, y.2) ] ]

pub lits-swap : (n : ℕ) (xs : List ℕ) (j k : ℕ) → j < length xs → k < length xs → AreLits n xs → AreLits n (swap xs j k)
lits-swap n xs j k p q a =
    let m : length (swap xs j k) ≡ length xs = length-swap xs j k in
    record {
      two = let t = a.two in omega arith;
      below = λ x h.
          let z = swap-at xs j k x p q in
          let o : z.0 < length xs = exchanged-within j k x z.0 (length xs) z.1 p q (omega arith) in
          subst (λ y. y < n) (sym z.2) (a.below z.0 o);
      apart = λ x y o h e.
          let z = swap-at xs j k x p q in
          let w = swap-at xs j k y p q in
          let oz : z.0 < length xs = exchanged-within j k x z.0 (length xs) z.1 p q (omega arith) in
          let ow : w.0 < length xs = exchanged-within j k y w.0 (length xs) w.1 p q (omega arith) in
          let f : get_or xs z.0 0 ≡ get_or xs w.0 0 = sym z.2 ∙ (e ∙ w.2) in
          elim (cases_lt z.0 w.0) [
            | inl r ↦ a.apart z.0 w.0 r ow f
            | inr r ↦ elim (cases_eq z.0 w.0) [
              | inl s ↦ let t : x ≡ y = exchanged-apart j k x y z.0 w.0 z.1 w.1 s in omega arith
              | inr s ↦ a.apart w.0 z.0 (omega arith) oz (sym f)
            ]
          ];
    }

-- the place to which the exchange brings another
swap-first : (xs : List ℕ) (j k : ℕ) → j < length xs → k < length xs → get_or (swap xs j k) j 0 ≡ get_or xs k 0
swap-first xs j k p q =
    let z = swap-at xs j k j p q in
    let e : z.0 ≡ k = elim z.1 [ inl y ↦ y.1 | inr s ↦ elim s [ inl y ↦ y.1 ∙ y.0 | inr y ↦ absurd (y.0 refl) ] ] in
    z.2 ∙ ap (λ v. get_or xs v 0) e

module _ (es : List Entry) (xs : List ℕ) (p q : ℕ) (two : 2 ≤ length xs) (hp : p < length xs) (first : IsLatest es xs 0 (length xs) p) (low : 1 ≤ q) (hq : q < length (swap xs 0 p))
    (second : IsLatest es (swap xs 0 p) 1 (length (swap xs 0 p)) q) where
  n1 : length (swap xs 0 p) ≡ length xs
  n1 = length-swap xs 0 p

  -- the first literal of all became false last
  first-all : (h j : ℕ) → j < length xs → is_false_by es h (get_or (swap xs 0 p) 0 0) ≡ true → is_false_by es h (get_or (swap xs 0 p) j 0) ≡ true
  first-all h j b f =
      let z = swap-at xs 0 p j (omega arith) hp in
      let o : z.0 < length xs = exchanged-within 0 p j z.0 (length xs) z.1 (omega arith) hp b in
      let f' : is_false_by es h (get_or xs p 0) ≡ true = ap (is_false_by es h) (sym (swap-first xs 0 p (omega arith) hp)) ∙ f in
      ap (is_false_by es h) z.2 ∙ first h z.0 (omega arith) o f'

  kept : get_or (swap (swap xs 0 p) 1 q) 0 0 ≡ get_or (swap xs 0 p) 0 0
  kept =
      let z = swap-at (swap xs 0 p) 1 q 0 (omega arith) hq in
      let e : z.0 ≡ 0 = elim z.1 [ inl y ↦ absurd (let v = y.0 in omega arith) | inr s ↦ elim s [ inl y ↦ absurd (let v = y.0 in omega arith) | inr y ↦ y.2 ] ] in
      z.2 ∙ ap (λ v. get_or (swap xs 0 p) v 0) e

  pub ranked : IsRanked es (swap (swap xs 0 p) 1 q)
  ranked =
      let one : get_or (swap (swap xs 0 p) 1 q) 1 0 ≡ get_or (swap xs 0 p) q 0 = swap-first (swap xs 0 p) 1 q (omega arith) hq in
      record {
        first = λ h f.
            let f' : is_false_by es h (get_or (swap xs 0 p) 0 0) ≡ true = ap (is_false_by es h) (sym kept) ∙ f in
            let hq' : q < length xs = omega (arith, n1, hq) in
            ap (is_false_by es h) one ∙ first-all h q hq' f';
        rest = λ h j f a b.
            let f' : is_false_by es h (get_or (swap xs 0 p) q 0) ≡ true = ap (is_false_by es h) (sym one) ∙ f in
            let n2 : length (swap (swap xs 0 p) 1 q) ≡ length (swap xs 0 p) = length-swap (swap xs 0 p) 1 q in
            let z = swap-at (swap xs 0 p) 1 q j (omega arith) hq in
            let o : z.0 < length (swap xs 0 p) = exchanged-within 1 q j z.0 (length (swap xs 0 p)) z.1 (omega arith) hq (omega arith) in
            let m : 1 ≤ z.0 = elim z.1 [ inl y ↦ omega (arith, y.1, low) | inr s ↦ elim s [ inl y ↦ omega (arith, y.1) | inr y ↦ omega (arith, y.2, a) ] ] in
            ap (is_false_by es h) z.2 ∙ second h z.0 m o f';
      }

  pub rank-lits : (n : ℕ) → AreLits n xs → AreLits n (swap (swap xs 0 p) 1 q)
  rank-lits n a = lits-swap n (swap xs 0 p) 1 q (omega arith) hq (lits-swap n xs 0 p (omega arith) hp a)

  pub rank-same : SameLits (map lit_of (swap (swap xs 0 p) 1 q)) (map lit_of xs)
  rank-same x =
      sym (same-permuted (swap xs 0 p) (swap (swap xs 0 p) 1 q) (IsPermutation-swap (swap xs 0 p) (swap (swap xs 0 p) 1 q) 1 q (omega arith) hq refl) x)
      ∙ sym (same-permuted xs (swap xs 0 p) (IsPermutation-swap xs (swap xs 0 p) 0 p (omega arith) hp refl) x)

-- what a clause of ranked literals forces
module _ (es : List Entry) (xs : List ℕ) (r : IsRanked es xs) (two : 2 ≤ length xs) where
  whole : take (length es) es ≡ es
  whole = take_all (length es) es (omega arith)

  rest-now : is_false (value_in es (lit_of (get_or xs 1 0))) ≡ true → (j : ℕ) → 2 ≤ j → j < length xs → is_false (value_in es (lit_of (get_or xs j 0))) ≡ true
  rest-now f j a b =
      ap (λ z. is_false (value_in z (lit_of (get_or xs j 0)))) (sym whole)
      ∙ r.rest (length es) j (ap (λ z. is_false (value_in z (lit_of (get_or xs 1 0)))) whole ∙ f) a b

  second-now : is_false (value_in es (lit_of (get_or xs 0 0))) ≡ true → is_false (value_in es (lit_of (get_or xs 1 0))) ≡ true
  second-now f =
      ap (λ z. is_false (value_in z (lit_of (get_or xs 1 0)))) (sym whole) ∙ r.first (length es) (ap (λ z. is_false (value_in z (lit_of (get_or xs 0 0)))) whole ∙ f)

  pub unit-first : value_in es (lit_of (get_or xs 0 0)) ≡ None → is_false (value_in es (lit_of (get_or xs 1 0))) ≡ true → IsUnit es (map lit_of xs) (lit_of (get_or xs 0 0))
  unit-first v f = (v, has-place xs 0 (omega arith), all-places (λ x. same_lit x (lit_of (get_or xs 0 0)) || is_false (value_in es x)) xs at)
    where
      at : (j : ℕ) → j < length xs → (same_lit (lit_of (get_or xs j 0)) (lit_of (get_or xs 0 0)) || is_false (value_in es (lit_of (get_or xs j 0)))) ≡ true
      at zero h = or_left (same_lit (lit_of (get_or xs 0 0)) (lit_of (get_or xs 0 0))) (is_false (value_in es (lit_of (get_or xs 0 0)))) (lit-self (lit_of (get_or xs 0 0)))
      at (suc zero) h = or_right (same_lit (lit_of (get_or xs 1 0)) (lit_of (get_or xs 0 0))) (is_false (value_in es (lit_of (get_or xs 1 0)))) f
      at (suc (suc j)) h =
          or_right (same_lit (lit_of (get_or xs (suc (suc j)) 0)) (lit_of (get_or xs 0 0))) (is_false (value_in es (lit_of (get_or xs (suc (suc j)) 0)))) (rest-now f (suc (suc j)) (omega arith) h)

  none-false : (o : Option Bool) → o ≡ None → is_false o ≡ true → ⊥
  none-false o e f = let z : is_false None ≡ true = ap is_false (sym e) ∙ f in cc

  pub all-false : is_false (value_in es (lit_of (get_or xs 0 0))) ≡ true → list_all (λ x. is_false (value_in es x)) (map lit_of xs) ≡ true
  all-false f = all-places (λ x. is_false (value_in es x)) xs at
    where
      at : (j : ℕ) → j < length xs → is_false (value_in es (lit_of (get_or xs j 0))) ≡ true
      at zero h = f
      at (suc zero) h = second-now f
      at (suc (suc j)) h = rest-now (second-now f) (suc (suc j)) (omega arith) h

  unit-is : (p : Lit) → IsUnit es (map lit_of xs) p → lit_of (get_or xs 0 0) ≡ p
  unit-is p u =
      elim (or_cases (same_lit (lit_of (get_or xs 0 0)) p) (is_false (value_in es (lit_of (get_or xs 0 0))))
      (all-has (λ x. same_lit x p || is_false (value_in es x)) (map lit_of xs) (lit_of (get_or xs 0 0)) u.2 (has-place xs 0 (omega arith)))) [
        | inl e ↦ same_lit-true (lit_of (get_or xs 0 0)) p e
        | inr e ↦ absurd (none-false (value_in es p) u.0 (all-has (λ x. is_false (value_in es x)) (map lit_of xs) p (all-false e) u.1))
      ]

  pub unit-open : (p : Lit) → IsUnit es (map lit_of xs) p → value_in es (lit_of (get_or xs 0 0)) ≡ None
  unit-open p u = ap (value_in es) (unit-is p u) ∙ u.0

  pub unit-second : (get_or xs 0 0 ≡ get_or xs 1 0 → ⊥) → (p : Lit) → IsUnit es (map lit_of xs) p → is_false (value_in es (lit_of (get_or xs 1 0))) ≡ true
  unit-second n p u =
      elim (or_cases (same_lit (lit_of (get_or xs 1 0)) p) (is_false (value_in es (lit_of (get_or xs 1 0))))
      (all-has (λ x. same_lit x p || is_false (value_in es x)) (map lit_of xs) (lit_of (get_or xs 1 0)) u.2 (has-place xs 1 (omega arith)))) [
        | inl e ↦ absurd (n (lit_of-apart (get_or xs 0 0) (get_or xs 1 0) (unit-is p u ∙ sym (same_lit-true (lit_of (get_or xs 1 0)) p e))))
        | inr e ↦ e
      ]

  -- how the clause is watched from then on
  pub watched-learned : (t : Layout) (c h : ℕ) (forced : Option Lit) (n : ℕ) → body t c ≡ xs → IsReady es xs h
      → IfSome forced (λ p. (value_in es p ≡ None) × (p ≡ lit_of (get_or xs 0 0))) → IfNone forced ((p : Lit) → IsUnit es (map lit_of xs) p → ⊥)
      → IsWatched (after_force es forced n) h t c
  watched-learned t c h (Some p) n b y s u =
      let d : Entry = record { lit = p; reason = Some n } in
      let v : value_in (es ++ record { lit = p; reason = Some n } ∷ []) p ≡ Some true = value-put es d s.0 in
      let w : watch t c 0 ≡ p = ap (λ z. lit_of (get_or z 0 0)) b ∙ sym s.1 in
      watched-true_0 (es ++ record { lit = p; reason = Some n } ∷ []) h t c (ap (value_in (es ++ record { lit = p; reason = Some n } ∷ [])) w ∙ v)
  watched-learned t c h None n b y s u =
      let w0 : watch t c 0 ≡ lit_of (get_or xs 0 0) = ap (λ z. lit_of (get_or z 0 0)) b in
      let w1 : watch t c 1 ≡ lit_of (get_or xs 1 0) = ap (λ z. lit_of (get_or z 1 0)) b in
      elim (cases_Bool (is_false (value_in es (lit_of (get_or xs 0 0))))) [
        | inl f ↦
            let no : is_false_by es h (get_or xs 1 0) ≡ true → ⊥ = y f in
            watched-open es h t c
            (λ z. no (r.first h (ap (λ v. is_false (value_in (take h es) v)) (sym w0) ∙ z)))
            (λ z. no (ap (λ v. is_false (value_in (take h es) v)) (sym w1) ∙ z))
        | inr f ↦ elim (cases_Bool (is_false (value_in es (lit_of (get_or xs 1 0))))) [
          | inl g ↦ watched-true_0 es h t c (ap (value_in es) w0 ∙ true-from (value_in es (lit_of (get_or xs 0 0))) f (λ e. u (lit_of (get_or xs 0 0)) (unit-first e g)))
          | inr g ↦
              watched-open es h t c
              (λ z. both_ways (is_false (value_in es (lit_of (get_or xs 0 0)))) f (ap (λ v. is_false (value_in es v)) (sym w0) ∙ false-whole es h (watch t c 0) z))
              (λ z. both_ways (is_false (value_in es (lit_of (get_or xs 1 0)))) g (ap (λ v. is_false (value_in es v)) (sym w1) ∙ false-whole es h (watch t c 1) z))
        ]
      ]
    where
      true-from : (o : Option Bool) → is_false o ≡ false → (o ≡ None → ⊥) → o ≡ Some true
      true-from None f e = absurd (e refl)
      true-from (Some true) f e = refl
      true-from (Some false) f e = cc
