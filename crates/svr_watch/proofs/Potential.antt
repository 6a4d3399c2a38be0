-- Visits are paid by literals that become false
use Rattle.std.proofs.Common.{◌≡◌, ℕ, suc, zero, ◌+◌, ◌<◌, ◌≤◌, Bool, true, false, nat_eq, List, [], ◌∷◌, length, refl, ap, sym, ◌∙◌, arith, get_or, take, inl, inr}
use Rattle.std.specs.List.{sum_by}
use Rattle.std.proofs.lemmas.Bool.{or_cases, or_left, or_right, both_ways, cases_Bool, cases_eq, cond-true, cond-false, eq-eqb, eqb-true, ne_eqb, false≢true}
use Rattle.std.proofs.lemmas.List.Sorted.{sum_by-IsPermutation}
use Rattle.std.proofs.lemmas.List.Sums.{sum_by-cons}
use Rattle.svr_arena.specs.Layout.{Layout, is_in, are_distinct, names, take_out}
use Rattle.svr_arena.specs.Arena.{body}
use Rattle.svr_arena.proofs.TakeOff.{out-in, out-gone, out-distinct}
use Rattle.svr_chain.specs.declared.clause.Lit.{Lit}
use Rattle.svr_trail.specs.declared.Entry.{Entry}
use Rattle.svr_trail.specs.Trail.{value_in, is_false}
use Rattle.svr_watch.specs.Codes.{code_of, lit_of}
use Rattle.svr_watch.specs.Store.{StoreView, IsStore, watching}
use Rattle.svr_watch.specs.Watch.{IsAdvance, IsNewlyFalse, literals_of, unpaid, unpaid_in, one_unless}
use Rattle.svr_watch.proofs.Numbers.{lit_of-code}
use Rattle.svr_watch.proofs.Values.{false-later, front-same}

abbrev pub one_if : Bool → ℕ
one_if true = 1
one_if false = 0

sum-cons : (f : ℕ → ℕ) (x : ℕ) (xs : List ℕ) → sum_by f (x ∷ xs) ≡ f x + sum_by f xs
sum-cons f x xs = sum_by-cons f x xs

abbrev pub tally : List ℕ → ℕ → ℕ
tally xs c = one_if (is_in c xs)

-- a list without repetitions of members of ns is no longer than the members of ns on it are many
pub few-of : (ns xs : List ℕ) → are_distinct xs ≡ true → ((c : ℕ) → is_in c xs ≡ true → is_in c ns ≡ true) → length xs ≤ sum_by (tally xs) ns
few-of [] [] d f = omega arith
few-of [] (x ∷ xs) d f = absurd (false≢true (f x (or_left (nat_eq x x) (is_in x xs) (eq-eqb x x refl))))
few-of (n ∷ ns) xs d f =
    elim (cases_Bool (is_in n xs)) [
      | inl e ↦
          let l : length xs ≡ suc (length (take_out n xs)) = out-length n xs e in
          let r : length (take_out n xs) ≤ sum_by (tally (take_out n xs)) ns
          = few-of ns (take_out n xs) (out-distinct n xs d)
          (λ c h. elim (or_cases (nat_eq c n) (is_in c ns) (f c (out-in n xs c h))) [
            | inl q ↦ absurd (both_ways (is_in n (take_out n xs)) (out-gone n xs d) (ap (λ z. is_in z (take_out n xs)) (sym (eqb-true c n q)) ∙ h))
            | inr q ↦ q
          ]) in
          let m : sum_by (tally (take_out n xs)) ns ≤ sum_by (tally xs) ns
          = sum-le (tally (take_out n xs)) (tally xs) ns (λ c. one-le (is_in c (take_out n xs)) (is_in c xs) (λ h. out-in n xs c h)) in
          let t : tally xs n ≡ 1 = ap one_if e in
          omega (arith, l, r, m, t, sum-cons (tally xs) n ns)
      | inr e ↦
          let r : length xs ≤ sum_by (tally xs) ns
          = few-of ns xs d
          (λ c h. elim (or_cases (nat_eq c n) (is_in c ns) (f c h)) [
            | inl q ↦ absurd (both_ways (is_in n xs) e (ap (λ z. is_in z xs) (sym (eqb-true c n q)) ∙ h))
            | inr q ↦ q
          ]) in
          omega (arith, r, sum-cons (tally xs) n ns)
    ]
  where
    out-length : (n : ℕ) (xs : List ℕ) → is_in n xs ≡ true → length xs ≡ suc (length (take_out n xs))
    out-length n [] h = absurd (false≢true h)
    out-length n (x ∷ xs) h =
        elim (cases_eq x n) [
          | inl e ↦ ap (λ z. suc (length z)) (sym (cond-true (nat_eq x n) xs (x ∷ take_out n xs) (eq-eqb x n e)))
          | inr e ↦
              let g : is_in n xs ≡ true
              = elim (or_cases (nat_eq n x) (is_in n xs) h) [ inl z ↦ absurd (e (sym (eqb-true n x z))) | inr z ↦ z ] in
              let q : length (take_out n (x ∷ xs)) ≡ suc (length (take_out n xs)) = ap length (cond-false (nat_eq x n) xs (x ∷ take_out n xs) (ne_eqb x n e)) in
              let r = out-length n xs g in
              omega (arith, q, r)
        ]

    one-le : (a b : Bool) → (a ≡ true → b ≡ true) → one_if a ≤ one_if b
    one-le true b f = let e : one_if b ≡ 1 = ap one_if (f refl) in omega arith
    one-le false b f = omega arith

    sum-le : (f g : ℕ → ℕ) (ns : List ℕ) → ((c : ℕ) → f c ≤ g c) → sum_by f ns ≤ sum_by g ns
    sum-le f g [] h = omega arith
    sum-le f g (n ∷ ns) h = let a = h n in let r = sum-le f g ns h in omega (arith, sum-cons f n ns, sum-cons g n ns)

-- member by member
pub sum-plus : (f g h : ℕ → ℕ) (ns all : List ℕ) → ((c : ℕ) → is_in c ns ≡ true → is_in c all ≡ true) → ((c : ℕ) → is_in c all ≡ true → f c + g c ≤ h c) → sum_by f ns + sum_by g ns ≤ sum_by h ns
sum-plus f g h [] all i p = omega arith
sum-plus f g h (n ∷ ns) all i p =
    let a = p n (i n (or_left (nat_eq n n) (is_in n ns) (eq-eqb n n refl))) in
    let r = sum-plus f g h ns all (λ c e. i c (or_right (nat_eq c n) (is_in c ns) e)) p in
    omega (arith, sum-cons f n ns, sum-cons g n ns, sum-cons h n ns)

module _ (f g : ℕ → ℕ) (less : (x : ℕ) → g x ≤ f x) where
  sum-less : (xs : List ℕ) → sum_by g xs ≤ sum_by f xs
  sum-less [] = omega arith
  sum-less (x ∷ xs) = let a = less x in let r = sum-less xs in omega (arith, sum-cons f x xs, sum-cons g x xs)

  -- where one member has less, the sum is less
  sum-lower : (n : ℕ) → g n ≡ 0 → f n ≡ 1 → (xs : List ℕ) (j : ℕ) → j < length xs → get_or xs j 0 ≡ n → 1 + sum_by g xs ≤ sum_by f xs
  sum-lower n a b [] j h e = absurd (omega arith)
  sum-lower n a b (x ∷ xs) zero h e =
      let q : x ≡ n = e in
      let r = sum-less xs in
      let u : g x ≡ 0 = ap g q ∙ a in
      let v : f x ≡ 1 = ap f q ∙ b in
      omega (arith, sum-cons f x xs, sum-cons g x xs)
  sum-lower n a b (x ∷ xs) (suc j) h e = let q = less x in let r = sum-lower n a b xs j (omega arith) e in omega (arith, sum-cons f x xs, sum-cons g x xs)

module _ (s t : StoreView) (k : IsStore s) (es fs : List Entry) (head : ℕ) (l : Lit) (pos : 0 < l.var) (nf : IsNewlyFalse es head l) (lw : code_of l < s.arena.codes) (a : IsAdvance s t es fs) where
  less-one : (x : ℕ) → one_unless (is_false (value_in (take (head + 1) es) (lit_of x))) ≤ one_unless (is_false (value_in (take head es) (lit_of x)))
  less-one x = goes (is_false (value_in (take head es) (lit_of x))) (is_false (value_in (take (head + 1) es) (lit_of x))) (false-later es head (head + 1) (lit_of x) (omega arith))
    where
      goes : (p q : Bool) → (p ≡ true → q ≡ true) → one_unless q ≤ one_unless p
      goes true q f = let e : one_unless q ≡ 0 = ap one_unless (f refl) in omega arith
      goes false true f = omega arith
      goes false false f = omega arith

  own : lit_of (code_of l) ≡ l
  own = lit_of-code l pos

  lost : one_unless (is_false (value_in (take (head + 1) es) (lit_of (code_of l)))) ≡ 0
  lost = ap (λ z. one_unless (is_false (value_in (take (head + 1) es) z))) own ∙ ap one_unless nf.set

  had : one_unless (is_false (value_in (take head es) (lit_of (code_of l)))) ≡ 1
  had = ap (λ z. one_unless (is_false (value_in (take head es) z))) own ∙ ap (λ z. one_unless (is_false z)) nf.earlier

  later : (c : ℕ) → is_in c (names s.arena) ≡ true → unpaid_in fs (head + 1) (body t.arena c) ≡ unpaid_in es (head + 1) (body s.arena c)
  later c i =
      let q : take (head + 1) fs ≡ take (head + 1) es = front-same es fs (head + 1) a.grown.same (let z = nf.inside in omega arith) in
      sum_by-IsPermutation (λ x. one_unless (is_false (value_in (take (head + 1) fs) (lit_of x)))) (body s.arena c) (body t.arena c) (a.kept.order c i)
      ∙ ap (λ y. sum_by (λ x. one_unless (is_false (value_in y (lit_of x)))) (body s.arena c)) q

  each-pays : (c : ℕ) → is_in c (names s.arena) ≡ true → tally (watching s l) c + unpaid_in fs (head + 1) (body t.arena c) ≤ unpaid_in es head (body s.arena c)
  each-pays c i =
      let e = later c i in
      elim (cases_Bool (is_in c (watching s l))) [
        | inl z ↦
            let y : tally (watching s l) c ≡ 1 = ap one_if z in
            let two = (k.arena.clause c i).two in
            let r : 1 + unpaid_in es (head + 1) (body s.arena c) ≤ unpaid_in es head (body s.arena c)
            = elim (k.arena.watches c (code_of l) lw z) [
              | inl w ↦ sum-lower (λ x. one_unless (is_false (value_in (take head es) (lit_of x)))) (λ x. one_unless (is_false (value_in (take (head + 1) es) (lit_of x)))) less-one (code_of l) lost had (body s.arena c) 0 (omega arith) w
              | inr w ↦ sum-lower (λ x. one_unless (is_false (value_in (take head es) (lit_of x)))) (λ x. one_unless (is_false (value_in (take (head + 1) es) (lit_of x)))) less-one (code_of l) lost had (body s.arena c) 1 (omega arith) w
            ] in
            omega (arith, e, y, r)
        | inr z ↦
            let y : tally (watching s l) c ≡ 0 = ap one_if z in
            let r : unpaid_in es (head + 1) (body s.arena c) ≤ unpaid_in es head (body s.arena c)
            = sum-less (λ x. one_unless (is_false (value_in (take head es) (lit_of x)))) (λ x. one_unless (is_false (value_in (take (head + 1) es) (lit_of x)))) less-one (body s.arena c) in
            omega (arith, e, y, r)
      ]

  -- the visits for one entry are paid
  pub paid : length (watching s l) + unpaid fs (head + 1) t.arena ≤ unpaid es head s.arena
  paid =
      let few : length (watching s l) ≤ sum_by (tally (watching s l)) (names s.arena)
      = few-of (names s.arena) (watching s l) (k.arena.once (code_of l) lw) (λ c h. k.arena.named c (code_of l) lw h) in
      let n : unpaid fs (head + 1) t.arena ≡ sum_by (λ c. unpaid_in fs (head + 1) (body t.arena c)) (names s.arena)
      = ap (sum_by (λ c. unpaid_in fs (head + 1) (body t.arena c))) a.kept.named in
      let all : sum_by (tally (watching s l)) (names s.arena) + sum_by (λ c. unpaid_in fs (head + 1) (body t.arena c)) (names s.arena) ≤ unpaid es head s.arena
      = sum-plus (tally (watching s l)) (λ c. unpaid_in fs (head + 1) (body t.arena c)) (λ c. unpaid_in es head (body s.arena c)) (names s.arena) (names s.arena) (λ c h. h) each-pays in
      omega (arith, few, n, all)

one-each : (es : List Entry) (h : ℕ) (xs : List ℕ) → unpaid_in es h xs ≤ length xs
one-each es h [] = omega arith
one-each es h (x ∷ xs) = let r = one-each es h xs in let q = small (is_false (value_in (take h es) (lit_of x))) in omega (arith, sum-cons (λ y. one_unless (is_false (value_in (take h es) (lit_of y)))) x xs)
  where
    small : (b : Bool) → one_unless b ≤ 1
    small true = omega arith
    small false = omega arith

-- no more than all literals are unpaid
pub unpaid-le : (es : List Entry) (h : ℕ) (b : Layout) → unpaid es h b ≤ literals_of b
unpaid-le es h b = sum-less (λ c. length (body b c)) (λ c. unpaid_in es h (body b c)) (λ c. one-each es h (body b c)) (names b)
