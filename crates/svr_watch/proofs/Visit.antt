-- A visit to a clause that watches a newly false literal
use Rattle.std.proofs.Common.{◌≡◌, ℕ, suc, zero, ◌+◌, ◌<◌, ◌≤◌, Bool, true, false, ◌||◌, List, [], ◌∷◌, ◌++◌, length, refl, ap, sym, ◌∙◌, subst, arith, Option, Some, None, get_or, set, map, take, inl, inr}
use Rattle.std.specs.Prelude.{◌⊎◌}
use Rattle.std.specs.List.{list_all, swap}
use Rattle.std.proofs.lemmas.Bool.{and_from, or_left, or_right, both_ways, cases_eq, cond-true, cond-false, eq-eqb, ne_eqb}
use Rattle.std.proofs.lemmas.List.{get_or-set_same, get_or-set_other, take_all}
use Rattle.std.proofs.lemmas.List.Edits.{swap_is}
use Rattle.std.proofs.lemmas.List.Sorted.{IsPermutation-refl}
use Rattle.svr_arena.specs.Layout.{Layout, is_in, names, IsBefore, with_front, without, take_out}
use Rattle.svr_arena.proofs.TakeOff.{before-in}
use Rattle.svr_chain.specs.Same.{SameClauses}
use Rattle.svr_chain.proofs.Same.{same-named, some-same, all-same}
use Rattle.std.proofs.Common.{MatchOption}
use Rattle.svr_arena.specs.Arena.{body, lit_at, AreLits, side_of}
use Rattle.svr_chain.specs.declared.clause.Lit.{Lit}
use Rattle.svr_chain.specs.Clauses.{same_lit, has}
use Rattle.svr_chain.specs.Log.{named}
use Rattle.svr_chain.proofs.Same.{lit-self, same-self}
use Rattle.svr_trail.specs.declared.Entry.{Entry}
use Rattle.svr_trail.specs.Trail.{value_in, is_false, Each, HasReason, Forces, IsFault}
use Rattle.svr_trail.proofs.Grown.{grown-none, grown-push}
use Rattle.svr_watch.specs.Codes.{code_of, lit_of}
use Rattle.svr_watch.specs.Store.{StoreView, IsStore, KeepsStore, clauses_of, lits_of, watch, watching}
use Rattle.svr_watch.specs.Watch.{IsBacked, IsWatched, IsAdvance, IsNewlyFalse}
use Rattle.svr_watch.proofs.Numbers.{lit_of-code, lit_of-apart}
use Rattle.svr_watch.proofs.Values.{false-whole, value-whole, watched-true_0, watched-true_1, watched-open}

-- what is true of each literal by its place is true of all
pub all-places : (q : Lit → Bool) (xs : List ℕ) → ((j : ℕ) → j < length xs → q (lit_of (get_or xs j 0)) ≡ true) → list_all q (map lit_of xs) ≡ true
all-places q [] f = refl
all-places q (x ∷ xs) f =
    and_from (q (lit_of x)) (list_all q (map lit_of xs)) (f 0 (omega arith)) (all-places q xs (λ j h. f (suc j) (omega arith)))

pub has-place : (xs : List ℕ) (j : ℕ) → j < length xs → has (map lit_of xs) (lit_of (get_or xs j 0)) ≡ true
has-place [] j h = absurd (omega arith)
has-place (x ∷ xs) zero h = or_left (same_lit (lit_of x) (lit_of x)) (has (map lit_of xs) (lit_of x)) (lit-self (lit_of x))
has-place (x ∷ xs) (suc j) h =
    or_right (same_lit (lit_of x) (lit_of (get_or xs j 0))) (has (map lit_of xs) (lit_of (get_or xs j 0))) (has-place xs j (omega arith))

-- o is the other one of the first two numbers
abbrev pub IsOther : List ℕ → ℕ → ℕ → Type 0
IsOther xs n o = ((get_or xs 0 0 ≡ n) × (get_or xs 1 0 ≡ o)) ⊎ ((get_or xs 1 0 ≡ n) × (get_or xs 0 0 ≡ o) × (get_or xs 0 0 ≡ n → ⊥))

pub other-is : (xs : List ℕ) (n o : ℕ) → (get_or xs 0 0 ≡ n) ⊎ (get_or xs 1 0 ≡ n) → (get_or xs 0 0 ≡ n → o ≡ get_or xs 1 0) → ((get_or xs 0 0 ≡ n → ⊥) → o ≡ get_or xs 0 0) → IsOther xs n o
other-is xs n o e f g =
    elim (cases_eq (get_or xs 0 0) n) [
      | inl q ↦ inl (q, sym (f q))
      | inr q ↦ elim e [ inl z ↦ absurd (q z) | inr z ↦ inr (z, sym (g q), q) ]
    ]

pub swap-here : (xs : List ℕ) (j k : ℕ) → j < length xs → k < length xs → (j ≡ k → ⊥) → get_or (swap xs j k) j 0 ≡ get_or xs k 0
swap-here xs j k p q n =
    ap (λ y. get_or y j 0) (sym (swap_is xs j k 0 p q))
    ∙ (get_or-set_other (set xs j (get_or xs k 0)) k j (get_or xs j 0) 0 n ∙ get_or-set_same xs j (get_or xs k 0) 0 p)

pub swap-away : (xs : List ℕ) (j k i : ℕ) → j < length xs → k < length xs → (i ≡ j → ⊥) → (i ≡ k → ⊥) → get_or (swap xs j k) i 0 ≡ get_or xs i 0
swap-away xs j k i p q n m =
    ap (λ y. get_or y i 0) (sym (swap_is xs j k 0 p q))
    ∙ (get_or-set_other (set xs j (get_or xs k 0)) k i (get_or xs j 0) 0 m ∙ get_or-set_other xs j i (get_or xs k 0) 0 n)

pub keeps-self : (s : StoreView) → KeepsStore s s
keeps-self s = record { codes = refl; named = refl; held = refl; same = same-self (clauses_of s); order = λ c i. IsPermutation-refl (body s.arena c) }

module _ (s : StoreView) (k : IsStore s) (es : List Entry) (head : ℕ) (l : Lit) (pos : 0 < l.var) (c : ℕ) (nf : IsNewlyFalse es head l)
    (i : is_in c (names s.arena) ≡ true) (o : ℕ) (e : IsOther (body s.arena c) (code_of l) o) where
  lits : AreLits s.arena.codes (body s.arena c)
  lits = k.arena.clause c i

  own : lit_of (code_of l) ≡ l
  own = lit_of-code l pos

  false-now : is_false (value_in es l) ≡ true
  false-now = ap is_false nf.now

  not_true : value_in es l ≡ Some true → ⊥
  not_true t = let z : Some false ≡ Some true = sym nf.now ∙ t in cc

  -- the other watched literal is true
  pub visit-true : (fs : List Entry) → value_in fs (lit_of o) ≡ Some true → (h : ℕ) → IsWatched fs h s.arena c
  visit-true fs t h =
      elim e [
        | inl z ↦ watched-true_1 fs h s.arena c (ap (λ y. value_in fs (lit_of y)) z.1 ∙ t)
        | inr z ↦ watched-true_0 fs h s.arena c (ap (λ y. value_in fs (lit_of y)) z.1 ∙ t)
      ]

  pub other-below : o < s.arena.codes
  other-below =
      let t = lits.two in
      elim e [
        | inl z ↦ let b = lits.below 1 (omega arith) in let q : get_or (body s.arena c) 1 0 ≡ o = z.1 in omega arith
        | inr z ↦ let b = lits.below 0 (omega arith) in let q : get_or (body s.arena c) 0 0 ≡ o = z.1 in omega arith
      ]

  -- no place behind the first two has the literal
  pub not_behind : (j : ℕ) → 2 ≤ j → j < length (body s.arena c) → code_of l ≡ lit_at s.arena c j → ⊥
  not_behind j a b q =
      elim e [
        | inl z ↦ lits.apart 0 j (omega arith) b (z.0 ∙ q)
        | inr z ↦ lits.apart 1 j (omega arith) b (z.0 ∙ q)
      ]

  -- where the clause was watched well, the other literal was not false
  pub other-not_false : (n h : ℕ) → IsWatched (take n es) h s.arena c → is_false (value_in (take h (take n es)) (lit_of o)) ≡ true → ⊥
  other-not_false n h w f =
      elim e [
        | inl z ↦
            let t : value_in (take n es) (watch s.arena c 0) ≡ Some true = w.1 (ap (λ y. is_false (value_in (take h (take n es)) (lit_of y))) z.1 ∙ f) in
            not_true (value-whole es n l true (ap (value_in (take n es)) (sym (ap lit_of z.0 ∙ own)) ∙ t))
        | inr z ↦
            let t : value_in (take n es) (watch s.arena c 1) ≡ Some true = w.0 (ap (λ y. is_false (value_in (take h (take n es)) (lit_of y))) z.1 ∙ f) in
            not_true (value-whole es n l true (ap (value_in (take n es)) (sym (ap lit_of z.0 ∙ own)) ∙ t))
      ]

  pub other-now : (h : ℕ) → IsWatched es h s.arena c → is_false (value_in (take h es) (lit_of o)) ≡ true → ⊥
  other-now h w f =
      let q : take (length es) es ≡ es = take_all (length es) es (omega arith) in
      other-not_false (length es) h (subst (λ z. IsWatched z h s.arena c) (sym q) w) (ap (λ z. is_false (value_in (take h z) (lit_of o))) q ∙ f)

  other-apart : lit_of o ≡ l → ⊥
  other-apart z =
      let y : o ≡ code_of l = lit_of-apart o (code_of l) (z ∙ sym own) in
      let t = lits.two in
      elim e [
        | inl x ↦ lits.apart 0 1 (omega arith) (omega arith) (x.0 ∙ (sym y ∙ sym x.1))
        | inr x ↦ x.2 (x.1 ∙ y)
      ]

  pub other-next : IsWatched es head s.arena c → is_false (value_in (take (head + 1) es) (lit_of o)) ≡ true → ⊥
  other-next w f = elim (nf.next (lit_of o) f) [ inl z ↦ other-now head w z | inr z ↦ other-apart z ]

  -- all literals are false but for the other watched one
  pub all-but : (q : Lit → Bool) → q l ≡ true → q (lit_of o) ≡ true → ((j : ℕ) → 2 ≤ j → j < length (body s.arena c) → q (lit_of (lit_at s.arena c j)) ≡ true)
      → list_all q (lits_of s.arena c) ≡ true
  all-but q a b f = all-places q (body s.arena c) at
    where
      zeroth : q (lit_of (lit_at s.arena c 0)) ≡ true
      zeroth = elim e [ inl z ↦ ap q (ap lit_of z.0 ∙ own) ∙ a | inr z ↦ ap (λ y. q (lit_of y)) z.1 ∙ b ]

      first : q (lit_of (lit_at s.arena c 1)) ≡ true
      first = elim e [ inl z ↦ ap (λ y. q (lit_of y)) z.1 ∙ b | inr z ↦ ap q (ap lit_of z.0 ∙ own) ∙ a ]

      at : (j : ℕ) → j < length (body s.arena c) → q (lit_of (lit_at s.arena c j)) ≡ true
      at zero h = zeroth
      at (suc zero) h = first
      at (suc (suc j)) h = f (suc (suc j)) (omega arith) h

  pub has-other : has (lits_of s.arena c) (lit_of o) ≡ true
  has-other =
      let t = lits.two in
      elim e [
        | inl z ↦ ap (λ y. has (lits_of s.arena c) (lit_of y)) (sym z.1) ∙ has-place (body s.arena c) 1 (omega arith)
        | inr z ↦ ap (λ y. has (lits_of s.arena c) (lit_of y)) (sym z.1) ∙ has-place (body s.arena c) 0 (omega arith)
      ]

  pub visit-fault : value_in es (lit_of o) ≡ Some false
      → ((j : ℕ) → 2 ≤ j → j < length (body s.arena c) → is_false (value_in es (lit_of (lit_at s.arena c j))) ≡ true)
      → (n : ℕ) → named (clauses_of s) n ≡ Some (lits_of s.arena c) → IsFault (clauses_of s) es n
  visit-fault v f n q = (lits_of s.arena c, q, all-but (λ x. is_false (value_in es x)) false-now (ap is_false v) f)

  pub visit-forces : ((j : ℕ) → 2 ≤ j → j < length (body s.arena c) → is_false (value_in es (lit_of (lit_at s.arena c j))) ≡ true)
      → (n : ℕ) → named (clauses_of s) n ≡ Some (lits_of s.arena c) → Forces (clauses_of s) es (lit_of o) n
  visit-forces f n q = (
    lits_of s.arena c,
    q,
    has-other,
    all-but (λ x. same_lit x (lit_of o) || is_false (value_in es x))
        (or_right (same_lit l (lit_of o)) (is_false (value_in es l)) false-now)
        (or_left (same_lit (lit_of o) (lit_of o)) (is_false (value_in es (lit_of o))) (lit-self (lit_of o)))
        (λ j a b. or_right (same_lit (lit_of (lit_at s.arena c j)) (lit_of o)) (is_false (value_in es (lit_of (lit_at s.arena c j)))) (f j a b)),
  )

  -- the clause watches the literal at `to` in place of l
  module _ (t : StoreView) (to : ℕ) (low : 2 ≤ to) (high : to < length (body s.arena c))
      (free : is_false (value_in es (lit_of (lit_at s.arena c to))) ≡ false)
      (new : body t.arena c ≡ swap (body s.arena c) (side_of s.arena c (code_of l)) to) where
    pair : ((lit_at t.arena c 0 ≡ lit_at s.arena c to) × (lit_at t.arena c 1 ≡ o)) ⊎ ((lit_at t.arena c 0 ≡ o) × (lit_at t.arena c 1 ≡ lit_at s.arena c to))
    pair =
        elim e [
          | inl z ↦
              let d : side_of s.arena c (code_of l) ≡ 0 = cond-true _ _ _ (eq-eqb (lit_at s.arena c 0) (code_of l) z.0) in
              let n : body t.arena c ≡ swap (body s.arena c) 0 to = new ∙ ap (λ y. swap (body s.arena c) y to) d in
              inl (
                ap (λ y. get_or y 0 0) n ∙ swap-here (body s.arena c) 0 to (omega arith) high (λ y. omega arith),
                ap (λ y. get_or y 1 0) n ∙ (swap-away (body s.arena c) 0 to 1 (omega arith) high (λ y. omega arith) (λ y. omega arith) ∙ z.1),
              )
          | inr z ↦
              let d : side_of s.arena c (code_of l) ≡ 1 = cond-false _ _ _ (ne_eqb (lit_at s.arena c 0) (code_of l) z.2) in
              let n : body t.arena c ≡ swap (body s.arena c) 1 to = new ∙ ap (λ y. swap (body s.arena c) y to) d in
              inr (
                ap (λ y. get_or y 0 0) n ∙ (swap-away (body s.arena c) 1 to 0 (omega arith) high (λ y. omega arith) (λ y. omega arith) ∙ z.1),
                ap (λ y. get_or y 1 0) n ∙ swap-here (body s.arena c) 1 to (omega arith) high (λ y. omega arith),
              )
        ]

    pub moved-well : (fs : List Entry) (h : ℕ) → ((x : Lit) → is_false (value_in (take h fs) x) ≡ true → is_false (value_in es x) ≡ true)
        → (is_false (value_in (take h fs) (lit_of o)) ≡ true → ⊥) → IsWatched fs h t.arena c
    moved-well fs h w g =
        let a : is_false (value_in (take h fs) (lit_of (lit_at s.arena c to))) ≡ true → ⊥ = λ y. both_ways (is_false (value_in es (lit_of (lit_at s.arena c to)))) free (w (lit_of (lit_at s.arena c to)) y) in
        elim pair [
          | inl z ↦ watched-open fs h t.arena c
              (λ y. a (ap (λ v. is_false (value_in (take h fs) (lit_of v))) (sym z.0) ∙ y))
              (λ y. g (ap (λ v. is_false (value_in (take h fs) (lit_of v))) (sym z.1) ∙ y))
          | inr z ↦ watched-open fs h t.arena c
              (λ y. g (ap (λ v. is_false (value_in (take h fs) (lit_of v))) (sym z.0) ∙ y))
              (λ y. a (ap (λ v. is_false (value_in (take h fs) (lit_of v))) (sym z.1) ∙ y))
        ]

    pub moved-level : (n h : ℕ) → IsWatched (take n es) h s.arena c → IsWatched (take n es) h t.arena c
    moved-level n h w = moved-well (take n es) h (λ x y. false-whole es n x (false-whole (take n es) h x y)) (other-not_false n h w)

    pub moved-next : IsWatched es head s.arena c → IsWatched es (head + 1) t.arena c
    moved-next w = moved-well es (head + 1) (λ x y. false-whole es (head + 1) x y) (other-next w)

-- the same watches
pub watched-same : (es : List Entry) (h : ℕ) (a b : Layout) (c : ℕ) → body b c ≡ body a c → IsWatched es h a c → IsWatched es h b c
watched-same es h a b c e w =
    let p : watch b c 0 ≡ watch a c 0 = ap (λ z. lit_of (get_or z 0 0)) e in
    let q : watch b c 1 ≡ watch a c 1 = ap (λ z. lit_of (get_or z 1 0)) e in (
      subst (λ z. IsBacked es h z (watch b c 1)) (sym p) (subst (λ z. IsBacked es h (watch a c 0) z) (sym q) w.0),
      subst (λ z. IsBacked es h z (watch b c 0)) (sym q) (subst (λ z. IsBacked es h (watch a c 1) z) (sym p) w.1),
    )

pub advance-self : (s : StoreView) (es : List Entry) → Each (HasReason (clauses_of s)) es → IsAdvance s s es es
advance-self s es r = record { kept = keeps-self s; grown = grown-none (clauses_of s) es r; levels = λ n h c a i w. w }

same-forces : (ks ls : List (List Lit)) (es : List Entry) (p : Lit) (n : ℕ) → SameClauses ks ls → Forces ks es p n → Forces ls es p n
same-forces ks ls es p n s f =
    let r = some-same (named ks n) (named ls n) f.0 (same-named ks ls n s) f.1 in
    (r.0, r.1, sym (r.2 p) ∙ f.2, sym (all-same (λ x. same_lit x p || is_false (value_in es x)) f.0 r.0 r.2) ∙ f.3)

pub same-reasons : (ks ls : List (List Lit)) (es : List Entry) → SameClauses ks ls → Each (HasReason ks) es → Each (HasReason ls) es
same-reasons ks ls es s r i e h = goes (get_or es i e).reason (r i e h)
  where
    goes : (o : Option ℕ) → MatchOption o (Unit {0}) (Forces ks (take i es) (get_or es i e).lit) → MatchOption o (Unit {0}) (Forces ls (take i es) (get_or es i e).lit)
    goes None f = tt
    goes (Some n) f = same-forces ks ls (take i es) (get_or es i e).lit n s f

-- a clause on the list of a literal is one of the arena
pub clause-named : (s : StoreView) → IsStore s → (l : Lit) → code_of l < s.arena.codes → (before : Option ℕ) (c : ℕ) → IsBefore (watching s l) before c → is_in c (names s.arena) ≡ true
clause-named s k l b before c g = k.arena.named c (code_of l) b (before-in (watching s l) before c g)

pub clause-other : (s : StoreView) → IsStore s → (l : Lit) → code_of l < s.arena.codes → (before : Option ℕ) (c : ℕ) → IsBefore (watching s l) before c
    → (xs : List ℕ) (n o : ℕ) → xs ≡ body s.arena c → n ≡ code_of l → (get_or xs 0 0 ≡ n → o ≡ get_or xs 1 0) → ((get_or xs 0 0 ≡ n → ⊥) → o ≡ get_or xs 0 0)
    → IsOther (body s.arena c) (code_of l) o
clause-other s k l b before c g xs n o q r f h =
    subst (λ z. IsOther z (code_of l) o) q (subst (λ z. IsOther xs z o) r
    (other-is xs n o (subst (λ z. (get_or z 0 0 ≡ n) ⊎ (get_or z 1 0 ≡ n)) (sym q) (subst (λ z. (get_or (body s.arena c) 0 0 ≡ z) ⊎ (get_or (body s.arena c) 1 0 ≡ z)) (sym r)
    (k.arena.watches c (code_of l) b (before-in (watching s l) before c g)))) f h))

-- the list of a literal after a clause was moved away
pub list-moved : (m n c : ℕ) (old : ℕ → List ℕ) → (n ≡ m → ⊥) → with_front m c (without n c old) n ≡ take_out c (old n)
list-moved m n c old f = cond-false _ _ _ (ne_eqb n m f) ∙ cond-true _ _ _ (eq-eqb n n refl)

pub advance-moved : (s t : StoreView) (es : List Entry) (c : ℕ) → KeepsStore s t → Each (HasReason (clauses_of s)) es
    → ((d : ℕ) → is_in d (names s.arena) ≡ true → (d ≡ c → ⊥) → body t.arena d ≡ body s.arena d)
    → ((n h : ℕ) → IsWatched (take n es) h s.arena c → IsWatched (take n es) h t.arena c) → IsAdvance s t es es
advance-moved s t es c k r f g = record {
  kept = k;
  grown = grown-none (clauses_of t) es (same-reasons (clauses_of s) (clauses_of t) es k.same r);
  levels = λ n h d a i w. elim (cases_eq d c) [
    | inl z ↦ subst (IsWatched (take n es) h t.arena) (sym z) (g n h (subst (IsWatched (take n es) h s.arena) z w))
    | inr z ↦ watched-same (take n es) h s.arena t.arena d (f d i z) w
  ];
}

pub advance-put : (s : StoreView) (es : List Entry) (p : Lit) (n : ℕ) → Each (HasReason (clauses_of s)) es → Forces (clauses_of s) es p n
    → IsAdvance s s es (es ++ record { lit = p; reason = Some n } ∷ [])
advance-put s es p n r f = record {
  kept = keeps-self s;
  grown = grown-push (clauses_of s) es es p n (grown-none (clauses_of s) es r) f;
  levels = λ n h c a i w. w;
}
