-- The walk over the list of a newly false literal
use Rattle.std.proofs.Common.{◌≡◌, ℕ, ◌+◌, ◌<◌, ◌≤◌, true, false, ◌||◌, not, nat_eq, List, [], ◌∷◌, ◌++◌, length, refl, ap, sym, ◌∙◌, subst, arith, Option, Some, None, take, inl, inr}
use Rattle.std.proofs.lemmas.Bool.{and_parts, or_cases, or_left, or_right, or_parts, not-true, both_ways, cases_eq, cond-true, cond-false, eq-eqb, eqb-true, ne_eqb, false_from_ne_true}
use Rattle.std.proofs.lemmas.List.{take_all, append_assoc}
use Rattle.std.proofs.lemmas.List.Folds.{list_any-append}
use Rattle.std.proofs.lemmas.List.Sorted.{IsPermutation-trans}
use Rattle.svr_arena.specs.Layout.{is_in, are_distinct, names, watched, first, after, take_out, IsBefore}
use Rattle.svr_arena.specs.Arena.{body, lit_at}
use Rattle.svr_chain.specs.declared.clause.Lit.{Lit}
use Rattle.svr_chain.proofs.Same.{same-then}
use Rattle.svr_trail.specs.declared.Entry.{Entry}
use Rattle.svr_trail.specs.Trail.{value_in, is_false, IsGrown, Each, HasReason}
use Rattle.svr_trail.proofs.Grown.{grown-trans}
use Rattle.svr_watch.specs.Codes.{code_of, lit_of}
use Rattle.svr_watch.specs.Store.{StoreView, IsStore, KeepsStore, clauses_of, watch, watching}
use Rattle.svr_watch.specs.Watch.{IsWatched, AreWatched, IsAdvance, IsNewlyFalse, Followed, IsLast}
use Rattle.svr_watch.proofs.Numbers.{code_of-lit}
use Rattle.svr_watch.proofs.Values.{front-same, value-grows, watched-grows}
use Rattle.svr_watch.proofs.Visit.{same-reasons, advance-self}

-- lists cut at a clause
in-append : (c : ℕ) (xs ys : List ℕ) → is_in c (xs ++ ys) ≡ (is_in c xs || is_in c ys)
in-append c xs ys = list_any-append (λ x. nat_eq c x) xs ys

in-own : (c : ℕ) (xs : List ℕ) → is_in c (c ∷ xs) ≡ true
in-own c xs = or_left (nat_eq c c) (is_in c xs) (eq-eqb c c refl)

pub in-cut : (c : ℕ) (kept rest : List ℕ) → is_in c (kept ++ c ∷ rest) ≡ true
in-cut c kept rest = in-append c kept (c ∷ rest) ∙ or_right (is_in c kept) (is_in c (c ∷ rest)) (in-own c rest)

pub cut-apart : (c : ℕ) (kept rest : List ℕ) → are_distinct (kept ++ c ∷ rest) ≡ true → is_in c kept ≡ false
cut-apart c [] rest d = refl
cut-apart c (x ∷ kept) rest d =
    let p = and_parts (not (is_in x (kept ++ c ∷ rest))) (are_distinct (kept ++ c ∷ rest)) d in
    let n : is_in x (kept ++ c ∷ rest) ≡ false = not-true (is_in x (kept ++ c ∷ rest)) p.0 in
    false_from_ne_true (nat_eq c x || is_in c kept)
    (λ h. elim (or_cases (nat_eq c x) (is_in c kept) h) [
      | inl e ↦ both_ways (is_in x (kept ++ c ∷ rest)) n (subst (λ z. is_in z (kept ++ c ∷ rest) ≡ true) (eqb-true c x e) (in-cut c kept rest))
      | inr e ↦ both_ways (is_in c kept) (cut-apart c kept rest p.1) e
    ])

pub other-first : (c x : ℕ) (xs : List ℕ) → is_in c (x ∷ xs) ≡ false → (x ≡ c → ⊥) × (is_in c xs ≡ false)
other-first c x xs h =
    let p = or_parts (nat_eq c x) (is_in c xs) h in
    (λ e. both_ways (nat_eq c x) p.0 (eq-eqb c x (sym e)), p.1)

pub cut-after : (c : ℕ) (kept rest : List ℕ) → is_in c kept ≡ false → after (kept ++ c ∷ rest) c ≡ first rest
cut-after c [] rest n = cond-true _ _ _ (eq-eqb c c refl)
cut-after c (x ∷ kept) rest n = let p = other-first c x kept n in cond-false _ _ _ (ne_eqb x c p.0) ∙ cut-after c kept rest p.1

pub cut-out : (c : ℕ) (kept rest : List ℕ) → is_in c kept ≡ false → take_out c (kept ++ c ∷ rest) ≡ kept ++ rest
cut-out c [] rest n = cond-true _ _ _ (eq-eqb c c refl)
cut-out c (x ∷ kept) rest n = let p = other-first c x kept n in cond-false _ _ _ (ne_eqb x c p.0) ∙ ap (λ z. x ∷ z) (cut-out c kept rest p.1)

pub cut-before : (c : ℕ) (before : Option ℕ) (kept rest : List ℕ) → are_distinct (kept ++ c ∷ rest) ≡ true → IsLast before kept → IsBefore (kept ++ c ∷ rest) before c
cut-before c None kept rest d e = ap (λ z. first (z ++ c ∷ rest)) e
cut-before c (Some b) kept rest d e =
    let q : kept ++ c ∷ rest ≡ e.0 ++ b ∷ c ∷ rest = ap (λ z. z ++ c ∷ rest) e.1 ∙ append_assoc e.0 (b ∷ []) (c ∷ rest) in
    let n : is_in b e.0 ≡ false = cut-apart b e.0 (c ∷ rest) (ap are_distinct (sym q) ∙ d) in
    (ap (is_in b) q ∙ in-cut b e.0 (c ∷ rest), ap (λ z. after z b) q ∙ cut-after b e.0 (c ∷ rest) n)

-- a clause that watches other literals
pub unwatched-next : (s : StoreView) → IsStore s → (es : List Entry) (head : ℕ) (l : Lit) → IsNewlyFalse es head l → (c : ℕ) → is_in c (names s.arena) ≡ true
    → is_in c (watching s l) ≡ false → IsWatched es head s.arena c → IsWatched es (head + 1) s.arena c
unwatched-next s k es head l nf c i o w = (
  λ f. elim (nf.next (watch s.arena c 0) f) [
    | inl z ↦ w.0 z
    | inr z ↦ absurd (both_ways (is_in c (watching s l)) o (on (lit_at s.arena c 0) z (k.attached c i)))
  ],
  λ f. elim (nf.next (watch s.arena c 1) f) [
    | inl z ↦ w.1 z
    | inr z ↦ absurd (both_ways (is_in c (watching s l)) o (on (lit_at s.arena c 1) z (sym (k.arena.both c i) ∙ k.attached c i)))
  ],
)
  where
    on : (n : ℕ) → lit_of n ≡ l → is_in c (watched s.arena n) ≡ true → is_in c (watching s l) ≡ true
    on n z h = ap (λ y. is_in c (watched s.arena y)) (ap code_of (sym z) ∙ code_of-lit n) ∙ h

-- parts of a propagation, one after another
pub keeps-then : (s t u : StoreView) → KeepsStore s t → KeepsStore t u → KeepsStore s u
keeps-then s t u a b = record {
  codes = b.codes ∙ a.codes;
  named = b.named ∙ a.named;
  held = b.held ∙ a.held;
  same = same-then (clauses_of s) (clauses_of t) (clauses_of u) a.same b.same;
  order = λ c i. IsPermutation-trans (body s.arena c) (body t.arena c) (body u.arena c) (a.order c i) (b.order c (ap (is_in c) a.named ∙ i));
}

pub grown-same : (t u : StoreView) (es fs : List Entry) → KeepsStore t u → IsGrown (clauses_of t) es fs → IsGrown (clauses_of u) es fs
grown-same t u es fs k g = record { longer = g.longer; same = g.same; forced = g.forced; reasons = same-reasons (clauses_of t) (clauses_of u) fs k.same g.reasons }

pub advance-then : (s t u : StoreView) (es fs gs : List Entry) → IsAdvance s t es fs → IsAdvance t u fs gs → IsAdvance s u es gs
advance-then s t u es fs gs a b = record {
  kept = keeps-then s t u a.kept b.kept;
  grown = grown-trans (clauses_of u) es fs gs (grown-same t u es fs b.kept a.grown) b.grown;
  levels = λ n h c o i w.
      let q : take n fs ≡ take n es = front-same es fs n a.grown.same o in
      let v : IsWatched (take n es) h t.arena c = a.levels n h c o i w in
      let j : is_in c (names t.arena) ≡ true = ap (is_in c) a.kept.named ∙ i in
      let m : n ≤ length fs = let z = a.grown.longer in omega arith in
      subst (λ z. IsWatched z h u.arena c) q (b.levels n h c m j (subst (λ z. IsWatched z h t.arena c) (sym q) v));
}

pub advance-present : (s t : StoreView) (es fs : List Entry) (h c : ℕ) → IsAdvance s t es fs → h ≤ length es → is_in c (names s.arena) ≡ true → IsWatched es h s.arena c → IsWatched fs h t.arena c
advance-present s t es fs h c a o i w =
    let q : take (length es) es ≡ es = take_all (length es) es (omega arith) in
    watched-grows es fs h t.arena c a.grown.same o
    (subst (λ z. IsWatched z h t.arena c) q (a.levels (length es) h c (omega arith) i (subst (λ z. IsWatched z h s.arena c) (sym q) w)))

pub newly-grows : (es fs : List Entry) (head : ℕ) (l : Lit) → take (length es) fs ≡ es → length es ≤ length fs → IsNewlyFalse es head l → IsNewlyFalse fs head l
newly-grows es fs head l s o n =
    let i = n.inside in
    let p : take head fs ≡ take head es = front-same es fs head s (omega arith) in
    let q : take (head + 1) fs ≡ take (head + 1) es = front-same es fs (head + 1) s (omega arith) in
    record {
      inside = omega arith;
      now = value-grows es fs l false s n.now;
      earlier = ap (λ z. value_in z l) p ∙ n.earlier;
      set = ap (λ z. is_false (value_in z l)) q ∙ n.set;
      next = λ x f. elim (n.next x (ap (λ z. is_false (value_in z x)) (sym q) ∙ f)) [ inl z ↦ inl (ap (λ y. is_false (value_in y x)) p ∙ z) | inr z ↦ inr z ];
    }

-- the walk begins
pub follow-start : (s : StoreView) → IsStore s → (es : List Entry) (head : ℕ) (l : Lit) (at : Option ℕ) (t : ℕ) → IsNewlyFalse es head l → Each (HasReason (clauses_of s)) es
    → AreWatched es head s.arena → at ≡ first (watching s l) → Followed s s es es head l None at t t
follow-start s k es head l at t nf r w e = record {
  advance = advance-self s es r;
  kept = [];
  rest = watching s l;
  split = refl;
  here = e;
  last = refl;
  done = λ c i o. unwatched-next s k es head l nf c i o (w c i);
  steps = refl;
}

-- what is known at a clause of the list
pub rest-some : (at : Option ℕ) (c : ℕ) (rest : List ℕ) → at ≡ first rest → at ≡ Some c → (more : List ℕ) × (rest ≡ c ∷ more)
rest-some at c [] e f = absurd (let z : None ≡ Some c = sym e ∙ f in cc)
rest-some at c (x ∷ more) e f = (more, let z : Some x ≡ Some c = sym e ∙ f in cc)

pub rest-none : (at : Option ℕ) (rest : List ℕ) → at ≡ first rest → at ≡ None → rest ≡ []
rest-none at [] e f = refl
rest-none at (x ∷ more) e f = absurd (let z : Some x ≡ None = sym e ∙ f in cc)

module _ (s0 s : StoreView) (es0 es : List Entry) (head : ℕ) (l : Lit) (before at : Option ℕ) (t0 t : ℕ) (f : Followed s0 s es0 es head l before at t0 t) (k : IsStore s)
    (lw : code_of l < s.arena.codes) (c : ℕ) (e : at ≡ Some c) where
  more : List ℕ
  more = (rest-some at c f.rest f.here e).0

  cut : watching s l ≡ f.kept ++ c ∷ more
  unfolding more rest-some
  cut = f.split ∙ ap (λ z. f.kept ++ z) (rest-some at c f.rest f.here e).1

  once : are_distinct (f.kept ++ c ∷ more) ≡ true
  once = ap are_distinct (sym cut) ∙ k.arena.once (code_of l) lw

  away : is_in c f.kept ≡ false
  away = cut-apart c f.kept more once

  pub here-on : is_in c (watching s l) ≡ true
  here-on = ap (is_in c) cut ∙ in-cut c f.kept more

  pub here-before : IsBefore (watching s l) before c
  here-before = subst (λ z. IsBefore z before c) (sym cut) (cut-before c before f.kept more once f.last)

  pub here-named : is_in c (names s.arena) ≡ true
  here-named = k.arena.named c (code_of l) lw here-on

  next-is : (next : Option ℕ) → next ≡ after (watching s l) c → next ≡ first more
  next-is next n = n ∙ (ap (λ z. after z c) cut ∙ cut-after c f.kept more away)

  steps-now : t + 1 + length more ≡ t0 + length (watching s0 l)
  unfolding more rest-some
  steps-now = let y : length f.rest ≡ length (c ∷ more) = ap length (rest-some at c f.rest f.here e).1 in let z = f.steps in omega (arith, y, z)

  pub steps-below : t < t0 + length (watching s0 l)
  steps-below = let z = steps-now in omega arith

  -- after a visit
  module _ (u : StoreView) (fs : List Entry) (next : Option ℕ) (n : next ≡ after (watching s l) c) (nf : IsNewlyFalse es head l) (a : IsAdvance s u es fs) where
    done-after : IsWatched fs (head + 1) u.arena c → (d : ℕ) → is_in d (names u.arena) ≡ true → is_in d more ≡ false → IsWatched fs (head + 1) u.arena d
    unfolding more rest-some
    done-after w d i o =
        let j : is_in d (names s.arena) ≡ true = ap (is_in d) (sym a.kept.named) ∙ i in
        elim (cases_eq d c) [
          | inl z ↦ subst (IsWatched fs (head + 1) u.arena) (sym z) w
          | inr z ↦
              let r : is_in d f.rest ≡ false = ap (is_in d) (rest-some at c f.rest f.here e).1 ∙ (ap (λ y. y || is_in d more) (ne_eqb d c z) ∙ o) in
              let b : head + 1 ≤ length es = let y = nf.inside in omega arith in
              advance-present s u es fs (head + 1) d a b j (f.done d j r)
        ]

    pub follow-kept : watching u l ≡ watching s l → IsWatched fs (head + 1) u.arena c → Followed s0 u es0 fs head l (Some c) next t0 (t + 1)
    follow-kept q w = record {
      advance = advance-then s0 s u es0 es fs f.advance a;
      kept = f.kept ++ c ∷ [];
      rest = more;
      split = q ∙ (cut ∙ sym (append_assoc f.kept (c ∷ []) more));
      here = next-is next n;
      last = (f.kept, refl);
      done = done-after w;
      steps = steps-now;
    }

    pub follow-moved : watching u l ≡ take_out c (watching s l) → IsWatched fs (head + 1) u.arena c → Followed s0 u es0 fs head l before next t0 (t + 1)
    follow-moved q w = record {
      advance = advance-then s0 s u es0 es fs f.advance a;
      kept = f.kept;
      rest = more;
      split = q ∙ (ap (take_out c) cut ∙ cut-out c f.kept more away);
      here = next-is next n;
      last = f.last;
      done = done-after w;
      steps = steps-now;
    }

pub follow-end : (s0 s : StoreView) (es0 es : List Entry) (head : ℕ) (l : Lit) (before at : Option ℕ) (t0 t : ℕ) → Followed s0 s es0 es head l before at t0 t → at ≡ None → AreWatched es (head + 1) s.arena
follow-end s0 s es0 es head l before at t0 t f e c i = f.done c i (ap (is_in c) (rest-none at f.rest f.here e))
