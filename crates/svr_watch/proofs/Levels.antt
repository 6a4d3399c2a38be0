-- What a search keeps of its watches
use Rattle.std.proofs.Common.{◌≡◌, ℕ, suc, zero, ◌+◌, ◌<◌, ◌≤◌, Bool, true, false, ◌&&◌, ◌||◌, not, List, [], ◌∷◌, ◌++◌, length, refl, ap, sym, ◌∙◌, subst, arith, Option, Some, None, get_or, map, take, inl, inr}
use Rattle.std.specs.Prelude.{◌⊎◌}
use Rattle.std.specs.Option.{option_map}
use Rattle.std.specs.List.{list_all, slice_get, All}
use Rattle.std.proofs.lemmas.Bool.{and_parts, or_cases, or_left, or_right, both_ways, cases_lt}
use Rattle.std.proofs.lemmas.List.{take_all, take-take, length_push, take-append-le, get_or_append_left, get_or_push, take_at, length-take-le, get_or-take}
use Rattle.std.proofs.lemmas.List.Elements.{All-cons, All-head, All-tail}
use Rattle.svr_arena.specs.Layout.{Layout, is_in, names}
use Rattle.svr_arena.specs.Arena.{body, lit_at, AreLits}
use Rattle.svr_chain.specs.declared.clause.Lit.{Lit}
use Rattle.svr_chain.specs.Clauses.{same_sign, same_lit, flip, has, is_tautology}
use Rattle.svr_chain.proofs.Sound.{same_lit-true}
use Rattle.svr_chain.proofs.Same.{all-has, lit-self}
use Rattle.svr_trail.specs.declared.Entry.{Entry}
use Rattle.svr_trail.specs.Trail.{sign_at, value_in, is_false, is_false_but, IsQuiet, IsClosed}
use Rattle.svr_trail.proofs.Quiet.{quiet-true, quiet-tautology}
use Rattle.svr_watch.specs.declared.store.Held.{Held}
use Rattle.svr_watch.specs.declared.store.Held.TheVariants.{Watched, Apart}
use Rattle.svr_watch.specs.Codes.{lit_of}
use Rattle.svr_watch.specs.Store.{StoreView, IsStore, clauses_of, held_lits, lits_of, watch, is_short}
use Rattle.svr_watch.specs.Watch.{IsWatched, AreWatched, IsAdvance, IsSettled, AreSettled, IsWatchedSearch, IsRanked}
use Rattle.svr_watch.proofs.Numbers.{lit_of-apart}
use Rattle.svr_watch.proofs.Values.{false-later, false-whole, value-grows, watched-grows, front-same, not_false-true}
use Rattle.svr_watch.proofs.Visit.{has-place, all-places}

-- a clause that is watched well by the whole trail is quiet
pub watched-quiet : (es : List Entry) (a : Layout) (codes c : ℕ) → AreLits codes (body a c) → IsWatched es (length es) a c → IsQuiet es (lits_of a c)
watched-quiet es a codes c k w p h =
    let two = k.two in
    let q : take (length es) es ≡ es = take_all (length es) es (omega arith) in
    let x : (same_lit (watch a c 0) p || is_false (value_in es (watch a c 0))) ≡ true
    = all-has (λ z. same_lit z p || is_false (value_in es z)) (lits_of a c) (watch a c 0) h (has-place (body a c) 0 (omega arith)) in
    let y : (same_lit (watch a c 1) p || is_false (value_in es (watch a c 1))) ≡ true
    = all-has (λ z. same_lit z p || is_false (value_in es z)) (lits_of a c) (watch a c 1) h (has-place (body a c) 1 (omega arith)) in
    elim (or_cases (same_lit (watch a c 0) p) (is_false (value_in es (watch a c 0))) x) [
      | inr f ↦
          let t : value_in es (watch a c 1) ≡ Some true = w.0 (ap (λ z. is_false (value_in z (watch a c 0))) q ∙ f) in
          elim (or_cases (same_lit (watch a c 1) p) (is_false (value_in es (watch a c 1))) y) [
            | inl e ↦ ap (value_in es) (sym (same_lit-true (watch a c 1) p e)) ∙ t
            | inr e ↦ absurd (not_false-true (value_in es (watch a c 1)) t e)
          ]
      | inl e ↦ elim (or_cases (same_lit (watch a c 1) p) (is_false (value_in es (watch a c 1))) y) [
        | inl d ↦
            absurd (k.apart 0 1 (omega arith) (omega arith) (lit_of-apart (lit_at a c 0) (lit_at a c 1) (same_lit-true (watch a c 0) p e ∙ sym (same_lit-true (watch a c 1) p d))))
        | inr f ↦
            let t : value_in es (watch a c 0) ≡ Some true = w.1 (ap (λ z. is_false (value_in z (watch a c 1))) q ∙ f) in
            ap (value_in es) (sym (same_lit-true (watch a c 0) p e)) ∙ t
      ]
    ]

pub settled-quiet : (es : List Entry) (k : List Lit) → IsSettled es k → IsQuiet es k
settled-quiet es k s = elim s [ inl t ↦ quiet-tautology es k t | inr t ↦ quiet-true es k t.0 t.1 t.2 ]

closed-held : (es : List Entry) (a : Layout) (hs : List Held) → ((i c : ℕ) → slice_get hs i ≡ Some (Watched c) → IsQuiet es (lits_of a c))
    → ((i : ℕ) (k : List Lit) → slice_get hs i ≡ Some (Apart k) → IsQuiet es k) → IsClosed es (map (held_lits a) hs)
closed-held es a [] f g = λ i d h. absurd (omega arith)
closed-held es a (Watched c ∷ hs) f g =
    All-cons (IsQuiet es) (lits_of a c) (map (held_lits a) hs) (f 0 c refl) (closed-held es a hs (λ i d h. f (suc i) d h) (λ i k h. g (suc i) k h))
closed-held es a (Apart k ∷ hs) f g =
    All-cons (IsQuiet es) k (map (held_lits a) hs) (g 0 k refl) (closed-held es a hs (λ i d h. f (suc i) d h) (λ i d h. g (suc i) d h))

slice-below : (hs : List Held) (i : ℕ) (h : Held) → slice_get hs i ≡ Some h → i < length hs
slice-below [] i h e = absurd (let z : None ≡ Some h = e in cc)
slice-below (x ∷ hs) zero h e = omega arith
slice-below (x ∷ hs) (suc i) h e = let r = slice-below hs i h e in omega arith

-- where the whole trail was followed and each clause apart was looked at, the trail is closed
pub closed-from_watched : (s : StoreView) → IsStore s → (es : List Entry) → AreWatched es (length es) s.arena → AreSettled es (length s.held) s → IsClosed es (clauses_of s)
closed-from_watched s k es w g =
    closed-held es s.arena s.held
    (λ i c h. let j = k.placed i c h in watched-quiet es s.arena s.arena.codes c (k.arena.clause c j) (w c j))
    (λ i d h. settled-quiet es d (g i d (slice-below s.held i (Apart d) h) h))

pub settled-grows : (s : StoreView) (es fs : List Entry) (seen : ℕ) → take (length es) fs ≡ es → AreSettled es seen s → AreSettled fs seen s
settled-grows s es fs seen q g i k o h = elim (g i k o h) [ inl t ↦ inl t | inr t ↦ inr (t.0, t.1, value-grows es fs t.0 true q t.2) ]

-- a short clause that is quiet has a true literal
flip-both : (o : Option Bool) (n : Bool) → option_map (λ b. same_sign b n) o ≡ Some true → option_map (λ b. same_sign b (not n)) o ≡ Some true → ⊥
flip-both None n f g = absurd (let z : None ≡ Some true = f in cc)
flip-both (Some true) true f g = absurd (let z : Some false ≡ Some true = g in cc)
flip-both (Some true) false f g = absurd (let z : Some false ≡ Some true = f in cc)
flip-both (Some false) true f g = absurd (let z : Some false ≡ Some true = f in cc)
flip-both (Some false) false f g = absurd (let z : Some false ≡ Some true = g in cc)

pub short-settled : (es : List Entry) (k : List Lit) → is_short k ≡ true → IsQuiet es k → IsSettled es k
short-settled es [] h q =
    let p : Lit = record { var = 0; neg = true } in
    absurd (flip-both (sign_at es 0) true (q p refl) (q (flip p) refl))
short-settled es (x ∷ xs) h q =
    inr (x, or_left (same_lit x x) (has xs x) (lit-self x), q x (ones (x ∷ xs) (all-own h)))
  where
    all-own : list_all (λ y. same_lit y x) xs ≡ true → list_all (λ y. same_lit y x) (x ∷ xs) ≡ true
    all-own e = ap (λ z. z && list_all (λ y. same_lit y x) xs) (lit-self x) ∙ e

    ones : (ys : List Lit) → list_all (λ y. same_lit y x) ys ≡ true → is_false_but es x ys ≡ true
    ones [] e = refl
    ones (y ∷ ys) e =
        let b = and_parts (same_lit y x) (list_all (λ z. same_lit z x) ys) e in
        ap (λ z. (z || is_false (value_in es y)) && is_false_but es x ys) b.0 ∙ ones ys b.1

-- a propagation
pub search-advance : (s t : StoreView) (es fs : List Entry) (ends heads : List ℕ) (head seen new : ℕ) → IsAdvance s t es fs → IsWatchedSearch s es ends heads head seen
    → new ≤ length fs → AreWatched fs new t.arena → IsWatchedSearch t fs ends heads new seen
search-advance s t es fs ends heads head seen new a w o p = record {
  present = p;
  levels = λ j h c i.
      let q : take (get_or ends j 0) fs ≡ take (get_or ends j 0) es = front-same es fs (get_or ends j 0) a.grown.same (w.short j h) in
      let i' : is_in c (names s.arena) ≡ true = ap (is_in c) (sym a.kept.named) ∙ i in
      subst (λ z. IsWatched z (get_or heads j 0) t.arena c) (sym q) (a.levels (get_or ends j 0) (get_or heads j 0) c (w.short j h) i' (w.levels j h c i'));
  sized = w.sized;
  high = o;
  heads_high = w.heads_high;
  short = λ j h. let x = w.short j h in let y = a.grown.longer in omega arith;
  settled = λ i k h e. settled-grows s es fs seen a.grown.same w.settled i k h (ap (λ z. slice_get z i) (sym a.kept.held) ∙ e);
  seen_high = let z : length t.held ≡ length s.held = ap length a.kept.held in let y = w.seen_high in omega arith;
}

-- a decision: the level that ends keeps the head that it has
pub search-decide : (s : StoreView) (es : List Entry) (e : Entry) (ends heads : List ℕ) (head seen : ℕ) → IsWatchedSearch s es ends heads head seen
    → IsWatchedSearch s (es ++ e ∷ []) (ends ++ length es ∷ []) (heads ++ head ∷ []) head seen
search-decide s es e ends heads head seen w =
    let q : take (length es) (es ++ e ∷ []) ≡ es = take_at es (e ∷ []) (length es) refl in
    let l = length_push es e in
    let m = length_push ends (length es) in
    let n = length_push heads head in
    let sized = w.sized in
    let old_end : (j : ℕ) → j < length ends → get_or (ends ++ length es ∷ []) j 0 ≡ get_or ends j 0 = λ j h. get_or_append_left ends (length es ∷ []) 0 j h in
    let old_head : (j : ℕ) → j < length ends → get_or (heads ++ head ∷ []) j 0 ≡ get_or heads j 0 = λ j h. get_or_append_left heads (head ∷ []) 0 j (omega arith) in
    let new_end : (j : ℕ) → length ends ≤ j → j < length (ends ++ length es ∷ []) → get_or (ends ++ length es ∷ []) j 0 ≡ length es
    = λ j o h. let r : length ends ≡ j = omega arith in get_or_push ends (length es) 0 j r in
    let new_head : (j : ℕ) → length ends ≤ j → j < length (ends ++ length es ∷ []) → get_or (heads ++ head ∷ []) j 0 ≡ head
    = λ j o h. let r : length heads ≡ j = omega arith in get_or_push heads head 0 j r in
    record {
      present = λ c i. watched-grows es (es ++ e ∷ []) head s.arena c q w.high (w.present c i);
      levels = λ j h. elim (cases_lt j (length ends)) [
        | inl o ↦
            let t : take (get_or ends j 0) (es ++ e ∷ []) ≡ take (get_or ends j 0) es = take-append-le (get_or ends j 0) es (e ∷ []) (w.short j o) in
            rw (old_end j o, old_head j o, t) (w.levels j o)
        | inr o ↦ rw (new_end j o h, new_head j o h, q) w.present
      ];
      sized = omega (arith, m, n, sized);
      high = let z = w.high in omega (arith, l, z);
      heads_high = λ j h. elim (cases_lt j (length ends)) [
        | inl o ↦ omega (arith, old_end j o, old_head j o, w.heads_high j o)
        | inr o ↦ omega (arith, new_end j o h, new_head j o h, w.high)
      ];
      short = λ j h. elim (cases_lt j (length ends)) [
        | inl o ↦ omega (arith, old_end j o, w.short j o, l)
        | inr o ↦ omega (arith, new_end j o h, l)
      ];
      settled = settled-grows s es (es ++ e ∷ []) seen q w.settled;
      seen_high = w.seen_high;
    }

-- a return to the end of a level, which was closed
pub search-backjump : (s : StoreView) → IsStore s → (es : List Entry) (ends heads : List ℕ) (head seen level : ℕ) → IsWatchedSearch s es ends heads head seen → level < length ends
    → ((j k : ℕ) → j < k → k < length ends → get_or ends j 0 < get_or ends k 0) → IsClosed (take (get_or ends level 0) es) (clauses_of s)
    → IsWatchedSearch s (take (get_or ends level 0) es) (take level ends) (take level heads) (get_or heads level 0) seen
search-backjump s k es ends heads head seen level w h rising closed =
    let n : ℕ = get_or ends level 0 in
    let sized = w.sized in
    let le : length (take n es) ≡ n = length-take-le n es (w.short level h) in
    let ln : length (take level ends) ≡ level = length-take-le level ends (omega arith) in
    let lh : length (take level heads) ≡ level = length-take-le level heads (omega arith) in
    let end : (j : ℕ) → j < level → get_or (take level ends) j 0 ≡ get_or ends j 0 = λ j o. get_or-take level ends j 0 o in
    let hd : (j : ℕ) → j < level → get_or (take level heads) j 0 ≡ get_or heads j 0 = λ j o. get_or-take level heads j 0 o in
    record {
      present = w.levels level h;
      levels = λ j o.
          let p : j < level = omega arith in
          let r = rising j level p h in
          rw (end j p, hd j p, take-take (get_or ends j 0) n es (omega arith)) (w.levels j (omega arith));
      sized = omega arith;
      high = let z = w.heads_high level h in omega arith;
      heads_high = λ j o. let p : j < level = omega arith in omega (arith, end j p, hd j p, w.heads_high j (omega arith));
      short = λ j o. let p : j < level = omega arith in omega (arith, end j p, rising j level p h, le);
      settled = λ i d o e. all-settled i d e;
      seen_high = w.seen_high;
    }
  where
    quiet-at : (hs : List Held) (i : ℕ) (d : List Lit) → slice_get hs i ≡ Some (Apart d) → IsClosed (take (get_or ends level 0) es) (map (held_lits s.arena) hs) → IsQuiet (take (get_or ends level 0) es) d
    quiet-at [] i d e c = absurd (let z : None ≡ Some (Apart d) = e in cc)
    quiet-at (x ∷ hs) zero d e c =
        let q : x ≡ Apart d = (let z : Some x ≡ Some (Apart d) = e in cc) in
        subst (λ y. IsQuiet (take (get_or ends level 0) es) (held_lits s.arena y)) q (All-head (IsQuiet (take (get_or ends level 0) es)) (held_lits s.arena x) (map (held_lits s.arena) hs) c)
    quiet-at (x ∷ hs) (suc i) d e c = quiet-at hs i d e (All-tail (IsQuiet (take (get_or ends level 0) es)) (held_lits s.arena x) (map (held_lits s.arena) hs) c)

    all-settled : (i : ℕ) (d : List Lit) → slice_get s.held i ≡ Some (Apart d) → IsSettled (take (get_or ends level 0) es) d
    all-settled i d e =
        elim (k.apart i d e) [
          | inl t ↦ inl t
          | inr t ↦ short-settled (take (get_or ends level 0) es) d t (quiet-at s.held i d e closed)
        ]

-- a learned clause whose first two literals became false last is watched well at the end of each level at whose end it is quiet
pub ranked-level : (es : List Entry) (a : Layout) (codes c n h : ℕ) → AreLits codes (body a c) → IsRanked es (body a c) → h ≤ n → IsQuiet (take n es) (lits_of a c) → IsWatched (take n es) h a c
ranked-level es a codes c n h k r o q = (
  λ f. absurd (not_false-true (value_in (take n es) (watch a c 0)) (first-true (r.first h (whole (watch a c 0) f))) (false-whole (take n es) h (watch a c 0) f)),
  λ f. first-true (whole (watch a c 1) f),
)
  where
    whole : (x : Lit) → is_false (value_in (take h (take n es)) x) ≡ true → is_false (value_in (take h es) x) ≡ true
    whole x f = ap (λ z. is_false (value_in z x)) (sym (take-take h n es o)) ∙ f

    first-true : is_false (value_in (take h es) (watch a c 1)) ≡ true → value_in (take n es) (watch a c 0) ≡ Some true
    first-true f = q (watch a c 0) (all-places (λ x. same_lit x (watch a c 0) || is_false (value_in (take n es) x)) (body a c) at)
      where
        up : (x : Lit) → is_false (value_in (take h es) x) ≡ true → is_false (value_in (take n es) x) ≡ true
        up x g = false-later es h n x o g

        at : (j : ℕ) → j < length (body a c) → (same_lit (lit_of (lit_at a c j)) (watch a c 0) || is_false (value_in (take n es) (lit_of (lit_at a c j)))) ≡ true
        at zero b = or_left (same_lit (watch a c 0) (watch a c 0)) (is_false (value_in (take n es) (watch a c 0))) (lit-self (watch a c 0))
        at (suc zero) b = or_right (same_lit (watch a c 1) (watch a c 0)) (is_false (value_in (take n es) (watch a c 1))) (up (watch a c 1) f)
        at (suc (suc j)) b =
            or_right (same_lit (lit_of (lit_at a c (suc (suc j)))) (watch a c 0)) (is_false (value_in (take n es) (lit_of (lit_at a c (suc (suc j))))))
            (up (lit_of (lit_at a c (suc (suc j)))) (r.rest h (suc (suc j)) f (omega arith) b))

-- all literals of a short clause are its first one
pub short-ones : (q : Lit → Bool) (x : Lit) (xs : List Lit) → is_short (x ∷ xs) ≡ true → q x ≡ true → list_all q (x ∷ xs) ≡ true
short-ones q x xs h a = ap (λ z. z && list_all q xs) a ∙ goes xs h
  where
    goes : (ys : List Lit) → list_all (λ y. same_lit y x) ys ≡ true → list_all q ys ≡ true
    goes [] e = refl
    goes (y ∷ ys) e =
        let b = and_parts (same_lit y x) (list_all (λ z. same_lit z x) ys) e in
        ap (λ z. z && list_all q ys) (ap q (same_lit-true y x b.0) ∙ a) ∙ goes ys b.1

pub has-first : (x : Lit) (xs : List Lit) → has (x ∷ xs) x ≡ true
has-first x xs = or_left (same_lit x x) (has xs x) (lit-self x)

-- one place more is settled
pub settled-more : (s : StoreView) (es : List Entry) (seen : ℕ) → AreSettled es seen s → ((k : List Lit) → slice_get s.held seen ≡ Some (Apart k) → IsSettled es k) → AreSettled es (seen + 1) s
settled-more s es seen a f i k h e =
    elim (cases_lt i seen) [
      | inl o ↦ a i k o e
      | inr o ↦ let q : i ≡ seen = omega arith in f k (ap (slice_get s.held) (sym q) ∙ e)
    ]

pub all-get : (P : List Lit → Type 0) (ks : List (List Lit)) (i : ℕ) (k : List Lit) → All P ks → slice_get ks i ≡ Some k → P k
all-get P [] i k a e = absurd (let z : None ≡ Some k = e in cc)
all-get P (x ∷ ks) zero k a e = let q : x ≡ k = (let z : Some x ≡ Some k = e in cc) in subst P q (All-head P x ks a)
all-get P (x ∷ ks) (suc i) k a e = all-get P ks i k (All-tail P x ks a) e

pub short-of : (k : List Lit) → (is_tautology k ≡ true) ⊎ (is_short k ≡ true) → is_tautology k ≡ false → is_short k ≡ true
short-of k s f = elim s [ inl t ↦ absurd (both_ways (is_tautology k) f t) | inr t ↦ t ]

pub short-first : (q : Lit → Bool) (xs : List Lit) (x : Lit) → Some x ≡ slice_get xs 0 → is_short xs ≡ true → q x ≡ true → list_all q xs ≡ true
short-first q [] x e h a = absurd (let z : Some x ≡ None = e in cc)
short-first q (y ∷ ys) x e h a = let z : x ≡ y = (let w : Some x ≡ Some y = e in cc) in short-ones q y ys h (ap q (sym z) ∙ a)

pub first-there : (xs : List Lit) (x : Lit) → Some x ≡ slice_get xs 0 → has xs x ≡ true
first-there [] x e = absurd (let z : Some x ≡ None = e in cc)
first-there (y ∷ ys) x e = let z : x ≡ y = (let w : Some x ≡ Some y = e in cc) in ap (has (y ∷ ys)) z ∙ has-first y ys

-- a look at clauses apart
pub search-look : (s : StoreView) (es fs : List Entry) (ends heads : List ℕ) (head seen new : ℕ) → take (length es) fs ≡ es → length es ≤ length fs → AreSettled fs new s → new ≤ length s.held
    → IsWatchedSearch s es ends heads head seen → IsWatchedSearch s fs ends heads head new
search-look s es fs ends heads head seen new q l a o w = record {
  present = λ c i. watched-grows es fs head s.arena c q w.high (w.present c i);
  levels = λ j h c i.
      let p : take (get_or ends j 0) fs ≡ take (get_or ends j 0) es = front-same es fs (get_or ends j 0) q (w.short j h) in
      subst (λ z. IsWatched z (get_or heads j 0) s.arena c) (sym p) (w.levels j h c i);
  sized = w.sized;
  high = let z = w.high in omega arith;
  heads_high = w.heads_high;
  short = λ j h. let z = w.short j h in omega arith;
  settled = a;
  seen_high = o;
}

-- after a whole propagation the trail is closed
pub search-closed : (t : StoreView) → IsStore t → (es : List Entry) (ends heads : List ℕ) (head seen : ℕ) → IsWatchedSearch t es ends heads head seen → head ≡ length es → seen ≡ length t.held
    → IsClosed es (clauses_of t)
search-closed t k es ends heads head seen w e f = closed-from_watched t k es (subst (λ z. AreWatched es z t.arena) e w.present) (subst (λ z. AreSettled es z t) f w.settled)
