-- What a search keeps of its watches as it learns a clause
use Rattle.std.proofs.Common.{◌≡◌, ℕ, suc, zero, ◌<◌, ◌≤◌, true, false, ◌||◌, nat_eq, List, [], ◌∷◌, ◌++◌, length, refl, ap, sym, ◌∙◌, subst, arith, Some, get_or, take, inl, inr}
use Rattle.std.specs.Prelude.{◌⊎◌}
use Rattle.std.specs.List.{slice_get}
use Rattle.std.proofs.lemmas.Bool.{or_cases, eqb-true, false≢true}
use Rattle.std.proofs.lemmas.List.{length_push}
use Rattle.std.proofs.lemmas.List.Folds.{list_any-append}
use Rattle.svr_arena.specs.Layout.{Layout, is_in, names}
use Rattle.svr_arena.specs.Arena.{body, AreLits}
use Rattle.svr_trail.specs.declared.Entry.{Entry}
use Rattle.svr_trail.specs.Trail.{value_in, is_false, IsQuiet}
use Rattle.svr_watch.specs.declared.store.Held.{Held}
use Rattle.svr_watch.specs.declared.store.Held.TheVariants.{Watched, Apart}
use Rattle.svr_watch.specs.Store.{StoreView, lits_of, watch}
use Rattle.svr_watch.specs.Watch.{IsWatched, IsWatchedSearch, IsRanked}
use Rattle.svr_watch.proofs.Values.{false-later, front-same, watched-grows, watched-open, value-grows}
use Rattle.svr_watch.proofs.Visit.{watched-same}
use Rattle.svr_watch.proofs.Levels.{ranked-level}

-- what is watched well up to a head is watched well up to an earlier one
pub watched-less : (es : List Entry) (h k : ℕ) (a : Layout) (c : ℕ) → h ≤ k → IsWatched es k a c → IsWatched es h a c
watched-less es h k a c o w = (λ f. w.0 (false-later es h k (watch a c 0) o f), λ f. w.1 (false-later es h k (watch a c 1) o f))

-- a clause of which the second literal is not false yet
pub ranked-open : (es fs : List Entry) (h : ℕ) (a : Layout) (c : ℕ) → take h fs ≡ take h es → IsRanked es (body a c) → (is_false (value_in (take h es) (watch a c 1)) ≡ true → ⊥) → IsWatched fs h a c
ranked-open es fs h a c q r f =
    watched-open fs h a c (λ z. f (r.first h (ap (λ y. is_false (value_in y (watch a c 0))) (sym q) ∙ z))) (λ z. f (ap (λ y. is_false (value_in y (watch a c 1))) (sym q) ∙ z))

get-front : (hs : List Held) (x : Held) (i : ℕ) → i < length hs → slice_get (hs ++ x ∷ []) i ≡ slice_get hs i
get-front [] x i h = absurd (omega arith)
get-front (y ∷ hs) x zero h = refl
get-front (y ∷ hs) x (suc i) h = get-front hs x i (omega arith)

in-longer : (ns : List ℕ) (c d : ℕ) → is_in d (ns ++ c ∷ []) ≡ true → (is_in d ns ≡ true) ⊎ (d ≡ c)
in-longer ns c d g =
    elim (or_cases (is_in d ns) (nat_eq d c || false) (sym (list_any-append (λ x. nat_eq d x) ns (c ∷ [])) ∙ g)) [
      | inl e ↦ inl e
      | inr e ↦ elim (or_cases (nat_eq d c) false e) [ inl f ↦ inr (eqb-true d c f) | inr f ↦ absurd (false≢true f) ]
    ]

-- one clause more in the arena, whose first two literals became false last
pub search-learn : (s t : StoreView) (es fs : List Entry) (ends heads : List ℕ) (head seen new codes c : ℕ) → IsWatchedSearch s es ends heads head seen
    → names t.arena ≡ names s.arena ++ c ∷ [] → ((d : ℕ) → is_in d (names s.arena) ≡ true → body t.arena d ≡ body s.arena d) → t.held ≡ s.held ++ Watched c ∷ []
    → AreLits codes (body t.arena c) → IsRanked es (body t.arena c) → ((j : ℕ) → j < length ends → IsQuiet (take (get_or ends j 0) es) (lits_of t.arena c))
    → new ≤ head → take (length es) fs ≡ es → length es ≤ length fs → IsWatched fs new t.arena c → IsWatchedSearch t fs ends heads new seen
search-learn s t es fs ends heads head seen new codes c w n b h k r q o p l own = record {
  present = λ d i. elim (in-longer (names s.arena) c d (ap (is_in d) (sym n) ∙ i)) [
    | inl j ↦
        let z = w.high in
        watched-grows es fs new t.arena d p (omega arith) (watched-same es new s.arena t.arena d (b d j) (watched-less es new head s.arena d o (w.present d j)))
    | inr e ↦ subst (IsWatched fs new t.arena) (sym e) own
  ];
  levels = λ j y d i.
      let m : take (get_or ends j 0) fs ≡ take (get_or ends j 0) es = front-same es fs (get_or ends j 0) p (w.short j y) in
      subst (λ z. IsWatched z (get_or heads j 0) t.arena d) (sym m)
      (elim (in-longer (names s.arena) c d (ap (is_in d) (sym n) ∙ i)) [
        | inl x ↦ watched-same (take (get_or ends j 0) es) (get_or heads j 0) s.arena t.arena d (b d x) (w.levels j y d x)
        | inr e ↦
            subst (IsWatched (take (get_or ends j 0) es) (get_or heads j 0) t.arena) (sym e)
            (ranked-level es t.arena codes c (get_or ends j 0) (get_or heads j 0) k r (w.heads_high j y) (q j y))
      ]);
  sized = w.sized;
  high = let z = w.high in omega arith;
  heads_high = w.heads_high;
  short = λ j y. let z = w.short j y in omega arith;
  settled = λ i d x e.
      let g : slice_get s.held i ≡ Some (Apart d) = sym (get-front s.held (Watched c) i (let z = w.seen_high in omega arith)) ∙ (ap (λ z. slice_get z i) (sym h) ∙ e) in
      elim (w.settled i d x g) [ inl z ↦ inl z | inr z ↦ inr (z.0, z.1, value-grows es fs z.0 true p z.2) ];
  seen_high = let z : length t.held ≡ length (s.held ++ Watched c ∷ []) = ap length h in let y = length_push s.held (Watched c) in let v = w.seen_high in omega arith;
}
