-- What the watches keep as a clause is learned
use Rattle.std.proofs.Common.{◌≡◌, ℕ, suc, ◌*◌, ◌<◌, ◌≤◌, true, ◌||◌, List, [], ◌∷◌, ◌++◌, length, refl, ap, sym, ◌∙◌, subst, arith, Option, Some, None, get_or, take, map, inl, inr}
use Rattle.std.specs.Prelude.{IfSome, IfNone}
use Rattle.std.proofs.lemmas.Bool.{or_cases}
use Rattle.std.proofs.lemmas.List.{length_push, take_all, take_at}
use Rattle.std.proofs.lemmas.List.Elements.{All-nil, All-cons}
use Rattle.svr_arena.specs.Arena.{AreLits}
use Rattle.svr_chain.specs.declared.clause.Lit.{Lit}
use Rattle.svr_chain.specs.Clauses.{AreWithin, IsWithin, same_lit}
use Rattle.svr_chain.specs.Same.{SameLits}
use Rattle.svr_chain.proofs.Same.{all-same, all-has}
use Rattle.svr_chain.proofs.Sound.{same_lit-true}
use Rattle.svr_trail.specs.declared.Entry.{Entry}
use Rattle.svr_trail.specs.Trail.{IsQuiet, IsUnit, is_false, value_in}
use Rattle.svr_chain.proofs.ClauseLemmas.{All-has}
use Rattle.svr_watch.specs.declared.store.Held.TheVariants.{Apart}
use Rattle.svr_watch.specs.Codes.{lit_of}
use Rattle.svr_watch.specs.Store.{StoreView, IsAdded, IsRoomier}
use Rattle.svr_watch.specs.Watch.{IsWatchedSearch, IsRanked, IsReady, after_force}
use Rattle.svr_watch.proofs.Numbers.{lit-within}
use Rattle.svr_watch.proofs.Adding.{get-front}
use Rattle.svr_watch.proofs.Levels.{settled-grows, search-look}
use Rattle.svr_watch.proofs.Learning.{search-learn}
use Rattle.svr_watch.proofs.Ranking.{watched-learned}

pub force-front : (es : List Entry) (forced : Option Lit) (n : ℕ) → take (length es) (after_force es forced n) ≡ es
force-front es None n = take_all (length es) es (omega arith)
force-front es (Some p) n = take_at es (record { lit = p; reason = Some n } ∷ []) (length es) refl

pub force-long : (es : List Entry) (forced : Option Lit) (n : ℕ) → length es ≤ length (after_force es forced n)
force-long es None n = omega arith
force-long es (Some p) n = omega (arith, length_push es (record { lit = p; reason = Some n }))

pub lits-within : (vars n : ℕ) (xs : List ℕ) → n ≡ 2 * vars → ((j : ℕ) → j < length xs → get_or xs j 0 < n) → AreWithin vars (map lit_of xs)
lits-within vars n [] e b = All-nil (IsWithin vars)
lits-within vars n (x ∷ xs) e b = All-cons (IsWithin vars) (lit_of x) (map lit_of xs) (lit-within vars n x e (b 0 (omega arith))) (lits-within vars n xs e (λ j h. b (suc j) (omega arith)))

pub some-within : (vars : ℕ) (es : List Entry) (c : List Lit) (o : Option Lit) → AreWithin vars c → IfSome o (IsUnit es c) → IfSome o (IsWithin vars)
some-within vars es c None w u = tt
some-within vars es c (Some p) w u = All-has (IsWithin vars) c p w u.1

pub some-open : (es : List Entry) (c : List Lit) (o : Option Lit) → IfSome o (IsUnit es c) → IfSome o (λ p. value_in es p ≡ None)
some-open es c None u = tt
some-open es c (Some p) u = u.0

unit-one : (es : List Entry) (c : List Lit) (p q : Lit) → IsUnit es c q → IsUnit es c p → q ≡ p
unit-one es c p q a b =
    elim (or_cases (same_lit q p) (is_false (value_in es q)) (all-has (λ x. same_lit x p || is_false (value_in es x)) c q b.2 a.1)) [
      | inl e ↦ same_lit-true q p e
      | inr e ↦ absurd (let z : is_false None ≡ true = ap is_false (sym a.0) ∙ e in cc)
    ]

pub force-is : (es : List Entry) (c : List Lit) (o : Option Lit) (n : ℕ) → IfSome o (IsUnit es c) → IfNone o ((p : Lit) → IsUnit es c p → ⊥) → (p : Lit) → IsUnit es c p
    → after_force es o n ≡ es ++ record { lit = p; reason = Some n } ∷ []
force-is es c None n s u p h = absurd (u p h)
force-is es c (Some q) n s u p h = ap (λ (z : Lit). es ++ record { lit = z; reason = Some n } ∷ []) (unit-one es c p q s h)

pub unit-same : (es : List Entry) (c d : List Lit) (p : Lit) → SameLits c d → IsUnit es c p → IsUnit es d p
unit-same es c d p s u = (u.0, sym (s p) ∙ u.1, sym (all-same (λ x. same_lit x p || is_false (value_in es x)) c d s) ∙ u.2)

pub some-same : (es : List Entry) (c d : List Lit) (o : Option Lit) → SameLits c d → IfSome o (IsUnit es c) → IfSome o (IsUnit es d)
some-same es c d None s u = tt
some-same es c d (Some p) s u = unit-same es c d p s u

pub roomier-watched : (s t : StoreView) (es : List Entry) (ends heads : List ℕ) (head seen : ℕ) → IsRoomier s t → IsWatchedSearch s es ends heads head seen → IsWatchedSearch t es ends heads head seen
roomier-watched s t es ends heads head seen e w =
    subst (λ (z : StoreView). IsWatchedSearch z es ends heads head seen) (sym e)
    (record {
      present = w.present;
      levels = w.levels;
      sized = w.sized;
      high = w.high;
      heads_high = w.heads_high;
      short = w.short;
      settled = w.settled;
      seen_high = w.seen_high;
    })

pub apart-watched : (s : StoreView) (k : List Lit) (es fs : List Entry) (ends heads : List ℕ) (head seen : ℕ) → take (length es) fs ≡ es → length es ≤ length fs
    → IsWatchedSearch s es ends heads head seen → IsWatchedSearch (record { arena = s.arena; held = s.held ++ Apart k ∷ [] }) fs ends heads head seen
apart-watched s k es fs ends heads head seen q l w0 =
    let w = search-look s es fs ends heads head seen seen q l (settled-grows s es fs seen q w0.settled) w0.seen_high w0 in
    record {
      present = w.present;
      levels = w.levels;
      sized = w.sized;
      high = w.high;
      heads_high = w.heads_high;
      short = w.short;
      settled = λ i d x e. w.settled i d x (sym (get-front s.held (Apart k) i (let z = w0.seen_high in omega arith)) ∙ e);
      seen_high = let z = w0.seen_high in omega (arith, length_push s.held (Apart k));
    }

-- a clause more in the arena, whose first two literals became false last
pub added-watched : (s t : StoreView) (es : List Entry) (ends heads : List ℕ) (head seen new codes c : ℕ) (xs : List ℕ) (forced : Option Lit) (n : ℕ) → IsWatchedSearch s es ends heads head seen
    → IsAdded s t c xs → AreLits codes xs → IsRanked es xs → ((j : ℕ) → j < length ends → IsQuiet (take (get_or ends j 0) es) (map lit_of xs)) → new ≤ head → IsReady es xs new
    → IfSome forced (IsUnit es (map lit_of xs)) → IfNone forced ((p : Lit) → IsUnit es (map lit_of xs) p → ⊥) → IfSome forced (λ p. p ≡ lit_of (get_or xs 0 0))
    → IsWatchedSearch t (after_force es forced n) ends heads new seen
added-watched s t es ends heads head seen new codes c xs forced n w e k r q o y some none first =
    let z = e.own in
    search-learn s t es (after_force es forced n) ends heads head seen new codes c w e.named e.others e.held (subst (AreLits codes) (sym z) k) (subst (IsRanked es) (sym z) r)
    (λ j h. subst (λ v. IsQuiet (take (get_or ends j 0) es) (map lit_of v)) (sym z) (q j h)) o (force-front es forced n) (force-long es forced n)
    (watched-learned es xs r k.two t.arena c new forced n z y (pair forced some first) none)
  where
    pair : (o : Option Lit) → IfSome o (IsUnit es (map lit_of xs)) → IfSome o (λ p. p ≡ lit_of (get_or xs 0 0)) → IfSome o (λ p. (value_in es p ≡ None) × (p ≡ lit_of (get_or xs 0 0)))
    pair None a b = tt
    pair (Some p) a b = (a.0, b)
