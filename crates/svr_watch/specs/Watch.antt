-- Watches: what unit propagation keeps of the first two literals of each clause
use Rattle.std.specs.Prelude.{◌≡◌, ℕ, ◌+◌, ◌⊎◌, ◌≤◌, ◌<◌, Bool, true, false, List, [], ◌∷◌, ◌++◌, Option, Some, None, length, take, slice_index}
use Rattle.svr_arena.specs.Layout.{Layout, names, is_in}
use Rattle.svr_chain.specs.declared.clause.Lit.{Lit}
use Rattle.svr_trail.specs.declared.Entry.{Entry}
use Rattle.svr_watch.specs.declared.watch.Outcome.{Outcome}
use Rattle.svr_watch.specs.declared.watch.Outcome.TheVariants.{Kept, Moved, False}
use Rattle.svr_trail.specs.Trail.{value_in, is_false, IsGrown}
use Rattle.std.specs.List.{slice_get}
use Rattle.svr_chain.specs.Clauses.{has, is_tautology}
use Rattle.svr_watch.specs.declared.store.Held.TheVariants.{Apart}
use Rattle.svr_watch.specs.Codes.{lit_of}
use Rattle.svr_watch.specs.Store.{StoreView, clauses_of, watch, watching, KeepsStore}
use Rattle.svr_arena.specs.Layout.{take_out, first}
use Rattle.svr_arena.specs.Arena.{body}
use Rattle.std.specs.List.{sum_by}

-- where x is false by the first h entries, y is true
abbrev pub IsBacked : List Entry → ℕ → Lit → Lit → Type 0
IsBacked es h x y = is_false (value_in (take h es) x) ≡ true → value_in es y ≡ Some true

-- of the two watched literals of a clause, where one is false by the first h entries, the other is true
abbrev pub IsWatched : List Entry → ℕ → Layout → ℕ → Type 0
IsWatched es h a c = IsBacked es h (watch a c 0) (watch a c 1) × IsBacked es h (watch a c 1) (watch a c 0)

abbrev pub AreWatched : List Entry → ℕ → Layout → Type 0
AreWatched es h a = (c : ℕ) → is_in c (names a) ≡ true → IsWatched es h a c

-- what a part of a propagation keeps of the watches and adds to the trail: what was watched well at the end of a level or now is watched well there by the new watches
pub record IsAdvance (s t : StoreView) (es fs : List Entry) : Type 0 where
  pub kept : KeepsStore s t
  pub grown : IsGrown (clauses_of t) es fs
  pub levels : (n h c : ℕ) → n ≤ length es → is_in c (names s.arena) ≡ true → IsWatched (take n es) h s.arena c → IsWatched (take n es) h t.arena c

-- the literal is false by the entry at `head`
pub record IsNewlyFalse (es : List Entry) (head : ℕ) (l : Lit) : Type 0 where
  pub inside : head < length es
  pub now : value_in es l ≡ Some false
  pub earlier : value_in (take head es) l ≡ None
  pub set : is_false (value_in (take (head + 1) es) l) ≡ true
  pub next : (x : Lit) → is_false (value_in (take (head + 1) es) x) ≡ true → (is_false (value_in (take head es) x) ≡ true) ⊎ (x ≡ l)

-- what a visit does to the list of the literal
abbrev pub Leaves : Outcome → ℕ → List ℕ → List ℕ → Type 0
Leaves Kept c old new = new ≡ old
Leaves Moved c old new = new ≡ take_out c old
Leaves False c old new = new ≡ old

-- how many literals the clauses of the arena have together
abbrev pub literals_of : Layout → ℕ
literals_of a = sum_by (λ c. length (body a c)) (names a)

abbrev pub IsLast : Option ℕ → List ℕ → Type 0
IsLast None xs = xs ≡ []
IsLast (Some b) xs = (front : List ℕ) × (xs ≡ front ++ b ∷ [])

-- the walk over the list of a literal: what was visited and stayed is followed by what is left, whose first is `at`
pub record Followed (s0 s : StoreView) (es0 es : List Entry) (head : ℕ) (l : Lit) (before at : Option ℕ) (t0 t : ℕ) : Type 0 where
  pub advance : IsAdvance s0 s es0 es
  pub kept : List ℕ
  pub rest : List ℕ
  pub split : watching s l ≡ kept ++ rest
  pub here : at ≡ first rest
  pub last : IsLast before kept
  pub done : (c : ℕ) → is_in c (names s.arena) ≡ true → is_in c rest ≡ false → IsWatched es (head + 1) s.arena c
  pub steps : t + length rest ≡ t0 + length (watching s0 l)

abbrev pub one_unless : Bool → ℕ
one_unless true = 0
one_unless false = 1

-- how many literals of the clause are not false by the first h entries
abbrev pub unpaid_in : List Entry → ℕ → List ℕ → ℕ
unpaid_in es h xs = sum_by (λ x. one_unless (is_false (value_in (take h es) (lit_of x)))) xs

abbrev pub unpaid : List Entry → ℕ → Layout → ℕ
unpaid es h a = sum_by (λ c. unpaid_in es h (body a c)) (names a)

-- a clause outside the arena with which propagation has nothing to do: a tautology, or one with a true literal
abbrev pub IsSettled : List Entry → List Lit → Type 0
IsSettled es k = (is_tautology k ≡ true) ⊎ ((p : Lit) × (has k p ≡ true) × (value_in es p ≡ Some true))

-- the clauses apart up to a place are settled
abbrev pub AreSettled : List Entry → ℕ → StoreView → Type 0
AreSettled es seen s = (i : ℕ) (k : List Lit) → i < seen → slice_get s.held i ≡ Some (Apart k) → IsSettled es k

-- what a search keeps of its watches at the end of each lower level, whose head was `heads` then, and now
pub record IsWatchedSearch (s : StoreView) (es : List Entry) (ends heads : List ℕ) (head seen : ℕ) : Type 0 where
  pub present : AreWatched es head s.arena
  pub levels : (j : ℕ) → j < length ends → AreWatched (take (slice_index ends j) es) (slice_index heads j) s.arena
  pub sized : length heads ≡ length ends
  pub high : head ≤ length es
  pub heads_high : (j : ℕ) → j < length ends → slice_index heads j ≤ slice_index ends j
  pub short : (j : ℕ) → j < length ends → slice_index ends j ≤ length es
  pub settled : AreSettled es seen s
  pub seen_high : seen ≤ length s.held

-- of the literals of a clause none became false after the first two, and the second no later than the first
pub record IsRanked (es : List Entry) (xs : List ℕ) : Type 0 where
  pub first : (h : ℕ) → is_false (value_in (take h es) (lit_of (slice_index xs 0))) ≡ true → is_false (value_in (take h es) (lit_of (slice_index xs 1))) ≡ true
  pub rest : (h j : ℕ) → is_false (value_in (take h es) (lit_of (slice_index xs 1))) ≡ true → 2 ≤ j → j < length xs
      → is_false (value_in (take h es) (lit_of (slice_index xs j))) ≡ true

-- whether a literal, by its number, is false by the first h entries
abbrev pub is_false_by : List Entry → ℕ → ℕ → Bool
is_false_by es h x = is_false (value_in (take h es) (lit_of x))

-- of the literals at the places from `low` on and below `high`, none became false after that at `best`
abbrev pub IsLatest : List Entry → List ℕ → ℕ → ℕ → ℕ → Type 0
IsLatest es xs low high best = (h j : ℕ) → low ≤ j → j < high → is_false_by es h (slice_index xs best) ≡ true → is_false_by es h (slice_index xs j) ≡ true

-- the entries after the literal that a clause forces is set
abbrev pub after_force : List Entry → Option Lit → ℕ → List Entry
after_force es None n = es
after_force es (Some p) n = es ++ record { lit = p; reason = Some n } ∷ []

-- where the first literal is false, the second was not by the first h entries
abbrev pub IsReady : List Entry → List ℕ → ℕ → Type 0
IsReady es xs h = is_false (value_in es (lit_of (slice_index xs 0))) ≡ true → is_false_by es h (slice_index xs 1) ≡ true → ⊥
