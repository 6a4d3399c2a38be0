-- The clauses of a search, some of them in an arena
use Rattle.std.specs.Prelude.{◌≡◌, ℕ, ◌<◌, ◌≤◌, ◌^◌, ◌⊎◌, Bool, true, false, List, [], ◌∷◌, ◌++◌, ◌+◌, length, map, slice_index, Some, if◌then◌else◌}
use Rattle.std.specs.List.{slice_get, list_all, sum_by}
use Rattle.std.specs.List.Sorted.{IsPermutation}
use Rattle.svr_arena.specs.Layout.{Layout, names, watched, is_in}
use Rattle.svr_arena.specs.Arena.{body, lit_at, IsArena}
use Rattle.svr_chain.specs.declared.clause.Lit.{Lit}
use Rattle.svr_chain.specs.Clauses.{has, same_lit, is_tautology, is_within}
use Rattle.svr_chain.specs.Log.{named}
use Rattle.svr_chain.specs.Same.{SameClauses, SameLits}
use Rattle.svr_watch.specs.declared.store.Held.{Held}
use Rattle.svr_watch.specs.declared.store.Held.TheVariants.{Watched, Apart}
use Rattle.svr_watch.specs.Codes.{code_of, lit_of}

-- what contracts see of the clauses: the arena, and by number where each clause is
pub record StoreView : Type 0 where
  pub arena : Layout
  pub held : List Held

abbrev pub lits_of : Layout → ℕ → List Lit
lits_of a c = map lit_of (body a c)

abbrev pub held_lits : Layout → Held → List Lit
held_lits a (Watched c) = lits_of a c
held_lits a (Apart k) = k

-- the clauses by number
abbrev pub clauses_of : StoreView → List (List Lit)
clauses_of s = map (held_lits s.arena) s.held

-- the clauses of the arena that watch a literal
abbrev pub watching : StoreView → Lit → List ℕ
watching s l = watched s.arena (code_of l)

abbrev pub watch : Layout → ℕ → ℕ → Lit
watch a c j = lit_of (lit_at a c j)

-- all literals of the clause are the same one, or there is none
abbrev pub is_short : List Lit → Bool
is_short [] = true
is_short (x ∷ xs) = list_all (λ y. same_lit y x) xs

-- the clauses of the arena are attached and are just the watched ones, and the others are short or tautologies
pub record IsStore (s : StoreView) : Type 0 where
  pub arena : IsArena s.arena
  pub attached : (c : ℕ) → is_in c (names s.arena) ≡ true → is_in c (watched s.arena (lit_at s.arena c 0)) ≡ true
  pub placed : (i c : ℕ) → slice_get s.held i ≡ Some (Watched c) → is_in c (names s.arena) ≡ true
  pub apart : (i : ℕ) (k : List Lit) → slice_get s.held i ≡ Some (Apart k) → (is_tautology k ≡ true) ⊎ (is_short k ≡ true)
  pub held_at : (c : ℕ) → is_in c (names s.arena) ≡ true → (i : ℕ) × (slice_get s.held i ≡ Some (Watched c))

-- what a move of a watch keeps
pub record KeepsStore (s t : StoreView) : Type 0 where
  pub codes : t.arena.codes ≡ s.arena.codes
  pub named : names t.arena ≡ names s.arena
  pub held : t.held ≡ s.held
  pub same : SameClauses (clauses_of s) (clauses_of t)
  pub order : (c : ℕ) → is_in c (names s.arena) ≡ true → IsPermutation (body s.arena c) (body t.arena c)

-- the same clauses, with other room for more words
abbrev pub IsRoomier : StoreView → StoreView → Type 0
IsRoomier s t = t ≡ record s { arena = record s.arena { spare = t.arena.spare } }

-- one clause more, in the arena under a new name
pub record IsAdded (s t : StoreView) (c : ℕ) (xs : List ℕ) : Type 0 where
  pub codes : t.arena.codes ≡ s.arena.codes
  pub held : t.held ≡ s.held ++ Watched c ∷ []
  pub named : names t.arena ≡ names s.arena ++ c ∷ []
  pub own : body t.arena c ≡ xs
  pub others : (d : ℕ) → is_in d (names s.arena) ≡ true → body t.arena d ≡ body s.arena d

-- the literal has a number
abbrev pub HasCode : Lit → Type 0
HasCode l = (0 < l.var) × (code_of l < 2 ^ 64)

-- the numbers of the literals of a clause, each once
pub record AreCodes (xs : List ℕ) (ls : List Lit) : Type 0 where
  pub same : SameLits (map lit_of xs) ls
  pub apart : (j k : ℕ) → j < k → k < length xs → slice_index xs j ≡ slice_index xs k → ⊥

-- the numbers of the literals of a clause that is no tautology, each once
pub record ArePlainCodes (xs : List ℕ) (ls : List Lit) : Type 0 where
  pub codes : AreCodes xs ls
  pub plain : is_tautology ls ≡ false

-- a clause is a tautology or has fewer than two distinct literals
abbrev pub IsApart : List Lit → Type 0
IsApart k = (is_tautology k ≡ true) ⊎ (is_short k ≡ true)

-- the numbers of a clause that goes to the arena
pub record AreWatchedCodes (xs : List ℕ) (ls : List Lit) : Type 0 where
  pub codes : AreCodes xs ls
  pub two : 2 ≤ length xs
  pub plain : is_tautology ls ≡ false

-- the clause of that number is a part of c
abbrev pub IsWithinOne : List (List Lit) → List Lit → ℕ → Type 0
IsWithinOne ks c n = (k : List Lit) × (named ks n ≡ Some k) × (is_within k c ≡ true)

-- a clause of the arena that is a part of these literals
abbrev pub IsPartIn : Layout → List Lit → ℕ → Type 0
IsPartIn a lits c = (is_in c (names a) ≡ true) × (is_within (lits_of a c) lits ≡ true)

-- no clause on the list of the literal is a part of these
abbrev pub IsPassedBy : Layout → List Lit → Lit → Type 0
IsPassedBy a lits l = code_of l < a.codes → (c : ℕ) → is_in c (watched a (code_of l)) ≡ true → is_within (lits_of a c) lits ≡ false

-- the clause at that place is apart from the arena and a part of these literals
abbrev pub IsPartAt : List Held → List Lit → ℕ → Type 0
IsPartAt hs lits i = (k : List Lit) × (slice_get hs i ≡ Some (Apart k)) × (is_within k lits ≡ true)

-- no clause at that place is apart from the arena and a part of these literals
abbrev pub IsNoPart : List Held → List Lit → ℕ → Type 0
IsNoPart hs lits i = (k : List Lit) → slice_get hs i ≡ Some (Apart k) → is_within k lits ≡ false

-- how many distinct literals a clause has
abbrev pub distinct_in : List Lit → ℕ
distinct_in [] = 0
distinct_in (x ∷ xs) = (if has xs x then 0 else 1) + distinct_in xs

-- how many literals the clauses have together, those written twice in a clause counted once
abbrev pub literals_in : List (List Lit) → ℕ
literals_in ks = sum_by distinct_in ks

-- a clause apart from the arena is visited once, unless it is empty
abbrev pub one_unless_empty : List Lit → ℕ
one_unless_empty [] = 0
one_unless_empty (x ∷ xs) = 1

abbrev pub visits_of : Held → ℕ
visits_of (Watched c) = 0
visits_of (Apart k) = one_unless_empty k

abbrev pub visits_in : List Held → ℕ
visits_in hs = sum_by visits_of hs
