-- What contracts say of an arena: clauses by name, and a list of names for each literal
use Rattle.std.specs.Prelude.{◌≡◌, ℕ, ◌<◌, ◌≤◌, ◌⊎◌, true, List, length, slice_index, nat_eq, if◌then◌else◌}
use Rattle.svr_arena.specs.Layout.{Layout, is_in, are_distinct, lits_in, names, watched}

-- the literals of a clause
abbrev pub body : Layout → ℕ → List ℕ
body s c = lits_in s.words c

-- the name of the next clause
abbrev pub next_name : Layout → ℕ
next_name s = length s.words

abbrev pub lit_at : Layout → ℕ → ℕ → ℕ
lit_at s c j = slice_index (body s c) j

-- two or more literals, each below `codes`, and no two the same
pub record AreLits (codes : ℕ) (ls : List ℕ) : Type 0 where
  pub two : 2 ≤ length ls
  pub below : (k : ℕ) → k < length ls → slice_index ls k < codes
  pub apart : (j k : ℕ) → j < k → k < length ls → slice_index ls j ≡ slice_index ls k → ⊥

-- each list has clauses of the arena, once each, among whose first two literals its own is, and a clause is on the lists of both or of neither
pub record IsArena (s : Layout) : Type 0 where
  pub clause : (c : ℕ) → is_in c (names s) ≡ true → AreLits s.codes (body s c)
  pub named : (c l : ℕ) → l < s.codes → is_in c (watched s l) ≡ true → is_in c (names s) ≡ true
  pub watches : (c l : ℕ) → l < s.codes → is_in c (watched s l) ≡ true → (lit_at s c 0 ≡ l) ⊎ (lit_at s c 1 ≡ l)
  pub once : (l : ℕ) → l < s.codes → are_distinct (watched s l) ≡ true
  pub distinct : are_distinct (names s) ≡ true
  pub both : (c : ℕ) → is_in c (names s) ≡ true → is_in c (watched s (lit_at s c 0)) ≡ is_in c (watched s (lit_at s c 1))

-- which of the first two literals it is
abbrev pub side_of : Layout → ℕ → ℕ → ℕ
side_of s c l = if nat_eq (lit_at s c 0) l then 0 else 1
