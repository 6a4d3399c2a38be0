-- The exact place of a fault, for trees of any kind: `IsReading limit i t` says that the tokens i, all of them, spell the tree t, which is no higher than the limit.
use Rattle.std.specs.Prelude.{◌≡◌, ◌<◌, ◌≤◌, ℕ, suc, ◌+◌, ◌==◌, if◌then◌else◌, List, ◌++◌, length, take, Ok, Err}
use Rattle.svr_tree.specs.Tokens.{Tok}
use Rattle.svr_reader.specs.Outcomes.{Unexpected, TooDeep, Stuck, Outcome, Parser, and_then}
use Rattle.svr_reader.specs.Lists.{WithHeight}

module _ {X : Type 0} (IsReading : ℕ → List Tok → X → Type 0) where
  -- with some more tokens they spell such a tree
  pub record IsFront (limit : ℕ) (i : List Tok) : Type 0 where
    pub more : List Tok
    pub tree : X
    pub reading : IsReading limit (i ++ more) tree

  -- a tree goes on with the token of number n, behind all tokens before it. The end of the text counts as one
  pub data GoesOn (limit : ℕ) (i : List Tok) (n : ℕ) : Type 0 where
    token : n < length i → IsFront limit (take (suc n) i) → GoesOn limit i n
    end : n ≡ length i → (tree : X) → IsReading limit i tree → GoesOn limit i n

  -- the token of number n goes on with a tree of no height, and those before it with one within the limit
  pub record IsUnexpected (limit : ℕ) (i : List Tok) (n : ℕ) : Type 0 where
    pub within : n ≤ length i
    pub before : IsFront limit (take n i)
    pub none : (h : ℕ) → GoesOn h i n → ⊥

  -- the token of number n goes on with higher trees alone, and those before it with one within the limit
  pub record IsTooDeep (limit : ℕ) (i : List Tok) (n : ℕ) : Type 0 where
    pub within : n ≤ length i
    pub before : IsFront limit (take n i)
    pub none : GoesOn limit i n → ⊥
    pub higher : (h : ℕ) × GoesOn h i n

  -- a list of tokens has one answer: a reading, or one of the two faults at one place
  pub record HasOneAnswer (limit : ℕ) (i : List Tok) : Type 0 where
    pub reading_unexpected : (t : X) (n : ℕ) → IsReading limit i t → IsUnexpected limit i n → ⊥
    pub reading_deep : (t : X) (n : ℕ) → IsReading limit i t → IsTooDeep limit i n → ⊥
    pub unexpected_deep : (n m : ℕ) → IsUnexpected limit i n → IsTooDeep limit i m → ⊥
    pub unexpected_once : (n m : ℕ) → IsUnexpected limit i n → IsUnexpected limit i m → n ≡ m
    pub deep_once : (n m : ℕ) → IsTooDeep limit i n → IsTooDeep limit i m → n ≡ m

  -- a fault tells how many tokens are left at its place
  abbrev pub IsOutcome : ℕ → List Tok → Outcome X → Type 0
  IsOutcome limit i (Ok y) = IsReading limit i y.0
  IsOutcome limit i (Err Stuck) = ⊥
  IsOutcome limit i (Err (Unexpected k)) = (n : ℕ) × (length i ≡ n + k) × IsUnexpected limit i n
  IsOutcome limit i (Err (TooDeep k)) = (n : ℕ) × (length i ≡ n + k) × IsTooDeep limit i n

-- what p reads, and no token after it
unfoldable pub whole : {X : Type 0} → Parser (WithHeight X) → Parser X
whole p i = and_then (p i) (λ x j. if length j == 0 then Ok (x.0, j) else Err (Unexpected (length j)))
