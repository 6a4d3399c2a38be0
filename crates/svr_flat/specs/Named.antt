-- Names of blocks, each once, and the blocks that have none of them.
use Rattle.std.specs.Prelude.{ℕ, Bool, not, List, [], ◌∷◌, ◌++◌, if◌then◌else◌, filter, bytes_eq}
use Rattle.std.specs.List.{list_any}
use denote.Ref.{Bor}
use Rattle.svr_typed.specs.ClassTerm.{BlockTerm}

-- a name as a slice of the class that has it
abbrev pub Key : Type 0
Key = Bor (List ℕ)

abbrev pub bytes_of : Key → List ℕ
bytes_of k = k.now

-- a name is among these
abbrev pub is_among : List ℕ → List (List ℕ) → Bool
is_among name names = list_any (bytes_eq name) names

-- with one more, unless it is there
abbrev pub and_name : List (List ℕ) → List ℕ → List (List ℕ)
and_name names name = if is_among name names then names else names ++ name ∷ []

-- with those of these blocks
abbrev pub and_names : List (List ℕ) → List BlockTerm → List (List ℕ)
and_names names [] = names
and_names names (b ∷ bs) = and_names (and_name names b.name) bs

-- the blocks whose names are not among these
abbrev pub not_named : List (List ℕ) → List BlockTerm → List BlockTerm
not_named names blocks = filter (λ b. not (is_among b.name names)) blocks
