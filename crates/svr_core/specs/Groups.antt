-- Groups of literals, and what is assumed of them
use Rattle.std.specs.Prelude.{ℕ, not, nat_eq, List, [], ◌∷◌, ◌++◌, filter, take, slice_index_or}
use Rattle.svr_chain.specs.declared.clause.Lit.{Lit}

-- the group at a place
abbrev pub group_at : List (List Lit) → ℕ → List Lit
group_at groups p = slice_index_or groups p []

-- the literals of all groups
abbrev pub lits_of : List (List Lit) → List Lit
lits_of [] = []
lits_of (g ∷ gs) = g ++ lits_of gs

-- the literals of the groups at these places
abbrev pub lits_at : List (List Lit) → List ℕ → List Lit
lits_at groups [] = []
lits_at groups (p ∷ ps) = group_at groups p ++ lits_at groups ps

-- the base and the groups at these places
abbrev pub with_groups : List Lit → List (List Lit) → List ℕ → List Lit
with_groups base groups places = base ++ lits_at groups places

-- the base, the groups before place p, and those at these places
abbrev pub asked : List Lit → List (List Lit) → ℕ → List ℕ → List Lit
asked base groups p places = base ++ (lits_of (take p groups) ++ lits_at groups places)

-- the places but this one
abbrev pub others : ℕ → List ℕ → List ℕ
others p places = filter (λ q. not (nat_eq q p)) places
