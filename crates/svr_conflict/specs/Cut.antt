-- Lists that are cut into parts of given lengths
use Rattle.std.specs.Prelude.{ℕ, ◌+◌, List, [], ◌∷◌, take, drop}
use Rattle.svr_chain.specs.declared.clause.Lit.{Lit}

abbrev pub cut_by : List ℕ → List Lit → List (List Lit)
cut_by [] ls = []
cut_by (n ∷ ns) ls = take n ls ∷ cut_by ns (drop n ls)

abbrev pub total : List ℕ → ℕ
total [] = 0
total (n ∷ ns) = n + total ns
