-- The line of a load.
use Rattle.std.specs.Prelude.{ℕ, List, [], ◌∷◌, codes}
use Rattle.std.specs.List.{concat}
use Rattle.std.specs.Fmt.{decimal}
use Rattle.svr_script.specs.Run.{Counts}

-- the line of a load of so many classes, with what its calls answered
abbrev pub load_line : ℕ → Counts → List ℕ
load_line count n = concat (codes "load " ∷ decimal count ∷ codes " one " ∷ decimal n.ones ∷ codes " zero " ∷ decimal n.zeros ∷ codes " gaveup " ∷ decimal n.given_up ∷ codes "\n" ∷ [])
