-- Items of which some are needed
use Rattle.std.specs.Prelude.{Bool, true, false, List, [], ◌∷◌}

-- those of a list that are marked true
abbrev pub needed_of : {A : Type 0} → List A → List Bool → List A
needed_of [] marks = []
needed_of (x ∷ xs) [] = []
needed_of (x ∷ xs) (true ∷ marks) = x ∷ needed_of xs marks
needed_of (x ∷ xs) (false ∷ marks) = needed_of xs marks
