-- The line of a refusal.
use Rattle.std.specs.Prelude.{ℕ, List, [], ◌∷◌, map, codes}
use Rattle.std.specs.List.{concat}
use Rattle.std.specs.Fmt.{decimal}
use denote.Ref.{Bor}
use Rattle.svr_refusal.specs.declared.place.Place.{Place}
use Rattle.svr_refusal.specs.declared.refusal.Refusal.{Refusal}
use Rattle.svr_refusal.specs.Numbers.{number_of}

-- the parts of a text as the code holds them
abbrev pub seen : List (Bor (List ℕ)) → List (List ℕ)
seen parts = map (λ p. p.now) parts

-- the line of a refusal of this number at a place
abbrev pub refused_as : Place → ℕ → List ℕ
refused_as place number = concat (codes "refused " ∷ decimal place.line ∷ codes ":" ∷ decimal place.column ∷ codes " " ∷ decimal number ∷ codes "\n" ∷ [])

abbrev pub refused_at : Place → Refusal → List ℕ
refused_at place why = refused_as place (number_of why)

-- what stands for the place of a refusal that has none
abbrev pub nowhere : Place
nowhere = record { line = 0; column = 0 }
