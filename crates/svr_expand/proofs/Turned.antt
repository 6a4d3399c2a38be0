-- Lists that are turned round.
use Rattle.std.proofs.Common.{◌≡◌, ◌∙◌, ap, List, [], ◌∷◌, ◌++◌, map, reverse, append_assoc}
use Rattle.std.proofs.lemmas.List.{map-append, reverse-append}

-- an item from the end of one list goes to the end of another
pub turned : {A B : Type 0} (f : A → B) (left rest out : List A) (e : A) → left ≡ rest ++ e ∷ [] → map f (out ++ e ∷ []) ++ reverse (map f rest) ≡ map f out ++ reverse (map f left)
turned f left rest out e is =
    let more : map f (out ++ e ∷ []) ≡ map f out ++ f e ∷ [] = map-append f out (e ∷ []) in
    let back : reverse (map f left) ≡ f e ∷ reverse (map f rest) = ap (λ xs. reverse (map f xs)) is ∙ ap reverse (map-append f rest (e ∷ [])) ∙ reverse-append (map f rest) (f e ∷ []) in
    rw (more, back) (append_assoc (map f out) (f e ∷ []) (reverse (map f rest)))
