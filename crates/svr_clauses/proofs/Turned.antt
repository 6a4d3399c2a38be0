-- Lists that are turned round.
use Rattle.std.proofs.Common.{◌≡◌, ◌∙◌, ap, List, [], ◌∷◌, ◌++◌, reverse, append_assoc}
use Rattle.std.proofs.lemmas.List.{reverse-append, reverse-reverse}

-- an item from the end of one list goes to the end of another
pub turned : {A : Type 0} (left rest out : List A) (e : A) → left ≡ rest ++ e ∷ [] → (out ++ e ∷ []) ++ reverse rest ≡ out ++ reverse left
turned left rest out e is =
    let back : reverse left ≡ e ∷ reverse rest = ap reverse is ∙ reverse-append rest (e ∷ []) in
    rw back (append_assoc out (e ∷ []) (reverse rest))

-- turned twice it is as it was
pub turned_back : {A : Type 0} (items once twice : List A) → once ≡ reverse items → twice ≡ reverse once → twice ≡ items
turned_back items once twice first second = second ∙ ap reverse first ∙ reverse-reverse items
