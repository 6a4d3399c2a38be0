-- Elements that are taken off the end of a list, and put back.
use Rattle.std.proofs.Common.{◌≡◌, ◌∙◌, ◌+◌, ℕ, refl, sym, ap, List, [], ◌∷◌, ◌++◌, reverse, length, take, drop, append_assoc, arith}
use Rattle.std.proofs.lemmas.List.{reverse-append, length-append, length-reverse, take_at, drop_at}

-- one from the end of a list goes to the end of another
pub turned : {A : Type 0} (left rest out : List A) (e : A) → left ≡ rest ++ e ∷ [] → (out ++ e ∷ []) ++ reverse rest ≡ out ++ reverse left
turned left rest out e is =
    let back : reverse left ≡ e ∷ reverse rest = ap reverse is ∙ reverse-append rest (e ∷ []) in
    rw back (append_assoc out (e ∷ []) (reverse rest))

-- the two lists are together what they were
pub moved : {A : Type 0} (left rest out more : List A) (e : A) → left ≡ rest ++ e ∷ [] → more ≡ out ++ e ∷ [] → rest ++ reverse more ≡ left ++ reverse out
moved left rest out more e is pushed =
    let back : reverse more ≡ e ∷ reverse out = ap reverse pushed ∙ reverse-append out (e ∷ []) in
    ap (λ ys. rest ++ ys) back ∙ sym (append_assoc rest (e ∷ []) (reverse out)) ∙ ap (λ xs. xs ++ reverse out) (sym is)

-- some are left where fewer were taken off than there were
pub some_left : {A : Type 0} (items front turned : List A) → front ++ reverse turned ≡ items → length front + length turned ≡ length items
some_left items front turned whole = omega (arith, ap length whole, length-append front (reverse turned), length-reverse turned)

-- ---- two ways to cut a list

front_is : {A : Type 0} (xs ys us vs : List A) → xs ++ ys ≡ us ++ vs → length xs ≡ length us → xs ≡ us
front_is xs ys us vs same long = sym (take_at xs ys (length us) long) ∙ ap (take (length us)) same ∙ take_at us vs (length us) refl

back_is : {A : Type 0} (xs ys us vs : List A) → xs ++ ys ≡ us ++ vs → length xs ≡ length us → ys ≡ vs
back_is xs ys us vs same long = sym (drop_at xs ys (length us) long) ∙ ap (drop (length us)) same ∙ drop_at us vs (length us) refl

-- what is put between
pub put_between : {A : Type 0} (items front turned more longer all us vs : List A) (count : ℕ) → front ++ reverse turned ≡ items → length turned ≡ count → longer ≡ front ++ more → all ≡ longer ++ reverse turned
    → items ≡ us ++ vs → length vs ≡ count → all ≡ us ++ more ++ vs
put_between items front turned more longer all us vs count whole taken pushed back is long =
    let same : front ++ reverse turned ≡ us ++ vs = whole ∙ is in
    let fronts : length front ≡ length us = omega (arith, ap length same, length-append front (reverse turned), length-append us vs, length-reverse turned, taken, long) in
    back ∙ (λ i. pushed i ++ back_is front (reverse turned) us vs same fronts i) ∙ ap (λ xs. xs ++ more ++ vs) (front_is front (reverse turned) us vs same fronts)
