-- Where the entries of a spelling stand among the tokens.
use Rattle.std.proofs.Common.{◌≡◌, refl, ap, List, [], ◌∷◌, ◌++◌, ◌⊎◌, inl, inr, ◌≤◌, length, arith}
use Rattle.svr_tree.specs.Tokens.{Tok, Entry, FitEach}

-- some tail of the tokens has the property
abbrev pub Somewhere : (List Tok → Type 0) → List Tok → Type 0
Somewhere P [] = P []
Somewhere P (t ∷ i) = P (t ∷ i) ⊎ Somewhere P i

here : (P : List Tok → Type 0) (i : List Tok) → P i → Somewhere P i
here P [] h = h
here P (t ∷ i) h = inl h

onward : (P Q : List Tok → Type 0) → ((j : List Tok) → P j → Q j) → (i : List Tok) → Somewhere P i → Somewhere Q i
onward P Q f [] h = f [] h
onward P Q f (t ∷ i) h = elim h [ inl a ↦ inl (f (t ∷ i) a) | inr b ↦ inr (onward P Q f i b) ]

-- what follows an entry list begins at some tail
pub split : (i : List Tok) (es fs : List Entry) (rest : List Tok) → FitEach i (es ++ fs) rest → Somewhere (λ j. FitEach i es j × FitEach j fs rest) i
split i [] fs rest h = here (λ j. FitEach i [] j × FitEach j fs rest) i (refl, h)
split [] (e ∷ es) fs rest h = absurd h
split (t ∷ i) (e ∷ es) fs rest h =
    inr (onward (λ j. FitEach i es j × FitEach j fs rest) (λ j. FitEach (t ∷ i) (e ∷ es) j × FitEach j fs rest) (λ j p. ((h.0, p.0), p.1)) i (split i es fs rest h.1))

-- the entries take as many tokens as they are
pub taken : (i : List Tok) (es : List Entry) (rest : List Tok) → FitEach i es rest → length rest ≤ length i
taken i [] rest h = let e : length i ≡ length rest = ap (λ x. length x) h in omega (arith, e)
taken [] (e ∷ es) rest h = absurd h
taken (t ∷ i) (e ∷ es) rest h = let n : length rest ≤ length i = taken i es rest h.1 in omega (arith, n)
