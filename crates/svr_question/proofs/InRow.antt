-- Rows of literals that are put one behind the other.
use Rattle.std.proofs.Common.{◌≡◌, ◌<◌, ◌+◌, ℕ, List, [], ◌∷◌, ◌++◌, length, take, get_or, sym, ap, ◌∙◌, append-nil, Vec, Global}
use Rattle.std.specs.List.{flat_map}
use Rattle.std.proofs.lemmas.List.{take_more, map_push}
use Rattle.std.proofs.lemmas.List.Concat.{flat_map-append}
use Rattle.svr_chain.specs.declared.clause.Lit.{Lit}
use Rattle.svr_vector.specs.Places.{rows}

-- one row more
pub joined_more : (vs : List (Vec Lit Global)) (i : ℕ) (x : Vec Lit Global) (old new more : List Lit) → i < length vs → x ≡ get_or vs i x → old ≡ flat_map (λ row. row) (rows (take i vs)) → more ≡ x.items → new ≡ old ++ more
    → new ≡ flat_map (λ row. row) (rows (take (i + 1) vs))
joined_more vs i x old new more lt is before same pushed =
    let step : rows (take (i + 1) vs) ≡ rows (take i vs) ++ x.items ∷ []
    = ap rows (take_more vs i x lt) ∙ ap (λ (y : Vec Lit Global). rows (take i vs ++ y ∷ [])) (sym is) ∙ map_push (λ (v : Vec Lit Global). v.items) (take i vs) x in
    pushed
    ∙ (λ k. before k ++ same k)
    ∙ ap (λ (ls : List Lit). flat_map (λ row. row) (rows (take i vs)) ++ ls) (sym (append-nil x.items))
    ∙ sym (flat_map-append (λ (row : List Lit). row) (rows (take i vs)) (x.items ∷ []))
    ∙ ap (λ (rs : List (List Lit)). flat_map (λ row. row) rs) (sym step)
