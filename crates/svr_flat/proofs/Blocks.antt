-- Blocks that stay, one more at a time.
use Rattle.std.proofs.Common.{◌≡◌, ℕ, true, false, not, List, [], ◌∷◌, ◌++◌, sym, ap, ◌∙◌, cond}
use Rattle.std.proofs.lemmas.List.{map-append, append-nil}
use Rattle.std.proofs.lemmas.List.Elements.{filter-append}
use Rattle.svr_typed.specs.declared.class.TBlock.{TBlock}
use Rattle.svr_typed.specs.ClassTerm.{BlockTerm, block_term, block_terms}
use Rattle.svr_flat.specs.Named.{is_among, not_named}

seen_more : (names : List (List ℕ)) (seen : List TBlock) (b : TBlock)
    → not_named names (block_terms (seen ++ b ∷ [])) ≡ not_named names (block_terms seen) ++ cond (not (is_among b.name names)) (block_term b ∷ []) []
seen_more names seen b =
    ap (not_named names) (map-append block_term seen (b ∷ []))
    ∙ filter-append (λ (x : BlockTerm). not (is_among x.name names)) (block_terms seen) (block_term b ∷ [])

-- a block that stays stands behind those that stayed
pub one_stays : (names : List (List ℕ)) (kept seen : List TBlock) (b : TBlock) → is_among b.name names ≡ false → block_terms kept ≡ not_named names (block_terms seen)
    → block_terms (kept ++ b ∷ []) ≡ not_named names (block_terms (seen ++ b ∷ []))
one_stays names kept seen b is told =
    map-append block_term kept (b ∷ [])
    ∙ ap (λ bs. bs ++ block_term b ∷ []) told
    ∙ ap (λ t. not_named names (block_terms seen) ++ cond (not t) (block_term b ∷ []) []) (sym is)
    ∙ sym (seen_more names seen b)

-- a replaced one does not
pub one_goes : (names : List (List ℕ)) (kept seen : List TBlock) (b : TBlock) → is_among b.name names ≡ true → block_terms kept ≡ not_named names (block_terms seen)
    → block_terms kept ≡ not_named names (block_terms (seen ++ b ∷ []))
one_goes names kept seen b is told =
    told
    ∙ sym (append-nil (not_named names (block_terms seen)))
    ∙ ap (λ t. not_named names (block_terms seen) ++ cond (not t) (block_term b ∷ []) []) (sym is)
    ∙ sym (seen_more names seen b)
