-- One more turn of the loops over the entries of a block and over the blocks.
use Rattle.std.proofs.Common.{◌≡◌, ◌<◌, ◌≤◌, ℕ, zero, suc, ◌+◌, add-one, Bool, true, false, refl, sym, ◌∙◌, ap, List, [], ◌∷◌, ◌++◌, length, get_or, drop, drop-cons, append_assoc, append-nil, arith}
use Rattle.std.specs.Prelude.{if◌then◌else◌, slice_index_or}
use Rattle.std.proofs.lemmas.List.{drop_all}
use Rattle.svr_typed.specs.declared.class.TBlock.{TBlock}
use Rattle.svr_typed.specs.declared.item.TItem.{TItem}
use Rattle.svr_typed.specs.ItemTerm.{ItemTerms, item_terms}
use Rattle.svr_typed.specs.ClassTerm.{BlockTerm, block_term, block_terms}
use Rattle.svr_item_names.specs.Names.{entry_name, entry_names, item_names}

-- ---- the entries of a block

entry_at : (block : List ℕ) (n : ℕ) (items : List TItem) (i : ℕ) → i < length items → entry_names block n (item_terms (drop i items)) ≡ entry_name block n ∷ entry_names block (n + 1) (item_terms (drop (suc i) items))
entry_at block n [] i less = absurd (omega (arith, less))
entry_at block n (x ∷ xs) zero less = refl
entry_at block n (x ∷ xs) (suc i) less = entry_at block n xs i (omega (arith, less))

pub entry_turn : (names : List (List ℕ)) (block : List ℕ) (i : ℕ) (items : List TItem) → i < length items
    → (names ++ entry_name block (i + 1) ∷ []) ++ entry_names block (i + 1 + 1) (item_terms (drop (i + 1) items)) ≡ names ++ entry_names block (i + 1) (item_terms (drop i items))
entry_turn names block i items less =
    rw (add-one i) (append_assoc names (entry_name block (suc i) ∷ []) (entry_names block (suc i + 1) (item_terms (drop (suc i) items))) ∙ ap (λ (ns : List (List ℕ)). names ++ ns) (sym (entry_at block (suc i) items i less)))

pub entry_end : (names all : List (List ℕ)) (block : List ℕ) (n i : ℕ) (items : List TItem) → length items ≤ i → names ++ entry_names block n (item_terms (drop i items)) ≡ all → names ≡ all
entry_end names all block n i items past h = sym (append-nil names) ∙ ap (λ (xs : List TItem). names ++ entry_names block n (item_terms xs)) (sym (drop_all i items past)) ∙ h

-- ---- the blocks

-- the element at a place and what stands behind it
dropped_at : {A : Type 0} (xs : List A) (i : ℕ) (x d : A) → i < length xs → x ≡ get_or xs i d → x ∷ drop (i + 1) xs ≡ drop i xs
dropped_at {A = A} xs i x d less h = rw (add-one i) (ap (λ (y : A). y ∷ drop (suc i) xs) h ∙ sym (drop-cons xs i d less))

names_at : (b : BlockTerm) (bs : List BlockTerm) (modes : List Bool) (own : ItemTerms) (i : ℕ) (on : Bool) → slice_index_or modes i false ≡ on
    → item_names (b ∷ bs) (drop i modes) own ≡ (if on then entry_names b.name 1 b.items ++ item_names bs (drop (suc i) modes) own else item_names bs (drop (suc i) modes) own)
names_at b bs [] own zero true h = cc
names_at b bs [] own zero false h = refl
names_at b bs [] own (suc i) true h = cc
names_at b bs [] own (suc i) false h = refl
names_at b bs (m ∷ modes) own zero on h = ap (λ c. if c then entry_names b.name 1 b.items ++ item_names bs modes own else item_names bs modes own) h
names_at b bs (m ∷ modes) own (suc i) on h = names_at b bs modes own i on h

-- a block that is switched on
pub named_turn : (names new : List (List ℕ)) (i : ℕ) (b : TBlock) (all : List TBlock) (modes : List Bool) (own : ItemTerms) → i < length all → b ≡ get_or all i b → slice_index_or modes i false ≡ true
    → new ≡ names ++ entry_names b.name 1 (item_terms b.items)
    → new ++ item_names (block_terms (drop (i + 1) all)) (drop (i + 1) modes) own ≡ names ++ item_names (block_terms (drop i all)) (drop i modes) own
named_turn names new i b all modes own less is on h =
    rw (add-one i) (ap (λ (ns : List (List ℕ)). ns ++ item_names (block_terms (drop (suc i) all)) (drop (suc i) modes) own) h
    ∙ append_assoc names (entry_names b.name 1 (item_terms b.items)) (item_names (block_terms (drop (suc i) all)) (drop (suc i) modes) own)
    ∙ ap (λ (ns : List (List ℕ)). names ++ ns) (sym (names_at (block_term b) (block_terms (drop (suc i) all)) modes own i true on)))
    ∙ ap (λ (bs : List TBlock). names ++ item_names (block_terms bs) (drop i modes) own) (dropped_at all i b b less is)

-- and one that is not
pub quiet_turn : (names new : List (List ℕ)) (i : ℕ) (b : TBlock) (all : List TBlock) (modes : List Bool) (own : ItemTerms) → i < length all → b ≡ get_or all i b → slice_index_or modes i false ≡ false → new ≡ names
    → new ++ item_names (block_terms (drop (i + 1) all)) (drop (i + 1) modes) own ≡ names ++ item_names (block_terms (drop i all)) (drop i modes) own
quiet_turn names new i b all modes own less is off h =
    rw (add-one i) (ap (λ (ns : List (List ℕ)). ns ++ item_names (block_terms (drop (suc i) all)) (drop (suc i) modes) own) h
    ∙ ap (λ (ns : List (List ℕ)). names ++ ns) (sym (names_at (block_term b) (block_terms (drop (suc i) all)) modes own i false off)))
    ∙ ap (λ (bs : List TBlock). names ++ item_names (block_terms bs) (drop i modes) own) (dropped_at all i b b less is)

-- the in-line set stands last
pub named_end : (names new all : List (List ℕ)) (i : ℕ) (blocks : List TBlock) (modes : List Bool) (own : ItemTerms) → length blocks ≤ i
    → names ++ item_names (block_terms (drop i blocks)) modes own ≡ all → new ≡ names ++ item_names [] modes own → new ≡ all
named_end names new all i blocks modes own past h k = k ∙ ap (λ (bs : List TBlock). names ++ item_names (block_terms bs) modes own) (sym (drop_all i blocks past)) ∙ h
