-- What stands in a class, gathered from the class up.
use Rattle.std.proofs.Common.{◌≡◌, ℕ, Bool, true, false, not, cond, ◌||◌, List, [], ◌∷◌, ◌++◌, map, Option, Some, None, slice_get, refl, sym, ap, ◌∙◌}
use Rattle.std.proofs.lemmas.List.{map-append, append-nil, append_assoc}
use Rattle.std.proofs.lemmas.List.Elements.{filter-append}
use Rattle.svr_typed.specs.declared.class.Prop.{Prop}
use Rattle.svr_typed.specs.declared.class.TBlock.{TBlock}
use Rattle.svr_typed.specs.ClassTerm.{BlockTerm, ClassTerm, FlatTerm, block_term, block_terms}
use Rattle.svr_flat.specs.Flat.{has_block, not_replaced, flat_class_of}
use Rattle.svr_flat.specs.Lineage.{derived_if, class_over, classes_over}
use Rattle.svr_flat.specs.Named.{Key, bytes_of, is_among, and_names, not_named}
use Rattle.svr_flat.specs.Along.{props_if, props_over, props_along, blocks_if, blocks_along, StandsOver, stacked}
use Rattle.svr_flat.proofs.Listed.{among_names}

-- ---- the two parts of a class

part_by_part : (props : List Prop) (blocks : List BlockTerm) (c : Option ClassTerm)
    → derived_if (record { props = props; blocks = blocks }) c ≡ record { props = props_if props c; blocks = blocks_if blocks c }
part_by_part props blocks None = refl
part_by_part props blocks (Some c) = refl

along : (cs : List ClassTerm) (ns : List ℕ) (props : List Prop) (blocks : List BlockTerm)
    → classes_over cs ns (record { props = props; blocks = blocks }) ≡ record { props = props_along cs ns props; blocks = blocks_along cs ns blocks }
along cs [] props blocks = refl
along cs (n ∷ ns) props blocks =
    ap (λ (f : FlatTerm). class_over cs f n) (along cs ns props blocks) ∙ part_by_part (props_along cs ns props) (blocks_along cs ns blocks) (slice_get cs n)

-- a class is what stands along its lineage over what is known of the end of it
pub flat_is : (cs : List ClassTerm) (ns : List ℕ) (n : ℕ) (base whole : FlatTerm) (props : List Prop) (blocks : List BlockTerm) → classes_over cs ns whole ≡ flat_class_of cs n → base ≡ whole
    → props ≡ props_along cs ns base.props → blocks ≡ blocks_along cs ns base.blocks → record { props = props; blocks = blocks } ≡ flat_class_of cs n
flat_is cs ns n base whole props blocks lineage is p b =
    let parts : FlatTerm = record { props = props; blocks = blocks } in
    let made : parts ≡ record { props = props_along cs ns base.props; blocks = blocks_along cs ns base.blocks } = λ i. record { props = p i; blocks = b i } in
    made ∙ sym (along cs ns base.props base.blocks) ∙ ap (classes_over cs ns) is ∙ lineage

-- ---- properties, going down

props_pushed : (cs : List ClassTerm) (ns : List ℕ) (n : ℕ) (props : List Prop) → props_along cs (ns ++ n ∷ []) props ≡ props_along cs ns (props_over cs props n)
props_pushed cs [] n props = refl
props_pushed cs (m ∷ ns) n props = ap (λ (ps : List Prop). props_over cs ps m) (props_pushed cs ns n props)

pub props_step : (cs : List ClassTerm) (old new : List ℕ) (n : ℕ) (before after whole : List Prop) → old ≡ new ++ n ∷ [] → after ≡ props_over cs before n
    → props_along cs old before ≡ whole → props_along cs new after ≡ whole
props_step cs old new n before after whole popped over told =
    ap (props_along cs new) over ∙ sym (props_pushed cs new n before) ∙ sym (ap (λ (ns : List ℕ). props_along cs ns before) popped) ∙ told

-- ---- blocks, going up

in_cond : (names : List (List ℕ)) (xs ys : List BlockTerm) (t : Bool) → not_named names (cond t xs ys) ≡ cond t (not_named names xs) (not_named names ys)
in_cond names xs ys true = refl
in_cond names xs ys false = refl

either_goes : (b : BlockTerm) (xs ys : List BlockTerm) (a h : Bool) → xs ≡ ys → cond (not h) (cond (not a) (b ∷ xs) xs) xs ≡ cond (not (a || h)) (b ∷ ys) ys
either_goes b xs ys true true e = e
either_goes b xs ys true false e = e
either_goes b xs ys false true e = e
either_goes b xs ys false false e = ap (λ (zs : List BlockTerm). b ∷ zs) e

-- what neither these names nor a class replaces is what their names together do not
twice : (names : List (List ℕ)) (own bs : List BlockTerm) → not_named names (not_replaced own bs) ≡ not_named (and_names names own) bs
twice names own [] = refl
twice names own (b ∷ bs) =
    in_cond names (b ∷ not_replaced own bs) (not_replaced own bs) (not (has_block b.name own))
    ∙ either_goes b (not_named names (not_replaced own bs)) (not_named (and_names names own) bs) (is_among b.name names) (has_block b.name own) (twice names own bs)
    ∙ ap (λ (t : Bool). cond (not t) (b ∷ not_named (and_names names own) bs) (not_named (and_names names own) bs)) (sym (among_names names own b.name))

unnamed : (bs : List BlockTerm) → not_named [] bs ≡ bs
unnamed [] = refl
unnamed (b ∷ bs) = ap (λ (zs : List BlockTerm). b ∷ zs) (unnamed bs)

stacked_pushed : (rest : List (List BlockTerm)) (bs : List BlockTerm) → stacked (rest ++ bs ∷ []) ≡ bs ++ stacked rest
stacked_pushed [] bs = sym (append-nil bs)
stacked_pushed (r ∷ rest) bs = ap (λ (zs : List BlockTerm). zs ++ r) (stacked_pushed rest bs) ∙ append_assoc bs (stacked rest) r

-- the first class of a lineage; over none that is missing nothing stands
pub first_is : (cs : List ClassTerm) (ns rest : List ℕ) (blocks : List BlockTerm) (n : ℕ) (c : ClassTerm) → ns ≡ n ∷ rest → slice_get cs n ≡ Some c → StandsOver cs ns blocks c.blocks rest blocks
first_is cs ns rest blocks n c is found = ap (λ (ms : List ℕ). blocks_along cs ms blocks) is ∙ ap (blocks_if (blocks_along cs rest blocks)) found

pub none_is : (cs : List ClassTerm) (ns rest : List ℕ) (blocks : List BlockTerm) (n : ℕ) → ns ≡ n ∷ rest → slice_get cs n ≡ None → StandsOver cs ns blocks [] [] []
none_is cs ns rest blocks n is found = ap (λ (ms : List ℕ). blocks_along cs ms blocks) is ∙ ap (blocks_if (blocks_along cs rest blocks)) found

-- the blocks that are still to come, but those that have a name already, and then those that stand
abbrev pub Gathered : List (List ℕ) → List BlockTerm → List (List BlockTerm) → List BlockTerm → Type 0
Gathered names left standing whole = not_named names left ++ stacked standing ≡ whole

pub gathered_first : (keys : List Key) (standing : List (List TBlock)) (whole : List BlockTerm) → keys ≡ [] → standing ≡ [] → Gathered (map bytes_of keys) whole (map block_terms standing) whole
gathered_first keys standing whole k s =
    (λ i. not_named (map bytes_of (k i)) whole ++ stacked (map block_terms (s i))) ∙ append-nil (not_named [] whole) ∙ unnamed whole

pub gathered_more : (names new : List (List ℕ)) (old rest own : List BlockTerm) (standing after : List (List BlockTerm)) (whole : List BlockTerm)
    → old ≡ not_replaced own rest ++ own → new ≡ and_names names own → after ≡ standing ++ not_named names own ∷ []
    → Gathered names old standing whole → Gathered new rest after whole
gathered_more names new old rest own standing after whole over named stands told =
    let front : List BlockTerm = not_named (and_names names own) rest in
    let here : List BlockTerm = not_named names own in
    let split : not_named names (not_replaced own rest ++ own) ≡ front ++ here
    = filter-append (λ (b : BlockTerm). not (is_among b.name names)) (not_replaced own rest) own ∙ ap (λ (zs : List BlockTerm). zs ++ here) (twice names own rest) in
    (λ i. not_named (named i) rest ++ stacked (stands i))
    ∙ ap (λ (zs : List BlockTerm). front ++ zs) (stacked_pushed standing here)
    ∙ sym (append_assoc front here (stacked standing))
    ∙ ap (λ (zs : List BlockTerm). zs ++ stacked standing) (sym split)
    ∙ ap (λ (zs : List BlockTerm). not_named names zs ++ stacked standing) (sym over)
    ∙ told

-- what is left stands last
pub gathered_last : (names : List (List ℕ)) (left base : List BlockTerm) (kept after : List (List TBlock)) (last : List TBlock) (whole : List BlockTerm) → left ≡ base → after ≡ kept ++ last ∷ [] → block_terms last ≡ not_named names base
    → Gathered names left (map block_terms kept) whole → stacked (map block_terms after) ≡ whole
gathered_last names left base kept after last whole e pushed stands told =
    ap (λ (zs : List (List TBlock)). stacked (map block_terms zs)) pushed
    ∙ ap stacked (map-append block_terms kept (last ∷ []))
    ∙ stacked_pushed (map block_terms kept) (block_terms last)
    ∙ ap (λ (zs : List BlockTerm). zs ++ stacked (map block_terms kept)) (stands ∙ ap (not_named names) (sym e))
    ∙ told

-- ---- the lists of blocks, the last one first

pub joined_more : (old new : List (List TBlock)) (bs before after : List TBlock) (whole : List BlockTerm) → old ≡ new ++ bs ∷ [] → after ≡ before ++ bs
    → block_terms before ++ stacked (map block_terms old) ≡ whole → block_terms after ++ stacked (map block_terms new) ≡ whole
joined_more old new bs before after whole popped more told =
    let split : stacked (map block_terms old) ≡ block_terms bs ++ stacked (map block_terms new)
    = ap (λ (zs : List (List TBlock)). stacked (map block_terms zs)) popped ∙ ap stacked (map-append block_terms new (bs ∷ [])) ∙ stacked_pushed (map block_terms new) (block_terms bs) in
    ap (λ (zs : List TBlock). block_terms zs ++ stacked (map block_terms new)) more
    ∙ ap (λ (zs : List BlockTerm). zs ++ stacked (map block_terms new)) (map-append block_term before bs)
    ∙ append_assoc (block_terms before) (block_terms bs) (stacked (map block_terms new))
    ∙ ap (λ (zs : List BlockTerm). block_terms before ++ zs) (sym split)
    ∙ told

pub joined_last : (left : List (List TBlock)) (blocks : List TBlock) (whole : List BlockTerm) → left ≡ [] → block_terms blocks ++ stacked (map block_terms left) ≡ whole → block_terms blocks ≡ whole
joined_last left blocks whole e told = sym (append-nil (block_terms blocks)) ∙ sym (ap (λ (zs : List (List TBlock)). block_terms blocks ++ stacked (map block_terms zs)) e) ∙ told
