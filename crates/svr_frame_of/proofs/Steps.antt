-- One more turn of the loops over an object's properties, blocks and items.
use Rattle.std.proofs.Common.{◌≡◌, ◌==◌, ◌<◌, ◌≤◌, ℕ, zero, suc, ◌+◌, ◌^◌, min, add-one, Bool, true, false, ◌&&◌, ◌||◌, refl, sym, ◌∙◌, ap, subst, List, [], ◌∷◌, ◌++◌, length, get_or, drop, drop-cons, append_assoc, arith}
use Rattle.std.specs.Prelude.{if◌then◌else◌, nat_lt, nat_le, slice_index_or}
use Rattle.std.proofs.lemmas.Bool.{ltb-true, ltb-false, ne_eqb}
use Rattle.std.proofs.lemmas.List.{length-map, get_or_past, drop_all}
use Rattle.std.proofs.lemmas.List.FromFn.{get_or-map-range_with_len, length-map-range_with_len}
use Rattle.svr_typed.specs.declared.class.Prop.{Prop}
use Rattle.svr_typed.specs.declared.class.TBlock.{TBlock}
use Rattle.svr_typed.specs.declared.item.TItem.{TItem}
use Rattle.svr_typed.specs.declared.expr.TExpr.{TExpr}
use Rattle.svr_typed.specs.ExprTerm.{expr_term, expr_terms}
use Rattle.svr_typed.specs.ItemTerm.{ItemTerms, no_items, more_items, item_term, item_terms}
use Rattle.svr_typed.specs.ClassTerm.{BlockTerm, block_term, block_terms}
use Rattle.svr_frame.specs.Frame.{FrameTerm, has_free_size}
use Rattle.svr_frame.specs.Making.{is_declared_random, switched_on, followed_by, active_items}
use Rattle.svr_frame_of.specs.declared.leaves.Leaves.{Leaves}
use Rattle.svr_frame_of.specs.Callable.{with_free}
use Rattle.svr_frame_of.specs.Freeing.{has_two, mark, no_leaves, both, is_sized, any_sized}

and_none : (b : Bool) → (b && false) ≡ false
and_none true = refl
and_none false = refl

pub or_none : (b : Bool) → (b || false) ≡ b
or_none true = refl
or_none false = refl

pub or_or : (b c d : Bool) → ((b || c) || d) ≡ (b || (c || d))
or_or true c d = refl
or_or false c d = refl

-- the element at a place and what stands behind it
dropped_at : {A : Type 0} (xs : List A) (i : ℕ) (x d : A) → i < length xs → x ≡ get_or xs i d → x ∷ drop (i + 1) xs ≡ drop i xs
dropped_at {A = A} xs i x d less h = rw (add-one i) (ap (λ (y : A). y ∷ drop (suc i) xs) h ∙ sym (drop-cons xs i d less))

-- ---- the random set

switched_at : (x : Prop) (xs : List Prop) (modes : List Bool) (i : ℕ) → switched_on (x ∷ xs) (drop i modes) ≡ (is_declared_random x.rand && slice_index_or modes i false) ∷ switched_on xs (drop (suc i) modes)
switched_at x xs [] zero = ap (λ b. b ∷ switched_on xs []) (sym (and_none (is_declared_random x.rand)))
switched_at x xs [] (suc i) = ap (λ b. b ∷ switched_on xs []) (sym (and_none (is_declared_random x.rand)))
switched_at x xs (m ∷ modes) zero = refl
switched_at x xs (m ∷ modes) (suc i) = switched_at x xs modes i

pub switched_turn : (random : List Bool) (i : ℕ) (x : Prop) (xs : List Prop) (modes : List Bool)
    → (random ++ (is_declared_random x.rand && slice_index_or modes i false) ∷ []) ++ switched_on xs (drop (i + 1) modes) ≡ random ++ switched_on (x ∷ xs) (drop i modes)
switched_turn random i x xs modes =
    rw (add-one i) (append_assoc random ((is_declared_random x.rand && slice_index_or modes i false) ∷ []) (switched_on xs (drop (suc i) modes)) ∙ ap (λ bs. random ++ bs) (sym (switched_at x xs modes i)))

-- ---- the active items

followed_all : (xs ys : List TItem) → item_terms (xs ++ ys) ≡ followed_by (item_terms xs) (item_terms ys)
followed_all [] ys = refl
followed_all (x ∷ xs) ys = ap (more_items (item_term x)) (followed_all xs ys)

followed_twice : (xs ys zs : ItemTerms) → followed_by (followed_by xs ys) zs ≡ followed_by xs (followed_by ys zs)
followed_twice no_items ys zs = refl
followed_twice (more_items i is) ys zs = ap (more_items i) (followed_twice is ys zs)

active_at : (b : BlockTerm) (bs : List BlockTerm) (modes : List Bool) (own : ItemTerms) (i : ℕ) (on : Bool) → slice_index_or modes i false ≡ on
    → active_items (b ∷ bs) (drop i modes) own ≡ (if on then followed_by b.items (active_items bs (drop (suc i) modes) own) else active_items bs (drop (suc i) modes) own)
active_at b bs [] own zero true h = cc
active_at b bs [] own zero false h = refl
active_at b bs [] own (suc i) true h = cc
active_at b bs [] own (suc i) false h = refl
active_at b bs (m ∷ modes) own zero on h = ap (λ c. if c then followed_by b.items (active_items bs modes own) else active_items bs modes own) h
active_at b bs (m ∷ modes) own (suc i) on h = active_at b bs modes own i on h

-- a block that is switched on
active_turn : (active new : List TItem) (i : ℕ) (b : TBlock) (bs : List TBlock) (modes : List Bool) (own : ItemTerms) → slice_index_or modes i false ≡ true → new ≡ active ++ b.items
    → followed_by (item_terms new) (active_items (block_terms bs) (drop (i + 1) modes) own) ≡ followed_by (item_terms active) (active_items (block_terms (b ∷ bs)) (drop i modes) own)
active_turn active new i b bs modes own on h =
    rw (add-one i)
    (ap (λ xs. followed_by (item_terms xs) (active_items (block_terms bs) (drop (suc i) modes) own)) h
    ∙ ap (λ ts. followed_by ts (active_items (block_terms bs) (drop (suc i) modes) own)) (followed_all active b.items)
    ∙ followed_twice (item_terms active) (item_terms b.items) (active_items (block_terms bs) (drop (suc i) modes) own)
    ∙ ap (followed_by (item_terms active)) (sym (active_at (block_term b) (block_terms bs) modes own i true on)))

-- and one that is not
quiet_turn : (active : List TItem) (i : ℕ) (b : TBlock) (bs : List TBlock) (modes : List Bool) (own : ItemTerms) → slice_index_or modes i false ≡ false
    → followed_by (item_terms active) (active_items (block_terms bs) (drop (i + 1) modes) own) ≡ followed_by (item_terms active) (active_items (block_terms (b ∷ bs)) (drop i modes) own)
quiet_turn active i b bs modes own off = rw (add-one i) (ap (followed_by (item_terms active)) (sym (active_at (block_term b) (block_terms bs) modes own i false off)))

-- a block among all of them
pub active_at_place : (active new : List TItem) (i : ℕ) (b : TBlock) (all : List TBlock) (modes : List Bool) (own : ItemTerms) → i < length all → b ≡ get_or all i b → slice_index_or modes i false ≡ true → new ≡ active ++ b.items
    → followed_by (item_terms new) (active_items (block_terms (drop (i + 1) all)) (drop (i + 1) modes) own) ≡ followed_by (item_terms active) (active_items (block_terms (drop i all)) (drop i modes) own)
active_at_place active new i b all modes own less is on h =
    active_turn active new i b (drop (i + 1) all) modes own on h ∙ ap (λ (bs : List TBlock). followed_by (item_terms active) (active_items (block_terms bs) (drop i modes) own)) (dropped_at all i b b less is)

pub quiet_at_place : (active : List TItem) (i : ℕ) (b : TBlock) (all : List TBlock) (modes : List Bool) (own : ItemTerms) → i < length all → b ≡ get_or all i b → slice_index_or modes i false ≡ false
    → followed_by (item_terms active) (active_items (block_terms (drop (i + 1) all)) (drop (i + 1) modes) own) ≡ followed_by (item_terms active) (active_items (block_terms (drop i all)) (drop i modes) own)
quiet_at_place active i b all modes own less is off =
    quiet_turn active i b (drop (i + 1) all) modes own off ∙ ap (λ (bs : List TBlock). followed_by (item_terms active) (active_items (block_terms bs) (drop i modes) own)) (dropped_at all i b b less is)

-- the items of the call stand last
pub active_end : (active new own : List TItem) (all : ItemTerms) → followed_by (item_terms active) (item_terms own) ≡ all → new ≡ active ++ own → item_terms new ≡ all
active_end active new own all h k = ap item_terms k ∙ followed_all active own ∙ h

pub few_blocks : (bs : List TBlock) → length (block_terms bs) < 2 ^ 32 → length bs < 2 ^ 32
few_blocks bs h = subst (λ (k : ℕ). k < 2 ^ 32) (length-map bs block_term) h

-- ---- leaves

pub leaves_turn : (known x rest all : Leaves) → both known (both x rest) ≡ all → both (both known x) rest ≡ all
leaves_turn known x rest all h = (λ i. record { any = or_or known.any x.any rest.any i; sized = or_or known.sized x.sized rest.sized i }) ∙ h

pub leaves_end : (known all : Leaves) → both known no_leaves ≡ all → known ≡ all
leaves_end known all h = (λ i. record { any = sym (or_none known.any) i; sized = sym (or_none known.sized) i }) ∙ h

-- ---- operands

pub two_of : (n c : ℕ) → c ≡ min 2 n → nat_le 2 c ≡ has_two n
two_of zero c h = ap (nat_le 2) h
two_of (suc zero) c h = ap (nat_le 2) h
two_of (suc (suc n)) c h = let e : c ≡ 2 = omega (arith, h) in ap (nat_le 2) e

-- a member that mentions the size, and one that does not
pub sized_found : (f : FrameTerm) (x : TExpr) (all : List TExpr) (i : ℕ) (whole : Bool) → i < length all → x ≡ get_or all i x → is_sized f (expr_term x) ≡ true → any_sized f (expr_terms (drop i all)) ≡ whole → true ≡ whole
sized_found f x all i whole less is met h =
    ap (λ b. b || any_sized f (expr_terms (drop (i + 1) all))) (sym met) ∙ ap (λ (xs : List TExpr). any_sized f (expr_terms xs)) (dropped_at all i x x less is) ∙ h

pub sized_more : (f : FrameTerm) (x : TExpr) (all : List TExpr) (i : ℕ) (whole : Bool) → i < length all → x ≡ get_or all i x → is_sized f (expr_term x) ≡ false → any_sized f (expr_terms (drop i all)) ≡ whole → any_sized f (expr_terms (drop (i + 1) all)) ≡ whole
sized_more f x all i whole less is unmet h =
    ap (λ b. b || any_sized f (expr_terms (drop (i + 1) all))) (sym unmet) ∙ ap (λ (xs : List TExpr). any_sized f (expr_terms xs)) (dropped_at all i x x less is) ∙ h

pub sized_end : (f : FrameTerm) (all : List TExpr) (i : ℕ) (whole : Bool) → length all ≤ i → any_sized f (expr_terms (drop i all)) ≡ whole → false ≡ whole
sized_end f all i whole past h = ap (λ (xs : List TExpr). any_sized f (expr_terms xs)) (sym (drop_all i all past)) ∙ h

-- ---- the size that is marked

pub marked_at : (f : FrameTerm) (p n q : ℕ) → p < n → has_free_size (with_free f (mark n p)) q ≡ (q == p)
marked_at f p n q less = by (nat_lt q n) refl
  where
    outside : n ≤ q → (q == p) ≡ false
    outside h = ne_eqb q p (λ (e : q ≡ p). omega (arith, h, less, e))

    by : (b : Bool) → nat_lt q n ≡ b → slice_index_or (mark n p) q false ≡ (q == p)
    by true e = get_or-map-range_with_len (λ r. r == p) 0 n q q false (ltb-true q n e) (omega arith)
    by false e = get_or_past (mark n p) q false (omega (arith, ltb-false q n e, length-map-range_with_len (λ r. r == p) 0 n)) ∙ sym (outside (ltb-false q n e))
