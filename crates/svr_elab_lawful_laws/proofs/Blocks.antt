-- A class of a design has no more blocks than the script declares.
use Rattle.std.proofs.Common.{◌≡◌, ℕ, zero, suc, ◌+◌, ◌≤◌, Bool, true, false, not, if◌then◌else◌, List, [], ◌∷◌, ◌++◌, length, Option, None, Some, sym, ap, subst, ◌∙◌, arith}
use Rattle.std.specs.Prelude.{⊤, slice_index_or, MatchOption, filter}
use Rattle.std.specs.List.{list_any}
use Rattle.std.proofs.lemmas.List.Sums.{length-filter, count_by-le-length}
use Rattle.svr_typed.specs.declared.EnumType.{EnumType}
use Rattle.svr_typed.specs.ClassTerm.{BlockTerm, ClassTerm, FlatTerm}
use Rattle.svr_typed.specs.StmtTerm.{DesignTerm}
use Rattle.svr_tree.specs.DeclTree as decl
use Rattle.svr_tree.specs.DeclTree.{ClassTree, ClassItemTree, BlockTree}
use Rattle.svr_flat.specs.Flat.{no_class, has_block, not_replaced, derived_class, base_of, flat_after, flat_classes, flat_class_of}
use Rattle.svr_elab_fault.specs.declared.Fault.{Fault}
use Rattle.svr_elab_fault.specs.Refusals.{first_one}
use Rattle.svr_elab_names.specs.Names.{Space, ClassName, is_same}
use Rattle.svr_elab_part.specs.Fits.{Each}
use Rattle.svr_elab_part.specs.Shapes.{and_more}
use Rattle.svr_elab_item.specs.Items.{ItemsElab, items, no_items, outside}
use Rattle.svr_elab_block.specs.Blocks as spec
use Rattle.svr_elab_block.specs.Blocks.{BodyElab, BodiesElab}
use Rattle.svr_elab_fit_laws.specs.ReadScripts.{own_blocks, blocks_in}
use Rattle.svr_elab_lawful_laws.specs.Lawful.{BlocksAreFew}
use Rattle.svr_elab_lawful_laws.proofs.Enums.{length_last, each_last, each_to}
use Rattle.svr_elab_lawful_laws.proofs.Flats.{TermsAre}
use Rattle.svr_elab_lawful_laws.proofs.Whole.{the_heads, the_space, the_bodies, IsClear, script_clear, of_design}
use Rattle.svr_elab_lawful_laws.proofs.Declarations.{some_same, DesignClasses, design_classes}

-- ---- the blocks of a class

abbrev Few : {A : Type 0} → Option (List A) → ℕ → Type 0
Few xs m = MatchOption xs ⊤ (λ xs. length xs ≤ m)

one_more : {A : Type 0} (xs : Option (List A)) (x : Option A) (m : ℕ) → Few xs m → Few (and_more xs x) (suc m)
one_more None x m h = tt
one_more (Some xs) None m h = tt
one_more (Some xs) (Some x) m h = subst (λ n. n ≤ suc m) (sym (length_last xs x)) (up (length xs) m h)
  where
    up : (a m : ℕ) → a ≤ m → suc a ≤ suc m
    up a m h = omega (arith, h)

few_up : {A : Type 0} (xs : Option (List A)) (m n : ℕ) → m ≤ n → Few xs m → Few xs n
few_up None m n h k = tt
few_up (Some xs) m n h k = up (length xs) m n k h
  where
    up : (a m n : ℕ) → a ≤ m → m ≤ n → a ≤ n
    up a m n h k = omega (arith, h, k)

next_up : (m : ℕ) → m ≤ suc m
next_up m = omega arith

block_few : (n : Space) (b : BodyElab (Option Fault)) (k : BlockTree) (e : ItemsElab (Option Fault)) (m : ℕ) → Few b.blocks m → Few (spec.and_block first_one n b k e).blocks (suc m)
block_few n b k e m h = either (list_any (is_same (n.text k.name)) b.own)
  where
    either : (t : Bool) → Few (if t then spec.with_faults first_one b e.faults else spec.with_block first_one b (n.text k.name) (spec.orders n k.name b.orders k.items) e).blocks (suc m)
    either true = few_up b.blocks m (suc m) (next_up m) h
    either false = one_more b.blocks (spec.block_term (n.text k.name) e.trees) m h

body_few : (n : Space) (b : BodyElab (Option Fault)) (is : List ClassItemTree) (m : ℕ) → Few b.blocks m → Few (spec.body_items first_one n b is).blocks (m + own_blocks is)
body_few n b [] m h = let e : m ≡ m + 0 = omega arith in subst (Few b.blocks) e h
body_few n b (decl.property p ∷ is) m h = body_few n (spec.body_item first_one n b (decl.property p)) is m h
body_few n b (decl.block k ∷ is) m h =
    let next : BodyElab (Option Fault) = spec.body_item first_one n b (decl.block k) in
    subst (Few (spec.body_items first_one n next is).blocks) (moved m (own_blocks is))
    (body_few n next is (suc m) (block_few n b k (items first_one n outside (no_items first_one) k.items) m h))
  where
    moved : (m a : ℕ) → suc m + a ≡ m + (a + 1)
    moved m a = omega arith

-- ---- the blocks of all classes

abbrev total : List (List BlockTerm) → ℕ
total [] = 0
total (bs ∷ rest) = length bs + total rest

total_last : (all : List (List BlockTerm)) (bs : List BlockTerm) → total (all ++ bs ∷ []) ≡ total all + length bs
total_last [] bs = let e : length bs + 0 ≡ 0 + length bs = omega arith in e
total_last (x ∷ all) bs = ap (λ n. length x + n) (total_last all bs) ∙ moved (length x) (total all) (length bs)
  where
    moved : (a b c : ℕ) → a + (b + c) ≡ (a + b) + c
    moved a b c = omega arith

abbrev FewInAll : Option (List (List BlockTerm)) → ℕ → Type 0
FewInAll xs m = MatchOption xs ⊤ (λ xs. total xs ≤ m)

more_in_all : (xs : Option (List (List BlockTerm))) (x : Option (List BlockTerm)) (m j : ℕ) → FewInAll xs m → Few x j → FewInAll (and_more xs x) (m + j)
more_in_all None x m j h k = tt
more_in_all (Some xs) None m j h k = tt
more_in_all (Some xs) (Some x) m j h k = subst (λ n. n ≤ m + j) (sym (total_last xs x)) (sum (total xs) (length x) m j h k)
  where
    sum : (a b m j : ℕ) → a ≤ m → b ≤ j → a + b ≤ m + j
    sum a b m j h k = omega (arith, h, k)

bodies_few : (n : Space) (s : BodiesElab (Option Fault)) (k : ℕ) (cs : List ClassTree) (m : ℕ) → FewInAll s.blocks m → FewInAll (spec.bodies first_one n s k cs).blocks (m + blocks_in cs)
bodies_few n s k [] m h = let e : m ≡ m + 0 = omega arith in subst (FewInAll s.blocks) e h
bodies_few n s k (c ∷ cs) m h =
    let b : BodyElab (Option Fault) = spec.body first_one n k c in
    let next : BodiesElab (Option Fault) = spec.with_class first_one n s k b in
    let own : Few b.blocks (0 + own_blocks c.items) = body_few _ (spec.no_body first_one) c.items 0 (let e : 0 ≤ 0 = omega arith in e) in
    subst (FewInAll (spec.bodies first_one n next (k + 1) cs).blocks) (moved m (own_blocks c.items) (blocks_in cs))
    (bodies_few n next (k + 1) cs (m + (0 + own_blocks c.items)) (more_in_all s.blocks b.blocks m (0 + own_blocks c.items) h own))
  where
    moved : (m a b : ℕ) → (m + (0 + a)) + b ≡ m + (a + b)
    moved m a b = omega arith

-- ---- with what they inherit

abbrev FlatFew : ℕ → FlatTerm → Type 0
FlatFew m f = length f.blocks ≤ m

flat_few_at : (fs : List FlatTerm) (m k : ℕ) → Each (FlatFew m) fs → length (slice_index_or fs k no_class).blocks ≤ m
flat_few_at [] m k h = (let e : 0 ≤ m = omega arith in e)
flat_few_at (f ∷ fs) m zero h = h.0
flat_few_at (f ∷ fs) m (suc k) h = flat_few_at fs m k h.1

base_few : (fs : List FlatTerm) (m : ℕ) (b : Option ℕ) → Each (FlatFew m) fs → length (base_of fs b).blocks ≤ m
base_few fs m None h = (let e : 0 ≤ m = omega arith in e)
base_few fs m (Some b) h = flat_few_at fs m b h

length_both : {A : Type 0} (xs ys : List A) → length (xs ++ ys) ≡ length xs + length ys
length_both [] ys = let e : length ys ≡ 0 + length ys = omega arith in e
length_both (x ∷ xs) ys = ap suc (length_both xs ys) ∙ next (length xs) (length ys)
  where
    next : (a b : ℕ) → suc (a + b) ≡ suc a + b
    next a b = omega arith

kept_few : (p : BlockTerm → Bool) (bs : List BlockTerm) → length (filter p bs) ≤ length bs
kept_few p bs = subst (λ n. n ≤ length bs) (sym (length-filter p bs)) (count_by-le-length p bs)

derived_few : (base : FlatTerm) (t : ClassTerm) (m : ℕ) → length base.blocks ≤ m → length (derived_class base t).blocks ≤ m + length t.blocks
derived_few base t m h =
    subst (λ n. n ≤ m + length t.blocks) (sym (length_both (not_replaced t.blocks base.blocks) t.blocks))
    (sum (length (not_replaced t.blocks base.blocks)) (length base.blocks) m (length t.blocks) (kept_few (λ (b : BlockTerm). not (has_block b.name t.blocks)) base.blocks) h)
  where
    sum : (a b m j : ℕ) → a ≤ b → b ≤ m → a + j ≤ m + j
    sum a b m j h k = omega (arith, h, k)

flats_few : (es : List EnumType) (cs : List ClassName) (bs : List (List BlockTerm)) (ts : List ClassTerm) (fs : List FlatTerm) (m : ℕ) → TermsAre es cs bs ts → Each (FlatFew m) fs → Each (FlatFew (m + total bs)) (flat_after fs ts)
flats_few es [] bs [] fs m h k = each_to (FlatFew m) (FlatFew (m + total bs)) (λ f l. up (length f.blocks) m (total bs) l) fs k
  where
    up : (a m j : ℕ) → a ≤ m → a ≤ m + j
    up a m j h = omega (arith, h)
flats_few es [] bs (t ∷ ts) fs m h k = absurd h
flats_few es (c ∷ cs) [] [] fs m h k = absurd h
flats_few es (c ∷ cs) [] (t ∷ ts) fs m h k = absurd h
flats_few es (c ∷ cs) (b ∷ bs) [] fs m h k = absurd h
flats_few es (c ∷ cs) (b ∷ bs) (t ∷ ts) fs m h k =
    let f : FlatTerm = derived_class (base_of fs t.base) t in
    let own : length t.blocks ≡ length b = ap (λ (bs : List BlockTerm). length bs) h.0.blocks in
    let here : FlatFew (m + length b) f = subst (λ n. length f.blocks ≤ m + n) own (derived_few (base_of fs t.base) t m (base_few fs m t.base k)) in
    let before : Each (FlatFew (m + length b)) fs = each_to (FlatFew m) (FlatFew (m + length b)) (λ g l. up (length g.blocks) m (length b) l) fs k in
    subst (λ n. Each (FlatFew n) (flat_after (fs ++ f ∷ []) ts)) (moved m (length b) (total bs)) (flats_few es cs bs ts (fs ++ f ∷ []) (m + length b) h.1 (each_last (FlatFew (m + length b)) fs f before here))
  where
    up : (a m j : ℕ) → a ≤ m → a ≤ m + j
    up a m j h = omega (arith, h)

    moved : (m a b : ℕ) → (m + a) + b ≡ m + (a + b)
    moved m a b = omega arith

class_few : (ts : List ClassTerm) (m k : ℕ) → Each (FlatFew m) (flat_classes ts) → length (flat_class_of ts k).blocks ≤ m
unfolding flat_class_of
class_few ts m k h = flat_few_at (flat_classes ts) m k h

of_bodies : (o : Option (List (List BlockTerm))) (bs : List (List BlockTerm)) (m : ℕ) → o ≡ Some bs → FewInAll o m → total bs ≤ m
of_bodies None bs m e h = absurd (let f : None ≡ Some bs = e in cc)
of_bodies (Some cs) bs m e h = subst (λ (bs : List (List BlockTerm)). total bs ≤ m) (some_same cs bs e) h

pub blocks_are_few : BlocksAreFew
blocks_are_few text s is f =
    let clear : IsClear text s = script_clear text s f in
    of_design (λ (d : DesignTerm). (k : ℕ) → length (flat_class_of d.classes k).blocks ≤ blocks_in s.classes) text s
    (λ c v t a b e. λ k.
    let dc : DesignClasses text s c = design_classes text s c is clear a in
    let all : total dc.blocks ≤ 0 + blocks_in s.classes = of_bodies (the_bodies text s).blocks dc.blocks (0 + blocks_in s.classes) dc.bodies (bodies_few (the_space text s) (spec.no_bodies first_one) 0 s.classes 0 (let e : 0 ≤ 0 = omega arith in e)) in
    within (length (flat_class_of c k).blocks) (total dc.blocks) (blocks_in s.classes) (class_few c (0 + total dc.blocks) k (flats_few (the_heads text s).enums (the_space text s).classes dc.blocks c [] 0 dc.are tt)) all)
  where
    within : (a b m : ℕ) → a ≤ 0 + b → b ≤ 0 + m → a ≤ m
    within a b m h k = omega (arith, h, k)
