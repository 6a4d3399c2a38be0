-- How many classes there are behind the types and classes of a script, and how many blocks they declare.
use Rattle.std.proofs.Common.{◌≡◌, ℕ, suc, ◌+◌, ◌<◌, ◌≤◌, ◌^◌, Bool, true, false, if◌then◌else◌, List, [], ◌∷◌, ◌++◌, length, map, Option, refl, sym, ap, subst, ◌∙◌, arith}
use Rattle.std.specs.List.{list_any}
use Rattle.std.proofs.lemmas.List.{length-append, length-map}
use Rattle.svr_operator.specs.declared.Rand.{Rand}
use Rattle.svr_tree.specs.declared.Top.{Top}
use Rattle.svr_tree.specs.declared.Top.TheVariants as top
use Rattle.svr_tree.specs.DeclTree as tree
use Rattle.svr_tree.specs.DeclTree.{MemberTree, DefinitionTree, TypeTree, DeclaratorTree, ClassItemTree, ClassTree}
use Rattle.svr_tree.specs.declared.ClassDecl.{ClassDecl}
use Rattle.svr_tree.specs.DeclTree.{class_tree}
use Rattle.svr_tree.specs.ScriptTree.{ScriptTree}
use Rattle.svr_tree.specs.ScriptGrammar.{IsOrder}
use Rattle.svr_elab_fault.specs.declared.Fault.{Fault}
use Rattle.svr_elab_fault.specs.Refusals.{first_one}
use Rattle.svr_elab_names.specs.declared.Vector.{Vector}
use Rattle.svr_elab_names.specs.declared.ClassNames.{ClassNames}
use Rattle.svr_elab_names.specs.Names.{Space, ClassName, is_same}
use Rattle.svr_elab_names.specs.Tables.{class_of}
use Rattle.svr_elab_target.specs.Fits.{blocks_declared, BlocksFit}
use Rattle.svr_elab_type.specs.Types as types
use Rattle.svr_elab_type.specs.Types.{EnumElab, GlobalsElab, declaring}
use Rattle.svr_elab_decl.specs.Properties.{Used}
use Rattle.svr_elab_class.specs.Classes as class
use Rattle.svr_elab_class.specs.Classes.{Head, ClassElab}
use Rattle.svr_elab_tops.specs.InOrder.{types_and_classes}
use Rattle.svr_elab_random.specs.declared.Home.{Home}
use Rattle.svr_elab_random.specs.Random.{with_lists, classes_with}
use Rattle.svr_elab_fit_laws.specs.ReadScripts.{own_blocks, blocks_in}
use Rattle.svr_elab.specs.Script.{no_globals, heads}

abbrev Known : Type 0
Known = GlobalsElab (Option Fault)

abbrev Part : Type 0
Part = ClassElab (Option Fault)

-- ---- a type changes no class

members_keep : (base : Option Vector) (e : EnumElab (Option Fault)) (ms : List MemberTree) → (types.enum_members first_one base e ms).names.classes ≡ e.names.classes
members_keep base e [] = refl
members_keep base e (m ∷ ms) = members_keep base (types.and_member first_one base m.name e (types.member_number first_one e.names e.next m.value)) ms

defined_keeps : (s : Known) (name : ℕ) (d : DefinitionTree) → (types.definition first_one s name d).names.classes ≡ s.names.classes
defined_keeps s name (tree.enum d) = members_keep _ _ d.members
defined_keeps s name (tree.plain t) = refl

type_keeps : (s : Known) (t : TypeTree) → (types.type_decl first_one s t).names.classes ≡ s.names.classes
type_keeps s t = defined_keeps s t.name t.definition

-- ---- each class is there

plus_zero : (n : ℕ) → n ≡ n + 0
plus_zero n = omega arith

one_more : (a b n k : ℕ) → n ≡ k + b → k ≡ a + 1 → n ≡ a + suc b
one_more a b n k h e = omega (arith, h, e)

pub all_there : (s : Known) (os : List Top) (ts : List TypeTree) (cs : List ClassTree) → IsOrder ts cs os → length (types_and_classes first_one s os ts cs).names.classes ≡ length s.names.classes + length cs
all_there s [] [] [] o = plus_zero (length s.names.classes)
all_there s [] [] (c ∷ cs) o = absurd o
all_there s [] (t ∷ ts) [] o = absurd o
all_there s [] (t ∷ ts) (c ∷ cs) o = absurd o
all_there s (top.OfType ∷ os) [] [] o = absurd o
all_there s (top.OfType ∷ os) [] (c ∷ cs) o = absurd o
all_there s (top.OfType ∷ os) (t ∷ ts) cs o =
    all_there (types.type_decl first_one s t) os ts cs o ∙ ap (λ (ks : List ClassName). length ks + length cs) (type_keeps s t)
all_there s (top.OfClass ∷ os) [] [] o = absurd o
all_there s (top.OfClass ∷ os) (t ∷ ts) [] o = absurd o
all_there s (top.OfClass ∷ os) [] (c ∷ cs) o =
    one_more (length s.names.classes) (length cs) _ _ (all_there (class.class_decl first_one s c) os [] cs o) (length-append s.names.classes _)
all_there s (top.OfClass ∷ os) (t ∷ ts) (c ∷ cs) o =
    one_more (length s.names.classes) (length cs) _ _ (all_there (class.class_decl first_one s c) os (t ∷ ts) cs o) (length-append s.names.classes _)

-- ---- how many blocks a class declares

chosen : (b : Bool) (x y : Part) (bs : List (List ℕ)) → x.blocks ≡ bs → y.blocks ≡ bs → (if b then x else y).blocks ≡ bs
chosen true x y bs h k = h
chosen false x y bs h k = k

declared_keep : (h : Head) (c : Part) (r : Rand) (u : Used) (ds : List DeclaratorTree) → (class.declarators first_one h c r u ds).blocks ≡ c.blocks
declared_keep h c r u [] = refl
declared_keep h c r u (d ∷ ds) =
    declared_keep h (class.declarator first_one h c r u d) r u ds ∙ chosen (list_any (is_same (h.names.text d.name)) c.own) _ _ c.blocks refl refl

one_name : (b : Bool) (ns : List (List ℕ)) (q : List ℕ) → length (if b then ns else ns ++ q ∷ []) ≤ length ns + 1
one_name true ns q = omega arith
one_name false ns q = let e : length (ns ++ q ∷ []) ≡ length ns + 1 = length-append ns (q ∷ []) in omega (arith, e)

one_block : (b : Bool) (x y : Part) (n : ℕ) → length x.blocks ≤ n → length y.blocks ≤ n → length (if b then x else y).blocks ≤ n
one_block true x y n h k = h
one_block false x y n h k = k

no_more : (n : ℕ) → n ≤ n + 1
no_more n = omega arith

block_counted : (c : Part) (q : List ℕ) (name : ℕ) → length (class.with_block first_one c q name).blocks ≤ length c.blocks + 1
block_counted c q name =
    one_block (list_any (is_same q) c.own) _ _ (length c.blocks + 1) (no_more (length c.blocks)) (one_name (list_any (is_same q) c.blocks) c.blocks q)

on_from : (a b n k m : ℕ) → n ≤ k + m → k ≤ a + b → n ≤ a + (m + b)
on_from a b n k m h e = omega (arith, h, e)

pub items_counted : (h : Head) (c : Part) (is : List ClassItemTree) → length (class.class_items first_one h c is).blocks ≤ length c.blocks + own_blocks is
items_counted h c [] = let e : length c.blocks ≤ length c.blocks + 0 = omega arith in e
items_counted h c (tree.property p ∷ is) =
    let Fewer : List (List ℕ) → Type 0 = λ bs. length (class.class_items first_one h (class.class_item first_one h c (tree.property p)) is).blocks ≤ length bs + own_blocks is in
    subst Fewer (declared_keep h _ p.rand _ p.decls) (items_counted h (class.class_item first_one h c (tree.property p)) is)
items_counted h c (tree.block b ∷ is) =
    on_from (length c.blocks) 1 _ _ (own_blocks is) (items_counted h (class.class_item first_one h c (tree.block b)) is) (block_counted c (h.names.text b.name) b.name)

-- ---- how many blocks all classes declare

declared_last : (cs : List ClassName) (c : ClassName) → blocks_declared (cs ++ c ∷ []) ≡ blocks_declared cs + length c.blocks
declared_last [] c = from_none (length c.blocks)
  where
    from_none : (n : ℕ) → n + 0 ≡ 0 + n
    from_none n = omega arith
declared_last (x ∷ xs) c = joined (length x.blocks) (blocks_declared xs) (length c.blocks) (blocks_declared (xs ++ c ∷ [])) (declared_last xs c)
  where
    joined : (a b n m : ℕ) → m ≡ b + n → a + m ≡ a + b + n
    joined a b n m e = omega (arith, e)

more_few : (n own declared e k : ℕ) → k ≡ declared + e → declared ≤ n → e ≤ 0 + own → k ≤ n + own
more_few n own declared e k is h i = omega (arith, is, h, i)

class_added : (n : ℕ) (s : Known) (c : ClassTree) → blocks_declared s.names.classes ≤ n → blocks_declared (class.class_decl first_one s c).names.classes ≤ n + own_blocks c.items
class_added n s c h =
    let head = class.class_head s c in
    let e = class.class_body first_one head c.items in
    more_few n (own_blocks c.items) (blocks_declared s.names.classes) (length e.blocks) _ (declared_last s.names.classes _) h
    (items_counted head (class.class_start first_one head.names.classes head.base) c.items)

added : (k n : ℕ) → k ≤ n → k ≤ n + 0
added k n h = omega (arith, h)

grouped : (k n a b : ℕ) → k ≤ n + a + b → k ≤ n + (a + b)
grouped k n a b h = omega (arith, h)

abbrev DeclareFew : ℕ → List ClassName → Type 0
DeclareFew n cs = blocks_declared cs ≤ n

pub blocks_few : (n : ℕ) (s : Known) (os : List Top) (ts : List TypeTree) (cs : List ClassTree) → IsOrder ts cs os → DeclareFew n s.names.classes
    → DeclareFew (n + blocks_in cs) (types_and_classes first_one s os ts cs).names.classes
blocks_few n s [] [] [] o h = added (blocks_declared s.names.classes) n h
blocks_few n s [] [] (c ∷ cs) o h = absurd o
blocks_few n s [] (t ∷ ts) [] o h = absurd o
blocks_few n s [] (t ∷ ts) (c ∷ cs) o h = absurd o
blocks_few n s (top.OfType ∷ os) [] [] o h = absurd o
blocks_few n s (top.OfType ∷ os) [] (c ∷ cs) o h = absurd o
blocks_few n s (top.OfType ∷ os) (t ∷ ts) cs o h = blocks_few n (types.type_decl first_one s t) os ts cs o (subst (DeclareFew n) (sym (type_keeps s t)) h)
blocks_few n s (top.OfClass ∷ os) [] [] o h = absurd o
blocks_few n s (top.OfClass ∷ os) (t ∷ ts) [] o h = absurd o
blocks_few n s (top.OfClass ∷ os) [] (c ∷ cs) o h = grouped _ n (own_blocks c.items) (blocks_in cs) (blocks_few (n + own_blocks c.items) (class.class_decl first_one s c) os [] cs o (class_added n s c h))
blocks_few n s (top.OfClass ∷ os) (t ∷ ts) (c ∷ cs) o h =
    grouped _ n (own_blocks c.items) (blocks_in cs) (blocks_few (n + own_blocks c.items) (class.class_decl first_one s c) os (t ∷ ts) cs o (class_added n s c h))

-- ---- the same where calls list properties

pub blocks_fit : (n : ℕ) (m : Space) → n < 2 ^ 32 → DeclareFew n m.classes → BlocksFit m
blocks_fit n m few h = record { few = under (blocks_declared m.classes) n h few }
  where
    under : (k n : ℕ) → k ≤ n → n < 2 ^ 32 → k < 2 ^ 32
    under k n h few = omega (arith, h, few)

declared_marked : (hs : List Home) (cs : List ClassName) → blocks_declared (classes_with hs cs) ≡ blocks_declared cs
declared_marked hs [] = refl
declared_marked hs (c ∷ cs) = ap (λ (n : ℕ). length c.blocks + n) (declared_marked hs cs)

pub marked_fit : (hs : List Home) (m n : Space) → m.classes ≡ classes_with hs n.classes → BlocksFit n → BlocksFit m
marked_fit hs m n e h = record { few = subst (λ (k : ℕ). k < 2 ^ 32) (sym (ap blocks_declared e ∙ declared_marked hs n.classes)) h.few }

-- ---- behind the types and classes of a script

pub heads_many : (text : ℕ → List ℕ) (s : ScriptTree) (h : Known) (ds : List ClassDecl) (ks : List ClassNames) → IsOrder s.types s.classes s.order → h ≡ heads first_one text s
    → map class_tree ds ≡ s.classes → map class_of ks ≡ h.names.classes → length ds ≤ length ks
heads_many text s h ds ks o is is_ds is_ks =
    let known : length h.names.classes ≡ 0 + length s.classes = ap (λ (h : Known). length h.names.classes) is ∙ all_there (no_globals first_one text) s.order s.types s.classes o in
    as_many (length ds) (length ks) (length s.classes) (length h.names.classes) known (sym (length-map ds class_tree) ∙ ap length is_ds) (sym (length-map ks class_of) ∙ ap length is_ks)
  where
    as_many : (d k s h : ℕ) → h ≡ 0 + s → d ≡ s → k ≡ h → d ≤ k
    as_many d k s h e f g = omega (arith, e, f, g)

none_before : (n : ℕ) → n < 2 ^ 32 → 0 + n < 2 ^ 32
none_before n h = omega (arith, h)

pub heads_fit : (text : ℕ → List ℕ) (s : ScriptTree) (h : Known) → IsOrder s.types s.classes s.order → blocks_in s.classes < 2 ^ 32 → h ≡ heads first_one text s → BlocksFit h.names
heads_fit text s h o few is =
    let P : Known → Type 0 = λ h. BlocksFit h.names in
    let none : 0 ≤ 0 = omega arith in
    subst P (sym is) (blocks_fit (0 + blocks_in s.classes) (heads first_one text s).names (none_before (blocks_in s.classes) few) (blocks_few 0 (no_globals first_one text) s.order s.types s.classes o none))
