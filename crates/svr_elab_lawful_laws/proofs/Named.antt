-- A class of a design has a block for each name of one that its class has.
use Rattle.std.proofs.Common.{◌≡◌, ℕ, zero, suc, ◌+◌, ◌≤◌, cond, Bool, true, false, not, ◌||◌, if◌then◌else◌, List, [], ◌∷◌, ◌++◌, length, map, append-nil, Option, None, Some, refl, sym, ap, subst, ◌∙◌, true≢false, arith}
use Rattle.std.specs.Prelude.{⊤, slice_index_or, bytes_eq, MatchOption}
use Rattle.std.specs.List.{list_any}
use Rattle.std.specs.Cmp.Lexicographic.{nat_list_eq_equiv}
use Rattle.svr_typed.specs.declared.EnumType.{EnumType}
use Rattle.svr_typed.specs.ItemTerm.{ItemTerm, items_of}
use Rattle.svr_typed.specs.ClassTerm.{BlockTerm, ClassTerm, FlatTerm}
use Rattle.svr_typed.specs.StmtTerm.{DesignTerm}
use Rattle.svr_operator.specs.declared.Rand.{Rand}
use Rattle.svr_tree.specs.declared.Top.{Top}
use Rattle.svr_tree.specs.declared.Top.TheVariants as top
use Rattle.svr_tree.specs.DeclTree as tree
use Rattle.svr_tree.specs.DeclTree.{MemberTree, DefinitionTree, DeclaratorTree, BlockTree, TypeTree, ClassItemTree, ClassTree}
use Rattle.svr_tree.specs.StmtTree.{stmts_of}
use Rattle.svr_tree.specs.ScriptGrammar.{IsOrder}
use Rattle.svr_flat.specs.Flat.{no_class, has_block, not_replaced, derived_class, base_of, flat_after, flat_classes, flat_class_of}
use Rattle.svr_elab_fault.specs.declared.Fault.{Fault}
use Rattle.svr_refusal.specs.declared.Refusal.TheVariants as refusal
use Rattle.svr_elab_fault.specs.Refusals.{first_one, when, earlier}
use Rattle.svr_elab_names.specs.declared.Vector.{Vector}
use Rattle.svr_elab_names.specs.declared.Property.{Property}
use Rattle.svr_elab_names.specs.declared.Region.TheVariants as region
use Rattle.svr_elab_names.specs.Names.{Space, ClassName, is_same}
use Rattle.svr_elab_part.specs.Shapes.{and_more}
use Rattle.svr_elab_type.specs.Types as types
use Rattle.svr_elab_type.specs.Types.{GlobalsElab, EnumElab}
use Rattle.svr_elab_decl.specs.Properties as property_spec
use Rattle.svr_elab_decl.specs.Properties.{Used, UsedElab, DimsElab}
use Rattle.svr_elab_class.specs.Classes as spec
use Rattle.svr_elab_class.specs.Classes.{Head, ClassElab, class_decl}
use Rattle.svr_elab_tops.specs.InOrder.{types_and_classes}
use Rattle.svr_elab_item.specs.Items.{ItemsElab, items, no_items, outside}
use Rattle.svr_elab_block.specs.Blocks as blocks
use Rattle.svr_elab_block.specs.Blocks.{BodyElab, BodiesElab, and_name, and_declared, in_class}
use Rattle.svr_elab_target.specs.Blocks.{without, names_at, flat_names, flat_names_after, class_blocks}
use Rattle.svr_elab_random.specs.declared.Home.{Home}
use Rattle.svr_elab_random.specs.Random.{classes_with}
use Rattle.svr_elab_unit.specs.Listed.{all_listed}
use Rattle.svr_elab_unit.specs.Vars.{stmt_space}
use Rattle.svr_elab.specs.Script as script
use Rattle.svr_elab_lawful_laws.specs.Walks.{BlocksNamed, BlocksAreNamed}
use Rattle.svr_elab_lawful_laws.proofs.Enums.{map_last}
use Rattle.svr_elab_lawful_laws.proofs.Classes.{any_append}
use Rattle.svr_elab_lawful_laws.proofs.Flats.{TermsAre, moved}
use Rattle.svr_elab_lawful_laws.proofs.Whole.{the_heads, the_vars, the_space, the_bodies, IsClear, script_clear, of_design}
use Rattle.svr_elab_lawful_laws.proofs.Declarations.{some_same, type_classes, DesignClasses, design_classes}

abbrev Names : Type 0
Names = List (List ℕ)

abbrev Class : Type 0
Class = ClassElab (Option Fault)

abbrev Body : Type 0
Body = BodyElab (Option Fault)

abbrev name_of : BlockTerm → List ℕ
name_of b = b.name

-- ---- the names of a class's own blocks, behind the names that it declares

abbrev names_behind : (ℕ → List ℕ) → Names → Names → List ClassItemTree → Names
names_behind text own named [] = named
names_behind text own named (tree.property p ∷ is) = names_behind text (and_declared text own p.decls) named is
names_behind text own named (tree.block b ∷ is) =
    if list_any (is_same (text b.name)) own then names_behind text own named is else names_behind text (and_name own (text b.name)) (and_name named (text b.name)) is

abbrev block_names : (ℕ → List ℕ) → ClassTree → Names
block_names text c = names_behind text [] [] c.items

if_same : {A B : Type 0} (f : A → B) (b : Bool) (x y : A) (u v : B) → f x ≡ u → f y ≡ v → f (if b then x else y) ≡ (if b then u else v)
if_same f true x y u v h k = h
if_same f false x y u v h k = k

-- ---- those of a class

twice : {A : Type 0} (b : Bool) (x y : A) → (if b then x else (if b then x else y)) ≡ (if b then x else y)
twice true x y = refl
twice false x y = refl

one_own : (h : Head) (c : Class) (r : Rand) (u : Used) (d : DeclaratorTree) → (spec.declarator first_one h c r u d).own ≡ and_name c.own (h.names.text d.name)
one_own h c r u d =
    let n : Space = spec.behind h c.props in
    let q : List ℕ = h.names.text d.name in
    let ds : DimsElab (Option Fault) = property_spec.dims_of first_one n d.name d.dims in
    let k : Option Vector = property_spec.used_kind u in
    let p : Property = spec.property_of h c r k ds.dims in
    let first : ℕ = property_spec.first_number first_one n k d.value in
    let all : Option Fault = earlier ds.faults (earlier (property_spec.first_at first_one n d.name k ds.dims d.value) (property_spec.property_faults first_one (spec.before h c q u) d.name r u ds.dims)) in
    let x : Class = spec.and_faults first_one c all in
    let y : Class = record { props = spec.and_prop c.props q p first; arrays = spec.and_array c.arrays p.dims; own = spec.with_name c.own q; blocks = c.blocks; faults = earlier c.faults all } in
    if_same (λ (c : Class). c.own) (list_any (is_same q) c.own) x y c.own (and_name c.own q) refl refl ∙ twice (list_any (is_same q) c.own) c.own (c.own ++ q ∷ [])

same_twice : {A : Type 0} (b : Bool) (x : A) → (if b then x else x) ≡ x
same_twice true x = refl
same_twice false x = refl

one_blocks : (h : Head) (c : Class) (r : Rand) (u : Used) (d : DeclaratorTree) → (spec.declarator first_one h c r u d).blocks ≡ c.blocks
one_blocks h c r u d =
    let n : Space = spec.behind h c.props in
    let q : List ℕ = h.names.text d.name in
    let ds : DimsElab (Option Fault) = property_spec.dims_of first_one n d.name d.dims in
    let k : Option Vector = property_spec.used_kind u in
    let p : Property = spec.property_of h c r k ds.dims in
    let first : ℕ = property_spec.first_number first_one n k d.value in
    let all : Option Fault = earlier ds.faults (earlier (property_spec.first_at first_one n d.name k ds.dims d.value) (property_spec.property_faults first_one (spec.before h c q u) d.name r u ds.dims)) in
    let x : Class = spec.and_faults first_one c all in
    let y : Class = record { props = spec.and_prop c.props q p first; arrays = spec.and_array c.arrays p.dims; own = spec.with_name c.own q; blocks = c.blocks; faults = earlier c.faults all } in
    if_same (λ (c : Class). c.blocks) (list_any (is_same q) c.own) x y c.blocks c.blocks refl refl ∙ same_twice (list_any (is_same q) c.own) c.blocks

decls_own : (h : Head) (c : Class) (r : Rand) (u : Used) (ds : List DeclaratorTree) → (spec.declarators first_one h c r u ds).own ≡ and_declared h.names.text c.own ds
decls_own h c r u [] = refl
decls_own h c r u (d ∷ ds) = decls_own h (spec.declarator first_one h c r u d) r u ds ∙ ap (λ (own : Names). and_declared h.names.text own ds) (one_own h c r u d)

decls_blocks : (h : Head) (c : Class) (r : Rand) (u : Used) (ds : List DeclaratorTree) → (spec.declarators first_one h c r u ds).blocks ≡ c.blocks
decls_blocks h c r u [] = refl
decls_blocks h c r u (d ∷ ds) = decls_blocks h (spec.declarator first_one h c r u d) r u ds ∙ one_blocks h c r u d

class_names : (h : Head) (c : Class) (is : List ClassItemTree) → (spec.class_items first_one h c is).blocks ≡ names_behind h.names.text c.own c.blocks is
class_names h c [] = refl
class_names h c (tree.property p ∷ is) =
    let u : UsedElab (Option Fault) = property_spec.data_type first_one (spec.behind h c.props) p.kind in
    let start : Class = spec.and_faults first_one c u.faults in
    let next : Class = spec.declarators first_one h start p.rand u.used p.decls in
    class_names h next is ∙ ap (λ (own : Names). names_behind h.names.text own next.blocks is) (decls_own h start p.rand u.used p.decls)
    ∙ ap (λ (named : Names). names_behind h.names.text (and_declared h.names.text c.own p.decls) named is) (decls_blocks h start p.rand u.used p.decls)
class_names h c (tree.block b ∷ is) =
    let q : List ℕ = h.names.text b.name in
    let x : Class = spec.and_faults first_one c (when first_one true b.name refusal.DoubleName) in
    let y : Class = record { props = c.props; arrays = c.arrays; own = spec.with_name c.own q; blocks = spec.with_name c.blocks q; faults = c.faults } in
    if_same (λ (c : Class). (spec.class_items first_one h c is).blocks) (list_any (is_same q) c.own) x y (names_behind h.names.text c.own c.blocks is) (names_behind h.names.text (and_name c.own q) (and_name c.blocks q) is)
    (class_names h x is) (class_names h y is)

-- ---- those of its body

body_named : (n : Space) (b : Body) (is : List ClassItemTree) → (blocks.body_items first_one n b is).named ≡ names_behind n.text b.own b.named is
body_named n b [] = refl
body_named n b (tree.property p ∷ is) = body_named n (blocks.body_item first_one n b (tree.property p)) is
body_named n b (tree.block k ∷ is) =
    let q : List ℕ = n.text k.name in
    let e : ItemsElab (Option Fault) = items first_one n outside (no_items first_one) k.items in
    let x : Body = blocks.with_faults first_one b e.faults in
    let y : Body = blocks.with_block first_one b q (blocks.orders n k.name b.orders k.items) e in
    if_same (λ (b : Body). (blocks.body_items first_one n b is).named) (list_any (is_same q) b.own) x y (names_behind n.text b.own b.named is) (names_behind n.text (and_name b.own q) (and_name b.named q) is)
    (body_named n x is) (body_named n y is)

-- each block that there is has its name
abbrev TermsNamed : Option (List BlockTerm) → Names → Type 0
TermsNamed o ns = MatchOption o ⊤ (λ bs. map name_of bs ≡ ns)

-- names of blocks are declared
abbrev Inside : Names → Names → Type 0
Inside named own = (q : List ℕ) → list_any (is_same q) named ≡ true → list_any (is_same q) own ≡ true

or_more : (a b : Bool) → a ≡ true → (a || b) ≡ true
or_more a b h = ap (λ (x : Bool). x || b) h

or_either : (a b c : Bool) → (a ≡ true → b ≡ true) → (a || c) ≡ true → (b || c) ≡ true
or_either true b c h k = ap (λ (x : Bool). x || c) (h refl)
or_either false true c h k = refl
or_either false false c h k = k

declared_still : (own : Names) (r q : List ℕ) → list_any (is_same q) own ≡ true → list_any (is_same q) (and_name own r) ≡ true
declared_still own r q h = either (list_any (is_same r) own)
  where
    either : (b : Bool) → list_any (is_same q) (if b then own else own ++ r ∷ []) ≡ true
    either true = h
    either false = any_append (is_same q) own (r ∷ []) ∙ or_more (list_any (is_same q) own) (list_any (is_same q) (r ∷ [])) h

all_still : (text : ℕ → List ℕ) (own : Names) (ds : List DeclaratorTree) (q : List ℕ) → list_any (is_same q) own ≡ true → list_any (is_same q) (and_declared text own ds) ≡ true
all_still text own [] q h = h
all_still text own (d ∷ ds) q h = all_still text (and_name own (text d.name)) ds q (declared_still own (text d.name) q h)

absent : (a b : Bool) → (a ≡ true → b ≡ true) → b ≡ false → a ≡ false
absent true b h k = absurd (true≢false (sym (h refl) ∙ k))
absent false b h k = refl

new_name : (ns : Names) (q : List ℕ) → list_any (is_same q) ns ≡ false → and_name ns q ≡ ns ++ q ∷ []
new_name ns q e = ap (λ (b : Bool). if b then ns else ns ++ q ∷ []) e

inside_more : (named own : Names) (q : List ℕ) → Inside named own → list_any (is_same q) named ≡ false → list_any (is_same q) own ≡ false → Inside (and_name named q) (and_name own q)
inside_more named own q h e f = λ r m.
    let grown : list_any (is_same r) (named ++ q ∷ []) ≡ true = ap (list_any (is_same r)) (sym (new_name named q e)) ∙ m in
    ap (list_any (is_same r)) (new_name own q f) ∙ any_append (is_same r) own (q ∷ [])
    ∙ or_either (list_any (is_same r) named) (list_any (is_same r) own) (list_any (is_same r) (q ∷ [])) (h r) (sym (any_append (is_same r) named (q ∷ [])) ∙ grown)

term_named : (o : Option (List BlockTerm)) (ts : Option (List ItemTerm)) (ns : Names) (q : List ℕ) → TermsNamed o ns → TermsNamed (and_more o (blocks.block_term q ts)) (ns ++ q ∷ [])
term_named None ts ns q h = tt
term_named (Some bs) None ns q h = tt
term_named (Some bs) (Some ts) ns q h = map_last name_of bs (record { name = q; items = items_of ts }) ∙ ap (λ (ns : Names). ns ++ q ∷ []) h

by_test : {A : Type 0} (P : A → Type 0) (b : Bool) (x y : A) → (b ≡ true → P x) → (b ≡ false → P y) → P (if b then x else y)
by_test P true x y h k = h refl
by_test P false x y h k = k refl

blocks_named : (n : Space) (b : Body) (is : List ClassItemTree) → TermsNamed b.blocks b.named → Inside b.named b.own → (let e : Body = blocks.body_items first_one n b is in TermsNamed e.blocks e.named)
blocks_named n b [] h i = h
blocks_named n b (tree.property p ∷ is) h i = blocks_named n (blocks.body_item first_one n b (tree.property p)) is h (λ q m. all_still n.text b.own p.decls q (i q m))
blocks_named n b (tree.block k ∷ is) h i =
    let q : List ℕ = n.text k.name in
    let e : ItemsElab (Option Fault) = items first_one n outside (no_items first_one) k.items in
    let x : Body = blocks.with_faults first_one b e.faults in
    let y : Body = blocks.with_block first_one b q (blocks.orders n k.name b.orders k.items) e in
    by_test (λ (b : Body). TermsNamed (blocks.body_items first_one n b is).blocks (blocks.body_items first_one n b is).named) (list_any (is_same q) b.own) x y
    (λ t. blocks_named n x is h i)
    (λ t.
    let new : list_any (is_same q) b.named ≡ false = absent (list_any (is_same q) b.named) (list_any (is_same q) b.own) (i q) t in
    blocks_named n y is (subst (TermsNamed (and_more b.blocks (blocks.block_term q e.trees))) (sym (new_name b.named q new)) (term_named b.blocks e.trees b.named q h)) (inside_more b.named b.own q i new t))

-- ---- all bodies

abbrev BodiesNamed : (ℕ → List ℕ) → List (List BlockTerm) → List ClassTree → Type 0
BodiesNamed text [] [] = ⊤
BodiesNamed text [] (c ∷ cs) = ⊥
BodiesNamed text (b ∷ bs) [] = ⊥
BodiesNamed text (b ∷ bs) (c ∷ cs) = (map name_of b ≡ block_names text c) × BodiesNamed text bs cs

bodies_last : (text : ℕ → List ℕ) (bs : List (List BlockTerm)) (cs : List ClassTree) (b : List BlockTerm) (c : ClassTree) → BodiesNamed text bs cs → map name_of b ≡ block_names text c → BodiesNamed text (bs ++ b ∷ []) (cs ++ c ∷ [])
bodies_last text [] [] b c h k = (k, tt)
bodies_last text [] (d ∷ cs) b c h k = absurd h
bodies_last text (a ∷ bs) [] b c h k = absurd h
bodies_last text (a ∷ bs) (d ∷ cs) b c h k = (h.0, bodies_last text bs cs b c h.1 k)

abbrev AllNamed : (ℕ → List ℕ) → Option (List (List BlockTerm)) → List ClassTree → Type 0
AllNamed text o cs = MatchOption o ⊤ (λ bs. BodiesNamed text bs cs)

more_named : (text : ℕ → List ℕ) (o : Option (List (List BlockTerm))) (b : Option (List BlockTerm)) (cs : List ClassTree) (c : ClassTree) → AllNamed text o cs → TermsNamed b (block_names text c) → AllNamed text (and_more o b) (cs ++ c ∷ [])
more_named text None b cs c h k = tt
more_named text (Some bs) None cs c h k = tt
more_named text (Some bs) (Some b) cs c h k = bodies_last text bs cs b c h k

body_terms : (n : Space) (k : ℕ) (c : ClassTree) → TermsNamed (blocks.body first_one n k c).blocks (block_names n.text c)
body_terms n k c =
    let m : Space = in_class n region.Block k in
    let start : Body = blocks.no_body first_one in
    subst (TermsNamed (blocks.body_items first_one m start c.items).blocks) (body_named m start c.items) (blocks_named m start c.items refl (λ q e. absurd (true≢false (sym e))))

bodies_named : (n : Space) (s : BodiesElab (Option Fault)) (k : ℕ) (cs done : List ClassTree) → AllNamed n.text s.blocks done → AllNamed n.text (blocks.bodies first_one n s k cs).blocks (done ++ cs)
bodies_named n s k [] done h = subst (AllNamed n.text s.blocks) (sym (append-nil done)) h
bodies_named n s k (c ∷ cs) done h =
    let b : Body = blocks.body first_one n k c in
    let next : BodiesElab (Option Fault) = blocks.with_class first_one n s k b in
    subst (AllNamed n.text (blocks.bodies first_one n next (k + 1) cs).blocks) (sym (moved done c cs)) (bodies_named n next (k + 1) cs (done ++ c ∷ []) (more_named n.text s.blocks b.blocks done c h (body_terms n k c)))

-- ---- the names of classes

abbrev ClassNamed : (ℕ → List ℕ) → ClassName → ClassTree → Type 0
ClassNamed text c t = c.blocks ≡ block_names text t

abbrev NamedBy : (ℕ → List ℕ) → List ClassName → List ClassTree → Type 0
NamedBy text [] [] = ⊤
NamedBy text [] (t ∷ ts) = ⊥
NamedBy text (c ∷ cs) [] = ⊥
NamedBy text (c ∷ cs) (t ∷ ts) = ClassNamed text c t × NamedBy text cs ts

named_last : (text : ℕ → List ℕ) (cs : List ClassName) (ts : List ClassTree) (c : ClassName) (t : ClassTree) → NamedBy text cs ts → ClassNamed text c t → NamedBy text (cs ++ c ∷ []) (ts ++ t ∷ [])
named_last text [] [] c t h k = (k, tt)
named_last text [] (u ∷ ts) c t h k = absurd h
named_last text (d ∷ cs) [] c t h k = absurd h
named_last text (d ∷ cs) (u ∷ ts) c t h k = (h.0, named_last text cs ts c t h.1 k)

members_text : (base : Option Vector) (ms : List MemberTree) (t : EnumElab (Option Fault)) → (types.enum_members first_one base t ms).names.text ≡ t.names.text
members_text base [] t = refl
members_text base (m ∷ ms) t = members_text base ms (types.and_member first_one base m.name t (types.member_number first_one t.names t.next m.value))

type_text : (s : GlobalsElab (Option Fault)) (name : ℕ) (d : DefinitionTree) → (types.definition first_one s name d).names.text ≡ s.names.text
type_text s name (tree.enum d) = members_text _ d.members _
type_text s name (tree.plain t) = refl

heads_text : (ts : List TypeTree) (cs : List ClassTree) (os : List Top) (s : GlobalsElab (Option Fault)) → IsOrder ts cs os → (types_and_classes first_one s os ts cs).names.text ≡ s.names.text
heads_text [] [] [] s o = refl
heads_text [] (c ∷ cs) [] s o = absurd o
heads_text (t ∷ ts) [] [] s o = absurd o
heads_text (t ∷ ts) (c ∷ cs) [] s o = absurd o
heads_text [] [] (top.OfType ∷ os) s o = absurd o
heads_text [] (c ∷ cs) (top.OfType ∷ os) s o = absurd o
heads_text (t ∷ ts) cs (top.OfType ∷ os) s o = heads_text ts cs os (types.type_decl first_one s t) o ∙ type_text s t.name t.definition
heads_text [] [] (top.OfClass ∷ os) s o = absurd o
heads_text (t ∷ ts) [] (top.OfClass ∷ os) s o = absurd o
heads_text [] (c ∷ cs) (top.OfClass ∷ os) s o = heads_text [] cs os (class_decl first_one s c) o
heads_text (t ∷ ts) (c ∷ cs) (top.OfClass ∷ os) s o = heads_text (t ∷ ts) cs os (class_decl first_one s c) o

class_named : (text : ℕ → List ℕ) (s : GlobalsElab (Option Fault)) (c : ClassTree) → s.names.text ≡ text
    → (let h : Head = spec.class_head s c in ClassNamed text (spec.class_name s.names.classes (spec.base_at s.names.text s.names.globals c.base) (s.names.text c.name) (spec.class_body first_one h c.items)) c)
class_named text s c e =
    let cs : List ClassName = s.names.classes in
    let base : Option ℕ = spec.base_at s.names.text s.names.globals c.base in
    let h : Head = spec.class_head s c in
    let start : Class = spec.class_start first_one cs base in
    class_names h start c.items ∙ ap (λ (text : ℕ → List ℕ). block_names text c) e

one_class : (text : ℕ → List ℕ) (s : GlobalsElab (Option Fault)) (c : ClassTree) (done : List ClassTree) → s.names.text ≡ text → NamedBy text s.names.classes done → NamedBy text (class_decl first_one s c).names.classes (done ++ c ∷ [])
one_class text s c done e h = named_last text s.names.classes done _ c h (class_named text s c e)

named_heads : (text : ℕ → List ℕ) (ts : List TypeTree) (cs : List ClassTree) (os : List Top) (s : GlobalsElab (Option Fault)) (done : List ClassTree) → IsOrder ts cs os → s.names.text ≡ text → NamedBy text s.names.classes done
    → NamedBy text (types_and_classes first_one s os ts cs).names.classes (done ++ cs)
named_heads text [] [] [] s done o e h = subst (NamedBy text s.names.classes) (sym (append-nil done)) h
named_heads text [] (c ∷ cs) [] s done o e h = absurd o
named_heads text (t ∷ ts) [] [] s done o e h = absurd o
named_heads text (t ∷ ts) (c ∷ cs) [] s done o e h = absurd o
named_heads text [] [] (top.OfType ∷ os) s done o e h = absurd o
named_heads text [] (c ∷ cs) (top.OfType ∷ os) s done o e h = absurd o
named_heads text (t ∷ ts) cs (top.OfType ∷ os) s done o e h =
    named_heads text ts cs os (types.type_decl first_one s t) done o (type_text s t.name t.definition ∙ e) (subst (λ (cs : List ClassName). NamedBy text cs done) (sym (type_classes s t.name t.definition)) h)
named_heads text [] [] (top.OfClass ∷ os) s done o e h = absurd o
named_heads text (t ∷ ts) [] (top.OfClass ∷ os) s done o e h = absurd o
named_heads text [] (c ∷ cs) (top.OfClass ∷ os) s done o e h =
    let next : GlobalsElab (Option Fault) = class_decl first_one s c in
    subst (NamedBy text (types_and_classes first_one next os [] cs).names.classes) (sym (moved done c cs)) (named_heads text [] cs os next (done ++ c ∷ []) o e (one_class text s c done e h))
named_heads text (t ∷ ts) (c ∷ cs) (top.OfClass ∷ os) s done o e h =
    let next : GlobalsElab (Option Fault) = class_decl first_one s c in
    subst (NamedBy text (types_and_classes first_one next os (t ∷ ts) cs).names.classes) (sym (moved done c cs)) (named_heads text (t ∷ ts) cs os next (done ++ c ∷ []) o e (one_class text s c done e h))

-- which of their properties calls list makes no difference
named_listed : (text : ℕ → List ℕ) (hs : List Home) (cs : List ClassName) (ts : List ClassTree) → NamedBy text cs ts → NamedBy text (classes_with hs cs) ts
named_listed text hs [] [] h = tt
named_listed text hs [] (t ∷ ts) h = absurd h
named_listed text hs (c ∷ cs) [] h = absurd h
named_listed text hs (c ∷ cs) (t ∷ ts) h = (h.0, named_listed text hs cs ts h.1)

-- ---- with what they inherit

both_or : (a b c e : Bool) → a ≡ b → c ≡ e → (a || c) ≡ (b || e)
both_or a b c e h k = ap (λ (x : Bool). x || c) h ∙ ap (λ (x : Bool). b || x) k

has_same : (own : List BlockTerm) (q : List ℕ) → list_any (is_same q) (map name_of own) ≡ has_block q own
has_same [] q = refl
has_same (b ∷ bs) q = both_or (is_same q b.name) (bytes_eq b.name q) (list_any (is_same q) (map name_of bs)) (has_block q bs) (nat_list_eq_equiv.symm q b.name) (has_same bs q)

kept_same : (own bs : List BlockTerm) → without (map name_of own) (map name_of bs) ≡ map name_of (not_replaced own bs)
kept_same own [] = refl
kept_same own (b ∷ bs) = one (list_any (is_same b.name) (map name_of own)) (has_block b.name own) (has_same own b.name) (kept_same own bs)
  where
    one : (x y : Bool) → x ≡ y → without (map name_of own) (map name_of bs) ≡ map name_of (not_replaced own bs)
        → (if x then without (map name_of own) (map name_of bs) else b.name ∷ without (map name_of own) (map name_of bs)) ≡ map name_of (cond (not y) (b ∷ not_replaced own bs) (not_replaced own bs))
    one true true e h = h
    one true false e h = absurd (true≢false e)
    one false true e h = absurd (true≢false (sym e))
    one false false e h = ap (λ (ns : Names). b.name ∷ ns) h

map_both : {A B : Type 0} (f : A → B) (xs ys : List A) → map f xs ++ map f ys ≡ map f (xs ++ ys)
map_both f [] ys = refl
map_both f (x ∷ xs) ys = ap (λ zs. f x ∷ zs) (map_both f xs ys)

abbrev names_in : FlatTerm → Names
names_in f = map name_of f.blocks

flat_named : (fs : List FlatTerm) (k : ℕ) → names_in (slice_index_or fs k no_class) ≡ slice_index_or (map names_in fs) k []
flat_named [] k = refl
flat_named (f ∷ fs) zero = refl
flat_named (f ∷ fs) (suc k) = flat_named fs k

base_named : (fs : List FlatTerm) (b : Option ℕ) → names_in (base_of fs b) ≡ names_at (map names_in fs) b
base_named fs None = refl
base_named fs (Some b) = flat_named fs b

flats_named : (es : List EnumType) (text : ℕ → List ℕ) (cs : List ClassName) (earlier : List FlatTerm) (bs : List (List BlockTerm)) (ts : List ClassTerm) (us : List ClassTree) → NamedBy text cs us → BodiesNamed text bs us
    → TermsAre es cs bs ts → map names_in (flat_after earlier ts) ≡ flat_names_after (map names_in earlier) cs
flats_named es text [] earlier bs [] us n b h = refl
flats_named es text [] earlier bs (t ∷ ts) us n b h = absurd h
flats_named es text (c ∷ cs) earlier [] [] us n b h = absurd h
flats_named es text (c ∷ cs) earlier [] (t ∷ ts) us n b h = absurd h
flats_named es text (c ∷ cs) earlier (x ∷ bs) [] us n b h = absurd h
flats_named es text (c ∷ cs) earlier (x ∷ bs) (t ∷ ts) [] n b h = absurd n
flats_named es text (c ∷ cs) earlier (x ∷ bs) (t ∷ ts) (u ∷ us) n b h =
    let base : List BlockTerm = (base_of earlier t.base).blocks in
    let flat : FlatTerm = derived_class (base_of earlier t.base) t in
    let own : c.blocks ≡ map name_of t.blocks = n.0 ∙ sym b.0 ∙ ap (λ (bs : List BlockTerm). map name_of bs) (sym h.0.blocks) in
    let inherited : map name_of base ≡ names_at (map names_in earlier) c.base = base_named earlier t.base ∙ ap (names_at (map names_in earlier)) h.0.base in
    let here : names_in flat ≡ flat_names (map names_in earlier) c =
    sym (map_both name_of (not_replaced t.blocks base) t.blocks) ∙ ap (λ (ns : Names). ns ++ map name_of t.blocks) (sym (kept_same t.blocks base))
    ∙ ap (λ (ns : Names). without ns (map name_of base) ++ ns) (sym own) ∙ ap (λ (ns : Names). without c.blocks ns ++ c.blocks) inherited in
    flats_named es text cs (earlier ++ flat ∷ []) bs ts us n.1 b.1 h.1
    ∙ ap (λ (done : List Names). flat_names_after done cs) (map_last names_in earlier flat ∙ ap (λ (ns : Names). map names_in earlier ++ ns ∷ []) here)

class_has : (cs : List ClassName) (ts : List ClassTerm) (k : ℕ) → map names_in (flat_classes ts) ≡ flat_names_after [] cs → class_blocks cs k ≡ names_in (flat_class_of ts k)
unfolding flat_class_of
class_has cs ts k h = ap (λ (done : List Names). slice_index_or done k []) (sym h) ∙ sym (flat_named (flat_classes ts) k)

as_long : (bs : List BlockTerm) → length (map name_of bs) ≤ length bs
as_long [] = omega arith
as_long (b ∷ bs) = up (length (map name_of bs)) (length bs) (as_long bs)
  where
    up : (a b : ℕ) → a ≤ b → suc a ≤ suc b
    up a b h = omega (arith, h)

of_bodies : (text : ℕ → List ℕ) (o : Option (List (List BlockTerm))) (bs : List (List BlockTerm)) (us : List ClassTree) → o ≡ Some bs → AllNamed text o us → BodiesNamed text bs us
of_bodies text None bs us e h = absurd (let f : None ≡ Some bs = e in cc)
of_bodies text (Some cs) bs us e h = subst (λ (bs : List (List BlockTerm)). BodiesNamed text bs us) (some_same cs bs e) h

pub blocks_are_named : BlocksAreNamed
blocks_are_named text s is f =
    let clear : IsClear text s = script_clear text s f in
    let n : Space = the_space text s in
    let start : GlobalsElab (Option Fault) = script.no_globals first_one text in
    let heads : NamedBy n.text (the_heads text s).names.classes s.classes = named_heads n.text s.types s.classes s.order start [] is.order (sym (heads_text s.types s.classes s.order start is.order)) tt in
    let hs : List Home = all_listed (stmt_space (the_heads text s).names (the_vars text s).vars) [] (stmts_of s.unit.stmts) in
    let names : NamedBy n.text n.classes s.classes = named_listed n.text hs (the_heads text s).names.classes s.classes heads in
    let bodies : AllNamed n.text (the_bodies text s).blocks s.classes = bodies_named n (blocks.no_bodies first_one) 0 s.classes [] tt in
    of_design (λ (d : DesignTerm). BlocksNamed d n) text s
    (λ c v t a b e. λ k.
    let dc : DesignClasses text s c = design_classes text s c is clear a in
    let flats : map names_in (flat_classes c) ≡ flat_names_after [] n.classes =
    flats_named (the_heads text s).enums n.text n.classes [] dc.blocks c s.classes names (of_bodies n.text (the_bodies text s).blocks dc.blocks s.classes dc.bodies bodies) dc.are in
    subst (λ (ns : Names). length ns ≤ length (flat_class_of c k).blocks) (sym (class_has n.classes c k flats)) (as_long (flat_class_of c k).blocks))
