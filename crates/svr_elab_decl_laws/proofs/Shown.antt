-- The walk over declarations that keeps the first refusal gives the first of all that the other one gives, and the same of everything else.
use Rattle.std.proofs.Common.{◌≡◌, ℕ, ℤ, pos, Bool, true, false, List, [], ◌∷◌, ◌++◌, Option, None, Some, refl, ap, ◌∙◌, if◌then◌else◌, option_map, length, subst}
use Rattle.svr_operator.specs.declared.Rand.{Rand}
use Rattle.svr_typed.specs.declared.EnumType.{EnumType}
use Rattle.svr_tree.specs.ExprTree.{ExprTree}
use Rattle.svr_tree.specs.declared.Top.{Top}
use Rattle.svr_tree.specs.declared.Top.TheVariants as top
use Rattle.svr_tree.specs.DeclTree as tree
use Rattle.svr_tree.specs.DeclTree.{IntegerTypeTree, DataTypeTree, DimensionTree, MemberTree, DefinitionTree, TypeTree, DeclaratorTree, ClassItemTree, ClassTree}
use Rattle.svr_refusal.specs.declared.Refusal.TheVariants as refusal
use Rattle.svr_elab_fault.specs.declared.Fault.{Fault}
use Rattle.svr_elab_fault.specs.Refusals.{all, first_one, earlier, least, when, FirstOf}
use Rattle.svr_elab_fault.proofs.Least.{least_append, least_when, is_none-least, least_first}
use Rattle.svr_elab_names.specs.declared.Vector.{Vector}
use Rattle.svr_elab_names.specs.declared.Dims.{Dims}
use Rattle.svr_elab_names.specs.declared.Property.{Property}
use Rattle.svr_elab_names.specs.Names.{Space, GlobalName}
use Rattle.svr_elab_part.specs.Elab.{Elab, value}
use Rattle.svr_elab_form.specs.Gathered.{shown}
use Rattle.svr_elab_form.proofs.Shown.{value_shown}
use Rattle.svr_elab_type.specs.Types as spec
use Rattle.svr_elab_type.specs.Types.{Constant, TypeElab, EnumElab, GlobalsElab}
use Rattle.svr_elab_decl.specs.Properties as property
use Rattle.svr_elab_decl.specs.Properties.{Used, UsedElab, DimsElab, Before}
use Rattle.svr_elab_class.specs.Classes as class
use Rattle.svr_elab_class.specs.Classes.{Head, ClassElab}
use Rattle.svr_elab_tops.specs.InOrder.{types_and_classes}
use Rattle.svr_elab_decl_laws.specs.Gathered.{shown_constant, shown_type, shown_enum, shown_globals, shown_used, shown_dims, shown_class, KeepsTheFirst, TellsTheFirst}

-- ---- types

constant_shown : (x : Elab (List Fault)) → shown_constant (spec.constant_of all x) ≡ spec.constant_of first_one (shown x)
constant_shown x = simp (least_append, least_when, is_none-least) refl

pub constant_at_shown : (n : Space) (e : ExprTree) → shown_constant (spec.constant_at all n e) ≡ spec.constant_at first_one n e
constant_at_shown n e = constant_shown (value all n e) ∙ ap (spec.constant_of first_one) (value_shown n e)

range_shown : (at : ℕ) (s : Bool) (b : ℕ) (m l : Constant (List Fault)) → shown_type (spec.range_type all at s b m l) ≡ spec.range_type first_one at s b (shown_constant m) (shown_constant l)
range_shown at s b m l = simp (least_append, least_when) refl

type_shown : (n : Space) (t : IntegerTypeTree) → shown_type (spec.integer_type all n t) ≡ spec.integer_type first_one n t
type_shown n (tree.vector at kind s None) = refl
type_shown n (tree.vector at kind s (Some r)) =
    range_shown at (spec.is_signed false s) r.at (spec.constant_at all n r.msb) (spec.constant_at all n r.lsb)
    ∙ ap (λ u. spec.range_type first_one at (spec.is_signed false s) r.at u (shown_constant (spec.constant_at all n r.lsb))) (constant_at_shown n r.msb)
    ∙ ap (λ u. spec.range_type first_one at (spec.is_signed false s) r.at (spec.constant_at first_one n r.msb) u) (constant_at_shown n r.lsb)
type_shown n (tree.atom at kind s) = refl

base_shown : (n : Space) (t : Option IntegerTypeTree) → shown_type (spec.base_type all n t) ≡ spec.base_type first_one n t
base_shown n None = refl
base_shown n (Some t) = type_shown n t

-- ---- enums

number_shown : (n : Space) (next : Option ℤ) (e : Option ExprTree) → shown_constant (spec.member_number all n next e) ≡ spec.member_number first_one n next e
number_shown n next None = refl
number_shown n next (Some e) = constant_at_shown n e

and_member_shown : (b : Option Vector) (name : ℕ) (s : EnumElab (List Fault)) (c : Constant (List Fault))
    → shown_enum (spec.and_member all b name s c) ≡ spec.and_member first_one b name (shown_enum s) (shown_constant c)
and_member_shown b name s c = simp (least_append, least_when) refl

members_shown : (b : Option Vector) (s : EnumElab (List Fault)) (ms : List MemberTree) → shown_enum (spec.enum_members all b s ms) ≡ spec.enum_members first_one b (shown_enum s) ms
members_shown b s [] = refl
members_shown b s (m ∷ ms) =
    members_shown b (spec.and_member all b m.name s (spec.member_number all s.names s.next m.value)) ms
    ∙ ap (λ u. spec.enum_members first_one b u ms)
    (and_member_shown b m.name s (spec.member_number all s.names s.next m.value) ∙ ap (spec.and_member first_one b m.name (shown_enum s)) (number_shown s.names s.next m.value))

with_type_shown : (s : GlobalsElab (List Fault)) (name : ℕ) (k : Option Vector) → shown_globals (spec.with_type all s name k) ≡ spec.with_type first_one (shown_globals s) name k
with_type_shown s name k = simp (least_append, least_when) refl

enum_shown : (s : GlobalsElab (List Fault)) (name : ℕ) (b : TypeElab (List Fault)) (ms : List MemberTree)
    → shown_globals (spec.enum_type all s name b ms) ≡ spec.enum_type first_one (shown_globals s) name (shown_type b) ms
enum_shown s name b ms =
    let kind = option_map (spec.in_enum (length s.enums)) b.kind in
    let start : EnumElab (List Fault) = record { names = s.names; next = Some (pos 0); numbers = []; members = []; faults = s.faults ++ b.faults } in
    let e = spec.enum_members all kind start ms in
    let step : EnumElab (Option Fault) → GlobalsElab (Option Fault) = λ e. spec.with_type first_one (record { names = e.names; enums = s.enums ++ (record { base = spec.enum_base b.kind; members = e.members }) ∷ []; faults = e.faults }) name kind in
    with_type_shown (record { names = e.names; enums = s.enums ++ (record { base = spec.enum_base b.kind; members = e.members }) ∷ []; faults = e.faults }) name kind
    ∙ ap step (members_shown kind start ms ∙ ap (λ f. spec.enum_members first_one kind (record { names = s.names; next = Some (pos 0); numbers = []; members = []; faults = f }) ms) (least_append s.faults b.faults))

plain_shown : (s : GlobalsElab (List Fault)) (name : ℕ) (t : TypeElab (List Fault)) → shown_globals (spec.plain_type all s name t) ≡ spec.plain_type first_one (shown_globals s) name (shown_type t)
plain_shown s name t = simp (least_append, least_when) refl

definition_shown : (s : GlobalsElab (List Fault)) (name : ℕ) (d : DefinitionTree) → shown_globals (spec.definition all s name d) ≡ spec.definition first_one (shown_globals s) name d
definition_shown s name (tree.enum d) = enum_shown s name (spec.base_type all s.names d.base) d.members ∙ ap (λ u. spec.enum_type first_one (shown_globals s) name u d.members) (base_shown s.names d.base)
definition_shown s name (tree.plain t) = plain_shown s name (spec.integer_type all s.names t) ∙ ap (spec.plain_type first_one (shown_globals s) name) (type_shown s.names t)

pub type_decl_shown : (s : GlobalsElab (List Fault)) (t : TypeTree) → shown_globals (spec.type_decl all s t) ≡ spec.type_decl first_one (shown_globals s) t
type_decl_shown s t = definition_shown s t.name t.definition

-- ---- properties

pub data_type_shown : (n : Space) (t : DataTypeTree) → shown_used (property.data_type all n t) ≡ property.data_type first_one n t
data_type_shown n (tree.integer t) = ap (λ u. property.numbers_use first_one u) (type_shown n t)
data_type_shown n (tree.named name) = simp least_when refl

sized_shown : (c : Constant (List Fault)) → shown_dims (property.sized_dims all c) ≡ property.sized_dims first_one (shown_constant c)
sized_shown c = simp (least_append, least_when) refl

bounded_shown : (a b : Constant (List Fault)) → shown_dims (property.bounded_dims all a b) ≡ property.bounded_dims first_one (shown_constant a) (shown_constant b)
bounded_shown a b = simp (least_append, least_when) refl

dimension_shown : (n : Space) (d : DimensionTree) → shown_dims (property.dimension all n d) ≡ property.dimension first_one n d
dimension_shown n tree.dynamic = refl
dimension_shown n tree.queue = refl
dimension_shown n (tree.size e) = sized_shown (spec.constant_at all n e) ∙ ap (property.sized_dims first_one) (constant_at_shown n e)
dimension_shown n (tree.bounds a b) =
    bounded_shown (spec.constant_at all n a) (spec.constant_at all n b)
    ∙ ap (λ u. property.bounded_dims first_one u (shown_constant (spec.constant_at all n b))) (constant_at_shown n a)
    ∙ ap (λ u. property.bounded_dims first_one (spec.constant_at first_one n a) u) (constant_at_shown n b)

rows_shown : (name : ℕ) (d e : DimsElab (List Fault)) → shown_dims (property.row_dims all name d e) ≡ property.row_dims first_one name (shown_dims d) (shown_dims e)
rows_shown name d e = simp (least_append, least_when) refl

dims_shown : (n : Space) (name : ℕ) (ds : List DimensionTree) → shown_dims (property.dims_of all n name ds) ≡ property.dims_of first_one n name ds
dims_shown n name [] = refl
dims_shown n name (d ∷ []) = dimension_shown n d
dims_shown n name (d ∷ (e ∷ more)) =
    rows_shown name (property.dimension all n d) (property.dimension all n e)
    ∙ ap (λ u. property.row_dims first_one name u (shown_dims (property.dimension all n e))) (dimension_shown n d)
    ∙ ap (λ u. property.row_dims first_one name (property.dimension first_one n d) u) (dimension_shown n e)

first_shown : (name : ℕ) (d : Dims) (k : Option Vector) (x : Elab (List Fault)) → least (property.first_faults all name d k x) ≡ property.first_faults first_one name d k (shown x)
first_shown name d k x = simp (least_append, least_when) refl

first_at_shown : (n : Space) (name : ℕ) (k : Option Vector) (d : Dims) (e : Option ExprTree) → least (property.first_at all n name k d e) ≡ property.first_at first_one n name k d e
first_at_shown n name k d None = refl
first_at_shown n name k d (Some e) = first_shown name d k (value all n e) ∙ ap (property.first_faults first_one name d k) (value_shown n e)

initial_shown : (k : Option Vector) (x : Elab (List Fault)) → property.initial all k x ≡ property.initial first_one k (shown x)
initial_shown k x = simp is_none-least refl

first_number_shown : (n : Space) (k : Option Vector) (e : Option ExprTree) → property.first_number all n k e ≡ property.first_number first_one n k e
first_number_shown n k None = refl
first_number_shown n k (Some e) = initial_shown k (value all n e) ∙ ap (property.initial first_one k) (value_shown n e)

property_shown : (b : Before) (name : ℕ) (r : Rand) (u : Used) (d : Dims) → least (property.property_faults all b name r u d) ≡ property.property_faults first_one b name r u d
property_shown b name r u d = simp (least_append, least_when) refl

-- ---- items of classes

picked_class : (b : Bool) (x y : ClassElab (List Fault)) → shown_class (if b then x else y) ≡ (if b then shown_class x else shown_class y)
picked_class true x y = refl
picked_class false x y = refl

with_property_shown : (c : ClassElab (List Fault)) (q : List ℕ) (p : Property) (first : ℕ) (f : List Fault)
    → shown_class (class.with_property all c q p first f) ≡ class.with_property first_one (shown_class c) q p first (least f)
with_property_shown c q p first f = simp (picked_class, least_append) refl

and_property_shown : (h : Head) (c : ClassElab (List Fault)) (name : ℕ) (r : Rand) (u : Used) (first : ℕ) (ff : List Fault) (d : DimsElab (List Fault))
    → shown_class (class.and_property all h c name r u first ff d) ≡ class.and_property first_one h (shown_class c) name r u first (least ff) (shown_dims d)
and_property_shown h c name r u first ff d =
    let fs : List Fault = property.property_faults all (class.before h c (h.names.text name) u) name r u d.dims in
    with_property_shown c (h.names.text name) (class.property_of h c r (property.used_kind u) d.dims) first (d.faults ++ (ff ++ fs))
    ∙ ap (class.with_property first_one (shown_class c) (h.names.text name) (class.property_of h c r (property.used_kind u) d.dims) first)
    (least_append d.faults (ff ++ fs) ∙ ap (earlier (least d.faults)) (least_append ff fs ∙ ap (earlier (least ff)) (property_shown (class.before h c (h.names.text name) u) name r u d.dims)))

declarator_shown : (h : Head) (c : ClassElab (List Fault)) (r : Rand) (u : Used) (d : DeclaratorTree)
    → shown_class (class.declarator all h c r u d) ≡ class.declarator first_one h (shown_class c) r u d
declarator_shown h c r u d =
    let n : Space = class.behind h c.props in
    let k : Option Vector = property.used_kind u in
    let x : DimsElab (List Fault) = property.dims_of all n d.name d.dims in
    and_property_shown h c d.name r u (property.first_number all n k d.value) (property.first_at all n d.name k x.dims d.value) x
    ∙ ap (λ v. class.and_property first_one h (shown_class c) d.name r u v (least (property.first_at all n d.name k x.dims d.value)) (shown_dims x)) (first_number_shown n k d.value)
    ∙ ap (λ f. class.and_property first_one h (shown_class c) d.name r u (property.first_number first_one n k d.value) f (shown_dims x)) (first_at_shown n d.name k x.dims d.value)
    ∙ ap (λ (x : DimsElab (Option Fault)). class.and_property first_one h (shown_class c) d.name r u (property.first_number first_one n k d.value) (property.first_at first_one n d.name k x.dims d.value) x) (dims_shown n d.name d.dims)

declarators_shown : (h : Head) (c : ClassElab (List Fault)) (r : Rand) (u : Used) (ds : List DeclaratorTree)
    → shown_class (class.declarators all h c r u ds) ≡ class.declarators first_one h (shown_class c) r u ds
declarators_shown h c r u [] = refl
declarators_shown h c r u (d ∷ ds) = declarators_shown h (class.declarator all h c r u d) r u ds ∙ ap (λ v. class.declarators first_one h v r u ds) (declarator_shown h c r u d)

and_faults_shown : (c : ClassElab (List Fault)) (f : List Fault) → shown_class (class.and_faults all c f) ≡ class.and_faults first_one (shown_class c) (least f)
and_faults_shown c f = simp least_append refl

used_shown : (h : Head) (c : ClassElab (List Fault)) (r : Rand) (u : UsedElab (List Fault)) (ds : List DeclaratorTree)
    → shown_class (class.property_decl all h c r u ds) ≡ class.property_decl first_one h (shown_class c) r (shown_used u) ds
used_shown h c r u ds =
    declarators_shown h (class.and_faults all c u.faults) r u.used ds
    ∙ ap (λ v. class.declarators first_one h v r u.used ds) (and_faults_shown c u.faults)

with_block_shown : (c : ClassElab (List Fault)) (q : List ℕ) (name : ℕ) → shown_class (class.with_block all c q name) ≡ class.with_block first_one (shown_class c) q name
with_block_shown c q name = simp (picked_class, least_append, least_when) refl

class_item_shown : (h : Head) (c : ClassElab (List Fault)) (i : ClassItemTree) → shown_class (class.class_item all h c i) ≡ class.class_item first_one h (shown_class c) i
class_item_shown h c (tree.property p) =
    used_shown h c p.rand (property.data_type all (class.behind h c.props) p.kind) p.decls
    ∙ ap (λ u. class.property_decl first_one h (shown_class c) p.rand u p.decls) (data_type_shown (class.behind h c.props) p.kind)
class_item_shown h c (tree.block b) = with_block_shown c (h.names.text b.name) b.name

class_items_shown : (h : Head) (c : ClassElab (List Fault)) (is : List ClassItemTree) → shown_class (class.class_items all h c is) ≡ class.class_items first_one h (shown_class c) is
class_items_shown h c [] = refl
class_items_shown h c (i ∷ is) = class_items_shown h (class.class_item all h c i) is ∙ ap (λ u. class.class_items first_one h u is) (class_item_shown h c i)

-- ---- classes

base_faults_shown : (text : ℕ → List ℕ) (gs : List GlobalName) (b : Option ℕ) → least (class.base_faults all text gs b) ≡ class.base_faults first_one text gs b
base_faults_shown text gs None = refl
base_faults_shown text gs (Some name) = simp least_when refl

pub label_shown : (text : ℕ → List ℕ) (name : ℕ) (l : Option ℕ) → least (class.label_faults all text name l) ≡ class.label_faults first_one text name l
label_shown text name None = refl
label_shown text name (Some l) = simp least_when refl

class_end_shown : (s : GlobalsElab (List Fault)) (c : ClassTree) (e : ClassElab (List Fault)) → shown_globals (class.class_end all s c e) ≡ class.class_end first_one (shown_globals s) c (shown_class e)
class_end_shown s c e = simp (least_append, least_when, base_faults_shown, label_shown) refl

pub class_decl_shown : (s : GlobalsElab (List Fault)) (c : ClassTree) → shown_globals (class.class_decl all s c) ≡ class.class_decl first_one (shown_globals s) c
class_decl_shown s c =
    let h : Head = class.class_head s c in
    class_end_shown s c (class.class_body all h c.items)
    ∙ ap (class.class_end first_one (shown_globals s) c) (class_items_shown h (class.class_start all h.names.classes h.base) c.items)

-- ---- the whole walk

pub types_and_classes_shown : KeepsTheFirst
types_and_classes_shown s [] ts cs = refl
types_and_classes_shown s (top.OfType ∷ os) [] cs = types_and_classes_shown s os [] cs
types_and_classes_shown s (top.OfType ∷ os) (t ∷ ts) cs =
    types_and_classes_shown (spec.type_decl all s t) os ts cs ∙ ap (λ u. types_and_classes first_one u os ts cs) (type_decl_shown s t)
types_and_classes_shown s (top.OfClass ∷ os) [] [] = types_and_classes_shown s os [] []
types_and_classes_shown s (top.OfClass ∷ os) [] (c ∷ cs) =
    types_and_classes_shown (class.class_decl all s c) os [] cs ∙ ap (λ u. types_and_classes first_one u os [] cs) (class_decl_shown s c)
types_and_classes_shown s (top.OfClass ∷ os) (t ∷ ts) [] = types_and_classes_shown s os (t ∷ ts) []
types_and_classes_shown s (top.OfClass ∷ os) (t ∷ ts) (c ∷ cs) =
    types_and_classes_shown (class.class_decl all s c) os (t ∷ ts) cs ∙ ap (λ u. types_and_classes first_one u os (t ∷ ts) cs) (class_decl_shown s c)

pub first_told : TellsTheFirst
first_told s os ts cs =
    let fs : List Fault = (types_and_classes all s os ts cs).faults in
    let P : Option Fault → Type 0 = FirstOf fs in
    subst P (ap (λ (g : GlobalsElab (Option Fault)). g.faults) (types_and_classes_shown s os ts cs)) (least_first fs)
