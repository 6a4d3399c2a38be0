-- What is known of a class after some of its items, put together of what is known of its parts.
use Rattle.std.proofs.Common.{◌≡◌, ℕ, ◌+◌, ◌<◌, min, Bool, true, false, List, [], ◌∷◌, ◌++◌, map, length, get_or, drop, Option, None, Result, Ok, Err, IfOk, refl, sym, ap, ◌∙◌}
use Rattle.std.proofs.lemmas.List.{at_drop_more}
use Rattle.std.specs.List.{list_any}
use Rattle.svr_operator.specs.declared.Rand.{Rand}
use Rattle.svr_limits.specs.declared.limit.TheConstants.{PROPERTY_LIMIT}
use Rattle.svr_tree.specs.ExprTree.{ExprTree}
use Rattle.svr_tree.specs.DeclTree.{DataTypeTree, DimensionTree, DeclaratorTree, ClassItemTree}
use Rattle.svr_refusal.specs.declared.Refusal.TheVariants as refusal
use Rattle.svr_elab_fault.specs.declared.Fault.{Fault}
use Rattle.svr_elab_fault.specs.Refusals.{first_one, when, earlier}
use Rattle.svr_elab_names.specs.declared.Vector.{Vector}
use Rattle.svr_elab_names.specs.declared.Property.{Property}
use Rattle.svr_elab_names.specs.Names.{Space, PropName, ClassName, is_same, is_name}
use Rattle.svr_elab_decl.specs.Properties.{Used, UsedElab, DimsElab, used_kind, is_wide_cycle, declared_as, data_type, dims_of, first_number, first_at, property_faults}
use Rattle.svr_elab_class.specs.Classes as spec
use Rattle.svr_elab_class.specs.Classes.{Head, ClassElab, behind}

abbrev Known : Type 0
Known = ClassElab (Option Fault)

-- what is made is so by what is told of it
pub told : {A E : Type 0} {P Q : A → Type 0} (r : Result A E) → IfOk r P → ((x : A) → P x → Q x) → IfOk r Q
told (Ok x) p f = f x p
told (Err e) p f = tt

-- by four things that are told of it
pub all_told : {A E : Type 0} {P Q R S Z : A → Type 0} (r : Result A E) → IfOk r P → IfOk r Q → IfOk r R → IfOk r S → ((x : A) → P x → Q x → R x → S x → Z x) → IfOk r Z
all_told (Ok x) p q r s f = f x p q r s
all_told (Err e) p q r s f = tt

-- the first of what is left of a list
pub rest_is : {A B : Type 0} (f : A → B) (xs : List A) (i : ℕ) (x : A) → i < length xs → x ≡ get_or xs i x → map f (drop i xs) ≡ f x ∷ map f (drop (i + 1) xs)
rest_is {A = A} f xs i x h e = at_drop_more (map f) xs i x h ∙ ap (λ (x : A). f x ∷ map f (drop (i + 1) xs)) (sym e)

-- ---- a property

-- its name is declared twice
pub property_twice : (c s : Known) (q : List ℕ) (p : Property) (first : ℕ) (f : Option Fault) → s ≡ spec.and_faults first_one c f → list_any (is_same q) c.own ≡ true → s ≡ spec.with_property first_one c q p first f
property_twice c s q p first f is_s t = rw (is_s, t) refl

pub property_more : (c : Known) (q : List ℕ) (p : Property) (first : ℕ) (f e : Option Fault) (ps : List PropName) (arrays : ℕ) (names : List (List ℕ))
    → ps ≡ spec.and_prop c.props q p first → arrays ≡ spec.and_array c.arrays p.dims → names ≡ spec.with_name c.own q → e ≡ earlier c.faults f → list_any (is_same q) c.own ≡ false
    → (let s : Known = record { props = ps; arrays = arrays; own = names; blocks = c.blocks; faults = e } in s) ≡ spec.with_property first_one c q p first f
property_more c q p first f e ps arrays names is_ps is_arrays is_names is_e t = rw (is_e, is_ps, is_arrays, is_names, t) refl

pub and_property_is : (h : Head) (c s : Known) (name : ℕ) (r : Rand) (u : Used) (first : ℕ) (ff : Option Fault) (d : DimsElab (Option Fault)) (q : List ℕ) (twice inherits wide : Bool) (n number : ℕ) (kind : Option Vector) (own a b : Option Fault) (p : Property)
    → s ≡ spec.with_property first_one c q p first b → q ≡ h.names.text name → twice ≡ list_any (is_same q) c.own → n ≡ length c.props
    → inherits ≡ is_name (λ (p : PropName). p.name) q (spec.props_at h.names.classes h.base) → kind ≡ used_kind u → wide ≡ is_wide_cycle h.enums kind
    → own ≡ property_faults first_one (record { props = n; arrays = c.arrays; inherits = inherits; doubles = twice; wide = wide }) name r u d.dims
    → a ≡ earlier ff own → b ≡ earlier d.faults a → number ≡ min n PROPERTY_LIMIT → p ≡ declared_as number h.number r kind d.dims
    → s ≡ spec.and_property first_one h c name r u first ff d
and_property_is h c s name r u first ff d q twice inherits wide n number kind own a b p is_s is_q is_twice is_n is_inherits is_kind is_wide is_own is_a is_b is_number is_p =
    rw (is_s, is_b, is_a, is_own, is_p, is_number, is_wide, is_kind, is_inherits, is_n, is_twice, is_q) refl

pub declarator_is : (h : Head) (c : Known) (r : Rand) (u : Used) (t : DeclaratorTree) (s : Known) (d : DimsElab (Option Fault)) (ds : List DimensionTree) (m n : Space) (first : ℕ) (f : Option Fault) (kind : Option Vector)
    → s ≡ spec.and_property first_one h c t.name r u first f d → d ≡ dims_of first_one m t.name ds → ds ≡ t.dims → m ≡ behind h c.props → first ≡ first_number first_one n kind t.value
    → f ≡ first_at first_one n t.name kind d.dims t.value → kind ≡ used_kind u → n ≡ behind h c.props → s ≡ spec.declarator first_one h c r u t
declarator_is h c r u t s d ds m n first f kind is_s is_d is_ds is_m is_first is_f is_kind is_n = rw (is_s, is_f, is_first, is_d, is_ds, is_m, is_kind, is_n) refl

pub declarators_more : (h : Head) (r : Rand) (u : Used) (c d whole : Known) (t : DeclaratorTree) (ts : List DeclaratorTree)
    → d ≡ spec.declarator first_one h c r u t → spec.declarators first_one h c r u (t ∷ ts) ≡ whole → spec.declarators first_one h d r u ts ≡ whole
declarators_more h r u c d whole t ts e k = ap (λ (d : Known). spec.declarators first_one h d r u ts) e ∙ k

pub property_is : (h : Head) (c d s : Known) (r : Rand) (u : UsedElab (Option Fault)) (ts ds : List DeclaratorTree)
    → s ≡ spec.declarators first_one h d r u.used ts → d ≡ spec.and_faults first_one c u.faults → ts ≡ ds → s ≡ spec.property_decl first_one h c r u ds
property_is h c d s r u ts ds is_s is_d is_ts = rw (is_s, is_d, is_ts) refl

-- ---- a block

pub block_twice : (c s : Known) (q : List ℕ) (name : ℕ) (f : Option Fault) → s ≡ spec.and_faults first_one c f → f ≡ when first_one true name refusal.DoubleName → list_any (is_same q) c.own ≡ true
    → s ≡ spec.with_block first_one c q name
block_twice c s q name f is_s is_f t = rw (is_s, is_f, t) refl

pub block_more : (c : Known) (q : List ℕ) (name : ℕ) (own blocks : List (List ℕ)) → own ≡ spec.with_name c.own q → blocks ≡ spec.with_name c.blocks q → list_any (is_same q) c.own ≡ false
    → (let s : Known = record { props = c.props; arrays = c.arrays; own = own; blocks = blocks; faults = c.faults } in s) ≡ spec.with_block first_one c q name
block_more c q name own blocks is_own is_blocks t = rw (is_own, is_blocks, t) refl

-- ---- items

pub item_is : (h : Head) (c s : Known) (r : Rand) (u : UsedElab (Option Fault)) (n : Space) (kind : DataTypeTree) (ds : List DeclaratorTree)
    → s ≡ spec.property_decl first_one h c r u ds → u ≡ data_type first_one n kind → n ≡ behind h c.props → s ≡ spec.property_decl first_one h c r (data_type first_one (behind h c.props) kind) ds
item_is h c s r u n kind ds is_s is_u is_n = rw (is_s, is_u, is_n) refl

pub items_more : (h : Head) (c d whole : Known) (t : ClassItemTree) (ts : List ClassItemTree)
    → d ≡ spec.class_item first_one h c t → spec.class_items first_one h c (t ∷ ts) ≡ whole → spec.class_items first_one h d ts ≡ whole
items_more h c d whole t ts e k = ap (λ (d : Known). spec.class_items first_one h d ts) e ∙ k

-- ---- the whole of a class

pub body_is : (h : Head) (s d : Known) (is : List ClassItemTree) → s ≡ spec.class_items first_one h d is → d ≡ spec.class_start first_one h.names.classes h.base → s ≡ spec.class_body first_one h is
body_is h s d is e k = e ∙ ap (λ (d : Known). spec.class_items first_one h d is) k

pub start_is : (cs : List ClassName) (base : Option ℕ) (ps : List PropName) (arrays : ℕ) (own blocks : List (List ℕ))
    → ps ≡ spec.props_at cs base → arrays ≡ spec.arrays_in ps → own ≡ [] → blocks ≡ []
    → (let s : Known = record { props = ps; arrays = arrays; own = own; blocks = blocks; faults = None } in s) ≡ spec.class_start first_one cs base
start_is cs base ps arrays own blocks is_ps is_arrays is_own is_blocks = rw (is_arrays, is_ps, is_own, is_blocks) refl

pub class_is : (cs : List ClassName) (base : Option ℕ) (q : List ℕ) (c : Known) (inherited : ℕ) → inherited ≡ length (spec.props_at cs base)
    → (let k : ClassName = record { name = q; base = base; props = c.props; inherited = inherited; blocks = c.blocks } in k) ≡ spec.class_name cs base q c
class_is cs base q c inherited is_inherited = rw is_inherited refl
