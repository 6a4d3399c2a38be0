-- The classes of a design have the properties that are known of them, the inherited ones first.
use Rattle.std.proofs.Common.{◌≡◌, ℕ, zero, suc, ◌+◌, ◌*◌, ◌≤◌, cond, Bool, true, false, if◌then◌else◌, List, [], ◌∷◌, ◌++◌, length, map, drop, Option, None, Some, option_map, refl, sym, ap, subst, ◌∙◌, true≢false, append-nil, arith}
use Rattle.std.specs.Prelude.{⊤, slice_get, slice_index_or}
use Rattle.std.proofs.lemmas.List.Sums.{sum_by-cons}
use Rattle.svr_operator.specs.declared.Rand.{Rand}
use Rattle.svr_operator.specs.declared.Rand.TheVariants as rand
use Rattle.svr_limits.specs.declared.limit.TheConstants.{PROPERTY_LIMIT, ELEMENT_LIMIT}
use Rattle.std.specs.Prelude.{nat_lt}
use Rattle.svr_typed.specs.declared.ArrayKind.{ArrayKind}
use Rattle.svr_typed.specs.declared.ArrayKind.TheVariants as array
use Rattle.svr_typed.specs.declared.EnumType.{EnumType}
use Rattle.svr_typed.specs.declared.Prop.{Prop}
use Rattle.svr_typed.specs.ClassTerm.{BlockTerm, ClassTerm, FlatTerm}
use Rattle.svr_flat.specs.Flat.{no_class, derived_class, base_of, flat_after, flat_classes, flat_class_of}
use Rattle.svr_design.specs.Types as design
use Rattle.svr_design.specs.Types.{IsProp, CycleFits, NamesDiffer}
use Rattle.svr_design.specs.Lawful as lawful
use Rattle.svr_design.specs.Lawful.{Every, EachFrom, BaseIsBefore}
use Rattle.svr_elab_names.specs.declared.Vector.{Vector}
use Rattle.svr_elab_names.specs.declared.Dims.{Dims}
use Rattle.svr_elab_names.specs.declared.Dims.TheVariants as dims
use Rattle.svr_elab_names.specs.Names.{PropName, ClassName, is_array, props_of, class_props}
use Rattle.svr_elab_part.specs.Fits.{Each}
use Rattle.svr_elab_part.specs.Shapes.{all_known, and_more, inner_of}
use Rattle.svr_elab_class.specs.Classes.{props_at, arrays_in}
use Rattle.svr_elab_random.specs.declared.Home.{Home}
use Rattle.svr_elab_random.specs.Random.{with_list, with_lists, classes_with}
use Rattle.svr_elab.specs.Script as script
use Rattle.svr_elab.specs.Script.{property, property_term, array_kind}
use Rattle.svr_elab_lawful_laws.specs.Declared.{There, PropertyIs, PlacedFrom, ClassIs}
use Rattle.svr_elab_lawful_laws.proofs.Classes.{get_before}

abbrev name_of : PropName → List ℕ
name_of p = p.name

-- ---- with what calls list, a property is lawful as before

all_there : {A B C D E : Type 0} (P : D → Type 0) (Q : E → Type 0) (f : A → B → C → D) (g : A → B → C → E) (h : (a : A) (b : B) (c : C) → P (f a b c) → Q (g a b c)) (x : Option A) (y : Option B) (z : Option C)
    → There P (all_known f x y z) → There Q (all_known g x y z)
all_there P Q f g h None y z t = absurd t
all_there P Q f g h (Some x) None z t = absurd t
all_there P Q f g h (Some x) (Some y) None t = absurd t
all_there P Q f g h (Some x) (Some y) (Some z) t = h x y z t

same_cycle : (es : List EnumType) (p q : Prop) → p.array ≡ q.array → p.kind ≡ q.kind → (r : Rand) → CycleFits es p r → CycleFits es q r
same_cycle es p q a k rand.State h = tt
same_cycle es p q a k rand.Rand h = tt
same_cycle es p q a k rand.Randc h = (ap design.is_array (sym a) ∙ h.0, subst (λ k. design.IsShortCycle es k k.members) k h.1)

listed_term : (es : List EnumType) (hs : List Home) (p : PropName) (k : Vector) (a : ArrayKind) (m : ℕ) → IsProp es (property_term p k a m) → IsProp es (property_term (with_list hs p) k a m)
listed_term es hs p k a m h = record {
  kind = h.kind;
  size = h.size;
  inner = h.inner;
  cycle = same_cycle es (property_term p k a m) (property_term (with_list hs p) k a m) refl refl p.property.rand h.cycle;
  first = h.first;
  low = h.low;
}

listed_is : (es : List EnumType) (hs : List Home) (p : PropName) → PropertyIs es p → PropertyIs es (with_list hs p)
listed_is es hs p h = all_there (IsProp es) (IsProp es) (property_term p) (property_term (with_list hs p)) (listed_term es hs p) p.property.kind (array_kind p.property.dims) (inner_of p.property.dims) h

-- ---- lists

each_map : {A : Type 0} (P Q : A → Type 0) (f : A → A) (h : (x : A) → P x → Q (f x)) (xs : List A) → Each P xs → Each Q (map f xs)
each_map P Q f h [] k = tt
each_map P Q f h (x ∷ xs) k = (h x k.0, each_map P Q f h xs k.1)

map_append : {A B : Type 0} (f : A → B) (xs ys : List A) → map f (xs ++ ys) ≡ map f xs ++ map f ys
map_append f [] ys = refl
map_append f (x ∷ xs) ys = ap (λ zs. f x ∷ zs) (map_append f xs ys)

map_length : {A B : Type 0} (f : A → B) (xs : List A) → length (map f xs) ≡ length xs
map_length f [] = refl
map_length f (x ∷ xs) = ap suc (map_length f xs)

pub get_map : {A B : Type 0} (f : A → B) (xs : List A) (k : ℕ) → slice_get (map f xs) k ≡ option_map f (slice_get xs k)
get_map f [] k = refl
get_map f (x ∷ xs) zero = refl
get_map f (x ∷ xs) (suc k) = get_map f xs k

pub drop_front : {A : Type 0} (xs ys : List A) → drop (length xs) (xs ++ ys) ≡ ys
drop_front [] ys = refl
drop_front (x ∷ xs) ys = drop_front xs ys

each_right : {A : Type 0} (P : A → Type 0) (xs ys : List A) → Each P (xs ++ ys) → Each P ys
each_right P [] ys h = h
each_right P (x ∷ xs) ys h = each_right P xs ys h.1

-- ---- classes with what calls list

listed_placed : (hs : List Home) (k : ℕ) (ps : List PropName) → PlacedFrom k ps → PlacedFrom k (map (with_list hs) ps)
listed_placed hs k [] h = tt
listed_placed hs k (p ∷ ps) h = (h.0, listed_placed hs (k + 1) ps h.1)

listed_names : (hs : List Home) (ps : List PropName) → map name_of (map (with_list hs) ps) ≡ map name_of ps
listed_names hs [] = refl
listed_names hs (p ∷ ps) = ap (λ ns. p.name ∷ ns) (listed_names hs ps)

listed_arrays : (hs : List Home) (ps : List PropName) → arrays_in (map (with_list hs) ps) ≡ arrays_in ps
listed_arrays hs [] = refl
listed_arrays hs (p ∷ ps) =
    let f : PropName → ℕ = λ p. cond (is_array p.property.dims) 1 0 in
    sum_by-cons f (with_list hs p) (map (with_list hs) ps) ∙ ap (λ (n : ℕ). cond (is_array p.property.dims) 1 0 + n) (listed_arrays hs ps) ∙ sym (sum_by-cons f p ps)

listed_of : (hs : List Home) (c : Option ClassName) → props_of (option_map (with_lists hs) c) ≡ map (with_list hs) (props_of c)
listed_of hs None = refl
listed_of hs (Some c) = refl

pub listed_at : (hs : List Home) (cs : List ClassName) (b : Option ℕ) → props_at (classes_with hs cs) b ≡ map (with_list hs) (props_at cs b)
listed_at hs cs None = refl
listed_at hs cs (Some b) = ap props_of (get_map (with_lists hs) cs b) ∙ listed_of hs (slice_get cs b)

class_listed : (es : List EnumType) (hs : List Home) (cs : List ClassName) (k : ℕ) (c : ClassName) → ClassIs es cs k c → ClassIs es (classes_with hs cs) k (with_lists hs c)
class_listed es hs cs k c h =
    let at : props_at (classes_with hs cs) c.base ≡ map (with_list hs) (props_at cs c.base) = listed_at hs cs c.base in
    record {
      base = h.base;
      own = map (with_list hs) h.own;
      homes = each_map (λ (p : PropName). p.property.home ≡ k) (λ (p : PropName). p.property.home ≡ k) (with_list hs) (λ p e. e) h.own h.homes;
      flat = ap (map (with_list hs)) h.flat ∙ map_append (with_list hs) (props_at cs c.base) h.own ∙ ap (λ (ps : List PropName). ps ++ map (with_list hs) h.own) (sym at);
      inherited = h.inherited ∙ sym (map_length (with_list hs) (props_at cs c.base)) ∙ ap (λ (ps : List PropName). length ps) (sym at);
      props = each_map (PropertyIs es) (PropertyIs es) (with_list hs) (listed_is es hs) c.props h.props;
      places = listed_placed hs 0 c.props h.places;
      differ = subst NamesDiffer (sym (listed_names hs c.props)) h.differ;
      few = subst (λ (n : ℕ). n ≤ PROPERTY_LIMIT) (sym (map_length (with_list hs) c.props)) h.few;
      few_arrays = subst (λ (n : ℕ). n ≤ 32) (sym (listed_arrays hs c.props)) h.few_arrays;
    }

all_listed : (es : List EnumType) (hs : List Home) (cs : List ClassName) (k : ℕ) (ds : List ClassName) → EachFrom (ClassIs es cs) k ds → EachFrom (ClassIs es (classes_with hs cs)) k (classes_with hs ds)
all_listed es hs cs k [] h = tt
all_listed es hs cs k (d ∷ ds) h = (class_listed es hs cs k d h.0, all_listed es hs cs (k + 1) ds h.1)

pub classes_listed : (es : List EnumType) (hs : List Home) (cs : List ClassName) → EachFrom (ClassIs es cs) 0 cs → EachFrom (ClassIs es (classes_with hs cs)) 0 (classes_with hs cs)
classes_listed es hs cs h = all_listed es hs cs 0 cs h

-- ---- the properties of a design

abbrev pub PropsAre : List PropName → List Prop → Type 0
PropsAre [] [] = ⊤
PropsAre [] (q ∷ qs) = ⊥
PropsAre (p ∷ ps) [] = ⊥
PropsAre (p ∷ ps) (q ∷ qs) = (property p ≡ Some q) × PropsAre ps qs

record Terms (es : List EnumType) (ps : List PropName) (before : List Prop) : Type 0 where
  pub terms : List Prop
  pub known : script.each_known property (Some before) ps ≡ Some (before ++ terms)
  pub are : PropsAre ps terms
  pub every : Every (IsProp es) terms

pub joined : {A : Type 0} (xs : List A) (x : A) (ys : List A) → (xs ++ x ∷ []) ++ ys ≡ xs ++ (x ∷ ys)
joined [] x ys = refl
joined (y ∷ xs) x ys = ap (λ zs. y ∷ zs) (joined xs x ys)

there_is : (es : List EnumType) (p : PropName) (o : Option Prop) → property p ≡ o → There (IsProp es) o → (q : Prop) × (property p ≡ Some q) × IsProp es q
there_is es p None e h = absurd h
there_is es p (Some q) e h = (q, e, h)

terms_of : (es : List EnumType) (ps : List PropName) (before : List Prop) → Each (PropertyIs es) ps → Terms es ps before
terms_of es [] before h = record { terms = []; known = ap (λ (qs : List Prop). Some qs) (sym (append-nil before)); are = tt; every = tt }
terms_of es (p ∷ ps) before h =
    let o = there_is es p (property p) refl h.0 in
    let q : Prop = o.0 in
    let t : Terms es ps (before ++ q ∷ []) = terms_of es ps (before ++ q ∷ []) h.1 in
    record {
      terms = q ∷ t.terms;
      known = ap (λ (x : Option Prop). script.each_known property (and_more (Some before) x) ps) o.1 ∙ t.known ∙ ap (λ (qs : List Prop). Some qs) (joined before q t.terms);
      are = (o.1, t.are);
      every = (o.2, t.every);
    }

-- ---- the classes of a design

pub record TermIs (es : List EnumType) (c : ClassName) (bs : List BlockTerm) (t : ClassTerm) : Type 0 where
  pub base : t.base ≡ c.base
  pub props : PropsAre (drop c.inherited c.props) t.props
  pub every : Every (IsProp es) t.props
  pub blocks : t.blocks ≡ bs

abbrev pub TermsAre : List EnumType → List ClassName → List (List BlockTerm) → List ClassTerm → Type 0
TermsAre es [] bs [] = ⊤
TermsAre es [] bs (t ∷ ts) = ⊥
TermsAre es (c ∷ cs) [] [] = ⊥
TermsAre es (c ∷ cs) [] (t ∷ ts) = ⊥
TermsAre es (c ∷ cs) (b ∷ bs) [] = ⊥
TermsAre es (c ∷ cs) (b ∷ bs) (t ∷ ts) = TermIs es c b t × TermsAre es cs bs ts

pub record ClassTerms (es : List EnumType) (cs : List ClassName) (bs : List (List BlockTerm)) (before : List ClassTerm) : Type 0 where
  pub terms : List ClassTerm
  pub known : script.classes (Some before) cs bs ≡ Some (before ++ terms)
  pub are : TermsAre es cs bs terms

pub own_of : (es : List EnumType) (all : List ClassName) (k : ℕ) (c : ClassName) → (h : ClassIs es all k c) → drop c.inherited c.props ≡ h.own
own_of es all k c h =
    ap (λ (n : ℕ). drop n c.props) h.inherited ∙ ap (drop (length (props_at all c.base))) h.flat ∙ drop_front (props_at all c.base) h.own

own_are : (es : List EnumType) (all : List ClassName) (k : ℕ) (c : ClassName) → ClassIs es all k c → Each (PropertyIs es) (drop c.inherited c.props)
own_are es all k c h = subst (Each (PropertyIs es)) (sym (own_of es all k c h)) (each_right (PropertyIs es) (props_at all c.base) h.own (subst (Each (PropertyIs es)) h.flat h.props))

pub class_terms_of : (es : List EnumType) (all : List ClassName) (k : ℕ) (cs : List ClassName) (bs : List (List BlockTerm)) (before : List ClassTerm) → EachFrom (ClassIs es all) k cs → length bs ≡ length cs → ClassTerms es cs bs before
class_terms_of es all k [] [] before h e = record { terms = []; known = ap (λ (ts : List ClassTerm). Some ts) (sym (append-nil before)); are = tt }
class_terms_of es all k [] (b ∷ bs) before h e = absurd (let f : suc (length bs) ≡ 0 = e in omega (arith, f))
class_terms_of es all k (c ∷ cs) [] before h e = absurd (let f : 0 ≡ suc (length cs) = e in omega (arith, f))
class_terms_of es all k (c ∷ cs) (b ∷ bs) before h e =
    let own : Terms es (drop c.inherited c.props) [] = terms_of es (drop c.inherited c.props) [] (own_are es all k c h.0) in
    let t : ClassTerm = script.class_of c b own.terms in
    let is : script.class c b ≡ Some t = ap (λ (o : Option (List Prop)). option_map (script.class_of c b) o) own.known in
    let same : length bs ≡ length cs = (let f : suc (length bs) ≡ suc (length cs) = e in omega (arith, f)) in
    let more : ClassTerms es cs bs (before ++ t ∷ []) = class_terms_of es all (k + 1) cs bs (before ++ t ∷ []) h.1 same in
    record {
      terms = t ∷ more.terms;
      known = ap (λ (o : Option ClassTerm). script.classes (and_more (Some before) o) cs bs) is ∙ more.known ∙ ap (λ (ts : List ClassTerm). Some ts) (joined before t more.terms);
      are = (record { base = refl; props = own.are; every = own.every; blocks = refl }, more.are);
    }

-- ---- with what they inherit

abbrev pub FlatsAre : List ClassName → List FlatTerm → Type 0
FlatsAre [] [] = ⊤
FlatsAre [] (f ∷ fs) = ⊥
FlatsAre (c ∷ cs) [] = ⊥
FlatsAre (c ∷ cs) (f ∷ fs) = PropsAre c.props f.props × FlatsAre cs fs

pub props_append : (ps ps' : List PropName) (qs qs' : List Prop) → PropsAre ps qs → PropsAre ps' qs' → PropsAre (ps ++ ps') (qs ++ qs')
props_append [] ps' [] qs' h k = k
props_append [] ps' (q ∷ qs) qs' h k = absurd h
props_append (p ∷ ps) ps' [] qs' h k = absurd h
props_append (p ∷ ps) ps' (q ∷ qs) qs' h k = (h.0, props_append ps ps' qs qs' h.1 k)

flats_last : (cs : List ClassName) (fs : List FlatTerm) (c : ClassName) (f : FlatTerm) → FlatsAre cs fs → PropsAre c.props f.props → FlatsAre (cs ++ c ∷ []) (fs ++ f ∷ [])
flats_last [] [] c f h k = (k, tt)
flats_last [] (g ∷ fs) c f h k = absurd h
flats_last (d ∷ cs) [] c f h k = absurd h
flats_last (d ∷ cs) (g ∷ fs) c f h k = (h.0, flats_last cs fs c f h.1 k)

pub flat_at : (cs : List ClassName) (fs : List FlatTerm) (k : ℕ) → FlatsAre cs fs → PropsAre (props_of (slice_get cs k)) (slice_index_or fs k no_class).props
flat_at [] [] k h = tt
flat_at [] (f ∷ fs) k h = absurd h
flat_at (c ∷ cs) [] k h = absurd h
flat_at (c ∷ cs) (f ∷ fs) zero h = h.0
flat_at (c ∷ cs) (f ∷ fs) (suc k) h = flat_at cs fs k h.1

base_are : (done rest : List ClassName) (earlier : List FlatTerm) (b : Option ℕ) → BaseIsBefore (length done) b → FlatsAre done earlier → PropsAre (props_at (done ++ rest) b) (base_of earlier b).props
base_are done rest earlier None h k = tt
base_are done rest earlier (Some b) h k =
    subst (λ (c : Option ClassName). PropsAre (props_of c) (slice_index_or earlier b no_class).props) (sym (get_before done rest b h)) (flat_at done earlier b k)

pub moved : {A : Type 0} (xs : List A) (x : A) (ys : List A) → xs ++ (x ∷ ys) ≡ (xs ++ x ∷ []) ++ ys
moved xs x ys = sym (joined xs x ys)

length_last : {A : Type 0} (xs : List A) (x : A) → length (xs ++ x ∷ []) ≡ suc (length xs)
length_last [] x = refl
length_last (y ∷ xs) x = ap suc (length_last xs x)

flats_behind : (es : List EnumType) (all done rest : List ClassName) (k : ℕ) (earlier : List FlatTerm) (bs : List (List BlockTerm)) (ts : List ClassTerm) → all ≡ done ++ rest → k ≡ length done → FlatsAre done earlier → EachFrom (ClassIs es all) k rest
    → TermsAre es rest bs ts → FlatsAre all (flat_after earlier ts)
flats_behind es all done [] k earlier bs [] e n f h t = subst (λ (cs : List ClassName). FlatsAre cs earlier) (sym (append-nil done) ∙ sym e) f
flats_behind es all done [] k earlier bs (t ∷ ts) e n f h u = absurd u
flats_behind es all done (c ∷ cs) k earlier [] [] e n f h u = absurd u
flats_behind es all done (c ∷ cs) k earlier [] (t ∷ ts) e n f h u = absurd u
flats_behind es all done (c ∷ cs) k earlier (b ∷ bs) [] e n f h u = absurd u
flats_behind es all done (c ∷ cs) k earlier (b ∷ bs) (t ∷ ts) e n f h u =
    let i : ClassIs es all k c = h.0 in
    let flat : FlatTerm = derived_class (base_of earlier t.base) t in
    let before : BaseIsBefore (length done) c.base = subst (λ (m : ℕ). BaseIsBefore m c.base) n i.base in
    let inherited : PropsAre (props_at all c.base) (base_of earlier c.base).props = subst (λ (ds : List ClassName). PropsAre (props_at ds c.base) (base_of earlier c.base).props) (sym e) (base_are done (c ∷ cs) earlier c.base before f) in
    let own : PropsAre i.own t.props = subst (λ (ps : List PropName). PropsAre ps t.props) (own_of es all k c i) u.0.props in
    let both : PropsAre (props_at all c.base ++ i.own) ((base_of earlier c.base).props ++ t.props) = props_append (props_at all c.base) i.own (base_of earlier c.base).props t.props inherited own in
    let same : PropsAre c.props ((base_of earlier c.base).props ++ t.props) = subst (λ (ps : List PropName). PropsAre ps ((base_of earlier c.base).props ++ t.props)) (sym i.flat) both in
    let here : PropsAre c.props flat.props = subst (λ (o : Option ℕ). PropsAre c.props ((base_of earlier o).props ++ t.props)) (sym u.0.base) same in
    flats_behind es all (done ++ c ∷ []) cs (k + 1) (earlier ++ flat ∷ []) bs ts (e ∙ moved done c cs) (next k (length done) n ∙ sym (length_last done c)) (flats_last done earlier c flat f here) h.1 u.1
  where
    next : (k n : ℕ) → k ≡ n → k + 1 ≡ suc n
    next k n e = omega (arith, e)

pub flats_are : (es : List EnumType) (cs : List ClassName) (bs : List (List BlockTerm)) (ts : List ClassTerm) → EachFrom (ClassIs es cs) 0 cs → TermsAre es cs bs ts → FlatsAre cs (flat_classes ts)
flats_are es cs bs ts h t = flats_behind es cs [] cs 0 [] bs ts refl refl tt h t

-- class k of a design with what it inherits
pub flat_props : (es : List EnumType) (cs : List ClassName) (bs : List (List BlockTerm)) (ts : List ClassTerm) (k : ℕ) → EachFrom (ClassIs es cs) 0 cs → TermsAre es cs bs ts → PropsAre (class_props cs k) (flat_class_of ts k).props
unfolding flat_class_of
flat_props es cs bs ts k h t = flat_at cs (flat_classes ts) k (flats_are es cs bs ts h t)

-- ---- what holds of them

pub as_many : (ps : List PropName) (qs : List Prop) → PropsAre ps qs → length ps ≡ length qs
as_many [] [] h = refl
as_many [] (q ∷ qs) h = absurd h
as_many (p ∷ ps) [] h = absurd h
as_many (p ∷ ps) (q ∷ qs) h = ap suc (as_many ps qs h.1)

-- what a property and its place in a design have in common
record Common (p : PropName) (q : Prop) : Type 0 where
  pub name : q.name ≡ p.name
  pub array : design.is_array q.array ≡ is_array p.property.dims

all_common : (p : PropName) (q : Prop) (k : Option Vector) (a : Option ArrayKind) (m : Option ℕ) → ((x : ArrayKind) → a ≡ Some x → design.is_array x ≡ is_array p.property.dims) → all_known (property_term p) k a m ≡ Some q → Common p q
all_common p q None a m h e = absurd (let f : None ≡ Some q = e in cc)
all_common p q (Some k) None m h e = absurd (let f : None ≡ Some q = e in cc)
all_common p q (Some k) (Some a) None h e = absurd (let f : None ≡ Some q = e in cc)
all_common p q (Some k) (Some a) (Some m) h e =
    let same : property_term p k a m ≡ q = (let f : Some (property_term p k a m) ≡ Some q = e in cc) in
    subst (Common p) same (record { name = refl; array = h a refl })

fixed_array : (b : Bool) (n : ℕ) (x : ArrayKind) → (if b then None else Some (array.Fixed n)) ≡ Some x → design.is_array x ≡ true
fixed_array true n x e = absurd (let f : None ≡ Some x = e in cc)
fixed_array false n x e = subst (λ (y : ArrayKind). design.is_array y ≡ true) (let f : Some (array.Fixed n) ≡ Some x = e in (let g : array.Fixed n ≡ x = cc in g)) refl

array_is : (d : Dims) (x : ArrayKind) → array_kind d ≡ Some x → design.is_array x ≡ is_array d
array_is dims.Scalar x e = subst (λ (y : ArrayKind). design.is_array y ≡ false) (let f : Some array.Scalar ≡ Some x = e in (let g : array.Scalar ≡ x = cc in g)) refl
array_is dims.Dynamic x e = subst (λ (y : ArrayKind). design.is_array y ≡ true) (let f : Some array.Dynamic ≡ Some x = e in (let g : array.Dynamic ≡ x = cc in g)) refl
array_is (dims.Fixed None) x e = absurd (let f : None ≡ Some x = e in cc)
array_is (dims.Fixed (Some n)) x e = fixed_array (nat_lt ELEMENT_LIMIT n) n x e
array_is (dims.Rows None m) x e = absurd (let f : None ≡ Some x = e in cc)
array_is (dims.Rows (Some n) None) x e = absurd (let f : None ≡ Some x = e in cc)
array_is (dims.Rows (Some n) (Some m)) x e = fixed_array (nat_lt ELEMENT_LIMIT (n * m)) (n * m) x e

common : (p : PropName) (q : Prop) → property p ≡ Some q → Common p q
common p q e = all_common p q p.property.kind (array_kind p.property.dims) (inner_of p.property.dims) (array_is p.property.dims) e

pub same_names : (ps : List PropName) (qs : List Prop) → PropsAre ps qs → map (λ (q : Prop). q.name) qs ≡ map name_of ps
same_names [] [] h = refl
same_names [] (q ∷ qs) h = absurd h
same_names (p ∷ ps) [] h = absurd h
same_names (p ∷ ps) (q ∷ qs) h = ap (λ (n : List ℕ). n ∷ map (λ (q : Prop). q.name) qs) (common p q h.0).name ∙ ap (λ (ns : List (List ℕ)). p.name ∷ ns) (same_names ps qs h.1)

one_array : (b c : Bool) (n m : ℕ) → b ≡ c → n ≡ m → (if b then n + 1 else n) ≡ cond c 1 0 + m
one_array true true n m h e = omega (arith, e)
one_array false false n m h e = omega (arith, e)
one_array true false n m h e = absurd (true≢false h)
one_array false true n m h e = absurd (true≢false (sym h))

pub same_arrays : (ps : List PropName) (qs : List Prop) → PropsAre ps qs → lawful.arrays_in qs ≡ arrays_in ps
same_arrays [] [] h = refl
same_arrays [] (q ∷ qs) h = absurd h
same_arrays (p ∷ ps) [] h = absurd h
same_arrays (p ∷ ps) (q ∷ qs) h =
    one_array (design.is_array q.array) (is_array p.property.dims) (lawful.arrays_in qs) (arrays_in ps) (common p q h.0).array (same_arrays ps qs h.1)
    ∙ sym (sum_by-cons (λ (p : PropName). cond (is_array p.property.dims) 1 0) p ps)
