-- The places of blocks and of in-line sets stand in the design of a script in which nothing is refused.
use Rattle.std.proofs.Common.{◌≡◌, ℕ, zero, suc, ◌+◌, ◌*◌, Bool, true, false, nat_lt, if◌then◌else◌, List, [], ◌∷◌, ◌++◌, length, Option, None, Some, refl, sym, ap, subst, ◌∙◌, true≢false, arith}
use Rattle.std.specs.Prelude.{slice_get}
use Rattle.svr_operator.specs.declared.Rand.{Rand}
use Rattle.svr_operator.specs.declared.Rand.TheVariants as rand
use Rattle.svr_limits.specs.declared.limit.TheConstants.{ELEMENT_LIMIT}
use Rattle.svr_typed.specs.declared.ArrayKind.{ArrayKind}
use Rattle.svr_typed.specs.declared.ArrayKind.TheVariants as array
use Rattle.svr_typed.specs.declared.EnumType.{EnumType}
use Rattle.svr_typed.specs.declared.Prop.{Prop}
use Rattle.svr_typed.specs.declared.TVar.{TVar}
use Rattle.svr_typed.specs.StmtTerm.{DesignTerm}
use Rattle.svr_flat.specs.Flat.{flat_class_of}
use Rattle.svr_design.specs.Types as design
use Rattle.svr_design.specs.Types.{is_fixed, VariableIs}
use Rattle.svr_design.specs.Mentions.{is_cyclic}
use Rattle.svr_design.specs.Lawful.{EachFrom}
use Rattle.svr_elab_names.specs.declared.Vector.{Vector}
use Rattle.svr_elab_names.specs.declared.Dims.{Dims}
use Rattle.svr_elab_names.specs.declared.Dims.TheVariants as dims
use Rattle.svr_elab_names.specs.declared.Region.{Region}
use Rattle.svr_elab_names.specs.declared.VarStand.{VarStand}
use Rattle.svr_elab_names.specs.declared.VarStand.TheVariants as stand
use Rattle.svr_elab_names.specs.Names.{Space, PropName, ClassName, VarName, Loop, is_array, is_statement, props_of, class_props}
use Rattle.svr_elab_part.specs.Fits.{Each, NamesFit, PropertyFits}
use Rattle.svr_elab_part.specs.Shapes.{all_known, inner_of, is_randc}
use Rattle.svr_elab_item.specs.Items.{has_rows}
use Rattle.svr_elab_block.specs.Blocks.{in_class}
use Rattle.svr_elab.specs.Script as script
use Rattle.svr_elab.specs.Script.{property, property_term, array_kind, variable}
use Rattle.svr_elab_expr_laws.specs.Known.{NamesKnown}
use Rattle.svr_elab_stand_laws.specs.Stand.{There, IsDesigned, ItemDesigned, NumberIs, VariableDesigned, VariablesDesigned}
use Rattle.svr_elab_lawful_laws.specs.Declared.{PlacedFrom, ClassIs}
use Rattle.svr_elab_lawful_laws.specs.Places.{IsSame, SameThere, IsPlace, PlacesStand}
use Rattle.svr_elab_lawful_laws.proofs.Flats.{PropsAre, flat_props}
use Rattle.svr_elab_lawful_laws.proofs.Vars as vars
use Rattle.svr_elab_lawful_laws.proofs.Whole.{the_heads, the_space, IsClear, script_clear, of_design}
use Rattle.svr_elab_lawful_laws.proofs.Declarations.{some_same, DesignClasses, design_classes, DesignVars, design_vars, each_from_at, from_none}
use Rattle.svr_elab_lawful_laws.proofs.Space.{PlaceIs, place_known, place_fits, the_space_is}
use Rattle.svr_elab_lawful_laws.proofs.Trees.{class_known}

-- ---- a property and its place

same_cyclic : (r : Rand) → is_cyclic r ≡ is_randc r
same_cyclic rand.State = refl
same_cyclic rand.Rand = refl
same_cyclic rand.Randc = refl

-- what the array of a design says of the dimensions
record Arrays (d : Dims) (a : ArrayKind) : Type 0 where
  pub array : design.is_array a ≡ is_array d
  pub fixed : has_rows d ≡ true → is_fixed a ≡ true

fixed_arrays : (d : Dims) (b : Bool) (n : ℕ) (a : ArrayKind) → is_array d ≡ true → (if b then None else Some (array.Fixed n)) ≡ Some a → Arrays d a
fixed_arrays d true n a h e = absurd (let f : None ≡ Some a = e in cc)
fixed_arrays d false n a h e = subst (Arrays d) (some_same (array.Fixed n) a e) (record { array = sym h; fixed = λ k. refl })

arrays_are : (d : Dims) (a : ArrayKind) → array_kind d ≡ Some a → Arrays d a
arrays_are dims.Scalar a e = subst (Arrays dims.Scalar) (some_same array.Scalar a e) (record { array = refl; fixed = λ k. absurd (true≢false (sym k)) })
arrays_are dims.Dynamic a e = subst (Arrays dims.Dynamic) (some_same array.Dynamic a e) (record { array = refl; fixed = λ k. absurd (true≢false (sym k)) })
arrays_are (dims.Fixed None) a e = absurd (let f : None ≡ Some a = e in cc)
arrays_are (dims.Fixed (Some n)) a e = fixed_arrays (dims.Fixed (Some n)) (nat_lt ELEMENT_LIMIT n) n a refl e
arrays_are (dims.Rows None m) a e = absurd (let f : None ≡ Some a = e in cc)
arrays_are (dims.Rows (Some n) None) a e = absurd (let f : None ≡ Some a = e in cc)
arrays_are (dims.Rows (Some n) (Some m)) a e = fixed_arrays (dims.Rows (Some n) (Some m)) (nat_lt ELEMENT_LIMIT (n * m)) (n * m) a refl e

abbrev Both : PropName → Option Vector → Prop → Type 0
Both p k q = There p.property k (Some q) × IsSame p.property q

parts_same : (p : PropName) (q : Prop) (k : Option Vector) (a : Option ArrayKind) (m : Option ℕ) → ((x : ArrayKind) → a ≡ Some x → Arrays p.property.dims x) → inner_of p.property.dims ≡ m → all_known (property_term p) k a m ≡ Some q → Both p k q
parts_same p q None a m h i e = absurd (let f : None ≡ Some q = e in cc)
parts_same p q (Some k) None m h i e = absurd (let f : None ≡ Some q = e in cc)
parts_same p q (Some k) (Some a) None h i e = absurd (let f : None ≡ Some q = e in cc)
parts_same p q (Some k) (Some a) (Some m) h i e =
    let r : Arrays p.property.dims a = h a refl in
    subst (Both p (Some k)) (some_same (property_term p k a m) q e)
    (record { width = refl; signed = refl; low = refl; array = r.array; inner = i; random = refl; cyclic = same_cyclic p.property.rand }, record { rand = refl; fixed = r.fixed })

both_same : (p : PropName) (q : Prop) → property p ≡ Some q → Both p p.property.kind q
both_same p q e = parts_same p q p.property.kind (array_kind p.property.dims) (inner_of p.property.dims) (arrays_are p.property.dims) refl e

-- ---- at its number

pub get_middle : {A : Type 0} (xs : List A) (x : A) (ys : List A) → slice_get (xs ++ x ∷ ys) (length xs) ≡ Some x
get_middle [] x ys = refl
get_middle (y ∷ xs) x ys = get_middle xs x ys

pub moved : {A : Type 0} (xs : List A) (x : A) (ys : List A) → xs ++ x ∷ ys ≡ (xs ++ x ∷ []) ++ ys
moved [] x ys = refl
moved (y ∷ xs) x ys = ap (λ zs. y ∷ zs) (moved xs x ys)

pub length_next : {A : Type 0} (xs : List A) (x : A) (k : ℕ) → k ≡ length xs → k + 1 ≡ length (xs ++ x ∷ [])
length_next [] x k e = (let f : k ≡ 0 = e in omega (arith, f))
length_next (y ∷ xs) x zero e = absurd (let f : 0 ≡ suc (length xs) = e in omega (arith, f))
length_next (y ∷ xs) x (suc k) e = let f : k ≡ length xs = (let g : suc k ≡ suc (length xs) = e in omega (arith, g)) in let h : k + 1 ≡ length (xs ++ x ∷ []) = length_next xs x k f in omega (arith, h)

abbrev DesignedThere : List Prop → PropName → Type 0
DesignedThere all p = IsDesigned all p.property × SameThere p.property (slice_get all p.property.number)

designed_from : (all before : List Prop) (k : ℕ) (ps : List PropName) (qs : List Prop) → all ≡ before ++ qs → k ≡ length before → PlacedFrom k ps → PropsAre ps qs → Each (DesignedThere all) ps
designed_from all before k [] [] e n h t = tt
designed_from all before k [] (q ∷ qs) e n h t = absurd t
designed_from all before k (p ∷ ps) [] e n h t = absurd t
designed_from all before k (p ∷ ps) (q ∷ qs) e n h t =
    let at : slice_get all p.property.number ≡ Some q = ap (slice_get all) (h.0 ∙ n) ∙ ap (λ xs. slice_get xs (length before)) e ∙ get_middle before q qs in
    let b : Both p p.property.kind q = both_same p q t.0 in
    let P : Option Prop → Type 0 = λ o. There p.property p.property.kind o × SameThere p.property o in
    (subst P (sym at) b, designed_from all (before ++ q ∷ []) (k + 1) ps qs (e ∙ moved before q qs) (length_next before q k n) h.1 t.1)

pub designed : (ps : List PropName) (qs : List Prop) → PlacedFrom 0 ps → PropsAre ps qs → Each (DesignedThere qs) ps
designed ps qs h t = designed_from qs [] 0 ps qs refl refl h t

each_left : {A : Type 0} (P Q : A → Type 0) (xs : List A) → Each (λ x. P x × Q x) xs → Each P xs
each_left P Q [] h = tt
each_left P Q (x ∷ xs) h = (h.0.0, each_left P Q xs h.1)

each_second : {A : Type 0} (P Q : A → Type 0) (xs : List A) → Each (λ x. P x × Q x) xs → Each Q xs
each_second P Q [] h = tt
each_second P Q (x ∷ xs) h = (h.0.1, each_second P Q xs h.1)

-- ---- variables

number_is : (k : Option Vector) (name : List ℕ) (t : TVar) → variable (record { name = name; stands = stand.OfNumber k }) ≡ Some t → NumberIs k (Some t)
number_is None name t e = tt
number_is (Some k) name t e = subst (λ (t : TVar). VariableIs (Some t) k.kind.width k.kind.signed) (some_same (script.named name (script.number_kind k)) t e) (refl, refl)

variable_is : (v : VarStand) (name : List ℕ) (t : TVar) (all : List TVar) (k : ℕ) → slice_get all k ≡ Some t → variable (record { name = name; stands = v }) ≡ Some t → VariableDesigned all k v
variable_is (stand.OfNumber kind) name t all k at e = subst (NumberIs kind) (sym at) (number_is kind name t e)
variable_is (stand.OfObject c) name t all k at e = tt

variables_from : (all before : List TVar) (k : ℕ) (vs : List VarName) (ts : List TVar) → all ≡ before ++ ts → k ≡ length before → vars.TermsAre vs ts → VariablesDesigned all k vs
variables_from all before k [] [] e n t = tt
variables_from all before k [] (u ∷ ts) e n t = absurd t
variables_from all before k (v ∷ vs) [] e n t = absurd t
variables_from all before k (v ∷ vs) (u ∷ ts) e n t =
    let at : slice_get all k ≡ Some u = ap (slice_get all) n ∙ ap (λ xs. slice_get xs (length before)) e ∙ get_middle before u ts in
    (variable_is v.stands v.name u all k at t.0, variables_from all (before ++ u ∷ []) (k + 1) vs ts (e ∙ moved before u ts) (length_next before u k n) t.1)

-- ---- the places

pub designed_props : (ps : List PropName) (qs : List Prop) → PlacedFrom 0 ps → PropsAre ps qs → Each (λ (p : PropName). IsDesigned qs p.property) ps
designed_props ps qs h t = each_left (λ (p : PropName). IsDesigned qs p.property) (λ (p : PropName). SameThere p.property (slice_get qs p.property.number)) ps (designed ps qs h t)

-- the places of the properties of each class, also of none
class_places : (k i : ℕ) (cs : List ClassName) → ((j : ℕ) (c : ClassName) → slice_get cs j ≡ Some c → PlacedFrom 0 c.props) → (o : Option ClassName) → slice_get cs i ≡ o → PlacedFrom 0 (props_of o)
class_places k i cs h None e = tt
class_places k i cs h (Some c) e = h i c e

pub placed_props : (es : List EnumType) (cs : List ClassName) → EachFrom (ClassIs es cs) 0 cs → (k : ℕ) → PlacedFrom 0 (class_props cs k)
placed_props es cs h k = class_places 0 k cs (λ j x g. (each_from_at (ClassIs es cs) 0 cs h j j x (from_none j) g).places) (slice_get cs k) refl

pub places_stand : PlacesStand
places_stand text s is f =
    let clear : IsClear text s = script_clear text s f in
    let n : Space = the_space text s in
    let es = (the_heads text s).enums in
    let cs : ℕ = length (the_heads text s).names.classes in
    let place : PlaceIs es cs n = the_space_is text s is clear in
    let known : NamesKnown n = place_known es cs n place in
    let fits : NamesFit n = place_fits es cs n place in
    of_design (λ (d : DesignTerm). (r : Region) (k : ℕ) → is_statement r ≡ false → IsPlace d k (in_class n r k)) text s
    (λ c v t a b e. λ r k out.
    let dc : DesignClasses text s c = design_classes text s c is clear a in
    let dv : DesignVars text s v = design_vars text s v is clear b in
    let flat = (flat_class_of c k).props in
    let are : PropsAre (class_props n.classes k) flat = flat_props es n.classes dc.blocks c k dc.names dc.are in
    let placed : PlacedFrom 0 (class_props n.classes k) =
    class_places 0 k n.classes (λ j x g. (each_from_at (ClassIs es n.classes) 0 n.classes dc.names j j x (from_none j) g).places) (slice_get n.classes k) refl in
    let all : Each (DesignedThere flat) (class_props n.classes k) = designed (class_props n.classes k) flat placed are in
    record {
      stands = record {
        region = out;
        props = each_left (λ (p : PropName). IsDesigned flat p.property) (λ (p : PropName). SameThere p.property (slice_get flat p.property.number)) (class_props n.classes k) all;
        later = place.later;
        loops = subst (λ (ls : List Loop). Each (λ (l : Loop). ItemDesigned flat l.item) ls) (sym place.loops) tt;
        around = ap (λ (ls : List Loop). length ls) place.loops;
        vars = λ g. variables_from v [] 0 n.vars v refl refl dv.are;
      };
      fits = record { globals = fits.globals; props = class_fits n.classes k fits.classes; classes = fits.classes; loops = fits.loops; vars = fits.vars };
      names = record { globals = known.globals; props = class_known n.classes k known.classes; classes = known.classes; later = known.later; loops = known.loops; vars = known.vars };
      same = each_second (λ (p : PropName). IsDesigned flat p.property) (λ (p : PropName). SameThere p.property (slice_get flat p.property.number)) (class_props n.classes k) all;
      loops = place.loops;
    })
  where
    class_fits : (cs : List ClassName) (c : ℕ) → Each (λ (c : ClassName). Each (λ (p : PropName). PropertyFits p.property) c.props) cs → Each (λ (p : PropName). PropertyFits p.property) (class_props cs c)
    class_fits [] c h = tt
    class_fits (x ∷ cs) zero h = h.0
    class_fits (x ∷ cs) (suc c) h = class_fits cs c h.1
