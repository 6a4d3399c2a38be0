-- The place of the statements of a script stands in its design.
use Rattle.std.proofs.Common.{◌≡◌, ℕ, zero, suc, ◌+◌, List, [], ◌∷◌, ◌++◌, length, Option, None, Some, option_map, refl, sym, ap, subst, ◌∙◌}
use Rattle.std.specs.Prelude.{slice_get}
use Rattle.svr_typed.specs.declared.ArrayKind.{ArrayKind}
use Rattle.svr_typed.specs.declared.Prop.{Prop}
use Rattle.svr_typed.specs.declared.TVar.{TVar}
use Rattle.svr_typed.specs.StmtTerm.{DesignTerm}
use Rattle.svr_flat.specs.Flat.{flat_class_of}
use Rattle.svr_elab_names.specs.declared.Vector.{Vector}
use Rattle.svr_elab_names.specs.declared.VarStand.{VarStand}
use Rattle.svr_elab_names.specs.declared.VarStand.TheVariants as stand
use Rattle.svr_elab_names.specs.Names.{Space, PropName, VarName, class_props}
use Rattle.svr_elab_part.specs.Fits.{Each, NamesFit}
use Rattle.svr_elab_part.proofs.Looked.{OptionIs}
use Rattle.svr_elab_part.specs.Shapes.{all_known, inner_of}
use Rattle.svr_elab.specs.Script as script
use Rattle.svr_elab.specs.Script.{design_in, property_term, array_kind, variable}
use Rattle.svr_elab_stand_laws.specs.Stand.{IsDesigned}
use Rattle.svr_elab_lawful_laws.specs.Declared.{PlacedFrom}
use Rattle.svr_elab_lawful_laws.specs.Reads.{IsVar, VarIs, KindAt, ArrayThere, IsThere, InStatement, StatementPlacesStand}
use Rattle.svr_elab_lawful_laws.proofs.Found.{StandsAt}
use Rattle.svr_elab_lawful_laws.proofs.Whole.{the_heads, the_space, IsClear, script_clear, of_design}
use Rattle.svr_elab_lawful_laws.proofs.Declarations.{some_same, DesignClasses, design_classes, DesignVars, design_vars}
use Rattle.svr_elab_lawful_laws.proofs.Space.{PlaceIs, place_fits, the_space_is}
use Rattle.svr_elab_lawful_laws.proofs.Flats.{PropsAre, flat_props}
use Rattle.svr_elab_lawful_laws.proofs.Vars as vars
use Rattle.svr_elab_lawful_laws.proofs.Places.{designed_props, placed_props, get_middle, moved, length_next}
use Rattle.svr_elab_lawful_laws.proofs.Can.{object_class}

-- the variable that stands there
the_var : (s : VarStand) (o : Option VarName) → IsVar s o → (v : VarName) × (o ≡ Some v) × (v.stands ≡ s)
the_var s None h = absurd h
the_var s (Some v) h = (v, refl, h)

stands_at : (vs : List VarName) (k : ℕ) (s : VarStand) → VarIs vs k s → StandsAt vs k s
stands_at vs k s h =
    let v = the_var s (slice_get vs k) h in
    (subst (λ (o : Option VarName). OptionIs (λ (v : VarName). v.stands ≡ s) o) (sym v.1) v.2, λ g. (let f : None ≡ Some v.0 = sym g ∙ v.1 in cc))

number_kind : (kind : Option Vector) (v : VarName) (t : TVar) → v.stands ≡ stand.OfNumber kind → variable v ≡ Some t → KindAt kind (Some t)
number_kind kind v t e f = of_kind kind (ap (λ (s : VarStand). option_map (script.named v.name) (script.kind_of s)) (sym e) ∙ f)
  where
    of_kind : (kind : Option Vector) → option_map (script.named v.name) (script.kind_of (stand.OfNumber kind)) ≡ Some t → KindAt kind (Some t)
    of_kind None g = absurd (let h : None ≡ Some t = g in cc)
    of_kind (Some k) g = ap (λ (t : TVar). t.kind) (sym (some_same (script.named v.name (script.number_kind k)) t g))

kind_at : (vs : List VarName) (ts : List TVar) → vars.TermsAre vs ts → (i : ℕ) (kind : Option Vector) → VarIs vs i (stand.OfNumber kind) → KindAt kind (slice_get ts i)
kind_at [] [] h i kind s = absurd s
kind_at [] (t ∷ ts) h i kind s = absurd h
kind_at (v ∷ vs) [] h i kind s = absurd h
kind_at (v ∷ vs) (t ∷ ts) h zero kind s = number_kind kind v t s h.0
kind_at (v ∷ vs) (t ∷ ts) h (suc i) kind s = kind_at vs ts h.1 i kind s

-- ---- properties

array_there : (p : PropName) (q : Prop) (k : Option Vector) (a : Option ArrayKind) (m : Option ℕ) → all_known (property_term p) k a m ≡ Some q → a ≡ Some q.array
array_there p q None a m e = absurd (let f : None ≡ Some q = e in cc)
array_there p q (Some k) None m e = absurd (let f : None ≡ Some q = e in cc)
array_there p q (Some k) (Some a) None e = absurd (let f : None ≡ Some q = e in cc)
array_there p q (Some k) (Some a) (Some m) e = ap (λ (q : Prop). Some q.array) (some_same (property_term p k a m) q e)

arrays_from : (all before : List Prop) (k : ℕ) (ps : List PropName) (qs : List Prop) → all ≡ before ++ qs → k ≡ length before → PlacedFrom k ps → PropsAre ps qs → Each (λ (p : PropName). ArrayThere p.property (slice_get all p.property.number)) ps
arrays_from all before k [] [] e n h t = tt
arrays_from all before k [] (q ∷ qs) e n h t = absurd t
arrays_from all before k (p ∷ ps) [] e n h t = absurd t
arrays_from all before k (p ∷ ps) (q ∷ qs) e n h t =
    let at : slice_get all p.property.number ≡ Some q = ap (slice_get all) (h.0 ∙ n) ∙ ap (λ xs. slice_get xs (length before)) e ∙ get_middle before q qs in (
      subst (ArrayThere p.property) (sym at) (array_there p q p.property.kind (array_kind p.property.dims) (inner_of p.property.dims) t.0),
      arrays_from all (before ++ q ∷ []) (k + 1) ps qs (e ∙ moved before q qs) (length_next before q k n) h.1 t.1,
    )

each_both : {A : Type 0} (P Q : A → Type 0) (xs : List A) → Each P xs → Each Q xs → Each (λ x. P x × Q x) xs
each_both P Q [] h k = tt
each_both P Q (x ∷ xs) h k = ((h.0, k.0), each_both P Q xs h.1 k.1)

all_there : (ps : List PropName) (qs : List Prop) → PlacedFrom 0 ps → PropsAre ps qs → Each (λ (p : PropName). IsThere qs p.property) ps
all_there ps qs h t =
    each_both (λ (p : PropName). IsDesigned qs p.property) (λ (p : PropName). ArrayThere p.property (slice_get qs p.property.number)) ps (designed_props ps qs h t) (arrays_from qs [] 0 ps qs refl refl h t)

pub statement_places_stand : StatementPlacesStand
statement_places_stand text s is f =
    let clear : IsClear text s = script_clear text s f in
    let n : Space = the_space text s in
    let place : PlaceIs (the_heads text s).enums (length (the_heads text s).names.classes) n = the_space_is text s is clear in
    of_design (λ (d : DesignTerm). InStatement d n × NamesFit n) text s
    (λ c v t a b e.
    let dc : DesignClasses text s c = design_classes text s c is clear a in
    let dv : DesignVars text s v = design_vars text s v is clear b in (
      record {
        props = place.props;
        later = place.later;
        loops = place.loops;
        classes = λ k. all_there (class_props n.classes k) (flat_class_of c k).props (placed_props (the_heads text s).enums n.classes dc.names k) (flat_props (the_heads text s).enums n.classes dc.blocks c k dc.names dc.are);
        numbers = λ k kind i. kind_at n.vars v dv.are k kind i;
        objects = λ o k i. object_class k n.vars v dv.are o (stands_at n.vars o (stand.OfObject k) i);
      },
      place_fits (the_heads text s).enums (length (the_heads text s).names.classes) n place,
    ))
