-- A property of a design can be random just where it is declared so or listed.
use Rattle.std.proofs.Common.{◌≡◌, ℕ, zero, suc, ◌+◌, Bool, false, not, ◌||◌, List, [], ◌∷◌, ◌++◌, map, Option, None, Some, option_map, refl, sym, ap, subst, ◌∙◌, arith}
use Rattle.std.specs.Prelude.{⊤, slice_get, MatchOption}
use Rattle.svr_operator.specs.declared.Rand.{Rand}
use Rattle.svr_operator.specs.declared.Rand.TheVariants as rand
use Rattle.svr_typed.specs.declared.ArrayKind.{ArrayKind}
use Rattle.svr_typed.specs.declared.Prop.{Prop}
use Rattle.svr_typed.specs.declared.TVar.{TVar}
use Rattle.svr_typed.specs.declared.VarKind.TheVariants as var_kind
use Rattle.svr_typed.specs.ClassTerm.{ClassTerm}
use Rattle.svr_typed.specs.StmtTerm as stmt_term
use Rattle.svr_typed.specs.StmtTerm.{StmtTerm, DesignTerm}
use Rattle.svr_tree.specs.StmtTree.{stmts_of}
use Rattle.svr_tree.specs.ScriptTree.{ScriptTree}
use Rattle.svr_tree.specs.ScriptGrammar.{IsLevelled}
use Rattle.svr_flat.specs.Flat.{flat_class_of}
use Rattle.svr_design.specs.Statements.{variable_class, kind_class}
use Rattle.svr_design.specs.Lawful.{EachFrom, same, class_homes, shares, is_declared_random, some_lists, CanBeRandom}
use Rattle.svr_elab_fault.specs.declared.Fault.{Fault}
use Rattle.svr_elab_fault.specs.Refusals.{first_one}
use Rattle.svr_elab_names.specs.declared.Vector.{Vector}
use Rattle.svr_elab_names.specs.declared.Property.{Property}
use Rattle.svr_elab_names.specs.declared.VarStand.{VarStand}
use Rattle.svr_elab_names.specs.declared.VarStand.TheVariants as stand
use Rattle.svr_elab_names.specs.Names.{Space, PropName, ClassName, VarName, props_of, class_props}
use Rattle.svr_elab_part.specs.Fits.{Each}
use Rattle.svr_elab_part.specs.Shapes.{all_known, inner_of}
use Rattle.svr_elab_decl.specs.Properties.{is_state}
use Rattle.svr_elab_random.specs.declared.Home.{Home}
use Rattle.svr_elab_random.specs.Random.{is_listed, with_list}
use Rattle.svr_elab_stmt.specs.Stmts.{StmtsElab}
use Rattle.svr_elab_unit.specs.Listed.{all_listed}
use Rattle.svr_elab_unit.specs.Vars as vars_spec
use Rattle.svr_elab_unit.specs.Vars.{stmt_space}
use Rattle.svr_elab.specs.Script as script
use Rattle.svr_elab.specs.Script.{property, property_term, array_kind, variable}
use Rattle.svr_elab_lawful_laws.specs.Declared.{PlacedFrom, ClassIs}
use Rattle.svr_elab_lawful_laws.specs.Lawful.{RandomIsLawful}
use Rattle.svr_elab_lawful_laws.proofs.Types.{Fresh, AllFresh, HeadsAre}
use Rattle.svr_elab_lawful_laws.proofs.Flats.{PropsAre, flat_props, listed_at, get_map}
use Rattle.svr_elab_lawful_laws.proofs.Vars as vars
use Rattle.svr_elab_lawful_laws.proofs.Whole.{the_heads, the_vars, the_space, the_stmts, IsClear, script_clear, of_design, the_heads_are}
use Rattle.svr_elab_lawful_laws.proofs.Declarations.{some_same, each_from_of, each_from_at, from_none, DesignClasses, design_classes, DesignVars, design_vars}
use Rattle.svr_elab_lawful_laws.proofs.Homes.{home_in, homes_in, homes_are, HomeAt, home_there}
use Rattle.svr_elab_lawful_laws.proofs.Found.{StandsAt}
use Rattle.svr_elab_lawful_laws.proofs.Listing.{shared}
use Rattle.svr_elab_lawful_laws.proofs.Calls.{tops_listed, tops_known, values_quiet, known_some, some_of}

-- ---- a property of a design, by its place

-- what a place of a design says of its property
record CanIs (p : PropName) (q : Prop) : Type 0 where
  pub can : q.can ≡ p.property.random
  pub rand : q.rand ≡ p.property.rand

parts_can : (p : PropName) (q : Prop) (k : Option Vector) (a : Option ArrayKind) (m : Option ℕ) → all_known (property_term p) k a m ≡ Some q → CanIs p q
parts_can p q None a m e = absurd (let f : None ≡ Some q = e in cc)
parts_can p q (Some k) None m e = absurd (let f : None ≡ Some q = e in cc)
parts_can p q (Some k) (Some a) None e = absurd (let f : None ≡ Some q = e in cc)
parts_can p q (Some k) (Some a) (Some m) e = subst (CanIs p) (some_same (property_term p k a m) q e) (record { can = refl; rand = refl })

can_is : (p : PropName) (q : Prop) → property p ≡ Some q → CanIs p q
can_is p q e = parts_can p q p.property.kind (array_kind p.property.dims) (inner_of p.property.dims) e

record PropAt (ps : List PropName) (i : ℕ) (q : Prop) : Type 0 where
  pub name : PropName
  pub there : slice_get ps i ≡ Some name
  pub is : CanIs name q

prop_at : (ps : List PropName) (qs : List Prop) → PropsAre ps qs → (i : ℕ) (q : Prop) → slice_get qs i ≡ Some q → PropAt ps i q
prop_at [] [] h i q e = absurd (let f : None ≡ Some q = e in cc)
prop_at [] (r ∷ qs) h i q e = absurd h
prop_at (p ∷ ps) [] h i q e = absurd h
prop_at (p ∷ ps) (r ∷ qs) h zero q e = record { name = p; there = refl; is = subst (CanIs p) (some_same r q e) (can_is p r h.0) }
prop_at (p ∷ ps) (r ∷ qs) h (suc i) q e = let k : PropAt ps i q = prop_at ps qs h.1 i q e in record { name = k.name; there = k.there; is = k.is }

-- the same without what calls list
record Before (hs : List Home) (ps : List PropName) (i : ℕ) (p : PropName) : Type 0 where
  pub name : PropName
  pub there : slice_get ps i ≡ Some name
  pub is : with_list hs name ≡ p

before_from : (hs : List Home) (ps : List PropName) (i : ℕ) (p : PropName) (o : Option PropName) → slice_get ps i ≡ o → option_map (with_list hs) o ≡ Some p → Before hs ps i p
before_from hs ps i p None e f = absurd (let g : None ≡ Some p = f in cc)
before_from hs ps i p (Some x) e f = record { name = x; there = e; is = some_same (with_list hs x) p f }

before_list : (hs : List Home) (ps : List PropName) (i : ℕ) (p : PropName) → slice_get (map (with_list hs) ps) i ≡ Some p → Before hs ps i p
before_list hs ps i p e = before_from hs ps i p (slice_get ps i) refl (sym (get_map (with_list hs) ps i) ∙ e)

placed_at : (k : ℕ) (ps : List PropName) → PlacedFrom k ps → (i : ℕ) (p : PropName) → slice_get ps i ≡ Some p → p.property.number ≡ k + i
placed_at k [] h i p e = absurd (let f : None ≡ Some p = e in cc)
placed_at k (x ∷ ps) h zero p e = subst (λ (y : PropName). y.property.number ≡ k + 0) (some_same x p e) (h.0 ∙ (let f : k ≡ k + 0 = omega arith in f))
placed_at k (x ∷ ps) h (suc i) p e = placed_at (k + 1) ps h.1 i p e ∙ (let f : (k + 1) + i ≡ k + suc i = omega arith in f)

each_at : {A : Type 0} (P : A → Type 0) (xs : List A) → Each P xs → (i : ℕ) (x : A) → slice_get xs i ≡ Some x → P x
each_at P [] h i x e = absurd (let f : None ≡ Some x = e in cc)
each_at P (y ∷ xs) h zero x e = subst P (some_same y x e) h.0
each_at P (y ∷ xs) h (suc i) x e = each_at P xs h.1 i x e

declared : (r : Rand) → not (is_state r) ≡ is_declared_random r
declared rand.State = refl
declared rand.Rand = refl
declared rand.Randc = refl

-- ---- the class of an object variable

object_kind : (c : ℕ) (v : VarName) (t : TVar) → v.stands ≡ stand.OfObject c → variable v ≡ Some t → kind_class t.kind ≡ Some c
object_kind c v t e f =
    let g : option_map (script.named v.name) (script.kind_of (stand.OfObject c)) ≡ Some t = ap (λ (s : VarStand). option_map (script.named v.name) (script.kind_of s)) (sym e) ∙ f in
    ap (λ (t : TVar). kind_class t.kind) (sym (some_same (script.named v.name (var_kind.Object c)) t g))

pub object_class : (c : ℕ) (vs : List VarName) (ts : List TVar) → vars.TermsAre vs ts → (o : ℕ) → StandsAt vs o (stand.OfObject c) → variable_class (slice_get ts o) ≡ Some c
object_class c [] [] h o s = absurd (s.1 refl)
object_class c [] (t ∷ ts) h o s = absurd h
object_class c (v ∷ vs) [] h o s = absurd h
object_class c (v ∷ vs) (t ∷ ts) h zero s = object_kind c v t s.0 h.0
object_class c (v ∷ vs) (t ∷ ts) h (suc o) s = object_class c vs ts h.1 o s

listed_homes : (hs : List Home) (ps : List PropName) → homes_in (map (with_list hs) ps) ≡ homes_in ps
listed_homes hs [] = refl
listed_homes hs (p ∷ ps) = ap (λ (xs : List ℕ). p.property.home ∷ xs) (listed_homes hs ps)

-- ---- the whole

class_places : (cs : List ClassName) → ((j : ℕ) (c : ClassName) → slice_get cs j ≡ Some c → PlacedFrom 0 c.props) → (k : ℕ) (o : Option ClassName) → slice_get cs k ≡ o → PlacedFrom 0 (props_of o)
class_places cs h k None e = tt
class_places cs h k (Some c) e = h k c e

class_fresh : (cs : List ClassName) → AllFresh cs → (k : ℕ) → Each Fresh (class_props cs k)
class_fresh [] h k = tt
class_fresh (c ∷ cs) h zero = h.0
class_fresh (c ∷ cs) h (suc k) = class_fresh cs h.1 k

none_before : (b : Bool) → b ≡ false → false ≡ (false || b)
none_before b e = sym e

no_values : (o : Option (List StmtTerm)) (p : ℕ) (sh : ℕ → Bool) (ts : List StmtTerm) → o ≡ Some ts → MatchOption o ⊤ (λ ts. some_lists sh p (stmt_term.stmts_of ts) ≡ false) → some_lists sh p (stmt_term.stmts_of ts) ≡ false
no_values None p sh ts e h = absurd (let f : None ≡ Some ts = e in cc)
no_values (Some us) p sh ts e h = subst (λ (ts : List StmtTerm). some_lists sh p (stmt_term.stmts_of ts) ≡ false) (some_same us ts e) h

module _ (text : ℕ → List ℕ) (s : ScriptTree) (is : IsLevelled s) (clear : IsClear text s) (c : List ClassTerm) (v : List TVar) (t : List StmtTerm) (dc : DesignClasses text s c) (dv : DesignVars text s v) (there : (the_stmts text s).trees ≡ Some t) where
  abbrev d : DesignTerm
  d = script.design (the_heads text s).enums c v t

  -- without what calls list
  abbrev n : Space
  n = stmt_space (the_heads text s).names (the_vars text s).vars

  abbrev list : List Home
  list = all_listed n [] (stmts_of s.unit.stmts)

  heads : HeadsAre text (the_heads text s)
  heads = the_heads_are text s is clear.heads

  placed : (k : ℕ) → PlacedFrom 0 (class_props n.classes k)
  placed k = class_places n.classes (λ j x g. (each_from_at (ClassIs (the_heads text s).enums n.classes) 0 n.classes heads.classes j j x (from_none j) g).places) k (slice_get n.classes k) refl

  design_homes : (k : ℕ) → class_homes d (Some k) ≡ homes_in (class_props n.classes k)
  design_homes k =
      homes_are (the_heads text s).enums (the_space text s).classes dc.blocks c dc.names dc.are k ∙ ap homes_in (listed_at list n.classes (Some k)) ∙ listed_homes list (class_props n.classes k)

  one_place : (k i : ℕ) (q : Prop) → slice_get (flat_class_of c k).props i ≡ Some q → CanBeRandom d k i q
  one_place k i q e =
      let ps : List PropName = class_props n.classes k in
      let are : PropsAre (class_props (the_space text s).classes k) (flat_class_of c k).props = flat_props (the_heads text s).enums (the_space text s).classes dc.blocks c k dc.names dc.are in
      let a : PropAt (class_props (the_space text s).classes k) i q = prop_at (class_props (the_space text s).classes k) (flat_class_of c k).props are i q e in
      let b : Before list ps i a.name = before_list list ps i a.name (ap (λ (ps : List PropName). slice_get ps i) (sym (listed_at list n.classes (Some k))) ∙ a.there) in
      let x : Property = b.name.property in
      let number : x.number ≡ i = placed_at 0 ps (placed k) i b.name b.there ∙ (let f : 0 + i ≡ i = omega arith in f) in
      let sh : ℕ → Bool = shares d k i in
      let mine : slice_get (class_homes d (Some k)) i ≡ Some x.home =
      ap (λ (hs : List ℕ). slice_get hs i) (design_homes k) ∙ get_map home_in ps i ∙ ap (option_map home_in) b.there in
      let objects : (o e : ℕ) → StandsAt n.vars o (stand.OfObject e) → sh o ≡ shared x i x.home number refl (homes_in (class_props n.classes e)) = λ o e g.
      ap (λ (h : Option ℕ). same h (slice_get (class_homes d (variable_class (slice_get v o))) i)) mine
      ∙ ap (λ (w : Option ℕ). same (Some x.home) (slice_get (class_homes d w) i)) (object_class e n.vars v dv.are o g)
      ∙ ap (λ (hs : List ℕ). same (Some x.home) (slice_get hs i)) (design_homes e) in
      let homes : (e : ℕ) → Each (HomeAt (homes_in (class_props n.classes e))) (class_props n.classes e) = λ e. home_there (class_props n.classes e) (placed e) in
      let values : StmtsElab (Option Fault) = (vars_spec.decls_valued first_one (the_space text s) (vars_spec.no_values first_one []) (the_vars text s).stands (s.unit.outer ++ s.unit.inner)).stmts in
      let known = some_of values.trees (tops_known n list x i x.home number refl sh homes objects n.made s.unit.stmts values (known_some (the_stmts text s).trees t there)) in
      let none : some_lists sh i (stmt_term.stmts_of known.0) ≡ false =
      no_values values.trees i sh known.0 known.1 (values_quiet n list x i x.home number refl sh homes objects (the_space text s) (vars_spec.no_values first_one []) (the_vars text s).stands (s.unit.outer ++ s.unit.inner) refl) in
      let all : is_listed list x ≡ (false || some_lists sh i (stmt_term.stmts_of t)) =
      tops_listed n list x i x.home number refl sh homes objects n.made [] s.unit.stmts values known.0 false t known.1 (none_before (some_lists sh i (stmt_term.stmts_of known.0)) none) there clear.stmts in
      let fresh : Fresh b.name = each_at Fresh ps (class_fresh n.classes heads.fresh k) i b.name b.there in
      a.is.can ∙ ap (λ (p : PropName). p.property.random) (sym b.is)
      ∙ ap (λ (r : Bool). r || is_listed list x) (fresh ∙ declared x.rand) ∙ ap (λ (r : Bool). is_declared_random x.rand || r) all
      ∙ ap (λ (r : Rand). is_declared_random r || some_lists sh i (stmt_term.stmts_of t)) (ap (λ (p : PropName). p.property.rand) b.is ∙ sym a.is.rand)

  pub all_places : EachFrom (λ k (x : ClassTerm). EachFrom (CanBeRandom d k) 0 (flat_class_of c k).props) 0 c
  all_places =
      each_from_of (λ k (x : ClassTerm). EachFrom (CanBeRandom d k) 0 (flat_class_of c k).props) 0 c
      (λ i k x m g. each_from_of (CanBeRandom d k) 0 (flat_class_of c k).props (λ a b q e f. subst (λ (j : ℕ). CanBeRandom d k j q) (from_none a ∙ sym e) (one_place k a q f)))

pub random_is_lawful : RandomIsLawful
random_is_lawful text s is f =
    let clear : IsClear text s = script_clear text s f in
    of_design (λ (d : DesignTerm). EachFrom (λ k (c : ClassTerm). EachFrom (CanBeRandom d k) 0 (flat_class_of d.classes k).props) 0 d.classes) text s
    (λ c v t a b e. all_places text s is clear c v t (design_classes text s c is clear a) (design_vars text s v is clear b) e)
