-- Where statements, blocks and in-line sets of a script stand, everything that can be named is known and fits.
use Rattle.std.proofs.Common.{◌≡◌, ℕ, zero, suc, ◌+◌, ◌*◌, ◌^◌, ◌<◌, ◌≤◌, Bool, true, false, nat_lt, if◌then◌else◌, List, [], ◌∷◌, length, Option, None, Some, refl, sym, ap, subst, suc-mul, arith}
use Rattle.svr_limits.specs.declared.limit.TheConstants.{ELEMENT_LIMIT}
use Rattle.svr_typed.specs.declared.ArrayKind.{ArrayKind}
use Rattle.svr_typed.specs.declared.ArrayKind.TheVariants as array
use Rattle.svr_typed.specs.declared.EnumType.{EnumType}
use Rattle.svr_tree.specs.StmtTree.{stmts_of}
use Rattle.svr_tree.specs.ScriptTree.{ScriptTree}
use Rattle.svr_tree.specs.ScriptGrammar.{IsLevelled}
use Rattle.svr_design.specs.Types as design
use Rattle.svr_design.specs.Types.{IsProp}
use Rattle.svr_design.specs.Lawful.{EachFrom}
use Rattle.svr_elab_names.specs.declared.Vector.{Vector}
use Rattle.svr_elab_names.specs.declared.Dims.{Dims}
use Rattle.svr_elab_names.specs.declared.Dims.TheVariants as dims
use Rattle.svr_elab_names.specs.declared.Global.{Global}
use Rattle.svr_elab_names.specs.declared.Global.TheVariants as global
use Rattle.svr_elab_names.specs.declared.VarStand.{VarStand}
use Rattle.svr_elab_names.specs.declared.VarStand.TheVariants as stand
use Rattle.svr_elab_names.specs.Names.{Space, GlobalName, PropName, ClassName, VarName, Loop}
use Rattle.svr_elab_part.specs.Fits.{Each, KindFits, DimsFit, PropertyFits, MemberFits, GlobalFits, StandFits, ItemFits, NamesFit}
use Rattle.svr_elab_part.specs.Shapes.{all_known, inner_of}
use Rattle.svr_elab_random.specs.declared.Home.{Home}
use Rattle.svr_elab_unit.specs.Listed.{all_listed}
use Rattle.svr_elab_unit.specs.Vars.{stmt_space}
use Rattle.svr_elab.specs.Script.{property_term, array_kind}
use Rattle.svr_elab_expr_laws.specs.Known.{IsKnown, DimsKnown, PropertyKnown, StandKnown, ItemKnown, NamesKnown}
use Rattle.svr_elab_lawful_laws.specs.Declared.{There, VectorIs, MemberIs, GlobalIs, GlobalsAre, PropertyIs, ClassIs, StandIs, VarsStand}
use Rattle.svr_elab_lawful_laws.proofs.Enums.{each_to, globals_are_known}
use Rattle.svr_elab_lawful_laws.proofs.Types.{HeadsAre}
use Rattle.svr_elab_lawful_laws.proofs.Flats.{classes_listed}
use Rattle.svr_elab_lawful_laws.proofs.Whole.{the_heads, the_vars, the_space, IsClear, the_heads_are}
use Rattle.svr_elab_lawful_laws.proofs.Declarations.{the_vars_are}

-- ---- a property of a lawful design is known, and fits

product_left : (n m : ℕ) → 1 ≤ n * m → 1 ≤ n
product_left zero m h = absurd (omega (arith, h))
product_left (suc n) m h = omega arith

product_right : (n m : ℕ) → 1 ≤ n * m → 1 ≤ m
product_right n zero h = absurd (omega (arith, h))
product_right n (suc m) h = omega arith

left_below : (n m : ℕ) → 1 ≤ m → n ≤ n * m
left_below n zero h = absurd (omega (arith, h))
left_below n (suc m) h = grown n m
  where
    grown : (n m : ℕ) → n ≤ n * suc m
    grown zero m = omega arith
    grown (suc n) m = let k : n ≤ n * suc m = grown n m in omega (arith, k, suc-mul n (suc m))

right_below : (n m : ℕ) → 1 ≤ n → m ≤ n * m
right_below zero m h = absurd (omega (arith, h))
right_below (suc n) m h = omega (arith, suc-mul n m)

small : (n : ℕ) → n ≤ 2048 → n < 2 ^ 32
small n h = omega (arith, h)

abbrev Good : PropName → Type 0
Good p = PropertyKnown p.property × PropertyFits p.property

fixed_good : (b : Bool) (n : ℕ) → There (λ (a : ArrayKind). design.HasSize a) (if b then None else Some (array.Fixed n)) → (1 ≤ n) × (n ≤ 2048)
fixed_good true n h = absurd h
fixed_good false n h = h

dims_good : (d : Dims) → There (λ (a : ArrayKind). design.HasSize a) (array_kind d) → DimsKnown d × DimsFit d
dims_good dims.Scalar h = (tt, tt)
dims_good dims.Dynamic h = (tt, tt)
dims_good (dims.Fixed None) h = absurd h
dims_good (dims.Fixed (Some n)) h =
    let k = fixed_good (nat_lt ELEMENT_LIMIT n) n h in
    (refl, (k.0, small n k.1))
dims_good (dims.Rows None m) h = absurd h
dims_good (dims.Rows (Some n) None) h = absurd h
dims_good (dims.Rows (Some n) (Some m)) h =
    let k = fixed_good (nat_lt ELEMENT_LIMIT (n * m)) (n * m) h in
    let some_n : 1 ≤ n = product_left n m k.0 in
    let some_m : 1 ≤ m = product_right n m k.0 in
    let below_n : n ≤ n * m = left_below n m some_m in
    let below_m : m ≤ n * m = right_below n m some_n in
    ((refl, refl), ((some_n, small n (omega (arith, below_n, k.1))), (some_m, small m (omega (arith, below_m, k.1)))))

parts_good : (es : List EnumType) (p : PropName) (k : Option Vector) (a : Option ArrayKind) (m : Option ℕ) → There (IsProp es) (all_known (property_term p) k a m) → (IsKnown k × KindFits k) × There (λ (a : ArrayKind). design.HasSize a) a
parts_good es p None a m h = absurd h
parts_good es p (Some k) None m h = absurd h
parts_good es p (Some k) (Some a) None h = absurd h
parts_good es p (Some k) (Some a) (Some m) h = ((refl, (h.kind.low, h.kind.high)), h.size)

good : (es : List EnumType) (p : PropName) → PropertyIs es p → Good p
good es p h =
    let k = parts_good es p p.property.kind (array_kind p.property.dims) (inner_of p.property.dims) h in
    let d = dims_good p.property.dims k.1 in
    ((k.0.0, d.0), (k.0.1, d.1))

pub property_known : (es : List EnumType) (p : PropName) → PropertyIs es p → PropertyKnown p.property
property_known es p h = (good es p h).0

pub property_fits : (es : List EnumType) (p : PropName) → PropertyIs es p → PropertyFits p.property
property_fits es p h = (good es p h).1

classes_to : (es : List EnumType) (all : List ClassName) (Q : PropName → Type 0) (f : (p : PropName) → PropertyIs es p → Q p) (k : ℕ) (cs : List ClassName) → EachFrom (ClassIs es all) k cs → Each (λ (c : ClassName). Each Q c.props) cs
classes_to es all Q f k [] h = tt
classes_to es all Q f k (c ∷ cs) h = (each_to (PropertyIs es) Q f c.props h.0.props, classes_to es all Q f (k + 1) cs h.1)

-- ---- types, members and variables

vector_fits : (es : List EnumType) (k : Option Vector) → There (VectorIs es) k → KindFits k
vector_fits es None h = absurd h
vector_fits es (Some v) h = (h.kind.low, h.kind.high)

vector_known : (es : List EnumType) (k : Option Vector) → There (VectorIs es) k → IsKnown k
vector_known es None h = absurd h
vector_known es (Some v) h = refl

member_fits : (es : List EnumType) (n : Option ℕ) (k : Option Vector) → MemberIs es n k → MemberFits n k
member_fits es None k h = absurd h
member_fits es (Some n) None h = absurd h
member_fits es (Some n) (Some v) h = ((h.0.kind.low, h.0.kind.high), h.1)

global_fits : (es : List EnumType) (cs : ℕ) (g : Global) → GlobalIs es cs g → GlobalFits g
global_fits es cs (global.OfType kind) h = vector_fits es kind h
global_fits es cs (global.OfClass c) h = tt
global_fits es cs (global.OfMember n kind) h = member_fits es n kind h

stand_known : (es : List EnumType) (cs : ℕ) (v : VarStand) → StandIs es cs v → StandKnown v
stand_known es cs (stand.OfNumber kind) h = vector_known es kind h
stand_known es cs (stand.OfObject c) h = tt

stand_fits : (es : List EnumType) (cs : ℕ) (v : VarStand) → StandIs es cs v → StandFits v
stand_fits es cs (stand.OfNumber kind) h = vector_fits es kind h
stand_fits es cs (stand.OfObject c) h = tt

-- ---- the places of a script

-- a place outside of blocks: these can be named there
pub record PlaceIs (es : List EnumType) (cs : ℕ) (n : Space) : Type 0 where
  pub globals : GlobalsAre es cs n.globals
  pub props : n.props ≡ []
  pub later : n.later ≡ []
  pub loops : n.loops ≡ []
  pub classes : EachFrom (ClassIs es n.classes) 0 n.classes
  pub vars : VarsStand es cs n.vars

pub place_known : (es : List EnumType) (cs : ℕ) (n : Space) → PlaceIs es cs n → NamesKnown n
place_known es cs n h = record {
  globals = globals_are_known es cs n.globals h.globals;
  props = subst (λ (ps : List PropName). Each (λ (p : PropName). PropertyKnown p.property) ps) (sym h.props) tt;
  classes = classes_to es n.classes (λ (p : PropName). PropertyKnown p.property) (property_known es) 0 n.classes h.classes;
  later = h.later;
  loops = subst (λ (ls : List Loop). Each (λ (l : Loop). ItemKnown l.item) ls) (sym h.loops) tt;
  vars = each_to (λ (v : VarName). StandIs es cs v.stands) (λ (v : VarName). StandKnown v.stands) (λ v k. stand_known es cs v.stands k) n.vars h.vars;
}

pub place_fits : (es : List EnumType) (cs : ℕ) (n : Space) → PlaceIs es cs n → NamesFit n
place_fits es cs n h = record {
  globals = each_to (λ (g : GlobalName). GlobalIs es cs g.stands) (λ (g : GlobalName). GlobalFits g.stands) (λ g k. global_fits es cs g.stands k) n.globals h.globals;
  props = subst (λ (ps : List PropName). Each (λ (p : PropName). PropertyFits p.property) ps) (sym h.props) tt;
  classes = classes_to es n.classes (λ (p : PropName). PropertyFits p.property) (property_fits es) 0 n.classes h.classes;
  loops = subst (λ (ls : List Loop). Each (λ (l : Loop). ItemFits l.item) ls) (sym h.loops) tt;
  vars = each_to (λ (v : VarName). StandIs es cs v.stands) (λ (v : VarName). StandFits v.stands) (λ v k. stand_fits es cs v.stands k) n.vars h.vars;
}

-- every name of a script
pub the_space_is : (text : ℕ → List ℕ) (s : ScriptTree) → IsLevelled s → IsClear text s → PlaceIs (the_heads text s).enums (length (the_heads text s).names.classes) (the_space text s)
the_space_is text s is clear =
    let h : HeadsAre text (the_heads text s) = the_heads_are text s is clear.heads in
    let v = the_vars_are text s is clear in
    let hs : List Home = all_listed (stmt_space (the_heads text s).names (the_vars text s).vars) [] (stmts_of s.unit.stmts) in
    record {
      globals = h.globals;
      props = ap (λ (n : Space). n.props) h.place;
      later = ap (λ (n : Space). n.later) h.place;
      loops = ap (λ (n : Space). n.loops) h.place;
      classes = classes_listed (the_heads text s).enums hs (the_heads text s).names.classes h.classes;
      vars = v.vars;
    }

-- other variables stand there
pub with_vars : (es : List EnumType) (cs : ℕ) (n : Space) (vs : List VarName) → PlaceIs es cs n → VarsStand es cs vs → PlaceIs es cs (stmt_space n vs)
with_vars es cs n vs h v = record { globals = h.globals; props = h.props; later = h.later; loops = h.loops; classes = h.classes; vars = v }
