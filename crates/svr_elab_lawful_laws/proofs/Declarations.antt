-- The classes and variables of the design of a script in which nothing is refused.
use Rattle.std.proofs.Common.{◌≡◌, ℕ, zero, suc, ◌+◌, ◌<◌, ◌≤◌, List, [], ◌∷◌, ◌++◌, length, Option, None, Some, refl, sym, ap, subst, ◌∙◌, arith}
use Rattle.std.specs.Prelude.{slice_get}
use Rattle.svr_limits.specs.declared.limit.TheConstants.{PROPERTY_LIMIT}
use Rattle.svr_typed.specs.declared.EnumType.{EnumType}
use Rattle.svr_typed.specs.declared.TVar.{TVar}
use Rattle.svr_typed.specs.declared.VarKind.{VarKind}
use Rattle.svr_typed.specs.declared.VarKind.TheVariants as var_kind
use Rattle.svr_typed.specs.ClassTerm.{BlockTerm, ClassTerm}
use Rattle.svr_typed.specs.StmtTerm.{DesignTerm}
use Rattle.svr_tree.specs.declared.Top.{Top}
use Rattle.svr_tree.specs.declared.Top.TheVariants as top
use Rattle.svr_tree.specs.DeclTree as tree
use Rattle.svr_tree.specs.DeclTree.{TypeTree, ClassTree, MemberTree, DefinitionTree}
use Rattle.svr_tree.specs.StmtTree.{stmts_of}
use Rattle.svr_tree.specs.ScriptTree.{ScriptTree}
use Rattle.svr_tree.specs.ScriptGrammar.{IsLevelled, IsOrder}
use Rattle.svr_flat.specs.Flat.{flat_class_of}
use Rattle.svr_design.specs.Types.{NamesDiffer}
use Rattle.svr_design.specs.Lawful.{Every, EachFrom, BaseIsBefore, VariableStands, objects_in}
use Rattle.svr_elab_fault.specs.declared.Fault.{Fault}
use Rattle.svr_elab_fault.specs.Refusals.{first_one}
use Rattle.svr_elab_names.specs.declared.Vector.{Vector}
use Rattle.svr_elab_names.specs.Names.{Space, ClassName, VarName, props_of}
use Rattle.svr_elab_part.specs.Shapes.{and_more}
use Rattle.svr_elab_type.specs.Types as types
use Rattle.svr_elab_type.specs.Types.{GlobalsElab, EnumElab}
use Rattle.svr_elab_class.specs.Classes.{class_decl}
use Rattle.svr_elab_tops.specs.InOrder.{types_and_classes}
use Rattle.svr_elab_random.specs.declared.Home.{Home}
use Rattle.svr_elab_random.specs.Random.{classes_with}
use Rattle.svr_elab_block.specs.Blocks.{BodiesElab, bodies, no_bodies, with_class, body}
use Rattle.svr_elab_unit.specs.Listed.{all_listed}
use Rattle.svr_elab_unit.specs.Vars.{stmt_space}
use Rattle.svr_elab.specs.Script as script
use Rattle.svr_elab.specs.Script.{faults_of, design_in}
use Rattle.svr_elab_lawful_laws.specs.Declared.{ClassIs}
use Rattle.svr_elab_lawful_laws.specs.Lawful.{ClassStands, ClassesAreLawful, VariablesAreLawful, VariablesAreFew}
use Rattle.svr_elab_lawful_laws.proofs.Enums.{length_last}
use Rattle.svr_elab_lawful_laws.proofs.Types.{HeadsAre}
use Rattle.svr_elab_lawful_laws.proofs.Flats.{PropsAre, TermIs, TermsAre, ClassTerms, class_terms_of, classes_listed, flat_props, as_many, same_names, same_arrays}
use Rattle.svr_elab_lawful_laws.proofs.Vars as vars
use Rattle.svr_elab_lawful_laws.proofs.Vars.{VarsAre, VarTerms, vars_are, no_vars_are, var_terms, few_of_others, KindIs}
use Rattle.svr_elab_lawful_laws.proofs.Whole.{the_heads, the_vars, the_space, the_bodies, the_classes, the_variables, IsClear, script_clear, of_design, the_heads_are}

-- ---- lists by places

pub some_same : {A : Type 0} (x y : A) → Some x ≡ Some y → x ≡ y
some_same x y e = cc

pub each_from_of : {A : Type 0} (P : ℕ → A → Type 0) (k : ℕ) (xs : List A) → ((i j : ℕ) (x : A) → j ≡ k + i → slice_get xs i ≡ Some x → P j x) → EachFrom P k xs
each_from_of P k [] h = tt
each_from_of P k (x ∷ xs) h = (h 0 k x (let e : k ≡ k + 0 = omega arith in e) refl, each_from_of P (k + 1) xs (λ i j y e g. h (suc i) j y (e ∙ moved k i) g))
  where
    moved : (k i : ℕ) → (k + 1) + i ≡ k + suc i
    moved k i = omega arith

pub each_from_at : {A : Type 0} (P : ℕ → A → Type 0) (k : ℕ) (xs : List A) → EachFrom P k xs → (i j : ℕ) (x : A) → j ≡ k + i → slice_get xs i ≡ Some x → P j x
each_from_at P k [] h i j x e g = absurd (let f : None ≡ Some x = g in cc)
each_from_at P k (y ∷ xs) h zero j x e g =
    let same : y ≡ x = some_same y x g in
    let here : k ≡ j = (let f : k ≡ k + 0 = omega arith in f) ∙ sym e in
    subst (λ z. P j z) same (subst (λ n. P n y) here h.0)
each_from_at P k (y ∷ xs) h (suc i) j x e g = each_from_at P (k + 1) xs h.1 i j x (e ∙ moved k i) g
  where
    moved : (k i : ℕ) → k + suc i ≡ (k + 1) + i
    moved k i = omega arith

pub from_none : (i : ℕ) → i ≡ 0 + i
from_none i = omega arith

-- ---- as many classes as are declared

members_classes : (base : Option Vector) (ms : List MemberTree) (t : EnumElab (Option Fault)) → (types.enum_members first_one base t ms).names.classes ≡ t.names.classes
members_classes base [] t = refl
members_classes base (m ∷ ms) t = members_classes base ms (types.and_member first_one base m.name t (types.member_number first_one t.names t.next m.value))

pub type_classes : (s : GlobalsElab (Option Fault)) (name : ℕ) (d : DefinitionTree) → (types.definition first_one s name d).names.classes ≡ s.names.classes
type_classes s name (tree.enum d) = members_classes _ d.members _
type_classes s name (tree.plain t) = refl

heads_counted : (ts : List TypeTree) (cs : List ClassTree) (os : List Top) (s : GlobalsElab (Option Fault)) → IsOrder ts cs os → length (types_and_classes first_one s os ts cs).names.classes ≡ length s.names.classes + length cs
heads_counted [] [] [] s o = let e : length s.names.classes ≡ length s.names.classes + 0 = omega arith in e
heads_counted [] (c ∷ cs) [] s o = absurd o
heads_counted (t ∷ ts) [] [] s o = absurd o
heads_counted (t ∷ ts) (c ∷ cs) [] s o = absurd o
heads_counted [] [] (top.OfType ∷ os) s o = absurd o
heads_counted [] (c ∷ cs) (top.OfType ∷ os) s o = absurd o
heads_counted (t ∷ ts) cs (top.OfType ∷ os) s o =
    heads_counted ts cs os (types.type_decl first_one s t) o ∙ ap (λ (ks : List ClassName). length ks + length cs) (type_classes s t.name t.definition)
heads_counted [] [] (top.OfClass ∷ os) s o = absurd o
heads_counted (t ∷ ts) [] (top.OfClass ∷ os) s o = absurd o
heads_counted [] (c ∷ cs) (top.OfClass ∷ os) s o =
    heads_counted [] cs os (class_decl first_one s c) o ∙ one_class (length s.names.classes) (length (class_decl first_one s c).names.classes) (length cs) (length_last s.names.classes _)
  where
    one_class : (n m k : ℕ) → m ≡ suc n → m + k ≡ n + suc k
    one_class n m k e = omega (arith, e)
heads_counted (t ∷ ts) (c ∷ cs) (top.OfClass ∷ os) s o =
    heads_counted (t ∷ ts) cs os (class_decl first_one s c) o ∙ one_class (length s.names.classes) (length (class_decl first_one s c).names.classes) (length cs) (length_last s.names.classes _)
  where
    one_class : (n m k : ℕ) → m ≡ suc n → m + k ≡ n + suc k
    one_class n m k e = omega (arith, e)

more_blocks : (xs : Option (List (List BlockTerm))) (x : Option (List BlockTerm)) (m : ℕ) → ((bs : List (List BlockTerm)) → xs ≡ Some bs → length bs ≡ m) → (bs : List (List BlockTerm)) → and_more xs x ≡ Some bs → length bs ≡ suc m
more_blocks None x m h bs e = absurd (let f : None ≡ Some bs = e in cc)
more_blocks (Some xs) None m h bs e = absurd (let f : None ≡ Some bs = e in cc)
more_blocks (Some xs) (Some x) m h bs e =
    let same : xs ++ x ∷ [] ≡ bs = some_same (xs ++ x ∷ []) bs e in
    sym (ap (λ (ys : List (List BlockTerm)). length ys) same) ∙ length_last xs x ∙ ap suc (h xs refl)

pub bodies_counted : (n : Space) (s : BodiesElab (Option Fault)) (k m : ℕ) (cs : List ClassTree) → ((bs : List (List BlockTerm)) → s.blocks ≡ Some bs → length bs ≡ m)
    → (bs : List (List BlockTerm)) → (bodies first_one n s k cs).blocks ≡ Some bs → length bs ≡ m + length cs
bodies_counted n s k m [] h bs e = h bs e ∙ (let f : m ≡ m + 0 = omega arith in f)
bodies_counted n s k m (c ∷ cs) h bs e =
    let b = body first_one n k c in
    bodies_counted n (with_class first_one n s k b) (k + 1) (suc m) cs (more_blocks s.blocks b.blocks m h) bs e ∙ (let f : suc m + length cs ≡ m + suc (length cs) = omega arith in f)

-- ---- the classes of a design

classes_parts : (cs : List ClassName) (o : Option (List (List BlockTerm))) (ts : List ClassTerm) → script.all_classes cs o ≡ Some ts → (bs : List (List BlockTerm)) × (o ≡ Some bs) × (script.classes (Some []) cs bs ≡ Some ts)
classes_parts cs None ts e = absurd (let f : None ≡ Some ts = e in cc)
classes_parts cs (Some bs) ts e = (bs, refl, e)

-- what stands in the design is what is known of each class
pub record DesignClasses (text : ℕ → List ℕ) (s : ScriptTree) (ts : List ClassTerm) : Type 0 where
  pub blocks : List (List BlockTerm)
  pub bodies : (the_bodies text s).blocks ≡ Some blocks
  pub names : EachFrom (ClassIs (the_heads text s).enums (the_space text s).classes) 0 (the_space text s).classes
  pub are : TermsAre (the_heads text s).enums (the_space text s).classes blocks ts
  pub count : length ts ≡ length (the_heads text s).names.classes

terms_counted : (es : List EnumType) (cs : List ClassName) (bs : List (List BlockTerm)) (ts : List ClassTerm) → TermsAre es cs bs ts → length ts ≡ length cs
terms_counted es [] bs [] h = refl
terms_counted es [] bs (t ∷ ts) h = absurd h
terms_counted es (c ∷ cs) [] [] h = absurd h
terms_counted es (c ∷ cs) [] (t ∷ ts) h = absurd h
terms_counted es (c ∷ cs) (b ∷ bs) [] h = absurd h
terms_counted es (c ∷ cs) (b ∷ bs) (t ∷ ts) h = ap suc (terms_counted es cs bs ts h.1)

listed_counted : (hs : List Home) (cs : List ClassName) → length (classes_with hs cs) ≡ length cs
listed_counted hs [] = refl
listed_counted hs (c ∷ cs) = ap suc (listed_counted hs cs)

-- as many lists of blocks as classes
pub all_blocks_counted : (text : ℕ → List ℕ) (s : ScriptTree) → IsLevelled s → (bs : List (List BlockTerm)) → (the_bodies text s).blocks ≡ Some bs → length bs ≡ length (the_space text s).classes
all_blocks_counted text s is bs e =
    let hs : List Home = all_listed (stmt_space (the_heads text s).names (the_vars text s).vars) [] (stmts_of s.unit.stmts) in
    let heads : length (the_heads text s).names.classes ≡ 0 + length s.classes = heads_counted s.types s.classes s.order (script.no_globals first_one text) is.order in
    let blocks : length bs ≡ 0 + length s.classes =
    bodies_counted (the_space text s) (no_bodies first_one) 0 0 s.classes (λ ks f. sym (ap (λ (ys : List (List BlockTerm)). length ys) (some_same [] ks f))) bs e in
    blocks ∙ sym heads ∙ sym (listed_counted hs (the_heads text s).names.classes)

pub design_classes : (text : ℕ → List ℕ) (s : ScriptTree) (ts : List ClassTerm) → IsLevelled s → IsClear text s → the_classes text s ≡ Some ts → DesignClasses text s ts
design_classes text s ts is clear e =
    let h : HeadsAre text (the_heads text s) = the_heads_are text s is clear.heads in
    let es : List EnumType = (the_heads text s).enums in
    let cs : List ClassName = (the_space text s).classes in
    let hs : List Home = all_listed (stmt_space (the_heads text s).names (the_vars text s).vars) [] (stmts_of s.unit.stmts) in
    let names : EachFrom (ClassIs es cs) 0 cs = classes_listed es hs (the_heads text s).names.classes h.classes in
    let parts = classes_parts cs (the_bodies text s).blocks ts e in
    let many : length parts.0 ≡ length cs = all_blocks_counted text s is parts.0 parts.1 in
    let t : ClassTerms es cs parts.0 [] = class_terms_of es cs 0 cs parts.0 [] names many in
    let same : t.terms ≡ ts = some_same t.terms ts (sym t.known ∙ parts.2) in
    let are : TermsAre es cs parts.0 ts = subst (TermsAre es cs parts.0) same t.are in
    record {
      blocks = parts.0;
      bodies = parts.1;
      names = names;
      are = are;
      count = terms_counted es cs parts.0 ts are ∙ listed_counted hs (the_heads text s).names.classes;
    }

-- a class of a design, with what is known of it
pub record Together (es : List EnumType) (cs : List ClassName) (i : ℕ) (t : ClassTerm) : Type 0 where
  pub name : ClassName
  pub blocks : List BlockTerm
  pub there : slice_get cs i ≡ Some name
  pub term : TermIs es name blocks t

pub term_at : (es : List EnumType) (cs : List ClassName) (bs : List (List BlockTerm)) (ts : List ClassTerm) → TermsAre es cs bs ts → (i : ℕ) (t : ClassTerm) → slice_get ts i ≡ Some t → Together es cs i t
term_at es [] bs [] h i t e = absurd (let f : None ≡ Some t = e in cc)
term_at es [] bs (u ∷ ts) h i t e = absurd h
term_at es (c ∷ cs) [] [] h i t e = absurd h
term_at es (c ∷ cs) [] (u ∷ ts) h i t e = absurd h
term_at es (c ∷ cs) (b ∷ bs) [] h i t e = absurd h
term_at es (c ∷ cs) (b ∷ bs) (u ∷ ts) h zero t e = record { name = c; blocks = b; there = refl; term = subst (TermIs es c b) (some_same u t e) h.0 }
term_at es (c ∷ cs) (b ∷ bs) (u ∷ ts) h (suc i) t e =
    let k : Together es cs i t = term_at es cs bs ts h.1 i t e in
    record { name = k.name; blocks = k.blocks; there = k.there; term = k.term }

pub flat_of_class : (es : List EnumType) (cs : List ClassName) (bs : List (List BlockTerm)) (ts : List ClassTerm) (i : ℕ) (c : ClassName) → EachFrom (ClassIs es cs) 0 cs → TermsAre es cs bs ts → slice_get cs i ≡ Some c → PropsAre c.props (flat_class_of ts i).props
flat_of_class es cs bs ts i c h t e = subst (λ (o : Option ClassName). PropsAre (props_of o) (flat_class_of ts i).props) e (flat_props es cs bs ts i h t)

class_stands : (d : DesignTerm) (cs : List ClassName) (bs : List (List BlockTerm)) → EachFrom (ClassIs d.enums cs) 0 cs → TermsAre d.enums cs bs d.classes → (i : ℕ) (t : ClassTerm) → slice_get d.classes i ≡ Some t → ClassStands d i t
class_stands d cs bs names are i t e =
    let k : Together d.enums cs i t = term_at d.enums cs bs d.classes are i t e in
    let c : ClassIs d.enums cs i k.name = each_from_at (ClassIs d.enums cs) 0 cs names i i k.name (from_none i) k.there in
    let flat : PropsAre k.name.props (flat_class_of d.classes i).props = flat_of_class d.enums cs bs d.classes i k.name names are k.there in
    record {
      base = subst (BaseIsBefore i) (sym k.term.base) c.base;
      props = k.term.every;
      few = subst (λ (n : ℕ). n ≤ PROPERTY_LIMIT) (as_many k.name.props (flat_class_of d.classes i).props flat) c.few;
      few_arrays = subst (λ (n : ℕ). n ≤ 32) (sym (same_arrays k.name.props (flat_class_of d.classes i).props flat)) c.few_arrays;
      differ = subst NamesDiffer (sym (same_names k.name.props (flat_class_of d.classes i).props flat)) c.differ;
    }

pub classes_are_lawful : ClassesAreLawful
classes_are_lawful text s is f =
    let clear : IsClear text s = script_clear text s f in
    of_design (λ (d : DesignTerm). EachFrom (ClassStands d) 0 d.classes) text s
    (λ c v t a b e.
    let d : DesignTerm = script.design (the_heads text s).enums c v t in
    let k : DesignClasses text s c = design_classes text s c is clear a in
    each_from_of (ClassStands d) 0 c (λ i j x m g. subst (λ (n : ℕ). ClassStands d n x) (from_none i ∙ sym m) (class_stands d (the_space text s).classes k.blocks k.names k.are i x g)))

-- ---- variables

pub the_vars_are : (text : ℕ → List ℕ) (s : ScriptTree) → IsLevelled s → IsClear text s → VarsAre (the_heads text s).enums (length (the_heads text s).names.classes) (the_vars text s)
the_vars_are text s is clear =
    let h : HeadsAre text (the_heads text s) = the_heads_are text s is clear.heads in
    let es : List EnumType = (the_heads text s).enums in
    let cs : ℕ = length (the_heads text s).names.classes in
    vars_are es cs (the_heads text s).names h.globals (s.unit.outer ++ s.unit.inner) _ (λ g. no_vars_are es cs) clear.vars

pub record DesignVars (text : ℕ → List ℕ) (s : ScriptTree) (ts : List TVar) : Type 0 where
  pub are : vars.TermsAre (the_vars text s).vars ts
  pub every : Every (λ (t : TVar). KindIs (the_heads text s).enums (length (the_heads text s).names.classes) t.kind) ts
  pub objects : objects_in ts ≡ vars.objects_of (the_vars text s).vars
  pub count : length ts ≡ length (the_vars text s).vars

pub design_vars : (text : ℕ → List ℕ) (s : ScriptTree) (ts : List TVar) → IsLevelled s → IsClear text s → the_variables text s ≡ Some ts → DesignVars text s ts
design_vars text s ts is clear e =
    let es : List EnumType = (the_heads text s).enums in
    let cs : ℕ = length (the_heads text s).names.classes in
    let v : VarTerms es cs (the_vars text s).vars [] = var_terms es cs (the_vars text s).vars [] (the_vars_are text s is clear).vars in
    let same : v.terms ≡ ts = some_same v.terms ts (sym v.known ∙ e) in
    record {
      are = subst (vars.TermsAre (the_vars text s).vars) same v.are;
      every = subst (Every (λ (t : TVar). KindIs es cs t.kind)) same v.every;
      objects = subst (λ (ts : List TVar). objects_in ts ≡ vars.objects_of (the_vars text s).vars) same v.objects;
      count = subst (λ (ts : List TVar). length ts ≡ length (the_vars text s).vars) same v.count;
    }

kind_stands : (d : DesignTerm) (cs : ℕ) (k : VarKind) → length d.classes ≡ cs → KindIs d.enums cs k → VariableStands d k
kind_stands d cs (var_kind.Number k) e h = h
kind_stands d cs (var_kind.Object c) e h = subst (λ (n : ℕ). c < n) (sym e) h

kinds_stand : (d : DesignTerm) (cs : ℕ) (ts : List TVar) → length d.classes ≡ cs → Every (λ (t : TVar). KindIs d.enums cs t.kind) ts → Every (λ (t : TVar). VariableStands d t.kind) ts
kinds_stand d cs [] e h = tt
kinds_stand d cs (t ∷ ts) e h = (kind_stands d cs t.kind e h.0, kinds_stand d cs ts e h.1)

pub variables_are_lawful : VariablesAreLawful
variables_are_lawful text s is f =
    let clear : IsClear text s = script_clear text s f in
    of_design (λ (d : DesignTerm). Every (λ (v : TVar). VariableStands d v.kind) d.vars) text s
    (λ c v t a b e.
    let d : DesignTerm = script.design (the_heads text s).enums c v t in
    kinds_stand d (length (the_heads text s).names.classes) v (design_classes text s c is clear a).count (design_vars text s v is clear b).every)

pub variables_are_few : VariablesAreFew
variables_are_few text s is f =
    let clear : IsClear text s = script_clear text s f in
    let all = the_vars_are text s is clear in
    of_design (λ (d : DesignTerm). (objects_in d.vars ≤ 4096) × (length d.vars ≤ objects_in d.vars + 4096)) text s
    (λ c v t a b e.
    let k : DesignVars text s v = design_vars text s v is clear b in
    let vs : List VarName = (the_vars text s).vars in (
      subst (λ (n : ℕ). n ≤ 4096) (sym k.objects) all.few_objects,
      subst (λ (n : ℕ). n ≤ objects_in v + 4096) (sym k.count) (subst (λ (n : ℕ). length vs ≤ n + 4096) (sym k.objects) (few_of_others vs all.few_others)),
    ))
