-- The variables of a script in which nothing is refused.
use Rattle.std.proofs.Common.{◌≡◌, ℕ, suc, ◌+◌, ◌<◌, ◌≤◌, min, Bool, true, false, not, nat_le, if◌then◌else◌, List, [], ◌∷◌, ◌++◌, length, Option, None, Some, is_some, refl, sym, ap, subst, ◌∙◌, append-nil, arith}
use Rattle.std.specs.Prelude.{⊤}
use Rattle.std.proofs.lemmas.Bool.Decides.{nat_tests}
use Rattle.svr_typed.specs.declared.EnumType.{EnumType}
use Rattle.svr_typed.specs.declared.TVar.{TVar}
use Rattle.svr_typed.specs.declared.VarKind.{VarKind}
use Rattle.svr_typed.specs.declared.VarKind.TheVariants as var_kind
use Rattle.svr_tree.specs.DeclTree.{VarTree, VarDeclaratorTree}
use Rattle.svr_refusal.specs.declared.Refusal.TheVariants as refusal
use Rattle.svr_design.specs.Types.{IsKind}
use Rattle.svr_design.specs.Statements.{kind_class}
use Rattle.svr_design.specs.Lawful.{Every, objects_in}
use Rattle.svr_elab_fault.specs.declared.Fault.{Fault}
use Rattle.svr_elab_fault.specs.Refusals.{first_one, when, earlier}
use Rattle.svr_elab_names.specs.declared.Vector.{Vector}
use Rattle.svr_elab_names.specs.declared.VarStand.{VarStand}
use Rattle.svr_elab_names.specs.declared.VarStand.TheVariants as stand
use Rattle.svr_elab_names.specs.Names.{Space, VarName, is_name}
use Rattle.svr_elab_part.specs.Fits.{Each}
use Rattle.svr_elab_part.specs.Shapes.{and_more}
use Rattle.svr_elab_part.proofs.Valued.{none_left, none_right, not_when}
use Rattle.svr_elab_decl.specs.Properties.{Used, UsedElab, data_type, numbers, objects, unnamed}
use Rattle.svr_elab_unit.specs.Vars as spec
use Rattle.svr_elab_unit.specs.Vars.{VarsElab, stmt_space}
use Rattle.svr_elab.specs.Script as script
use Rattle.svr_elab_lawful_laws.specs.Declared.{There, VectorIs, GlobalsAre, StandIs, VarsStand}
use Rattle.svr_elab_lawful_laws.proofs.Enums.{each_last}
use Rattle.svr_elab_lawful_laws.proofs.Properties.{UsedIs, data_type_is}

abbrev Vars : Type 0
Vars = VarsElab (Option Fault)

-- ---- how many

abbrev bump : Bool → ℕ → ℕ
bump b n = if b then n + 1 else n

abbrev pub objects_of : List VarName → ℕ
objects_of [] = 0
objects_of (v ∷ vs) = bump (spec.is_object_stand v.stands) (objects_of vs)

abbrev pub others_of : List VarName → ℕ
others_of [] = 0
others_of (v ∷ vs) = bump (not (spec.is_object_stand v.stands)) (others_of vs)

bumps : (a b : Bool) (n : ℕ) → bump a (bump b n) ≡ bump b (bump a n)
bumps true true n = refl
bumps true false n = refl
bumps false true n = refl
bumps false false n = refl

objects_last : (vs : List VarName) (x : VarName) → objects_of (vs ++ x ∷ []) ≡ bump (spec.is_object_stand x.stands) (objects_of vs)
objects_last [] x = refl
objects_last (v ∷ vs) x = ap (bump (spec.is_object_stand v.stands)) (objects_last vs x) ∙ bumps (spec.is_object_stand v.stands) (spec.is_object_stand x.stands) (objects_of vs)

others_last : (vs : List VarName) (x : VarName) → others_of (vs ++ x ∷ []) ≡ bump (not (spec.is_object_stand x.stands)) (others_of vs)
others_last [] x = refl
others_last (v ∷ vs) x = ap (bump (not (spec.is_object_stand v.stands))) (others_last vs x) ∙ bumps (not (spec.is_object_stand v.stands)) (not (spec.is_object_stand x.stands)) (others_of vs)

pub together : (vs : List VarName) → length vs ≡ objects_of vs + others_of vs
together [] = refl
together (v ∷ vs) = one (spec.is_object_stand v.stands) (length vs) (objects_of vs) (others_of vs) (together vs)
  where
    one : (b : Bool) (n a c : ℕ) → n ≡ a + c → suc n ≡ bump b a + bump (not b) c
    one true n a c e = omega (arith, e)
    one false n a c e = omega (arith, e)

-- ---- the variables so far

pub record VarsAre (es : List EnumType) (cs : ℕ) (s : Vars) : Type 0 where
  pub vars : VarsStand es cs s.vars
  pub stands : Each (StandIs es cs) s.stands
  pub objects : s.objects ≡ objects_of s.vars
  pub others : s.others ≡ others_of s.vars
  pub few_objects : objects_of s.vars ≤ 4096
  pub few_others : others_of s.vars ≤ 4096

stand_is : (es : List EnumType) (cs : ℕ) (u : Used) → UsedIs es cs u → StandIs es cs (spec.stand_of u)
stand_is es cs (numbers kind) h = h
stand_is es cs (objects c) h = h
stand_is es cs unnamed h = absurd h

below_limit : (n : ℕ) → nat_le 4096 n ≡ false → suc n ≤ 4096
below_limit n h = grind (arith, nat_tests, h)

one_more : (n m : ℕ) → n ≡ m → suc n ≤ 4096 → (min 4096 (n + 1) ≡ m + 1) × (m + 1 ≤ 4096)
one_more n m e h = (omega (arith, e, h), omega (arith, e, h))

no_more : (n m : ℕ) → n ≡ m → m ≤ 4096 → min 4096 n ≡ m
no_more n m e h = omega (arith, e, h)

module _ (es : List EnumType) (cs : ℕ) where
  -- one more variable of a new name
  added : (s : Vars) (name : ℕ) (q : List ℕ) (k : VarStand) → VarsAre es cs s → StandIs es cs k → is_name (λ (v : VarName). v.name) q s.vars ≡ false
      → nat_le 4096 (spec.of_sort (spec.is_object_stand k) s.objects s.others) ≡ false → VarsAre es cs (spec.and_var first_one s name q k)
  added s name q k h i new few =
      let x : VarName = record { name = q; stands = k } in
      let grown : spec.and_var_name s.vars q k ≡ s.vars ++ x ∷ [] = ap (λ (t : Bool). if t then s.vars else s.vars ++ x ∷ []) new in
      let both = counts k few in
      record {
        vars = subst (VarsStand es cs) (sym grown) (each_last (λ (v : VarName). StandIs es cs v.stands) s.vars x h.vars i);
        stands = h.stands;
        objects = both.0 ∙ sym (objects_last s.vars x) ∙ ap objects_of (sym grown);
        others = both.1 ∙ sym (others_last s.vars x) ∙ ap others_of (sym grown);
        few_objects = subst (λ (n : ℕ). n ≤ 4096) (sym (objects_last s.vars x) ∙ ap objects_of (sym grown)) both.2.0;
        few_others = subst (λ (n : ℕ). n ≤ 4096) (sym (others_last s.vars x) ∙ ap others_of (sym grown)) both.2.1;
      }
    where
      counts : (k : VarStand) → nat_le 4096 (spec.of_sort (spec.is_object_stand k) s.objects s.others) ≡ false
          → (spec.one_more s.objects (spec.is_object_stand k) ≡ bump (spec.is_object_stand k) (objects_of s.vars)) × (spec.one_more s.others (not (spec.is_object_stand k)) ≡ bump (not (spec.is_object_stand k)) (others_of s.vars))
          × ((bump (spec.is_object_stand k) (objects_of s.vars) ≤ 4096) × (bump (not (spec.is_object_stand k)) (others_of s.vars) ≤ 4096))
      counts (stand.OfNumber kind) f =
          let a = one_more s.others (others_of s.vars) h.others (below_limit s.others f) in
          (no_more s.objects (objects_of s.vars) h.objects h.few_objects, a.0, (h.few_objects, a.1))
      counts (stand.OfObject c) f =
          let a = one_more s.objects (objects_of s.vars) h.objects (below_limit s.objects f) in
          (a.0, no_more s.others (others_of s.vars) h.others h.few_others, (a.1, h.few_others))

  one_var : (s : Vars) (name : ℕ) (q : List ℕ) (k : VarStand) → (s.faults ≡ None → StandIs es cs k) → (s.faults ≡ None → VarsAre es cs s) → (spec.and_var first_one s name q k).faults ≡ None → VarsAre es cs (spec.and_var first_one s name q k)
  one_var s name q k i before f =
      let count : ℕ = spec.of_sort (spec.is_object_stand k) s.objects s.others in
      let w1 : Option Fault = when first_one (is_name (λ (v : VarName). v.name) q s.vars) name refusal.DoubleName in
      let w2 : Option Fault = when first_one (nat_le 4096 count) name refusal.TooMany in
      let clear : s.faults ≡ None = none_left s.faults (earlier w1 w2) f in
      let f1 : earlier w1 w2 ≡ None = none_right s.faults (earlier w1 w2) f in
      added s name q k (before clear) (i clear) (not_when (is_name (λ (v : VarName). v.name) q s.vars) name refusal.DoubleName (none_left w1 w2 f1)) (not_when (nat_le 4096 count) name refusal.TooMany (none_right w1 w2 f1))

  all_vars : (text : ℕ → List ℕ) (s : Vars) (k : VarStand) (ds : List VarDeclaratorTree) → (s.faults ≡ None → StandIs es cs k) → (s.faults ≡ None → VarsAre es cs s) → (spec.and_vars first_one text s k ds).faults ≡ None
      → VarsAre es cs (spec.and_vars first_one text s k ds)
  all_vars text s k [] i before f = before f
  all_vars text s k (d ∷ ds) i before f =
      all_vars text (spec.and_var first_one s d.name (text d.name) k) k ds (λ g. i (none_left _ _ g)) (λ g. one_var s d.name (text d.name) k i before g) f

  var_decl : (n : Space) → GlobalsAre es cs n.globals → (s : Vars) (v : VarTree) → (s.faults ≡ None → VarsAre es cs s) → (spec.var_decl first_one n s v).faults ≡ None → VarsAre es cs (spec.var_decl first_one n s v)
  var_decl n globals s v before f =
      let u : UsedElab (Option Fault) = data_type first_one (stmt_space n s.vars) v.kind in
      let t : Vars = spec.and_type first_one s u in
      let is : t.faults ≡ None → StandIs es cs (spec.stand_of u.used) = λ g. stand_is es cs u.used (data_type_is es cs (stmt_space n s.vars) globals v.kind (none_right s.faults u.faults g)) in
      all_vars n.text t (spec.stand_of u.used) v.vars is (λ g. typed t.faults g (before (none_left s.faults u.faults g)) (is g)) f
    where
      typed : (x : Option Fault) → x ≡ None → VarsAre es cs s → StandIs es cs (spec.stand_of (data_type first_one (stmt_space n s.vars) v.kind).used) → VarsAre es cs (spec.and_type first_one s (data_type first_one (stmt_space n s.vars) v.kind))
      typed x e h k = record {
        vars = h.vars;
        stands = each_last (StandIs es cs) s.stands (spec.stand_of (data_type first_one (stmt_space n s.vars) v.kind).used) h.stands k;
        objects = h.objects;
        others = h.others;
        few_objects = h.few_objects;
        few_others = h.few_others;
      }

  pub vars_are : (n : Space) → GlobalsAre es cs n.globals → (vs : List VarTree) (s : Vars) → (s.faults ≡ None → VarsAre es cs s) → (spec.var_decls first_one n s vs).faults ≡ None → VarsAre es cs (spec.var_decls first_one n s vs)
  vars_are n globals [] s before f = before f
  vars_are n globals (v ∷ vs) s before f = vars_are n globals vs (spec.var_decl first_one n s v) (λ g. var_decl n globals s v before g) f

  pub no_vars_are : VarsAre es cs (spec.no_vars first_one)
  no_vars_are = record { vars = tt; stands = tt; objects = refl; others = refl; few_objects = omega arith; few_others = omega arith }

-- ---- the variables of a design

-- numbers of a lawful type, objects of a class
abbrev pub KindIs : List EnumType → ℕ → VarKind → Type 0
KindIs es cs (var_kind.Number k) = IsKind es k
KindIs es cs (var_kind.Object c) = c < cs

abbrev pub TermsAre : List VarName → List TVar → Type 0
TermsAre [] [] = ⊤
TermsAre [] (t ∷ ts) = ⊥
TermsAre (v ∷ vs) [] = ⊥
TermsAre (v ∷ vs) (t ∷ ts) = (script.variable v ≡ Some t) × TermsAre vs ts

pub record VarTerms (es : List EnumType) (cs : ℕ) (vs : List VarName) (before : List TVar) : Type 0 where
  pub terms : List TVar
  pub known : script.each_known script.variable (Some before) vs ≡ Some (before ++ terms)
  pub are : TermsAre vs terms
  pub every : Every (λ (t : TVar). KindIs es cs t.kind) terms
  pub objects : objects_in terms ≡ objects_of vs
  pub count : length terms ≡ length vs

record VarTerm (es : List EnumType) (cs : ℕ) (v : VarName) : Type 0 where
  pub term : TVar
  pub known : script.variable v ≡ Some term
  pub is : KindIs es cs term.kind
  pub object : is_some (kind_class term.kind) ≡ spec.is_object_stand v.stands

number_term : (es : List EnumType) (cs : ℕ) (name : List ℕ) (k : Option Vector) → There (VectorIs es) k → VarTerm es cs (record { name = name; stands = stand.OfNumber k })
number_term es cs name None h = absurd h
number_term es cs name (Some v) h = record { term = record { name = name; kind = var_kind.Number v.kind }; known = refl; is = h.kind; object = refl }

var_term : (es : List EnumType) (cs : ℕ) (name : List ℕ) (k : VarStand) → StandIs es cs k → VarTerm es cs (record { name = name; stands = k })
var_term es cs name (stand.OfNumber kind) h = number_term es cs name kind h
var_term es cs name (stand.OfObject c) h = record { term = record { name = name; kind = var_kind.Object c }; known = refl; is = h; object = refl }

joined : {A : Type 0} (xs : List A) (x : A) (ys : List A) → (xs ++ x ∷ []) ++ ys ≡ xs ++ (x ∷ ys)
joined [] x ys = refl
joined (y ∷ xs) x ys = ap (λ zs. y ∷ zs) (joined xs x ys)

pub var_terms : (es : List EnumType) (cs : ℕ) (vs : List VarName) (before : List TVar) → VarsStand es cs vs → VarTerms es cs vs before
var_terms es cs [] before h = record { terms = []; known = ap (λ (ts : List TVar). Some ts) (sym (append-nil before)); are = tt; every = tt; objects = refl; count = refl }
var_terms es cs (v ∷ vs) before h =
    let t : VarTerm es cs v = var_term es cs v.name v.stands h.0 in
    let more : VarTerms es cs vs (before ++ t.term ∷ []) = var_terms es cs vs (before ++ t.term ∷ []) h.1 in
    record {
      terms = t.term ∷ more.terms;
      known = ap (λ (x : Option TVar). script.each_known script.variable (and_more (Some before) x) vs) t.known ∙ more.known ∙ ap (λ (ts : List TVar). Some ts) (joined before t.term more.terms);
      are = (t.known, more.are);
      every = (t.is, more.every);
      objects = ap (λ (b : Bool). if b then objects_in more.terms + 1 else objects_in more.terms) t.object ∙ ap (bump (spec.is_object_stand v.stands)) more.objects;
      count = ap suc more.count;
    }

pub few_of_others : (vs : List VarName) → others_of vs ≤ 4096 → length vs ≤ objects_of vs + 4096
few_of_others vs h = few (length vs) (objects_of vs) (others_of vs) (together vs) h
  where
    few : (n a b : ℕ) → n ≡ a + b → b ≤ 4096 → n ≤ a + 4096
    few n a b e h = omega (arith, e, h)
