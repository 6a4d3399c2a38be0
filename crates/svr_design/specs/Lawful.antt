-- What holds of every design that elaboration gives, so that whoever reads a design may take it for granted.
use Rattle.std.specs.Prelude.{◌≡◌, ◌≤◌, ◌<◌, ◌+◌, ◌^◌, ◌==◌, ◌&&◌, ◌||◌, ℕ, Bool, true, false, List, [], ◌∷◌, ◌++◌, length, map, replicate, Option, Some, None, ⊤, is_some, slice_get, slice_index_or, if◌then◌else◌}
use Rattle.std.specs.List.{list_any}
use Rattle.svr_operator.specs.declared.Rand.{Rand}
use Rattle.svr_operator.specs.declared.Rand.TheVariants as rand
use Rattle.svr_limits.specs.declared.limit.TheConstants.{ARRAY_LIMIT, PROPERTY_LIMIT, STATEMENT_LIMIT, VARIABLE_LIMIT}
use Rattle.svr_typed.specs.declared.Prop.{Prop}
use Rattle.svr_typed.specs.declared.TVar.{TVar}
use Rattle.svr_typed.specs.declared.VarKind.{VarKind}
use Rattle.svr_typed.specs.declared.VarKind.TheVariants as var_kind
use Rattle.svr_typed.specs.declared.CallList.{CallList}
use Rattle.svr_typed.specs.declared.CallList.TheVariants as call_list
use Rattle.svr_typed.specs.ClassTerm.{BlockTerm, ClassTerm}
use Rattle.svr_typed.specs.StmtTerm as stmt
use Rattle.svr_typed.specs.StmtTerm.{StmtTerm, StmtTerms, DesignTerm}
use Rattle.svr_flat.specs.Flat.{flat_class_of}
use Rattle.svr_eval.specs.Holds.{ItemsAreTyped}
use Rattle.svr_design.specs.Types.{IsEnum, IsKind, IsProp, is_array, NamesDiffer}
use Rattle.svr_design.specs.Constraints.{ItemsStand}
use Rattle.svr_design.specs.Statements.{AllStmtsStand, AllFollow, all_run, variable_class, kind_class}

-- each of a list, with its place counted from k
abbrev pub EachFrom : {A : Type 0} → (ℕ → A → Type 0) → ℕ → List A → Type 0
EachFrom P k [] = ⊤
EachFrom P k (x ∷ xs) = P k x × EachFrom P (k + 1) xs

abbrev pub Every : {A : Type 0} → (A → Type 0) → List A → Type 0
Every P [] = ⊤
Every P (x ∷ xs) = P x × Every P xs

-- ---- which properties can be random: those that are declared so, and those that a call lists on an object of their class or of one that is derived from it (18.4 and 18.11.1)

abbrev pub base_homes : List (List ℕ) → Option ℕ → List ℕ
base_homes before None = []
base_homes before (Some b) = slice_index_or before b []

-- the class that declares each property of a class, in flat order
abbrev pub homes_behind : List (List ℕ) → List ClassTerm → List (List ℕ)
homes_behind before [] = before
homes_behind before (c ∷ cs) = homes_behind (before ++ (base_homes before c.base ++ replicate (length c.props) (length before)) ∷ []) cs

abbrev pub class_homes : DesignTerm → Option ℕ → List ℕ
class_homes d c = base_homes (homes_behind [] d.classes) c

abbrev pub same : Option ℕ → Option ℕ → Bool
same None y = false
same (Some x) None = false
same (Some x) (Some y) = x == y

abbrev pub list_has : CallList → ℕ → Bool
list_has call_list.All p = false
list_has call_list.Null p = false
list_has (call_list.Listed ps) p = list_any (λ q. q == p) ps

-- a call lists place p, on an object variable of which this holds
module _ (is_object : ℕ → Bool) (p : ℕ) where
  abbrev mutual
    pub lists : StmtTerm → Bool
    lists (stmt.call c) = is_object c.object && list_has c.list p
    lists (stmt.repeat n s) = lists s
    lists (stmt.list ss) = some_lists ss
    lists s = false

    pub some_lists : StmtTerms → Bool
    some_lists stmt.no_stmts = false
    some_lists (stmt.more_stmts s ss) = lists s || some_lists ss

-- the property at place p of class k is also at place p of the object's class
abbrev pub shares : DesignTerm → ℕ → ℕ → ℕ → Bool
shares d k p o = same (slice_get (class_homes d (Some k)) p) (slice_get (class_homes d (variable_class (slice_get d.vars o))) p)

abbrev pub is_declared_random : Rand → Bool
is_declared_random rand.State = false
is_declared_random rand.Rand = true
is_declared_random rand.Randc = true

abbrev pub CanBeRandom : DesignTerm → ℕ → ℕ → Prop → Type 0
CanBeRandom d k p x = x.can ≡ (is_declared_random x.rand || some_lists (shares d k p) p d.stmts)

-- ---- classes

abbrev pub BaseIsBefore : ℕ → Option ℕ → Type 0
BaseIsBefore k None = ⊤
BaseIsBefore k (Some b) = b < k

abbrev pub arrays_in : List Prop → ℕ
arrays_in [] = 0
arrays_in (p ∷ ps) = if is_array p.array then arrays_in ps + 1 else arrays_in ps

abbrev pub BlockStands : List Prop → BlockTerm → Type 0
BlockStands props b = ItemsAreTyped b.items × ItemsStand props [] 0 false false b.items

-- class k of a design, and with what it inherits
pub record IsClass (d : DesignTerm) (k : ℕ) (c : ClassTerm) : Type 0 where
  pub base : BaseIsBefore k c.base
  pub props : Every (IsProp d.enums) c.props
  pub blocks : Every (BlockStands (flat_class_of d.classes k).props) c.blocks
  pub can : EachFrom (CanBeRandom d k) 0 (flat_class_of d.classes k).props
  pub few : length (flat_class_of d.classes k).props ≤ PROPERTY_LIMIT
  pub few_arrays : arrays_in (flat_class_of d.classes k).props ≤ ARRAY_LIMIT
  pub few_blocks : length (flat_class_of d.classes k).blocks < 2 ^ 32
  pub differ : NamesDiffer (map (λ (p : Prop). p.name) (flat_class_of d.classes k).props)

-- ---- variables

abbrev pub VariableStands : DesignTerm → VarKind → Type 0
VariableStands d (var_kind.Number k) = IsKind d.enums k
VariableStands d (var_kind.Object c) = c < length d.classes

abbrev pub objects_in : List TVar → ℕ
objects_in [] = 0
objects_in (v ∷ vs) = if is_some (kind_class v.kind) then objects_in vs + 1 else objects_in vs

-- ---- the whole

pub record IsLawful (d : DesignTerm) : Type 0 where
  pub enums : Every IsEnum d.enums
  pub classes : EachFrom (IsClass d) 0 d.classes
  pub vars : Every (λ (v : TVar). VariableStands d v.kind) d.vars
  pub stmts : AllStmtsStand d d.stmts
  pub made : AllFollow [] d.stmts
  pub few_objects : objects_in d.vars ≤ VARIABLE_LIMIT
  pub few_others : length d.vars ≤ objects_in d.vars + VARIABLE_LIMIT
  pub few_stmts : all_run d.stmts ≤ STATEMENT_LIMIT
