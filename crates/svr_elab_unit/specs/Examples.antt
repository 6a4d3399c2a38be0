-- Variables and statements of a script with their first refusal, worked out by hand from the rules of the standard (IEEE 1800-2017, clauses 6.8, 8.3, 9.2.1 and 18.11).
use Rattle.std.specs.Prelude.{◌≡◌, ◌==◌, ◌+◌, ◌*◌, ◌%◌, ℕ, pos, Bool, true, false, ◌&&◌, List, [], ◌∷◌, Option, Some, None}
use Rattle.svr_operator.specs.declared.Rand.TheVariants as rand
use Rattle.svr_tree.specs.declared.Scope.TheVariants as scope
use Rattle.svr_tree.specs.declared.AtomKind.TheVariants as atom_kind
use Rattle.svr_tree.specs.declared.CallForm.TheVariants as call_form
use Rattle.svr_tree.specs.declared.RandomizeArgs.{RandomizeArgs}
use Rattle.svr_tree.specs.declared.RandomizeArgs.TheVariants as args
use Rattle.svr_tree.specs.declared.UnitKind.TheVariants as unit_kind
use Rattle.svr_tree.specs.ExprTree as raw
use Rattle.svr_tree.specs.ExprTree.{ExprTree}
use Rattle.svr_tree.specs.DeclTree as decl
use Rattle.svr_tree.specs.DeclTree.{DataTypeTree, VarInitTree, VarDeclaratorTree, VarTree}
use Rattle.svr_tree.specs.StmtTree as tree
use Rattle.svr_tree.specs.StmtTree.{StmtTree, stmts_of}
use Rattle.svr_tree.specs.ScriptTree.{UnitTree}
use Rattle.svr_refusal.specs.Numbers.{number_of}
use Rattle.svr_elab_fault.specs.declared.Fault.{Fault}
use Rattle.svr_elab_fault.specs.Refusals.{all, earlier, least}
use Rattle.svr_elab_names.specs.declared.Dims.TheVariants as dims
use Rattle.svr_elab_names.specs.declared.Global.TheVariants as global
use Rattle.svr_elab_names.specs.declared.VarStand.{VarStand}
use Rattle.svr_elab_names.specs.declared.VarStand.TheVariants as stand
use Rattle.svr_elab_names.specs.Names.{Space, PropName, GlobalName, ClassName, VarName}
use Rattle.svr_elab_type.specs.Types.{declaring}
use Rattle.svr_elab_random.specs.declared.Home.{Home}
use Rattle.svr_elab_unit.specs.Listed.{all_listed}
use Rattle.svr_elab_unit.specs.Vars.{VarsElab, no_vars, var_decls, stmt_space}
use Rattle.svr_elab_unit.specs.Run.{run}

-- ---- what can be named: token n spells the letter of this place among those from `a` on, by its last two digits

-- a property of the class
abbrev pub a : ℕ
a = 0

-- the class
abbrev pub k : ℕ
k = 10

-- names of variables
abbrev pub p : ℕ
p = 15

abbrev pub v : ℕ
v = 21

abbrev pub w : ℕ
w = 22

abbrev pub unknown : ℕ
unknown = 25

abbrev pub spelled : ℕ → List ℕ
spelled n = (97 + n % 100) ∷ []

abbrev pub letter : ℕ → List ℕ
letter n = (97 + n) ∷ []

abbrev pub only_property : PropName
only_property = record {
  name = letter a;
  property = record { number = 0; home = 0; kind = Some (record { kind = record { width = 4; signed = false; members = None }; low = pos 0 }); rand = rand.State; random = false; dims = dims.Scalar };
  first = 0;
}

abbrev pub only_class : ClassName
only_class = record { name = letter k; base = None; props = only_property ∷ []; inherited = 0; blocks = [] }

abbrev pub places : Space
places = declaring spelled (record { name = letter k; stands = global.OfClass 0 } ∷ []) (only_class ∷ [])

-- ---- short words; the first number counts hundreds of tokens

abbrev pub at : ℕ → ℕ → ℕ
at h name = h * 100 + name

abbrev pub named : ℕ → ℕ → ExprTree
named h name = raw.path (at h name) scope.Plain (at h name ∷ []) false

abbrev pub number : ℕ → ℕ → ExprTree
number h n = raw.number (at h 0) n 32 true

abbrev pub int : DataTypeTree
int = decl.integer (decl.atom 50 atom_kind.Int None)

abbrev pub object : DataTypeTree
object = decl.named k

abbrev pub declared : ℕ → ℕ → VarDeclaratorTree
declared h name = record { name = at h name; init = None }

abbrev pub valued : ℕ → ℕ → ExprTree → VarDeclaratorTree
valued h name given = record { name = at h name; init = Some (decl.value given) }

abbrev pub made : ℕ → ℕ → VarDeclaratorTree
made h name = record { name = at h name; init = Some (decl.new false) }

abbrev pub var : DataTypeTree → List VarDeclaratorTree → VarTree
var kind ds = record { kind = kind; vars = ds }

abbrev pub call : ℕ → RandomizeArgs → StmtTree
call h listed = tree.call (at h 50) call_form.Plain (record { path = named h p; args = listed; items = None })

abbrev pub nothing : ℕ → StmtTree
nothing h = tree.empty (at h 50)

abbrev pub repeat : ℕ → ℕ → StmtTree → StmtTree
repeat h n s = tree.repeat (at h 50) (number h n) s

-- ---- scripts of variables and statements, and the token and number of their first refusal

pub record Case : Type 0 where
  pub outer : List VarTree
  pub inner : List VarTree
  pub stmts : List StmtTree
  pub refusal : Option (ℕ × ℕ)

abbrev pub fine : List VarTree → List StmtTree → Case
fine vs ss = record { outer = []; inner = vs; stmts = ss; refusal = None }

abbrev pub refused : List VarTree → List StmtTree → ℕ → ℕ → Case
refused vs ss token number = record { outer = []; inner = vs; stmts = ss; refusal = Some (token, number) }

abbrev pub unit : Case → UnitTree
unit c = record { kind = unit_kind.Module; name = 0; parens = false; outer = c.outer; inner = c.inner; stmts = c.stmts; label = None }

abbrev pub variables : List VarTree → VarsElab (List Fault)
variables vs = var_decls all places (no_vars all) vs

abbrev pub first_of : VarsElab (List Fault) → UnitTree → Option Fault
first_of x u = earlier (least x.faults) (least (run all (stmt_space places x.vars) x.stands u).faults)

abbrev pub is_same : Option Fault → Option (ℕ × ℕ) → Bool
is_same None None = true
is_same None (Some r) = false
is_same (Some x) None = false
is_same (Some x) (Some r) = (x.token == r.0) && (number_of x.refusal == r.1)

abbrev pub is_so : Case → Bool
is_so c = is_same (first_of (variables c.inner) (unit c)) c.refusal

-- 6.8 and 8.3
abbrev pub names : List Case
names =
    fine (var int (declared 1 v ∷ declared 2 w ∷ []) ∷ []) []
    ∷ refused (var int (declared 1 v ∷ declared 2 v ∷ []) ∷ []) [] (at 2 v) 8
    ∷ refused (var int (declared 1 p ∷ []) ∷ var object (made 2 p ∷ []) ∷ []) [] (at 2 p) 8
    ∷ refused (var (decl.named unknown) (declared 1 v ∷ []) ∷ []) [] unknown 7
    ∷ fine (var object (declared 1 p ∷ []) ∷ []) []
    ∷ []

-- values, each behind its variable, and objects
abbrev pub values : List Case
values =
    fine (var int (valued 1 v (named 1 v) ∷ []) ∷ []) []
    ∷ refused (var int (valued 1 v (named 2 w) ∷ declared 3 w ∷ []) ∷ []) [] (at 2 w) 7
    ∷ fine (var int (declared 1 w ∷ valued 2 v (named 2 w) ∷ []) ∷ []) []
    ∷ refused (var object (valued 1 p (number 2 5) ∷ []) ∷ []) [] (at 1 p) 7
    ∷ refused (var int (made 1 v ∷ []) ∷ []) [] (at 1 v) 7
    ∷ fine (var object (made 1 p ∷ []) ∷ []) (call 2 args.Empty ∷ [])
    ∷ refused (var object (declared 1 p ∷ []) ∷ []) (call 2 args.Empty ∷ []) (at 2 p) 26
    ∷ []

-- the first statement of the initial block with which more than 100,000 run
abbrev pub limits : List Case
limits =
    fine [] (repeat 1 99999 (nothing 2) ∷ [])
    ∷ refused [] (repeat 1 100000 (nothing 2) ∷ []) (at 1 50) 25
    ∷ refused [] (repeat 1 99999 (nothing 2) ∷ nothing 3 ∷ []) (at 3 50) 25
    ∷ refused [] (repeat 1 99998 (nothing 2) ∷ nothing 3 ∷ nothing 4 ∷ nothing 5 ∷ []) (at 4 50) 25
    ∷ refused (var int (valued 1 v (number 1 0) ∷ []) ∷ []) (repeat 2 99999 (nothing 3) ∷ []) (at 2 50) 25
    ∷ []

-- a property that a call lists
abbrev pub with_object : Space
with_object = stmt_space places (record { name = letter p; stands = stand.OfObject 0 } ∷ [])

abbrev pub ListsItsProperty : Type 0
ListsItsProperty =
    all_listed with_object [] (stmts_of (nothing 1 ∷ repeat 2 3 (call 3 (args.Names (at 3 a ∷ at 4 unknown ∷ at 5 a ∷ []))) ∷ []))
    ≡ (let h : Home = record { class = 0; number = 0 } in h) ∷ []
