-- Statements with their first refusal, worked out by hand from the rules of the standard (IEEE 1800-2017, clauses 8.7, 10, 12 and 18).
use Rattle.std.specs.Prelude.{◌≡◌, ◌==◌, ◌+◌, ◌*◌, ◌%◌, ℕ, pos, Bool, true, false, ◌&&◌, List, [], ◌∷◌, Option, Some, None}
use Rattle.svr_operator.specs.declared.UnOp.TheVariants as un
use Rattle.svr_operator.specs.declared.BinOp.TheVariants as bin
use Rattle.svr_operator.specs.declared.Rand.{Rand}
use Rattle.svr_operator.specs.declared.Rand.TheVariants as rand
use Rattle.svr_typed.specs.declared.CallList.TheVariants as call_list
use Rattle.svr_typed.specs.ExprTerm as term
use Rattle.svr_typed.specs.ExprTerm.{ExprTerm, typed}
use Rattle.svr_typed.specs.ItemTerm as item_term
use Rattle.svr_typed.specs.StmtTerm as stmt_term
use Rattle.svr_typed.specs.StmtTerm.{StmtTerm}
use Rattle.svr_tree.specs.declared.Scope.TheVariants as scope
use Rattle.svr_tree.specs.declared.ModeKind.{ModeKind}
use Rattle.svr_tree.specs.declared.ModeKind.TheVariants as mode_kind
use Rattle.svr_tree.specs.declared.CallForm.TheVariants as call_form
use Rattle.svr_tree.specs.declared.RandomizeArgs.{RandomizeArgs}
use Rattle.svr_tree.specs.declared.RandomizeArgs.TheVariants as args
use Rattle.svr_tree.specs.ExprTree as raw
use Rattle.svr_tree.specs.ExprTree.{ExprTree, exprs_of}
use Rattle.svr_tree.specs.ItemTree as item_tree
use Rattle.svr_tree.specs.ItemTree.{ItemTrees}
use Rattle.svr_tree.specs.StmtTree as tree
use Rattle.svr_tree.specs.StmtTree.{RandomizeTree, RightTree, StmtTree, stmts_of}
use Rattle.svr_refusal.specs.Numbers.{number_of}
use Rattle.svr_elab_fault.specs.declared.Fault.{Fault}
use Rattle.svr_elab_fault.specs.Refusals.{all, least}
use Rattle.svr_elab_names.specs.declared.Dims.{Dims}
use Rattle.svr_elab_names.specs.declared.Dims.TheVariants as dims
use Rattle.svr_elab_names.specs.declared.Global.TheVariants as global
use Rattle.svr_elab_names.specs.declared.VarStand.{VarStand}
use Rattle.svr_elab_names.specs.declared.VarStand.TheVariants as stand
use Rattle.svr_elab_names.specs.declared.Vector.{Vector}
use Rattle.svr_elab_names.specs.declared.Region.TheVariants as region
use Rattle.svr_elab_names.specs.Names.{Space, PropName, GlobalName, VarName, ClassName}
use Rattle.svr_elab_part.specs.Shapes.{place_tree}
use Rattle.svr_elab_stmt.specs.Stmts.{StmtElab, stmt}

-- ---- what can be named: token n spells the letter of this place among those from `a` on, by its last two digits

-- properties of the class: a scalar, a dynamic array, a fixed one of 4, one of 2 times 3, a value and an array of 2 of the first enum
abbrev pub a : ℕ
a = 0

abbrev pub d : ℕ
d = 3

abbrev pub f : ℕ
f = 5

abbrev pub m : ℕ
m = 12

abbrev pub k : ℕ
k = 10

abbrev pub g : ℕ
g = 6

-- a block of the class
abbrev pub c : ℕ
c = 2

-- object variables, of which only the first has an object
abbrev pub p : ℕ
p = 15

abbrev pub q : ℕ
q = 16

-- variables of 8 bits and of the first enum
abbrev pub v : ℕ
v = 21

abbrev pub e : ℕ
e = 4

-- members of the first and of the second enum
abbrev pub red : ℕ
red = 17

abbrev pub tall : ℕ
tall = 19

abbrev pub unknown : ℕ
unknown = 25

abbrev pub spelled : ℕ → List ℕ
spelled n = (97 + n % 100) ∷ []

abbrev pub letter : ℕ → List ℕ
letter n = (97 + n) ∷ []

-- so many unsigned bits, as values of an enum where one is given
abbrev pub bits : ℕ → Option ℕ → Option Vector
bits w members = Some (record { kind = record { width = w; signed = false; members = members }; low = pos 0 })

abbrev pub declared : ℕ → ℕ → Option Vector → Dims → PropName
declared name number kind ds = record {
  name = letter name;
  property = record { number = number; home = 0; kind = kind; rand = rand.Rand; random = true; dims = ds };
  first = 0;
}

abbrev pub properties : List PropName
properties =
    declared a 0 (bits 4 None) dims.Scalar
    ∷ declared d 1 (bits 8 None) dims.Dynamic
    ∷ declared f 2 (bits 8 None) (dims.Fixed (Some 4))
    ∷ declared m 3 (bits 8 None) (dims.Rows (Some 2) (Some 3))
    ∷ declared k 4 (bits 2 (Some 0)) dims.Scalar
    ∷ declared g 5 (bits 2 (Some 0)) (dims.Fixed (Some 2))
    ∷ []

abbrev pub class : ClassName
class = record { name = letter 26; base = None; props = properties; inherited = 0; blocks = letter unknown ∷ letter c ∷ [] }

abbrev pub member : ℕ → ℕ → GlobalName
member name enum = record { name = letter name; stands = global.OfMember (Some 1) (bits 2 (Some enum)) }

abbrev pub var : ℕ → VarStand → VarName
var name stands = record { name = letter name; stands = stands }

abbrev pub variables : List VarName
variables = var p (stand.OfObject 0) ∷ var q (stand.OfObject 0) ∷ var v (stand.OfNumber (bits 8 None)) ∷ var e (stand.OfNumber (bits 2 (Some 0))) ∷ []

abbrev pub places : Space
places = record {
  text = spelled;
  region = region.Statement;
  globals = member red 0 ∷ member tall 1 ∷ [];
  classes = class ∷ [];
  props = [];
  later = [];
  loops = [];
  vars = variables;
  made = 0 ∷ [];
}

-- ---- short words; the first number counts hundreds of tokens

abbrev pub at : ℕ → ℕ → ℕ
at h name = h * 100 + name

abbrev pub named : ℕ → ℕ → ExprTree
named h name = raw.path (at h name) scope.Plain (at h name ∷ []) false

-- `object.name`, the object at 100 and the name at 200 and its letter
abbrev pub of : ℕ → ℕ → ExprTree
of object name = raw.path (at 1 object) scope.Plain (at 1 object ∷ at 2 name ∷ []) false

abbrev pub number : ℕ → ℕ → ExprTree
number h n = raw.number (at h 0) n 32 true

abbrev pub minus : ℕ → ℕ → ExprTree
minus h n = raw.unary (at h 0) un.Minus (number (h + 1) n)

abbrev pub index : ExprTree → ℕ → ℕ → ExprTree
index base h n = raw.bit_select (at 1 0) base (number h n) false

abbrev pub assign : ExprTree → RightTree → StmtTree
assign target right = tree.assign 0 target right

abbrev pub set : ExprTree → ExprTree → StmtTree
set target given = assign target (tree.value given)

-- whose first token is 500
abbrev pub pattern : List ExprTree → RightTree
pattern es = tree.pattern 500 (exprs_of es)

abbrev pub call_of : ExprTree → RandomizeArgs → Option ItemTrees → RandomizeTree
call_of object listed holds = record { path = object; args = listed; items = holds }

abbrev pub call : ExprTree → StmtTree
call object = tree.call 0 call_form.Plain (call_of object args.Empty None)

abbrev pub call_with : RandomizeArgs → StmtTree
call_with listed = tree.call 0 call_form.Void (call_of (named 1 p) listed None)

abbrev pub call_in_line : ExprTree → StmtTree
call_in_line holds = tree.call 0 call_form.Assert (call_of (named 1 p) args.Empty (Some (item_tree.more_items (item_tree.plain 500 false holds None) item_tree.no_items)))

abbrev pub mode : ModeKind → ExprTree → ExprTree → StmtTree
mode kind object on = tree.mode 0 (record { path = object; kind = kind; on = on })

abbrev pub list : List StmtTree → StmtTree
list ss = tree.block 0 (stmts_of ss)

abbrev pub repeat : ExprTree → StmtTree → StmtTree
repeat n s = tree.repeat 0 n s

abbrev pub nothing : StmtTree
nothing = tree.empty 0

-- ---- statements, and the token and number of their first refusal

pub record Case : Type 0 where
  pub stmt : StmtTree
  pub refusal : Option (ℕ × ℕ)

abbrev pub fine : StmtTree → Case
fine s = record { stmt = s; refusal = None }

abbrev pub refused : StmtTree → ℕ → ℕ → Case
refused s token number = record { stmt = s; refusal = Some (token, number) }

abbrev pub is_same : Option Fault → Option (ℕ × ℕ) → Bool
is_same None None = true
is_same None (Some r) = false
is_same (Some x) None = false
is_same (Some x) (Some r) = (x.token == r.0) && (number_of x.refusal == r.1)

abbrev pub is_so : Case → Bool
is_so s = is_same (least (stmt all places s.stmt).faults) s.refusal

-- 10.4: what stands on the left
abbrev pub lefts : List Case
lefts =
    fine (set (named 1 v) (number 4 1))
    ∷ fine (set (of p a) (number 4 1))
    ∷ refused (set (of p d) (number 4 1)) (at 2 d) 7
    ∷ fine (set (index (of p d) 3 1) (number 4 1))
    ∷ refused (set (index (of p m) 3 1) (number 4 1)) (at 2 m) 7
    ∷ fine (set (raw.bit_select 100 (index (of p m) 3 1) (number 3 1) false) (number 4 1))
    ∷ refused (set (index (of p a) 3 1) (number 4 1)) (at 2 a) 7
    ∷ refused (set (of q a) (number 4 1)) (at 1 q) 26
    ∷ refused (set (of p unknown) (number 4 1)) (at 2 unknown) 7
    ∷ refused (set (named 1 unknown) (number 4 1)) (at 1 unknown) 7
    ∷ refused (set (named 1 red) (number 4 1)) (at 1 red) 7
    ∷ refused (set (named 1 p) (number 4 1)) (at 1 p) 7
    ∷ []

-- what stands on the right
abbrev pub rights : List Case
rights =
    fine (set (named 1 v) (of p a))
    ∷ refused (set (named 3 v) (of q a)) (at 1 q) 26
    ∷ refused (set (named 1 q) (named 4 p)) (at 4 p) 24
    ∷ refused (set (named 1 v) (named 4 q)) (at 4 q) 24
    ∷ refused (set (named 1 v) (raw.paren 400 (named 4 p))) (at 4 p) 7
    ∷ refused (set (named 3 v) (of p d)) (at 2 d) 24
    ∷ refused (set (named 1 e) (number 4 1)) 400 23
    ∷ fine (set (named 1 e) (named 4 red))
    ∷ refused (set (named 1 e) (named 4 tall)) (at 4 tall) 23
    ∷ fine (set (of p k) (raw.paren 400 (named 4 e)))
    ∷ refused (set (named 1 e) (raw.binary 400 bin.BitwiseOr (named 4 red) (named 5 red))) 400 23
    ∷ fine (set (named 1 v) (named 4 tall))
    ∷ []

-- 8.7 and 7.5.1
abbrev pub news : List Case
news =
    fine (assign (named 1 q) (tree.new true))
    ∷ refused (assign (named 1 v) (tree.new false)) (at 1 v) 7
    ∷ refused (assign (of p d) (tree.new false)) (at 2 d) 7
    ∷ fine (assign (of p d) (tree.new_array (number 4 2048)))
    ∷ refused (assign (of p d) (tree.new_array (number 4 2049))) 400 25
    ∷ refused (assign (of p d) (tree.new_array (minus 4 1))) 400 11
    ∷ refused (assign (of p d) (tree.new_array (named 4 v))) (at 4 v) 10
    ∷ refused (assign (of p f) (tree.new_array (number 4 4))) (at 2 f) 7
    ∷ refused (assign (of p a) (tree.new_array (number 4 4))) (at 2 a) 7
    ∷ refused (assign (of q d) (tree.new_array (number 4 4))) (at 1 q) 26
    ∷ []

-- 10.9.1: of the size of a fixed array, for an array of one dimension, and of members for an enum
abbrev pub patterns : List Case
patterns =
    fine (assign (of p d) (pattern (number 6 1 ∷ number 7 2 ∷ [])))
    ∷ fine (assign (of p d) (pattern []))
    ∷ fine (assign (of p f) (pattern (number 6 1 ∷ number 7 2 ∷ number 8 3 ∷ number 9 4 ∷ [])))
    ∷ refused (assign (of p f) (pattern (number 6 1 ∷ []))) 500 11
    ∷ refused (assign (of p m) (pattern (number 6 1 ∷ []))) (at 2 m) 24
    ∷ refused (assign (of p a) (pattern (number 6 1 ∷ []))) (at 2 a) 7
    ∷ refused (assign (index (of p m) 3 1) (pattern (number 6 1 ∷ []))) (at 2 m) 7
    ∷ fine (assign (of p g) (pattern (named 6 red ∷ named 7 e ∷ [])))
    ∷ refused (assign (of p g) (pattern (named 6 red ∷ named 7 tall ∷ []))) (at 7 tall) 23
    ∷ refused (assign (of p g) (pattern (named 7 tall ∷ []))) 500 11
    ∷ refused (assign (of p d) (pattern (named 6 p ∷ []))) (at 6 p) 7
    ∷ []

-- 18.6, 18.7 and 18.11: of an object, with properties that are listed once, and a set that sees them
abbrev pub calls : List Case
calls =
    fine (call (named 1 p))
    ∷ refused (call (named 1 q)) (at 1 q) 26
    ∷ refused (call (named 1 v)) (at 1 v) 7
    ∷ refused (call (of p a)) (at 2 a) 7
    ∷ refused (call (of q unknown)) (at 1 q) 26
    ∷ fine (call_with args.Null)
    ∷ fine (call_with (args.Names (at 3 a ∷ at 4 m ∷ [])))
    ∷ refused (call_with (args.Names (at 3 a ∷ at 4 unknown ∷ []))) (at 4 unknown) 7
    ∷ refused (call_with (args.Names (at 3 a ∷ at 4 d ∷ at 5 a ∷ []))) (at 5 a) 8
    ∷ refused (call_with (args.Names (at 3 c ∷ []))) (at 3 c) 7
    ∷ fine (call_in_line (raw.binary 600 bin.Equal (named 6 a) (named 7 v)))
    ∷ refused (call_in_line (named 6 unknown)) (at 6 unknown) 7
    ∷ refused (call_in_line (named 6 p)) (at 6 p) 7
    ∷ fine (assign (named 3 v) (tree.answer (call_of (named 1 p) args.Empty None)))
    ∷ refused (assign (named 3 e) (tree.answer (call_of (named 4 p) args.Empty None))) (at 3 e) 7
    ∷ refused (assign (of p a) (tree.answer (call_of (named 4 p) args.Empty None))) (at 2 a) 7
    ∷ refused (assign (named 3 v) (tree.answer (call_of (named 4 q) args.Empty None))) (at 4 q) 26
    ∷ []

-- 18.8 and 18.9: of an object, of a property, of a block
abbrev pub modes : List Case
modes =
    fine (mode mode_kind.Rand (named 1 p) (number 4 0))
    ∷ fine (mode mode_kind.Rand (of p m) (number 4 0))
    ∷ refused (mode mode_kind.Rand (of p c) (number 4 0)) (at 2 c) 7
    ∷ fine (mode mode_kind.Constraint (of p c) (number 4 0))
    ∷ refused (mode mode_kind.Constraint (of p a) (number 4 0)) (at 2 a) 7
    ∷ refused (mode mode_kind.Rand (raw.path (at 1 p) scope.Plain (at 1 p ∷ at 2 a ∷ at 3 a ∷ []) false) (number 4 0)) (at 3 a) 7
    ∷ refused (mode mode_kind.Rand (named 1 q) (number 4 0)) (at 1 q) 26
    ∷ refused (mode mode_kind.Rand (named 1 v) (number 4 0)) (at 1 v) 7
    ∷ refused (mode mode_kind.Rand (named 1 p) (named 4 q)) (at 4 q) 7
    ∷ []

-- 9.3.1 and 12.7.1: an object that is made in a list is there in it and in the lists inside of it
abbrev pub lists : List Case
lists =
    fine nothing
    ∷ fine (list (assign (named 1 q) (tree.new false) ∷ call (named 2 q) ∷ []))
    ∷ fine (list (assign (named 1 q) (tree.new false) ∷ repeat (number 3 2) (list (call (named 2 q) ∷ [])) ∷ []))
    ∷ refused (list (call (named 2 q) ∷ assign (named 1 q) (tree.new false) ∷ [])) (at 2 q) 26
    ∷ refused (list (list (assign (named 1 q) (tree.new false) ∷ []) ∷ call (named 2 q) ∷ [])) (at 2 q) 26
    ∷ refused (list (repeat (number 3 2) (assign (named 1 q) (tree.new false)) ∷ call (named 2 q) ∷ [])) (at 2 q) 26
    ∷ refused (list (assign (named 1 v) (tree.new false) ∷ call (named 2 q) ∷ [])) (at 1 v) 7
    ∷ refused (repeat (named 3 v) nothing) (at 3 v) 10
    ∷ fine (repeat (minus 3 1) nothing)
    ∷ refused (repeat (number 3 2) (set (named 4 unknown) (number 5 1))) (at 4 unknown) 7
    ∷ []

-- ---- what statements become, and how many run

abbrev pub seen : StmtTree → StmtElab (List Fault)
seen s = stmt all places s

abbrev pub thirty_two : ℕ → ExprTerm
thirty_two n = typed 32 true (term.number n false)

abbrev pub Becomes : StmtTree → StmtTerm → Type 0
Becomes s t = (seen s).tree ≡ Some t

abbrev pub ScalarIsSet : Type 0
ScalarIsSet = Becomes (set (of p a) (number 4 7)) (stmt_term.set_prop 0 0 None (thirty_two 7))

abbrev pub ElementIsSet : Type 0
ElementIsSet = Becomes (set (index (of p d) 3 5) (number 4 7)) (stmt_term.set_prop 0 1 (Some (thirty_two 5)) (thirty_two 7))

-- row 1, column 2 of 2 rows of 3
abbrev pub CellIsSet : Type 0
CellIsSet =
    Becomes (set (raw.bit_select 100 (index (of p m) 3 1) (number 3 2) false) (number 4 7))
    (stmt_term.set_prop 0 3 (Some (place_tree 2 3 (thirty_two 1) (thirty_two 2))) (thirty_two 7))

abbrev pub ListIsCalled : Type 0
ListIsCalled =
    Becomes (assign (named 3 v) (tree.answer (call_of (named 1 p) (args.Names (at 3 m ∷ at 4 a ∷ [])) None)))
    (stmt_term.call (record { object = 0; list = call_list.Listed (3 ∷ 0 ∷ []); items = item_term.no_items; answer = Some 2 }))

abbrev pub BlockIsOff : Type 0
BlockIsOff = Becomes (mode mode_kind.Constraint (of p c) (number 4 0)) (stmt_term.constraint_mode 0 (Some 1) (thirty_two 0))

abbrev pub NewMakes : Type 0
NewMakes = (seen (assign (named 1 q) (tree.new false))).makes ≡ Some 1

abbrev pub Runs : StmtTree → ℕ → Type 0
Runs s n = (seen s).count ≡ n

abbrev pub RepeatedRun : Type 0
RepeatedRun = Runs (repeat (number 3 3) (list (nothing ∷ nothing ∷ []))) 10

abbrev pub ManyRun : Type 0
ManyRun = Runs (repeat (number 3 100000) (repeat (number 4 100000) nothing)) 100001

abbrev pub NoneRuns : Type 0
NoneRuns = Runs (repeat (minus 3 5) nothing) 1
