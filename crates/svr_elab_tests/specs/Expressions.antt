-- Expressions with their first refusal or their size and sign, worked out by hand from the rules of the standard (IEEE 1800-2017, clause 11).
use Rattle.std.specs.Prelude.{ℕ, ◌+◌, ◌*◌, ◌%◌, ◌==◌, ℤ, pos, Bool, true, false, not, ◌&&◌, if◌then◌else◌, List, [], ◌∷◌, Option, Some, None, codes}
use Rattle.svr_operator.specs.declared.Rand.{Rand}
use Rattle.svr_operator.specs.declared.Rand.TheVariants as rand
use Rattle.svr_operator.specs.declared.UnOp.TheVariants as un
use Rattle.svr_operator.specs.declared.BinOp.{BinOp}
use Rattle.svr_operator.specs.declared.BinOp.TheVariants as bin
use Rattle.svr_operator.specs.declared.Fold.TheVariants as fold
use Rattle.svr_tree.specs.declared.Scope.TheVariants as scope
use Rattle.svr_tree.specs.declared.IteratorArgument.TheVariants as iterator
use Rattle.svr_tree.specs.ExprTree as raw
use Rattle.svr_tree.specs.ExprTree.{ExprTree, exprs_of, ranges_of}
use Rattle.svr_refusal.specs.Numbers.{number_of}
use Rattle.svr_elab_fault.specs.declared.Fault.{Fault}
use Rattle.svr_elab_fault.specs.Refusals.{all, least}
use Rattle.svr_elab_names.specs.declared.Vector.{Vector}
use Rattle.svr_elab_names.specs.declared.Dims.{Dims}
use Rattle.svr_elab_names.specs.declared.Dims.TheVariants as dims
use Rattle.svr_elab_names.specs.declared.Global.TheVariants as global
use Rattle.svr_elab_names.specs.declared.Region.TheVariants as region
use Rattle.svr_elab_names.specs.declared.VarStand.TheVariants as stand
use Rattle.svr_elab_names.specs.Names.{Space, PropName, GlobalName, VarName, size_word, sum_word}
use Rattle.svr_elab_part.specs.declared.Shape.{Shape}
use Rattle.svr_elab_part.specs.Elab.{value}

-- ---- what can be named: a token spells a letter by its last two digits, from `a` on, or one of three words

-- `rand bit [3:0]`
abbrev pub a : ℕ
a = 0

-- `bit [7:0]`
abbrev pub v : ℕ
v = 1

-- `bit [11:4]`
abbrev pub h : ℕ
h = 2

-- `int`
abbrev pub n : ℕ
n = 3

-- `rand bit [7:0] d[]`
abbrev pub d : ℕ
d = 4

-- `bit [3:0] m[2][3]`
abbrev pub m : ℕ
m = 5

-- a member of an enum of 4 bits
abbrev pub e : ℕ
e = 6

-- nothing
abbrev pub z : ℕ
z = 15

abbrev pub size : ℕ
size = 20

abbrev pub sum : ℕ
sum = 21

abbrev pub item : ℕ
item = 22

abbrev pub letter : ℕ → List ℕ
letter k = (97 + k) ∷ []

abbrev pub word : ℕ → List ℕ
word k = if k == 20 then size_word else (if k == 21 then sum_word else (if k == 22 then codes "item" else letter k))

abbrev pub spelled : ℕ → List ℕ
spelled token = word (token % 100)

abbrev pub bits : ℕ → Bool → ℤ → Option Vector
bits width signed low = Some (record { kind = record { width = width; signed = signed; members = None }; low = low })

abbrev pub declared : ℕ → Option Vector → Rand → Bool → Dims → PropName
declared name kind rand random dims = record {
  name = spelled name;
  property = record { number = name; home = 0; kind = kind; rand = rand; random = random; dims = dims };
  first = 0;
}

abbrev pub properties : List PropName
properties =
    declared a (bits 4 false (pos 0)) rand.Rand true dims.Scalar
    ∷ declared v (bits 8 false (pos 0)) rand.State false dims.Scalar
    ∷ declared h (bits 8 false (pos 4)) rand.State false dims.Scalar
    ∷ declared n (bits 32 true (pos 0)) rand.State false dims.Scalar
    ∷ declared d (bits 8 false (pos 0)) rand.Rand true dims.Dynamic
    ∷ declared m (bits 4 false (pos 0)) rand.State false (dims.Rows (Some 2) (Some 3))
    ∷ []

abbrev pub members : List GlobalName
members = record { name = spelled e; stands = global.OfMember (Some 1) (Some (record { kind = record { width = 4; signed = false; members = Some 0 }; low = pos 0 })) } ∷ []

-- in a constraint block
abbrev pub block : Space
block = record { text = spelled; region = region.Block; globals = members; classes = []; props = properties; later = []; loops = []; vars = []; made = [] }

-- an object variable that has an object
abbrev pub p : ℕ
p = 7

-- an object variable that has none
abbrev pub q : ℕ
q = 8

-- a variable of `int`
abbrev pub c : ℕ
c = 9

abbrev pub variables : List VarName
variables =
    record { name = spelled p; stands = stand.OfObject 0 }
    ∷ record { name = spelled q; stands = stand.OfObject 0 }
    ∷ record { name = spelled c; stands = stand.OfNumber (bits 32 true (pos 0)) }
    ∷ []

-- in a statement, where both objects are of a class with these properties
abbrev pub statement : Space
statement = record {
  text = spelled;
  region = region.Statement;
  globals = members;
  classes = record { name = []; base = None; props = properties; inherited = 0; blocks = [] } ∷ [];
  props = [];
  later = [];
  loops = [];
  vars = variables;
  made = 0 ∷ [];
}

-- ---- short words; the first number counts hundreds of tokens

abbrev pub at : ℕ → ℕ → ℕ
at k name = k * 100 + name

abbrev pub named : ℕ → ℕ → ExprTree
named k name = raw.path (at k name) scope.Plain (at k name ∷ []) false

-- a word behind a name, and whether `()` follows
abbrev pub behind : ℕ → ℕ → ℕ → Bool → ExprTree
behind k name word call = raw.path (at k name) scope.Plain (at k name ∷ at k word ∷ []) call

-- a property of an object
abbrev pub of : ℕ → ℕ → ℕ → ℕ → ExprTree
of k object l name = raw.path (at k object) scope.Plain (at k object ∷ at l name ∷ []) false

abbrev pub int : ℕ → ℕ → ExprTree
int k number = raw.number (k * 100) number 32 true

abbrev pub of2 : BinOp → ExprTree → ExprTree → ExprTree
of2 op x y = raw.binary 0 op x y

abbrev pub index : ExprTree → ExprTree → ExprTree
index x i = raw.bit_select 0 x i false

abbrev pub slice : ExprTree → ExprTree → ExprTree → ExprTree
slice x i j = raw.part_select 0 x i j false

-- ---- cases

pub data Case : Type 0 where
  refused : ExprTree → ℕ → ℕ → Case
  accepted : ExprTree → ℕ → Bool → Case

abbrev pub is_at : Option Fault → ℕ → ℕ → Bool
is_at None number token = false
is_at (Some f) number token = number_of f.refusal == number && f.token == token

abbrev pub is_clear : List Fault → Bool
is_clear [] = true
is_clear (f ∷ fs) = false

abbrev pub is_same_sign : Bool → Bool → Bool
is_same_sign true s = s
is_same_sign false s = not s

abbrev pub has_shape : Option Shape → ℕ → Bool → Bool
has_shape None width signed = false
has_shape (Some s) width signed = s.width == width && is_same_sign s.signed signed

abbrev pub is_so : Space → Case → Bool
is_so places (refused tree number token) = is_at (least (value all places tree).faults) number token
is_so places (accepted tree width signed) = is_clear (value all places tree).faults && has_shape (value all places tree).shape width signed

-- a refusal has its number and its token; what is accepted has its width and whether it is signed
abbrev pub names_and_operators : List Case
names_and_operators =
    accepted (int 1 5) 32 true
    -- `'1`
    ∷ accepted (raw.number 0 1 0 false) 1 false
    ∷ refused (named 1 z) 7 (at 1 z)
    -- the first one of two
    ∷ refused (of2 bin.Add (named 1 z) (named 2 z)) 7 (at 1 z)
    ∷ accepted (named 1 e) 4 false
    -- `v()`
    ∷ refused (raw.path (at 1 v) scope.Plain (at 1 v ∷ []) true) 7 (at 1 v)
    ∷ accepted (of2 bin.Add (named 1 a) (named 2 v)) 8 false
    -- signed where both are
    ∷ accepted (of2 bin.Add (named 1 n) (int 2 1)) 32 true
    ∷ accepted (of2 bin.Add (named 1 v) (int 2 1)) 32 false
    ∷ accepted (of2 bin.Less (named 1 a) (named 2 v)) 1 false
    ∷ accepted (of2 bin.LogicalAnd (named 1 a) (named 2 v)) 1 false
    ∷ accepted (raw.sign 0 true (named 1 v)) 8 true
    ∷ accepted (raw.sign 0 false (named 1 n)) 32 false
    ∷ accepted (raw.choice 0 (named 1 a) (named 2 v) (named 3 n)) 32 false
    ∷ accepted (raw.paren 0 (named 1 v)) 8 false
    ∷ accepted (raw.inside 0 (named 1 a) (ranges_of (raw.span (raw.value (int 2 1)) raw.dollar ∷ raw.one (named 3 d) ∷ []))) 1 false
    -- a row is no array
    ∷ refused (raw.inside 0 (named 1 a) (ranges_of (raw.one (index (named 2 m) (int 3 1)) ∷ []))) 24 (at 2 m)
    ∷ []

-- the table of sizes and signs, by its rows
abbrev pub operators : List Case
operators =
    -- in context: the greater size, signed where both are
    accepted (of2 bin.Multiply (named 1 n) (named 2 v)) 32 false
    ∷ accepted (of2 bin.Modulus (named 1 n) (int 2 3)) 32 true
    ∷ accepted (of2 bin.BitwiseXor (named 1 a) (named 2 a)) 4 false
    ∷ accepted (of2 bin.Add (raw.sign 0 true (named 1 a)) (named 2 n)) 32 true
    -- `'1` has no sign
    ∷ accepted (of2 bin.Add (named 1 n) (raw.number 0 1 0 false)) 32 false
    ∷ accepted (raw.unary 0 un.BitwiseNot (named 1 n)) 32 true
    ∷ accepted (raw.unary 0 un.Minus (named 1 v)) 8 false
    ∷ accepted (raw.choice 0 (named 1 v) (named 2 n) (int 3 1)) 32 true
    -- a shift is as its left operand is
    ∷ accepted (of2 bin.ShiftLeft (named 1 a) (named 2 n)) 4 false
    ∷ accepted (of2 bin.ShiftRightArith (named 1 n) (named 2 a)) 32 true
    -- one bit
    ∷ accepted (raw.unary 0 un.ReduceAnd (named 1 n)) 1 false
    ∷ accepted (raw.unary 0 un.LogicalNot (named 1 n)) 1 false
    ∷ accepted (of2 bin.CaseEqual (named 1 n) (named 2 n)) 1 false
    ∷ accepted (of2 bin.Implies (named 1 n) (named 2 n)) 1 false
    ∷ accepted (of2 bin.Equivalent (named 1 n) (named 2 n)) 1 false
    -- each operand is a value
    ∷ refused (of2 bin.ShiftLeft (named 1 a) (named 2 d)) 24 (at 2 d)
    ∷ refused (raw.unary 0 un.Minus (named 1 d)) 24 (at 1 d)
    ∷ refused (raw.choice 0 (named 1 d) (named 2 m) (int 3 1)) 24 (at 1 d)
    ∷ refused (raw.sign 0 true (named 1 d)) 24 (at 1 d)
    ∷ refused (raw.copies 0 (named 1 d) (exprs_of (named 2 v ∷ []))) 10 (at 1 d)
    ∷ []

abbrev pub selects : List Case
selects =
    accepted (index (named 1 v) (int 2 3)) 1 false
    -- past the vector is no refusal of a bit-select
    ∷ accepted (index (named 1 v) (int 2 9)) 1 false
    -- an index that can be random
    ∷ refused (index (named 1 v) (named 2 a)) 21 (at 2 a)
    -- an index of several tokens, at its first
    ∷ refused (index (named 1 v) (raw.binary (at 2 n) bin.Add (named 2 n) (named 3 a))) 21 (at 2 n)
    ∷ refused (index (named 1 v) (raw.bit_select (at 2 d) (named 2 d) (int 3 0) false)) 21 (at 2 d)
    -- a bit of an element
    ∷ refused (index (index (named 1 d) (int 2 0)) (named 3 a)) 21 (at 3 a)
    -- a size, and a state property, are no values that can be random
    ∷ accepted (index (named 1 v) (behind 2 d size false)) 1 false
    ∷ accepted (index (named 1 v) (named 2 n)) 1 false
    -- an index of an array
    ∷ accepted (index (named 1 d) (named 2 a)) 8 false
    ∷ accepted (index (index (named 1 m) (named 2 a)) (named 3 a)) 4 false
    ∷ accepted (slice (named 1 v) (int 2 7) (int 3 4)) 4 false
    ∷ accepted (slice (named 1 v) (int 2 7) (int 3 7)) 1 false
    ∷ accepted (slice (named 1 v) (named 2 e) (int 3 0)) 2 false
    ∷ accepted (slice (named 1 h) (int 2 11) (int 3 4)) 8 false
    ∷ refused (slice (named 1 h) (int 2 12) (int 3 4)) 11 200
    ∷ refused (slice (named 1 v) (int 2 8) (int 3 0)) 11 200
    ∷ refused (slice (named 1 h) (int 2 11) (int 3 3)) 11 300
    -- turned round
    ∷ refused (slice (named 1 v) (int 2 0) (int 3 3)) 11 200
    ∷ refused (slice (named 1 v) (named 2 n) (int 3 0)) 10 (at 2 n)
    ∷ refused (slice (named 1 v) (int 2 7) (named 3 n)) 10 (at 3 n)
    -- the first one of two
    ∷ refused (slice (named 1 v) (named 2 a) (named 3 n)) 10 (at 2 a)
    ∷ refused (named 1 d) 24 (at 1 d)
    ∷ refused (of2 bin.Add (named 1 a) (named 2 m)) 24 (at 2 m)
    ∷ refused (raw.paren 0 (named 1 d)) 24 (at 1 d)
    ∷ refused (index (named 1 m) (int 2 1)) 24 (at 1 m)
    ∷ accepted (index (index (named 1 m) (int 2 1)) (int 3 2)) 4 false
    ∷ accepted (index (index (index (named 1 m) (int 2 1)) (int 3 2)) (int 4 0)) 1 false
    ∷ []

abbrev pub wholes : List Case
wholes =
    accepted (raw.join 0 (exprs_of (named 1 a ∷ named 2 v ∷ []))) 12 false
    ∷ accepted (raw.join 0 (exprs_of (named 1 n ∷ named 2 n ∷ []))) 64 false
    -- 32 + 32 + 4 bits
    ∷ refused (raw.join 7 (exprs_of (named 1 n ∷ named 2 n ∷ named 3 a ∷ []))) 9 7
    -- a refused part keeps its size
    ∷ refused (raw.join 7 (exprs_of (named 1 n ∷ named 2 n ∷ of2 bin.Equal (named 3 z) (int 4 1) ∷ []))) 9 7
    ∷ accepted (raw.copies 0 (int 1 8) (exprs_of (named 2 v ∷ []))) 64 false
    ∷ refused (raw.copies 7 (int 1 9) (exprs_of (named 2 v ∷ []))) 9 7
    ∷ refused (raw.copies 0 (int 1 0) (exprs_of (named 2 v ∷ []))) 11 100
    ∷ refused (raw.copies 0 (raw.unary 100 un.Minus (int 2 1)) (exprs_of (named 3 v ∷ []))) 11 100
    ∷ refused (raw.copies 0 (named 1 n) (exprs_of (named 2 v ∷ []))) 10 (at 1 n)
    ∷ accepted (raw.copies 0 (int 1 1) (exprs_of (named 2 v ∷ []))) 8 false
    ∷ refused (raw.copies 0 (behind 1 d size false) (exprs_of (named 2 v ∷ []))) 10 (at 1 d)
    -- an enum member is a constant
    ∷ accepted (raw.copies 0 (named 1 e) (exprs_of (named 2 v ∷ []))) 8 false
    ∷ []

abbrev pub arrays : List Case
arrays =
    accepted (behind 1 d size false) 32 true
    ∷ accepted (behind 1 d size true) 32 true
    ∷ refused (behind 1 v size false) 7 (at 1 size)
    ∷ accepted (behind 1 d sum true) 8 false
    ∷ refused (behind 1 v sum true) 7 (at 1 sum)
    ∷ refused (behind 1 d z false) 7 (at 1 z)
    -- `d.sum with (item + 1)`
    ∷ accepted (raw.reduce 0 (named 1 d) fold.Sum iterator.Absent (of2 bin.Add (named 2 item) (int 3 1))) 32 false
    -- `d.sum(z) with (z)`
    ∷ accepted (raw.reduce 0 (named 1 d) fold.Sum (iterator.Named (at 2 z)) (named 3 z)) 8 false
    -- `item` is the element only where no name is written
    ∷ refused (raw.reduce 0 (named 1 d) fold.Sum (iterator.Named (at 2 z)) (named 3 item)) 7 (at 3 item)
    ∷ refused (raw.reduce 0 (named 1 v) fold.Sum iterator.Absent (int 2 1)) 7 (at 1 v)
    ∷ []

abbrev pub statements : List Case
statements =
    accepted (named 1 c) 32 true
    -- a property alone names nothing here, and an object variable is no value
    ∷ refused (named 1 a) 7 (at 1 a)
    ∷ refused (named 1 p) 7 (at 1 p)
    ∷ accepted (of 1 p 2 a) 4 false
    ∷ refused (of 1 q 2 a) 26 (at 1 q)
    -- the object first, whatever its property
    ∷ refused (of 1 q 2 z) 26 (at 1 q)
    ∷ refused (of2 bin.Add (of 1 p 2 a) (of 3 q 4 a)) 26 (at 3 q)
    ∷ refused (of2 bin.Add (named 1 z) (of 3 q 4 a)) 7 (at 1 z)
    ∷ accepted (index (of 1 p 2 d) (int 3 0)) 8 false
    ∷ refused (index (of 1 q 2 d) (int 3 0)) 26 (at 1 q)
    ∷ refused (of 1 p 2 d) 24 (at 2 d)
    ∷ accepted (raw.path (at 1 p) scope.Plain (at 1 p ∷ at 2 d ∷ at 3 size ∷ []) true) 32 true
    -- a reduction stands outside of objects only
    ∷ refused (raw.path (at 1 p) scope.Plain (at 1 p ∷ at 2 d ∷ at 3 sum ∷ []) true) 24 (at 2 d)
    ∷ []
