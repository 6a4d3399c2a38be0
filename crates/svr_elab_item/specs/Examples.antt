-- Constraint items with their first refusal, worked out by hand from the rules of the standard (IEEE 1800-2017, 18.5).
use Rattle.std.specs.Prelude.{◌≡◌, ◌==◌, ◌+◌, ◌*◌, ◌%◌, ℕ, pos, Bool, true, false, ◌&&◌, if◌then◌else◌, List, [], ◌∷◌, Option, Some, None}
use Rattle.svr_operator.specs.declared.Rand.{Rand}
use Rattle.svr_operator.specs.declared.Rand.TheVariants as rand
use Rattle.svr_operator.specs.declared.Share.TheVariants as share
use Rattle.svr_typed.specs.ExprTerm as term
use Rattle.svr_typed.specs.ItemTerm as item_term
use Rattle.svr_tree.specs.declared.Scope.TheVariants as scope
use Rattle.svr_tree.specs.ExprTree as raw
use Rattle.svr_tree.specs.ExprTree.{ExprTree, RangeTree, exprs_of}
use Rattle.svr_tree.specs.ItemTree as tree
use Rattle.svr_tree.specs.ItemTree.{DistItemTree, DistTree, ItemTree, SetTree, items_of}
use Rattle.svr_refusal.specs.Numbers.{number_of}
use Rattle.svr_elab_fault.specs.declared.Fault.{Fault}
use Rattle.svr_elab_fault.specs.Refusals.{all, least}
use Rattle.svr_elab_names.specs.declared.Dims.{Dims}
use Rattle.svr_elab_names.specs.declared.Dims.TheVariants as dims
use Rattle.svr_elab_names.specs.declared.Global.TheVariants as global
use Rattle.svr_elab_names.specs.declared.Region.TheVariants as region
use Rattle.svr_elab_names.specs.Names.{Space, PropName, GlobalName, size_word}
use Rattle.svr_elab_item.specs.Items.{item, outside}

-- ---- what can be named: token n spells the letter of this place among those from `a` on by its last two digits, and `size` where they are 20

abbrev pub a : ℕ
a = 0

abbrev pub b : ℕ
b = 1

abbrev pub c : ℕ
c = 2

abbrev pub s : ℕ
s = 3

abbrev pub d : ℕ
d = 4

abbrev pub m : ℕ
m = 5

abbrev pub f : ℕ
f = 6

abbrev pub w : ℕ
w = 7

abbrev pub i : ℕ
i = 8

abbrev pub j : ℕ
j = 9

abbrev pub e : ℕ
e = 10

abbrev pub unknown : ℕ
unknown = 15

abbrev pub spelled : ℕ → List ℕ
spelled n = if n % 100 == 20 then size_word else (97 + n % 100) ∷ []

-- a property of so many unsigned bits
abbrev pub declared : ℕ → ℕ → Rand → Bool → Dims → PropName
declared name width rand random dims = record {
  name = (97 + name) ∷ [];
  property = record {
    number = name;
    home = 0;
    kind = Some (record { kind = record { width = width; signed = false; members = None }; low = pos 0 });
    rand = rand;
    random = random;
    dims = dims;
  };
  first = 0;
}

abbrev pub properties : List PropName
properties =
    declared a 4 rand.Rand true dims.Scalar
    ∷ declared b 4 rand.Rand true dims.Scalar
    ∷ declared c 3 rand.Randc true dims.Scalar
    ∷ declared s 4 rand.State false dims.Scalar
    ∷ declared d 8 rand.Rand true dims.Dynamic
    ∷ declared m 4 rand.Rand true (dims.Rows (Some 2) (Some 3))
    ∷ declared f 8 rand.State false (dims.Fixed (Some 4))
    ∷ declared w 5 rand.Rand true dims.Scalar
    ∷ []

abbrev pub members : List GlobalName
members = record { name = (97 + e) ∷ []; stands = global.OfMember (Some 1) (Some (record { kind = record { width = 4; signed = false; members = Some 0 }; low = pos 0 })) } ∷ []

abbrev pub places : Space
places = record {
  text = spelled;
  region = region.Block;
  globals = members;
  classes = [];
  props = properties;
  later = [];
  loops = [];
  vars = [];
  made = [];
}

-- ---- short words; the first number counts hundreds of tokens

abbrev pub named : ℕ → ℕ → ExprTree
named k name = raw.path (k * 100 + name) scope.Plain ((k * 100 + name) ∷ []) false

abbrev pub size_of : ℕ → ℕ → ExprTree
size_of k name = raw.path (k * 100 + name) scope.Plain ((k * 100 + name) ∷ ((k * 100 + 20) ∷ [])) false

abbrev pub one : ℕ → ExprTree
one k = raw.number (k * 100) 1 32 true

abbrev pub at_index : ℕ → ℕ → ExprTree → ExprTree
at_index k name index = raw.bit_select (k * 100 + name) (named k name) index false

abbrev pub holds : ExprTree → ItemTree
holds x = tree.plain 0 false x None

abbrev pub soft : ℕ → ExprTree → ItemTree
soft k x = tree.plain (k * 100) true x None

abbrev pub dist : Bool → ExprTree → List DistItemTree → ItemTree
dist soft x ds = tree.plain 0 soft x (Some (record { at = 150; items = ds }))

abbrev pub dealt : RangeTree → DistItemTree
dealt r = record { range = r; weight = None }

abbrev pub weighed : ExprTree → DistItemTree
weighed weight = record { range = raw.one (one 2); weight = Some (share.Each, weight) }

abbrev pub unique : List ExprTree → ItemTree
unique xs = tree.unique 0 (exprs_of xs)

abbrev pub set : List ItemTree → SetTree
set is = tree.set true (items_of is)

abbrev pub under : ExprTree → List ItemTree → ItemTree
under t is = tree.implies 0 t (set is)

abbrev pub if_else : ExprTree → List ItemTree → List ItemTree → ItemTree
if_else t met unmet = tree.branch 0 t (set met) (tree.else_set (set unmet))

abbrev pub each : ExprTree → List ℕ → List ItemTree → ItemTree
each x names is = tree.foreach 0 x names (set is)

abbrev pub disable : ExprTree → ItemTree
disable x = tree.disable 300 x

abbrev pub solve : ExprTree → ExprTree → ItemTree
solve x y = tree.solve 0 (exprs_of (x ∷ [])) (exprs_of (y ∷ []))

-- ---- items, and the token and number of their first refusal

pub record Case : Type 0 where
  pub item : ItemTree
  pub refusal : Option (ℕ × ℕ)

abbrev pub fine : ItemTree → Case
fine x = record { item = x; refusal = None }

abbrev pub refused : ItemTree → ℕ → ℕ → Case
refused x token number = record { item = x; refusal = Some (token, number) }

abbrev pub is_same : Option Fault → Option (ℕ × ℕ) → Bool
is_same None None = true
is_same None (Some r) = false
is_same (Some x) None = false
is_same (Some x) (Some r) = (x.token == r.0) && (number_of x.refusal == r.1)

abbrev pub is_so : Case → Bool
is_so k = is_same (least (item all places outside k.item).faults) k.refusal

-- 18.5.14: a soft item, the guards and loops around it
abbrev pub softs : List Case
softs =
    fine (soft 0 (named 1 a))
    ∷ refused (soft 0 (named 1 c)) 0 14
    ∷ refused (under (named 1 c) (soft 2 (named 3 a) ∷ [])) 200 14
    ∷ refused (if_else (named 1 c) [] (soft 2 (named 3 a) ∷ [])) 200 14
    ∷ fine (under (named 1 s) (soft 2 (named 3 a) ∷ []))
    ∷ fine (under (named 1 c) (holds (named 3 a) ∷ []))
    ∷ []

-- 18.5.4: the left side, weights, and members
abbrev pub distributions : List Case
distributions =
    fine (dist false (named 1 a) (weighed (one 3) ∷ []))
    ∷ refused (dist false (named 1 c) (weighed (one 3) ∷ [])) 150 15
    ∷ refused (dist false (named 1 s) (weighed (one 3) ∷ [])) 150 16
    ∷ fine (dist false (size_of 1 d) (weighed (one 3) ∷ []))
    ∷ refused (dist false (named 1 a) (weighed (named 3 b) ∷ [])) 301 22
    ∷ refused (dist false (named 1 a) (weighed (size_of 3 d) ∷ [])) 304 22
    ∷ fine (dist false (named 1 a) (weighed (named 3 s) ∷ []))
    ∷ fine (dist false (named 1 a) (dealt (raw.span (raw.value (named 2 b)) raw.dollar) ∷ []))
    ∷ refused (dist false (named 1 a) (dealt (raw.one (named 2 d)) ∷ [])) 204 24
    ∷ refused (dist true (named 1 a) (dealt (raw.one (named 2 c)) ∷ [])) 0 14
    ∷ []

-- 18.5.5: members of one size and sign, none of them cyclic
abbrev pub uniques : List Case
uniques =
    fine (unique (named 1 a ∷ []))
    ∷ fine (unique (named 1 a ∷ (named 2 b ∷ [])))
    ∷ refused (unique (named 1 a ∷ (named 2 w ∷ []))) 207 17
    ∷ refused (unique (named 1 w ∷ (named 2 a ∷ (named 3 b ∷ [])))) 200 17
    ∷ refused (unique (named 1 c ∷ [])) 102 18
    ∷ refused (unique (named 1 a ∷ (named 2 c ∷ []))) 202 17
    ∷ fine (unique (named 1 d ∷ (at_index 2 d (one 3) ∷ [])))
    ∷ refused (unique (at_index 1 m (one 2) ∷ [])) 105 24
    ∷ refused (unique (named 1 unknown ∷ (named 2 a ∷ []))) 115 7
    ∷ []

-- 18.5.8.1: arrays of one and of two dimensions, and names that shadow others
abbrev pub loops : List Case
loops =
    fine (each (named 1 d) (208 ∷ []) (holds (at_index 3 d (named 4 i)) ∷ []))
    ∷ refused (holds (named 3 i)) 308 7
    ∷ refused (each (named 1 a) (208 ∷ []) []) 100 7
    ∷ refused (each (named 1 d) (208 ∷ (209 ∷ [])) []) 104 24
    ∷ fine (each (named 1 m) (208 ∷ (209 ∷ [])) (holds (raw.bit_select 305 (at_index 3 m (named 4 i)) (named 5 j) false) ∷ []))
    ∷ refused (each (named 1 m) (208 ∷ []) (holds (at_index 3 m (named 4 i)) ∷ [])) 305 24
    ∷ refused (each (named 1 f) (200 ∷ []) (dist false (named 1 a) (weighed (one 3) ∷ []) ∷ [])) 150 16
    ∷ fine (each (named 1 m) (208 ∷ (208 ∷ [])) (holds (named 3 i) ∷ []))
    ∷ []

-- 18.5.14.2: the target, its indexes, and the guards around it
abbrev pub disables : List Case
disables =
    fine (disable (named 4 a))
    ∷ fine (disable (named 4 d))
    ∷ refused (disable (at_index 4 d (named 5 a))) 500 21
    ∷ fine (disable (at_index 4 d (size_of 5 d)))
    ∷ refused (disable (named 4 unknown)) 415 7
    ∷ refused (disable (named 4 e)) 410 7
    ∷ refused (disable (at_index 4 m (one 5))) 405 24
    ∷ refused (under (named 1 a) (disable (named 4 b) ∷ [])) 100 22
    ∷ refused (under (named 1 s) (under (size_of 2 d) (disable (named 4 b) ∷ []) ∷ [])) 204 22
    ∷ refused (under (named 1 a) (under (named 2 b) (disable (named 4 b) ∷ []) ∷ [])) 100 22
    ∷ fine (if_else (named 1 s) [] (disable (named 4 b) ∷ []))
    ∷ refused (if_else (named 1 a) [] (disable (named 4 b) ∷ [])) 100 22
    ∷ []

-- 18.5.10: scalars that are declared `rand`
abbrev pub solves : List Case
solves =
    fine (solve (named 1 a) (named 2 b))
    ∷ refused (solve (named 1 c) (named 2 b)) 102 19
    ∷ refused (solve (named 1 s) (named 2 b)) 103 19
    ∷ refused (solve (named 1 a) (named 2 d)) 204 24
    ∷ refused (solve (named 1 a) (named 2 f)) 206 19
    ∷ refused (solve (named 1 a) (size_of 2 d)) 220 19
    ∷ refused (solve (named 1 a) (named 2 unknown)) 215 7
    ∷ []

-- of several refusals the first in the text
abbrev pub firsts : List Case
firsts =
    refused (under (named 1 unknown) (soft 2 (named 3 c) ∷ [])) 115 7
    ∷ refused (under (named 1 s) (soft 2 (named 3 c) ∷ (holds (named 4 unknown) ∷ []))) 200 14
    ∷ refused (if_else (named 1 s) (holds (named 2 d) ∷ []) (holds (named 3 unknown) ∷ [])) 204 24
    ∷ []

-- a loop of two names over the array of two dimensions, around a soft item
abbrev pub LoopIsTyped : Type 0
LoopIsTyped =
    (item all places outside (each (named 1 m) (208 ∷ (209 ∷ [])) (soft 3 (named 4 i) ∷ []))).tree
    ≡ Some (item_term.foreach m 3 2 (item_term.more_items (item_term.plain true (term.typed 32 true (term.loop_index 1)) None) item_term.no_items))
