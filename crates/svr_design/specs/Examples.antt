-- A design that was worked out by hand, with one choice at each of the places that a condition speaks of:
--   typedef enum bit [1:0] { READ, WRITE } kind_t;
--   class Base;
--     rand bit [3:0] x = 15;  randc bit [1:0] c;  kind_t k;
--     constraint b { x < 5; c < 3; }
--   endclass
--   class Packet extends Base;
--     rand bit [7:0] d [2][2];  bit [11:4] h;
--     constraint p { foreach (d[i, j]) d[i][j] > 3; h[7:4] == x; h[k]; }
--   endclass
--   module m;
--     int n;  Packet p;
--     initial begin
--       p = new;  p.x = n;
--       repeat (2) n = p.randomize(x, h) with { x < n; };
--     end
--   endmodule
use Rattle.std.specs.Prelude.{ℕ, ◌+◌, Bool, true, false, List, [], ◌∷◌, Option, Some, None, pos, codes}
use Rattle.svr_operator.specs.declared.Rand.{Rand}
use Rattle.svr_operator.specs.declared.Rand.TheVariants as rand
use Rattle.svr_operator.specs.declared.BinOp.{BinOp}
use Rattle.svr_operator.specs.declared.BinOp.TheVariants as bin
use Rattle.svr_typed.specs.declared.NumType.{NumType}
use Rattle.svr_typed.specs.declared.ArrayKind.TheVariants as array
use Rattle.svr_typed.specs.declared.Prop.{Prop}
use Rattle.svr_typed.specs.declared.EnumType.{EnumType}
use Rattle.svr_typed.specs.declared.TVar.{TVar}
use Rattle.svr_typed.specs.declared.VarKind.TheVariants as var_kind
use Rattle.svr_typed.specs.declared.CallList.TheVariants as call_list
use Rattle.svr_typed.specs.ExprTerm as node
use Rattle.svr_typed.specs.ExprTerm.{ExprTerm, NodeTerm, typed}
use Rattle.svr_typed.specs.ItemTerm as item
use Rattle.svr_typed.specs.ItemTerm.{ItemTerm, ItemTerms, items_of}
use Rattle.svr_typed.specs.ClassTerm.{ClassTerm}
use Rattle.svr_typed.specs.StmtTerm as stmt
use Rattle.svr_typed.specs.StmtTerm.{StmtTerm, StmtTerms, DesignTerm, stmts_of}

pub record Choices : Type 0 where
  -- the value of `WRITE`
  pub write : ℕ
  -- the initial value of `x`
  pub initial : ℕ
  -- the width of the cyclic property
  pub cycle : ℕ
  -- the second dimension of `d`
  pub inner : ℕ
  -- the class that `Base` extends
  pub base : Option ℕ
  -- the name of `h`
  pub name : List ℕ
  -- the width with which `x` is read
  pub width : ℕ
  -- whether `c < 3` is soft
  pub soft : Bool
  -- the loop that the first index of `d` is of, counted outwards
  pub outer : ℕ
  -- the last one of four bits of `h`
  pub last : ℕ
  -- the number of one bit of `h`
  pub bit : ExprTerm
  -- what stands before all other statements
  pub start : StmtTerm
  -- what `p.x` is given
  pub value : ExprTerm
  -- how often `randomize` is called
  pub times : ℕ
  -- what the call lists
  pub listed : List ℕ
  -- the variable that takes the call's answer
  pub answer : ℕ

-- ---- short words

abbrev pub bits : ℕ → NumType
bits w = record { width = w; signed = false; members = None }

abbrev pub int : NumType
int = record { width = 32; signed = true; members = None }

abbrev pub property : List ℕ → NumType → Rand → Bool → Prop
property name kind r can = record { name = name; kind = kind; rand = r; array = array.Scalar; first = 0; low = pos 0; can = can; inner = 1 }

abbrev pub read : ℕ → NodeTerm → ExprTerm
read w n = typed w false n

abbrev pub number : ℕ → ExprTerm
number v = typed 32 true (node.number v false)

abbrev pub compared : BinOp → ExprTerm → ExprTerm → ExprTerm
compared op l r = typed 1 false (node.binary op l r)

abbrev pub loop : ℕ → ExprTerm
loop k = typed 32 true (node.loop_index k)

abbrev pub hard : ExprTerm → ItemTerm
hard e = item.plain false e None

abbrev pub n_read : ExprTerm
n_read = typed 32 true (node.script 0)

abbrev pub h_read : ExprTerm
h_read = read 8 (node.prop 4)

-- ---- the design

abbrev pub kinds : Choices → EnumType
kinds c = record { base = bits 2; members = (record { name = codes "READ"; value = 0 }) ∷ (record { name = codes "WRITE"; value = c.write }) ∷ [] }

abbrev pub x_read : Choices → ExprTerm
x_read c = read c.width (node.prop 0)

abbrev pub base_props : Choices → List Prop
base_props c =
    record (property (codes "x") (bits 4) rand.Rand true) { first = c.initial }
    ∷ property (codes "c") (bits c.cycle) rand.Randc true
    ∷ property (codes "k") (record { width = 2; signed = false; members = Some 0 }) rand.State false
    ∷ []

abbrev pub base_items : Choices → ItemTerms
base_items c = items_of (hard (compared bin.Less (x_read c) (number 5)) ∷ item.plain c.soft (compared bin.Less (read c.cycle (node.prop 1)) (number 3)) None ∷ [])

abbrev pub base_class : Choices → ClassTerm
base_class c = record { name = codes "Base"; base = c.base; props = base_props c; blocks = (record { name = codes "b"; items = base_items c }) ∷ [] }

abbrev pub packet_props : Choices → List Prop
packet_props c =
    record (property (codes "d") (bits 8) rand.Rand true) { array = array.Fixed 4; inner = c.inner }
    ∷ record (property c.name (bits 8) rand.State true) { low = pos 4 }
    ∷ []

-- `d[i][j] > 3`
abbrev pub each_element : Choices → ItemTerm
each_element c = hard (compared bin.Greater (read 8 (node.cell 3 c.inner (loop c.outer) (loop 0))) (number 3))

-- `h[7:4]`
abbrev pub four_bits : Choices → ExprTerm
four_bits c = read 4 (node.part_select h_read (number (c.last + 3)) (number c.last) (pos 4))

abbrev pub packet_items : Choices → ItemTerms
packet_items c = items_of (
    item.foreach 3 c.inner 2 (items_of (each_element c ∷ []))
    ∷ hard (compared bin.Equal (four_bits c) (x_read c))
    ∷ hard (read 1 (node.bit_select h_read c.bit (pos 4)))
    ∷ [])

abbrev pub packet_class : Choices → ClassTerm
packet_class c = record { name = codes "Packet"; base = Some 0; props = packet_props c; blocks = (record { name = codes "p"; items = packet_items c }) ∷ [] }

abbrev pub variables : List TVar
variables = (record { name = codes "n"; kind = var_kind.Number int }) ∷ (record { name = codes "p"; kind = var_kind.Object 1 }) ∷ []

abbrev pub called : Choices → StmtTerm
called c = stmt.call (record { object = 1; list = call_list.Listed c.listed; items = items_of (hard (compared bin.Less (x_read c) n_read) ∷ []); answer = Some c.answer })

abbrev pub statements : Choices → StmtTerms
statements c = stmts_of (c.start ∷ stmt.set_prop 1 0 None c.value ∷ stmt.repeat c.times (called c) ∷ [])

abbrev pub design : Choices → DesignTerm
design c = record { enums = kinds c ∷ []; classes = base_class c ∷ packet_class c ∷ []; vars = variables; stmts = statements c }

-- ---- the choices of the text above

abbrev pub as_written : Choices
as_written = record {
  write = 1;
  initial = 15;
  cycle = 2;
  inner = 2;
  base = None;
  name = codes "h";
  width = 4;
  soft = false;
  outer = 1;
  last = 4;
  bit = read 2 (node.prop 2);
  start = stmt.make 1;
  value = n_read;
  times = 2;
  listed = 0 ∷ 4 ∷ [];
  answer = 0;
}
