-- A design with each form of item and of statement that was worked out by hand, with one choice at each of the places that a condition speaks of:
--   class All;
--     rand bit [7:0] a;  rand bit [7:0] b;  bit [7:0] s;  rand bit [7:0] d [];  bit [7:0] f [3];
--     constraint i {
--       a dist { s := s, [1:$] :/ 2 };
--       unique { a, b, d };
--       !s -> { a inside { d, [b:9] }; }
--       if (s) { disable soft d[s]; } else { soft d.size < 2; }
--       foreach (d[i]) a == {2{s[3:0]}};
--       d.sum with (item) == {s[1], 7'd5} - $unsigned(b ? a : s);
--       solve a before b;
--     }
--   endclass
--   module m;
--     All p;  int n;
--     initial begin
--       p = new;  p.d = new[2];  p.f = '{1, 2, 3};  p.d[n] = p.f[1];  n = p.d.size;
--       p.rand_mode(0);  p.s.rand_mode(1);  p.i.constraint_mode(n inside { p.f });
--       begin p.randomize(null); end
--     end
--   endmodule
use Rattle.std.specs.Prelude.{ℕ, true, false, List, [], ◌∷◌, Option, Some, None, pos, codes}
use Rattle.svr_operator.specs.declared.Rand.TheVariants as rand
use Rattle.svr_operator.specs.declared.Share.TheVariants as share
use Rattle.svr_operator.specs.declared.Fold.TheVariants as fold
use Rattle.svr_operator.specs.declared.UnOp.TheVariants as un
use Rattle.svr_operator.specs.declared.BinOp.TheVariants as bin
use Rattle.svr_typed.specs.declared.ArrayKind.TheVariants as array
use Rattle.svr_typed.specs.declared.Prop.{Prop}
use Rattle.svr_typed.specs.declared.TVar.{TVar}
use Rattle.svr_typed.specs.declared.VarKind.TheVariants as var_kind
use Rattle.svr_typed.specs.declared.CallList.TheVariants as call_list
use Rattle.svr_typed.specs.ExprTerm as node
use Rattle.svr_typed.specs.ExprTerm.{ExprTerm, typed, exprs_of, ranges_of}
use Rattle.svr_typed.specs.ItemTerm as item
use Rattle.svr_typed.specs.ItemTerm.{DistTerm, ItemTerm, ItemTerms, items_of}
use Rattle.svr_typed.specs.ClassTerm.{ClassTerm}
use Rattle.svr_typed.specs.StmtTerm as stmt
use Rattle.svr_typed.specs.StmtTerm.{StmtTerm, StmtTerms, DesignTerm, stmts_of}
use Rattle.svr_design.specs.Examples.{bits, int, property, read, number, compared, loop, hard}

-- the numbers of properties are 0 of `a`, 1 of `b`, 2 of `s`, 3 of `d`, 4 of `f`
pub record Places : Type 0 where
  -- the property that has the `dist`
  pub dealt : ℕ
  -- the property that is its first weight
  pub weight : ℕ
  -- the second member of `unique`
  pub member : ExprTerm
  -- the property that is the guard of `disable soft`
  pub guard : ℕ
  -- the property that is the index of its target
  pub index : ℕ
  -- how many loop variables `foreach` has
  pub names : ℕ
  -- the property that the left side of `==` is
  pub whole : ℕ
  -- the property that is solved later
  pub later : ℕ
  -- how many elements `d` gets
  pub elements : ℕ
  -- what `f` is given
  pub pattern : List ExprTerm
  -- the index of `d` on a left side
  pub place : Option ExprTerm
  -- the property whose mode is set
  pub mode : ℕ
  -- the block whose mode is set
  pub block : ℕ

abbrev pub byte : ℕ → ExprTerm
byte p = read 8 (node.prop p)

-- ---- items

abbrev pub dealt_item : Places → ItemTerm
dealt_item c = item.plain false (byte c.dealt) (Some (
    (record { range = node.one (byte 2); weight = Some (share.Each, byte c.weight) })
    ∷ (record { range = node.span (node.value (number 1)) node.dollar; weight = Some (share.Whole, number 2) })
    ∷ []))

abbrev pub unique_item : Places → ItemTerm
unique_item c = item.unique (exprs_of (byte 0 ∷ c.member ∷ byte 3 ∷ []))

-- `!s`
abbrev pub no_s : ExprTerm
no_s = read 1 (node.unary un.LogicalNot (byte 2))

-- `a inside { d, [b:9] }`
abbrev pub member_of_d : ExprTerm
member_of_d = read 1 (node.inside (byte 0) (ranges_of (node.one (byte 3) ∷ node.span (node.value (byte 1)) (node.value (number 9)) ∷ [])))

-- `d.size`
abbrev pub size_of_d : ExprTerm
size_of_d = typed 32 true (node.size 3 1)

abbrev pub branch_item : Places → ItemTerm
branch_item c = item.branch (byte c.guard)
    (items_of (item.disable (read 8 (node.element 3 (byte c.index))) ∷ []))
    (item.else_items (items_of (item.plain true (compared bin.Less size_of_d (number 2)) None ∷ [])))

-- `{2{s[3:0]}}`
abbrev pub twice : ExprTerm
twice = read 8 (node.copies (number 2) (exprs_of (read 4 (node.part_select (byte 2) (number 3) (number 0) (pos 0)) ∷ [])))

abbrev pub foreach_item : Places → ItemTerm
foreach_item c = item.foreach 3 1 c.names (items_of (hard (compared bin.Equal (byte c.whole) twice) ∷ []))

-- `d.sum with (item)`
abbrev pub sum_of_d : ExprTerm
sum_of_d = read 8 (node.reduce 3 fold.Sum (read 8 (node.element 3 (loop 0))))

-- `{s[1], 7'd5}`
abbrev pub joined : ExprTerm
joined = read 8 (node.join (exprs_of (read 1 (node.bit_select (byte 2) (number 1) (pos 0)) ∷ read 7 (node.number 5 false) ∷ [])))

-- `$unsigned(b ? a : s)`
abbrev pub chosen : ExprTerm
chosen = read 8 (node.sign false (read 8 (node.choice (byte 1) (byte 0) (byte 2))))

abbrev pub items : Places → ItemTerms
items c = items_of (
    dealt_item c
    ∷ unique_item c
    ∷ item.implies no_s (items_of (hard member_of_d ∷ []))
    ∷ branch_item c
    ∷ foreach_item c
    ∷ hard (compared bin.Equal sum_of_d (read 8 (node.binary bin.Subtract joined chosen)))
    ∷ item.solve (exprs_of (byte 0 ∷ [])) (exprs_of (byte c.later ∷ []))
    ∷ [])

-- ---- the class

abbrev pub props : List Prop
props =
    property (codes "a") (bits 8) rand.Rand true
    ∷ property (codes "b") (bits 8) rand.Rand true
    ∷ property (codes "s") (bits 8) rand.State false
    ∷ record (property (codes "d") (bits 8) rand.Rand true) { array = array.Dynamic }
    ∷ record (property (codes "f") (bits 8) rand.State false) { array = array.Fixed 3 }
    ∷ []

abbrev pub class : Places → ClassTerm
class c = record { name = codes "All"; base = None; props = props; blocks = (record { name = codes "i"; items = items c }) ∷ [] }

-- ---- statements

abbrev pub variables : List TVar
variables = (record { name = codes "p"; kind = var_kind.Object 0 }) ∷ (record { name = codes "n"; kind = var_kind.Number int }) ∷ []

-- `n`
abbrev pub n : ExprTerm
n = typed 32 true (node.script 1)

-- `p.f[1]`
abbrev pub element_of_f : ExprTerm
element_of_f = read 8 (node.of_object 0 (read 8 (node.element 4 (number 1))))

-- `p.d.size`
abbrev pub size_in_p : ExprTerm
size_in_p = typed 32 true (node.of_object 0 size_of_d)

-- `n inside { p.f }`
abbrev pub n_in_f : ExprTerm
n_in_f = read 1 (node.inside n (ranges_of (node.one (read 8 (node.of_object 0 (byte 4))) ∷ [])))

abbrev pub statements : Places → StmtTerms
statements c = stmts_of (
    stmt.make 0
    ∷ stmt.resize 0 3 c.elements
    ∷ stmt.pattern 0 4 (exprs_of c.pattern)
    ∷ stmt.set_prop 0 3 c.place element_of_f
    ∷ stmt.set_var 1 size_in_p
    ∷ stmt.rand_mode 0 None (number 0)
    ∷ stmt.rand_mode 0 (Some c.mode) (number 1)
    ∷ stmt.constraint_mode 0 (Some c.block) n_in_f
    ∷ stmt.list (stmts_of (stmt.call (record { object = 0; list = call_list.Null; items = item.no_items; answer = None }) ∷ []))
    ∷ [])

abbrev pub forms : Places → DesignTerm
forms c = record { enums = []; classes = class c ∷ []; vars = variables; stmts = statements c }

-- ---- the choices of the text above

abbrev pub as_listed : Places
as_listed = record {
  dealt = 0;
  weight = 2;
  member = byte 1;
  guard = 2;
  index = 2;
  names = 1;
  whole = 0;
  later = 1;
  elements = 2;
  pattern = number 1 ∷ number 2 ∷ number 3 ∷ [];
  place = Some n;
  mode = 2;
  block = 0;
}
