-- `rand bit [7:0] x, y; bit s [200]; randc bit [1:0] c; rand bit d [];` in a call
use Rattle.std.specs.Prelude.{ℕ, pos, Bool, true, false, List, [], ◌∷◌, None, replicate}
use Rattle.svr_operator.specs.declared.Rand.{Rand}
use Rattle.svr_operator.specs.declared.Rand.TheVariants as rand
use Rattle.svr_operator.specs.declared.BinOp.{BinOp}
use Rattle.svr_operator.specs.declared.BinOp.TheVariants as bin
use Rattle.svr_typed.specs.declared.class.ArrayKind.{ArrayKind}
use Rattle.svr_typed.specs.declared.class.ArrayKind.TheVariants as array
use Rattle.svr_typed.specs.declared.class.Prop.{Prop}
use Rattle.svr_typed.specs.ExprTerm.{ExprTerm, typed, number, prop, size, binary}
use Rattle.svr_typed.specs.ItemTerm.{ItemTerm, plain, foreach, items_of}
use Rattle.svr_typed.specs.ClassTerm.{FlatTerm}
use Rattle.svr_eval.specs.declared.assign.Assign.{Assign}
use Rattle.svr_frame.specs.Frame.{FrameTerm}
use Rattle.svr_randomize_tests.specs.declared.form.Form.{Form}
use Rattle.svr_randomize_tests.specs.declared.form.Form.TheVariants as form

abbrev pub declared : Rand → ArrayKind → ℕ → Bool → Prop
declared kind shape width can = record {
  name = [];
  kind = record { width = width; signed = false; members = None };
  rand = kind;
  array = shape;
  first = 0;
  low = pos 0;
  can = can;
  inner = 1;
}

abbrev pub byte_prop : Prop
byte_prop = declared rand.Rand array.Scalar 8 true

abbrev pub row_prop : Prop
row_prop = declared rand.State (array.Fixed 200) 1 false

abbrev pub cyclic_prop : Prop
cyclic_prop = declared rand.Randc array.Scalar 2 true

abbrev pub list_prop : Prop
list_prop = declared rand.Rand array.Dynamic 1 true

abbrev pub sample_class : FlatTerm
sample_class = record { props = byte_prop ∷ byte_prop ∷ row_prop ∷ cyclic_prop ∷ list_prop ∷ []; blocks = [] }

abbrev pub byte : ℕ → ExprTerm
byte p = typed 8 false (prop p)

abbrev pub applied : BinOp → ExprTerm
applied op = typed 8 false (binary op (byte 0) (byte 1))

abbrev pub bits : ℕ → ℕ → ExprTerm
bits w v = typed w false (number v false)

abbrev pub compared : BinOp → ExprTerm → ExprTerm → ExprTerm
compared op l r = typed 1 false (binary op l r)

abbrev pub length_of : ExprTerm
length_of = typed 32 true (size 4 1)

-- `soft x == 8'dv`
abbrev pub soft_item : ℕ → ItemTerm
soft_item v = plain true (compared bin.Equal (byte 0) (bits 8 v)) None

-- `d.size() == 32'dn`
abbrev pub sized_item : ℕ → ItemTerm
sized_item n = plain false (compared bin.Equal length_of (bits 32 n)) None

abbrev pub items_for : Form → List ItemTerm
items_for form.Free = plain false (compared bin.Equal (byte 0) (byte 0)) None ∷ []
items_for form.Sum = plain false (compared bin.Equal (applied bin.Add) (bits 16 300)) None ∷ []
items_for form.Never = plain false (compared bin.NotEqual (byte 0) (byte 0)) None ∷ []
items_for form.Product = plain false (compared bin.Equal (applied bin.Multiply) (bits 16 257)) None ∷ []
items_for form.Heavy = foreach 2 1 1 (items_of (plain false (compared bin.Equal (applied bin.Multiply) (bits 64 257)) None ∷ [])) ∷ []
items_for form.Soft = soft_item 1 ∷ []
items_for form.Overruled = soft_item 1 ∷ soft_item 2 ∷ []
items_for form.Cyclic = plain false (compared bin.Equal (byte 0) (byte 0)) None ∷ []
items_for form.Sized = sized_item 3 ∷ []
items_for form.NoSize = plain false (compared bin.NotEqual length_of length_of) None ∷ []
items_for form.Large = sized_item 17 ∷ []

abbrev pub is_cyclic : Form → Bool
is_cyclic form.Free = false
is_cyclic form.Sum = false
is_cyclic form.Never = false
is_cyclic form.Product = false
is_cyclic form.Heavy = false
is_cyclic form.Soft = false
is_cyclic form.Overruled = false
is_cyclic form.Cyclic = true
is_cyclic form.Sized = false
is_cyclic form.NoSize = false
is_cyclic form.Large = false

abbrev pub is_sized : Form → Bool
is_sized form.Free = false
is_sized form.Sum = false
is_sized form.Never = false
is_sized form.Product = false
is_sized form.Heavy = false
is_sized form.Soft = false
is_sized form.Overruled = false
is_sized form.Cyclic = false
is_sized form.Sized = true
is_sized form.NoSize = true
is_sized form.Large = true

abbrev pub first_state : Assign
first_state = record { values = (0 ∷ []) ∷ (0 ∷ []) ∷ replicate 200 0 ∷ (0 ∷ []) ∷ [] ∷ []; sizes = 1 ∷ 1 ∷ 200 ∷ 1 ∷ 0 ∷ []; script = [] }

abbrev pub frame_for : Form → FrameTerm
frame_for x = record {
  class = sample_class;
  enums = [];
  state = first_state;
  random = true ∷ true ∷ false ∷ is_cyclic x ∷ is_sized x ∷ [];
  free_size = false ∷ false ∷ false ∷ false ∷ is_sized x ∷ [];
  items = items_of (items_for x);
}
