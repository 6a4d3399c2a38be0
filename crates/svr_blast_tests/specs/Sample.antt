-- `rand bit [3:0] x, y, z; rand bit [1:0] d [3]; rand bit e [2][2]; rand bit [1:0] q [];` in a call that chooses the size of q, and a script variable that is 9
use Rattle.std.specs.Prelude.{ℕ, pos, Bool, true, false, List, [], ◌∷◌, None}
use Rattle.svr_operator.specs.declared.Rand.TheVariants as rand
use Rattle.svr_typed.specs.declared.class.ArrayKind.{ArrayKind}
use Rattle.svr_typed.specs.declared.class.ArrayKind.TheVariants as array
use Rattle.svr_typed.specs.declared.class.Prop.{Prop}
use Rattle.svr_typed.specs.ItemTerm.{no_items}
use Rattle.svr_frame.specs.declared.slot.Slot.{Slot}
use Rattle.svr_frame.specs.declared.slot.Slot.TheVariants as slot
use Rattle.svr_frame.specs.declared.part.Part.{Part}
use Rattle.svr_frame.specs.declared.part.Part.TheVariants as part
use Rattle.svr_frame.specs.Frame.{FrameTerm}

abbrev pub random_prop : ArrayKind → ℕ → ℕ → Prop
random_prop kind width inner = record {
  name = [];
  kind = record { width = width; signed = false; members = None };
  rand = rand.Rand;
  array = kind;
  first = 0;
  low = pos 0;
  can = true;
  inner = inner;
}

abbrev pub scalar_prop : Prop
scalar_prop = random_prop array.Scalar 4 1

abbrev pub row_prop : Prop
row_prop = random_prop (array.Fixed 3) 2 1

abbrev pub table_prop : Prop
table_prop = random_prop (array.Fixed 4) 1 2

abbrev pub dynamic_prop : Prop
dynamic_prop = random_prop array.Dynamic 2 1

abbrev pub sample_sizes : List ℕ
sample_sizes = 1 ∷ 1 ∷ 1 ∷ 3 ∷ 4 ∷ 0 ∷ []

abbrev pub sample_frame : FrameTerm
sample_frame = record {
  class = record { props = scalar_prop ∷ scalar_prop ∷ scalar_prop ∷ row_prop ∷ table_prop ∷ dynamic_prop ∷ []; blocks = [] };
  enums = [];
  state = record { values = (0 ∷ []) ∷ (0 ∷ []) ∷ (0 ∷ []) ∷ (1 ∷ 2 ∷ 3 ∷ []) ∷ (0 ∷ 0 ∷ 0 ∷ 0 ∷ []) ∷ [] ∷ []; sizes = sample_sizes; script = 9 ∷ [] };
  random = true ∷ true ∷ true ∷ true ∷ true ∷ true ∷ [];
  free_size = false ∷ false ∷ false ∷ false ∷ false ∷ true ∷ [];
  items = no_items;
}

abbrev pub sample_slots : Part → List Slot
sample_slots part.Randc = []
sample_slots part.Sizes = slot.Size 5 ∷ slot.Scalar 0 ∷ slot.Scalar 1 ∷ slot.Scalar 2 ∷ []
sample_slots part.All =
    slot.Scalar 0 ∷ slot.Scalar 1 ∷ slot.Scalar 2 ∷ slot.Element 3 0 ∷ slot.Element 3 1 ∷ slot.Element 3 2
    ∷ slot.Element 4 0 ∷ slot.Element 4 1 ∷ slot.Element 4 2 ∷ slot.Element 4 3 ∷ []
