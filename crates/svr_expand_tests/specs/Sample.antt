-- `rand bit [1:0] d [3]; unique {d}; foreach (d[k]) soft d[k] == 0;`
use Rattle.std.specs.Prelude.{true, false, [], ◌∷◌}
use Rattle.svr_typed.specs.declared.class.Prop.{Prop}
use Rattle.svr_typed.specs.ExprTerm.{exprs_of}
use Rattle.svr_typed.specs.ItemTerm.{ItemTerm, unique, foreach, items_of}
use Rattle.svr_eval.specs.Examples.{int}
use Rattle.svr_frame.specs.Frame.{FrameTerm}
use Rattle.svr_frame.specs.Examples.{fixed_of, soft_, x_of, at_, equal, k0}

abbrev pub sample_prop : Prop
sample_prop = fixed_of 3 2

abbrev pub all_different : ItemTerm
all_different = unique (exprs_of (x_of 2 0 ∷ []))

abbrev pub soft_zeros : ItemTerm
soft_zeros = foreach 0 1 1 (items_of (soft_ (equal (at_ 2 0 k0) (int 0)) ∷ []))

abbrev pub sample_frame : FrameTerm
sample_frame = record {
  class = record { props = sample_prop ∷ []; blocks = [] };
  enums = [];
  state = record { values = (0 ∷ 0 ∷ 0 ∷ []) ∷ []; sizes = 3 ∷ []; script = [] };
  random = true ∷ [];
  free_size = false ∷ [];
  items = items_of (all_different ∷ soft_zeros ∷ []);
}
