-- `rand bit [1:0] d []; constraint c { d.size() == 2; }`, in an object that was just made, and a call without arguments
use Rattle.std.specs.Prelude.{[], ◌∷◌, None}
use Rattle.svr_typed.specs.declared.class.Prop.{Prop}
use Rattle.svr_typed.specs.declared.stmt.CallList.TheVariants as list
use Rattle.svr_typed.specs.ItemTerm.{ItemTerm, no_items, items_of}
use Rattle.svr_typed.specs.ClassTerm.{BlockTerm, FlatTerm}
use Rattle.svr_typed.specs.StmtTerm.{CallTerm}
use Rattle.svr_eval.specs.Examples.{int}
use Rattle.svr_world.specs.World.{WorldTerm, blank_world, with_new_object}
use Rattle.svr_frame.specs.Examples.{dynamic_of, is_, size_, equal}

abbrev pub sample_prop : Prop
sample_prop = dynamic_of 2

abbrev pub size_is_two : ItemTerm
size_is_two = is_ (equal (size_ 0) (int 2))

abbrev pub sample_block : BlockTerm
sample_block = record { name = []; items = items_of (size_is_two ∷ []) }

abbrev pub sample_class : FlatTerm
sample_class = record { props = sample_prop ∷ []; blocks = sample_block ∷ [] }

abbrev pub sample_world : WorldTerm
sample_world = with_new_object (blank_world (0 ∷ [])) 0 sample_class

abbrev pub sample_call : CallTerm
sample_call = record { object = 0; list = list.All; items = no_items; answer = None }
