-- Parts of what is printed as the code holds them.
use Rattle.std.specs.Prelude.{ℕ, Bool, true, false, List, [], ◌∷◌, map, slice_index_or}
use Rattle.svr_typed.specs.declared.class.NumType.{NumType}
use Rattle.svr_typed.specs.declared.class.Prop.{Prop}
use Rattle.svr_frame.specs.Frame.{FrameTerm}
use Rattle.svr_script.specs.Printed.{no_type}

abbrev pub none_left : List ℕ → Bool
none_left [] = true
none_left (n ∷ ns) = false

-- the type of a property
abbrev pub kind_of : FrameTerm → ℕ → NumType
kind_of f p = slice_index_or (map (λ (x : Prop). x.kind) f.class.props) p no_type
