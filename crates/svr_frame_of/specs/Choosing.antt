-- A frame in another state of its object, and the sizes that its call chooses there (IEEE 1800-2017, 18.4 and 18.5).
use Rattle.std.specs.Prelude.{◌≡◌, ℕ, Bool, nat_eq, List, map}
use Rattle.std.specs.Cmp.Lexicographic.{pointwise}
use Rattle.svr_eval.specs.declared.assign.Assign.{Assign}
use Rattle.svr_frame.specs.Frame.{FrameTerm, props_of}
use Rattle.svr_frame.specs.Making.{is_free}
use Rattle.svr_frame_of.specs.Callable.{with_free}

-- the class, the random set and the items stay
abbrev pub in_state : FrameTerm → Assign → FrameTerm
in_state f s = record f { state = s }

-- with the sizes that the call chooses
abbrev pub as_chosen : FrameTerm → FrameTerm
as_chosen f = with_free f (map (is_free f) (props_of f))

-- it has them
abbrev pub HasChosen : FrameTerm → Type 0
HasChosen f = f.free_size ≡ map (is_free f) (props_of f)

abbrev pub are_same : List ℕ → List ℕ → Bool
are_same sizes others = pointwise nat_eq sizes others
