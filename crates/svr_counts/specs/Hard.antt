-- The hard occurrences of items, item by item (IEEE 1800-2017, 18.5)
use Rattle.std.specs.Prelude.{ℕ, List, [], ◌∷◌, ◌++◌, map, filter, length}
use Rattle.svr_typed.specs.ItemTerm.{ItemTerms, no_items, more_items}
use Rattle.svr_frame.specs.Frame.{FrameTerm}
use Rattle.svr_frame.specs.Occurrences.{Occurrence, Shape, outside, occur, is_hard}
use Rattle.svr_frame.specs.Phases.{shape_at}

-- those of each item
abbrev pub hard_lists : Shape → ItemTerms → List (List Occurrence)
hard_lists sh no_items = []
hard_lists sh (more_items i is) = filter is_hard (occur sh outside i) ∷ hard_lists sh is

-- those of each active item of a call
abbrev pub hard_by_item : FrameTerm → List ℕ → List (List Occurrence)
hard_by_item f sizes = hard_lists (shape_at f sizes) f.items

-- lists one behind the other
abbrev pub joined : List (List Occurrence) → List Occurrence
joined [] = []
joined (os ∷ more) = os ++ joined more

abbrev pub count_of : List Occurrence → ℕ
count_of os = length os

abbrev pub counts_of : List (List Occurrence) → List ℕ
counts_of all = map count_of all
