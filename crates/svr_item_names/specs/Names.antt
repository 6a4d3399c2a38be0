-- The names of the active items of a call: that of the block, or `with` for the in-line set (IEEE 1800-2017, 18.7), and the number of the entry in the text of the block, from 1
use Rattle.std.specs.Prelude.{ℕ, ◌+◌, Bool, if◌then◌else◌, List, [], ◌∷◌, ◌++◌, codes, decimal}
use Rattle.svr_typed.specs.ItemTerm.{ItemTerms, no_items, more_items}
use Rattle.svr_typed.specs.ClassTerm.{BlockTerm}

-- `c.2`
abbrev pub entry_name : List ℕ → ℕ → List ℕ
entry_name block n = block ++ codes "." ++ decimal n

-- those of the entries of a block from the n-th on
abbrev pub entry_names : List ℕ → ℕ → ItemTerms → List (List ℕ)
entry_names block n no_items = []
entry_names block n (more_items i is) = entry_name block n ∷ entry_names block (n + 1) is

-- in the order of the active items: those of the blocks that are switched on (18.9), then the in-line set
abbrev pub item_names : List BlockTerm → List Bool → ItemTerms → List (List ℕ)
item_names [] modes with_items = entry_names (codes "with") 1 with_items
item_names (b ∷ bs) [] with_items = item_names bs [] with_items
item_names (b ∷ bs) (on ∷ modes) with_items = if on then entry_names b.name 1 b.items ++ item_names bs modes with_items else item_names bs modes with_items
