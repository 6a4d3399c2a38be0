-- What the walk finds in the loops of items (IEEE 1800-2017, 18.5.8.1).
use Rattle.std.specs.Prelude.{ℕ, List}
use Rattle.svr_typed.specs.ItemTerm.{ItemTerms}
use Rattle.svr_frame.specs.Occurrences.{Place, within, each_below, each_of_row, all_occur}
use Rattle.svr_mention.specs.declared.setting.Setting.{Setting}
use Rattle.svr_mention.specs.Mentioned.{shape_in}
use Rattle.svr_expand.specs.Expanded.{FindingTerm, found_in_all}

-- in a loop over p, at each index below n
abbrev pub found_within : Setting → Place → ℕ → ℕ → ItemTerms → List FindingTerm
found_within x at p n body = found_in_all x (each_below n (λ i. all_occur (shape_in x) (within p i at) body))

-- in one turn of a loop over p with rows of m elements; the place has the loop
abbrev pub found_in_row : Setting → Place → ℕ → ℕ → ℕ → ItemTerms → List FindingTerm
found_in_row x at p m names body = found_in_all x (each_of_row p m names (λ inner. all_occur (shape_in x) inner body) at)

-- at each index of its first variable below n
abbrev pub found_in_loop : Setting → Place → ℕ → ℕ → ℕ → ℕ → ItemTerms → List FindingTerm
found_in_loop x at p m names n body = found_in_all x (each_below n (λ i. each_of_row p m names (λ inner. all_occur (shape_in x) inner body) (within p i at)))
