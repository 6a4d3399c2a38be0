-- Ranks of properties, and whether items go from lower ranks to higher ones.
use Rattle.std.specs.Prelude.{ℕ, ◌+◌, nat_lt, max, Bool, true, false, List, Option, Some, None, slice_index_or}
use Rattle.std.specs.List.{list_all}
use Rattle.svr_elab_fault.specs.declared.Fault.{Fault}
use Rattle.svr_elab_order.specs.declared.order.Order.{Order}
use Rattle.svr_elab_order.specs.declared.ranks.Ranks.{Ranks}

-- by number; a number behind the table ranks above all of it
abbrev pub rank_of : Ranks → ℕ → ℕ
rank_of r x = slice_index_or r.table x (r.above + x)

-- a rank is higher than this one, or there is none
abbrev pub is_higher : Option ℕ → ℕ → Bool
is_higher None rank = true
is_higher (Some low) rank = nat_lt low rank

abbrev pub are_higher : Ranks → Option ℕ → List ℕ → Bool
are_higher r low xs = list_all (λ x. is_higher low (rank_of r x)) xs

-- each of the first ranks lower than each of the later ones
abbrev pub goes_up : Ranks → List ℕ → List ℕ → Bool
goes_up r first later = list_all (λ x. are_higher r (Some (rank_of r x)) later) first

abbrev pub is_ranked : Ranks → Order → Bool
is_ranked r o = goes_up r o.first o.later

-- each item goes from lower ranks to higher ones
abbrev pub agree : Ranks → List Order → Bool
agree r os = list_all (is_ranked r) os

-- the higher of two ranks
abbrev pub higher : Option ℕ → ℕ → Option ℕ
higher None rank = Some rank
higher (Some high) rank = Some (max high rank)

-- ---- items behind a refusal

abbrev pub all_behind : ℕ → List Order → Bool
all_behind at os = list_all (λ o. nat_lt at o.at) os

abbrev pub are_behind : Option Fault → List Order → Bool
are_behind None os = false
are_behind (Some f) os = all_behind f.token os
