-- Which literals of each variable are marked
use Rattle.std.specs.Prelude.{◌≡◌, Bool, true, false, List, slice_index_or}
use Rattle.svr_chain.specs.declared.clause.Lit.{Lit}
use Rattle.svr_chain.specs.Clauses.{has}
use Rattle.svr_lrat_judge.specs.declared.known.Sides.{Sides}

abbrev pub unmarked : Sides
unmarked = record { positive = false; negative = false }

abbrev pub side : Sides → Bool → Bool
side s true = s.negative
side s false = s.positive

abbrev pub with_side : Sides → Bool → Bool → Sides
with_side s true mark = record { positive = s.positive; negative = mark }
with_side s false mark = record { positive = mark; negative = s.negative }

abbrev pub is_marked : List Sides → Lit → Bool
is_marked marks l = side (slice_index_or marks l.var unmarked) l.neg

-- those that are marked are those of the list
abbrev pub AreMarked : List Sides → List Lit → Type 0
AreMarked marks ls = (l : Lit) → is_marked marks l ≡ has ls l

-- the literals that are marked are among these
abbrev pub MarkedAmong : List Sides → List Lit → Type 0
MarkedAmong marks ls = (l : Lit) → is_marked marks l ≡ true → has ls l ≡ true
