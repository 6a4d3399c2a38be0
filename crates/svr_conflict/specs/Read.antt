-- Members of a conflict as they are read from a core
use Rattle.std.specs.Prelude.{◌≡◌, ℕ, Bool, List}
use Rattle.svr_eval.specs.Reading.{Reading, reading_of}
use Rattle.svr_frame.specs.Frame.{FrameTerm, state_at}
use Rattle.svr_vector.specs.Places.{rows}
use Rattle.svr_query.specs.Logged.{valuation_of}
use Rattle.svr_encoded.specs.declared.encoded.Encoded.{Encoded}
use Rattle.svr_encoded.specs.Slots.{reading_at}
use Rattle.svr_core.specs.declared.search.Needed.{Needed}
use Rattle.svr_conflict.specs.declared.found.Member.{Member}

-- what values of the variables from 1 on stand for
abbrev pub read_values : FrameTerm → List ℕ → Encoded → List Bool → Reading
read_values f sizes e values = reading_at (state_at f sizes) e.slots.items (rows e.bits.items) (valuation_of values)

-- the member has the place of the group, and the assignment that its values stand for
abbrev pub IsRead : FrameTerm → List ℕ → Encoded → Needed → Member → Type 0
IsRead f sizes e c m = (m.item ≡ c.place) × (reading_of m.without ≡ read_values f sizes e c.values)
