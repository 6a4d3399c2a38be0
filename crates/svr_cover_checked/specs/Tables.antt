-- The names of a kind as the code's table has them
use Rattle.std.specs.Prelude.{ℕ, List, map}
use denote.Ref.{Bor}
use Rattle.svr_cover_checked.specs.Places.{Entry, Finder, place_of}

-- a name as a slice of the source
abbrev pub Key : Type 0
Key = Bor (List ℕ)

abbrev pub entry_of : Key × ℕ → Entry
entry_of e = record { name = e.0.now; place = e.1 }

-- the place that stands at a name
abbrev pub found_in : List (Key × ℕ) → Finder
found_in es = λ q. place_of (map entry_of es) q
