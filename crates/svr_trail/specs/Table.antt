-- The tables of a trail say what its entries say
use Rattle.std.specs.Prelude.{◌≡◌, ℕ, ◌+◌, ◌-◌, ◌<◌, ◌≤◌, Bool, List, length, Option, None, is_none, count_by, slice_index, slice_index_or, vec_capacity}
use Rattle.svr_chain.specs.Clauses.{IsWithin}
use Rattle.svr_trail.specs.declared.Entry.{Entry}
use Rattle.svr_trail.specs.declared.Trail.TheInside.{Inside}
use Rattle.svr_trail.specs.Trail.{sign_at, TrailView, Each, WasOpen}

abbrev pub view_of : Inside → TrailView
view_of a = record { vars = length a.signs.items; entries = a.entries.items }

-- the table of signs by variable says what the entries say
pub record IsTable (signs : List (Option Bool)) (entries : List Entry) : Type 0 where
  pub same : (v : ℕ) → v < length signs → slice_index_or signs v None ≡ sign_at entries (v + 1)
  pub apart : Each WasOpen entries
  pub within : Each (λ _ e. IsWithin (length signs) e.lit) entries
  pub counted : length entries + count_by is_none signs ≡ length signs

-- the table of places by variable says where each entry stands
abbrev pub ArePlaces : List ℕ → List Entry → Type 0
ArePlaces places entries = (i : ℕ) (e : Entry) → i < length entries → slice_index places ((slice_index_or entries i e).lit.var - 1) ≡ i

pub record IsTrail (a : Inside) : Type 0 where
  pub table : IsTable a.signs.items a.entries.items
  pub placed : ArePlaces a.places.items a.entries.items
  pub sized : length a.places.items ≡ length a.signs.items
  pub room : length a.signs.items ≤ vec_capacity a.entries
