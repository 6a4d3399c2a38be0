-- The assignments over which items are asked: the state outside the unknowns, and a number of its bits for each unknown
use Rattle.std.specs.Prelude.{◌≡◌, ℕ, ◌<◌, ◌^◌, List, [], ◌∷◌, ⊤, None}
use Rattle.svr_eval.specs.Reading.{Reading}
use Rattle.svr_frame.specs.declared.slot.Slot.{Slot}
use Rattle.svr_frame.specs.Satisfaction.{is_at, is_size_of, value_at}
use Rattle.svr_encoded.specs.Slots.{bits_where, positive_bits}

abbrev pub AllHaveBits : Reading → List Slot → List ℕ → Type 0
AllHaveBits r [] widths = ⊤
AllHaveBits r (s ∷ slots) [] = ⊤
AllHaveBits r (s ∷ slots) (w ∷ widths) = (value_at r s < 2 ^ w) × AllHaveBits r slots widths

pub record FitsIn (state : Reading) (slots : List Slot) (widths : List ℕ) (r : Reading) : Type 0 where
  pub all : AllHaveBits r slots widths
  pub elements : (p i : ℕ) → bits_where (is_at p i) slots (positive_bits 0 widths) ≡ None → r.element p i ≡ state.element p i
  pub sizes : (p : ℕ) → bits_where (is_size_of p) slots (positive_bits 0 widths) ≡ None → r.size p ≡ state.size p
  pub script : (v : ℕ) → r.script v ≡ state.script v
