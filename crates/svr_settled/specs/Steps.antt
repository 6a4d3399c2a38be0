-- Wanted numbers taken one after the other, where all items hold with them
use Rattle.std.specs.Prelude.{◌<◌, ◌==◌, ℕ, Bool, ◌&&◌, if◌then◌else◌, List, [], ◌∷◌, ⊤, length, slice_index_or}
use Rattle.std.specs.List.{list_all}
use Rattle.svr_typed.specs.ExprTerm.{ExprTerm}
use Rattle.svr_eval.specs.declared.assign.Assign.{Assign}
use Rattle.svr_eval.specs.Reading.{Reading}
use Rattle.svr_eval.specs.Value.{alone, is_set}
use Rattle.svr_frame.specs.declared.slot.Slot.{Slot}
use Rattle.svr_frame.specs.declared.slot.Slot.TheVariants.{Scalar, Element, Size}

-- another number at a place
abbrev pub with_number : Reading → ℕ → ℕ → ℕ → Reading
with_number a p i n = record { element = λ q j. if (p == q) && (i == j) then n else a.element q j; size = λ q. a.size q; script = λ s. a.script s }

-- the wanted number at a slot; a size stays
abbrev pub with_wanted : Reading → Reading → Slot → Reading
with_wanted wanted a (Scalar p) = with_number a p 0 (wanted.element p 0)
with_wanted wanted a (Element p i) = with_number a p i (wanted.element p i)
with_wanted wanted a (Size p) = a

-- each item has a value that is not 0
abbrev pub hold : List ExprTerm → Reading → Bool
hold items a = list_all (λ e. is_set (alone a [] e)) items

-- another assignment where all items hold with it
abbrev pub step_with : List ExprTerm → Reading → Reading → Reading
step_with items a b = if hold items b then b else a

abbrev pub step : List ExprTerm → Reading → Reading → Slot → Reading
step items wanted a s = step_with items a (with_wanted wanted a s)

-- one slot after the other
abbrev pub steps : List ExprTerm → Reading → Reading → List Slot → Reading
steps items wanted a [] = a
steps items wanted a (s ∷ ss) = steps items wanted (step items wanted a s) ss

-- the place of a slot is there
abbrev pub IsWithin : Assign → Slot → Type 0
IsWithin a (Scalar p) = 0 < length (slice_index_or a.values p [])
IsWithin a (Element p i) = i < length (slice_index_or a.values p [])
IsWithin a (Size p) = ⊤
