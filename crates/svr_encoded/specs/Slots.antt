-- The bits of the unknowns of a phase, and the assignment that they read as
use Rattle.std.specs.Prelude.{ℕ, zero, suc, ◌+◌, Bool, false, if◌then◌else◌, List, [], ◌∷◌, Option, None, Some, map}
use Rattle.svr_chain.specs.declared.clause.Lit.{Lit}
use Rattle.svr_eval.specs.Reading.{Reading}
use Rattle.svr_inputs.specs.Inputs.{read_or}
use Rattle.svr_frame.specs.declared.slot.Slot.{Slot}
use Rattle.svr_frame.specs.declared.slot.Slot.TheVariants.{Scalar, Element, Size}
use Rattle.svr_frame.specs.Frame.{FrameTerm, width_of}
use Rattle.svr_frame.specs.Satisfaction.{is_at, is_size_of}

-- the positive literals of the w variables above n
abbrev pub positives : ℕ → ℕ → List Lit
positives n zero = []
positives n (suc w) = record { var = suc n; neg = false } ∷ positives (suc n) w

-- positive literals for each width, of the variables above n in a row
abbrev pub positive_bits : ℕ → List ℕ → List (List Lit)
positive_bits n [] = []
positive_bits n (w ∷ ws) = positives n w ∷ positive_bits (n + w) ws

-- each size has this number of bits, and the higher ones are 0
abbrev pub bits_of_slot : FrameTerm → ℕ → Slot → ℕ
bits_of_slot f size_bits (Scalar p) = width_of f p
bits_of_slot f size_bits (Element p i) = width_of f p
bits_of_slot f size_bits (Size p) = size_bits

abbrev pub widths_of : FrameTerm → ℕ → List Slot → List ℕ
widths_of f size_bits slots = map (bits_of_slot f size_bits) slots

-- the bits of the first slot that passes the test
abbrev pub bits_where : (Slot → Bool) → List Slot → List (List Lit) → Option (List Lit)
bits_where f [] bits = None
bits_where f (s ∷ slots) [] = None
bits_where f (s ∷ slots) (ls ∷ bits) = if f s then Some ls else bits_where f slots bits

-- the assignment that the bits read as, the state outside the slots
abbrev pub reading_at : Reading → List Slot → List (List Lit) → (ℕ → Bool) → Reading
reading_at state slots bits v = record {
  element = λ p i. read_or (state.element p i) v (bits_where (is_at p i) slots bits);
  size = λ p. read_or (state.size p) v (bits_where (is_size_of p) slots bits);
  script = state.script;
}

-- the place of the first slot that passes the test, where the first of all has the place n
abbrev pub place_where : (Slot → Bool) → ℕ → List Slot → Option ℕ
place_where f n [] = None
place_where f n (s ∷ slots) = if f s then Some n else place_where f (suc n) slots
