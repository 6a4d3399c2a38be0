-- Calls in a frame
use Rattle.std.specs.Prelude.{ℕ, List}
use Rattle.svr_frame.specs.Frame.{FrameTerm}
use Rattle.svr_phase.specs.Ends.{Call}

abbrev pub call_in : FrameTerm → List (List ℕ) → (ℕ → ℕ) → ℕ → ℕ → Call
call_in f used words budget cap = record { frame = f; used = used; words = words; budget = budget; cap = cap }
