-- The questions of the phase of sizes: over which items each is, and with how many bits for each size
use Rattle.std.specs.Prelude.{ℕ, List, []}
use Rattle.svr_frame.specs.declared.part.Part.TheVariants.{Sizes}
use Rattle.svr_frame.specs.Frame.{FrameTerm}
use Rattle.svr_frame.specs.Occurrences.{Occurrence}
use Rattle.svr_frame.specs.Phases.{hard_of, capped_hard_of, live_of}
use Rattle.svr_draw.specs.Words.{generator, word_of}
use Rattle.svr_phase.specs.declared.options.Options.{Options}
use Rattle.svr_phase.specs.Sizes.{Asked, cap_bits}
use Rattle.svr_sized.specs.declared.scope.Scope.{Scope}
use Rattle.svr_sized.specs.declared.scope.Scope.TheVariants.{Wished, Capped, Uncapped}

-- what the call of a number gives to the phase, with these cyclic values
abbrev pub asked_by : Options → ℕ → List (ℕ × ℕ) → Asked
asked_by opts number chosen = record { cap = opts.size_cap; words = word_of (generator opts.seed number); chosen = chosen }

-- ---- what each question is over, within this cap

abbrev pub hard_over : FrameTerm → ℕ → Scope → List Occurrence
hard_over f cap Wished = capped_hard_of f cap f.state.sizes
hard_over f cap Capped = capped_hard_of f cap f.state.sizes
hard_over f cap Uncapped = hard_of f Sizes f.state.sizes

abbrev pub soft_over : FrameTerm → Scope → List Occurrence
soft_over f Wished = live_of f Sizes f.state.sizes
soft_over f Capped = []
soft_over f Uncapped = []

abbrev pub bits_over : ℕ → Scope → ℕ
bits_over cap Wished = cap_bits cap
bits_over cap Capped = cap_bits cap
bits_over cap Uncapped = 32
