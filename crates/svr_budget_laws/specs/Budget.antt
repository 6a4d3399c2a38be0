-- The bits of a question that is given up: n of them are so many that 2 ^ (n + 1) is greater than the budget.
use Rattle.std.specs.Prelude.{◌≡◌, ◌⊎◌, ⊤, ℕ, ◌+◌, ◌<◌, ◌^◌, List, map, length, sum}
use Rattle.svr_chain.specs.declared.clause.Lit.{Lit}
use Rattle.svr_vector.specs.Places.{rows}
use Rattle.svr_frame.specs.declared.part.Part.TheVariants.{Randc, Sizes, All}
use Rattle.svr_frame.specs.Frame.{FrameTerm}
use Rattle.svr_encoded.specs.declared.encoded.Encoded.{Encoded}
use Rattle.svr_phase.specs.declared.options.Options.{Options}
use Rattle.svr_phase.specs.Spent.{bit_count}
use Rattle.svr_phase.specs.Sizes.{cap_bits}
use Rattle.svr_call.specs.declared.outcome.Query.{Query}
use Rattle.svr_call.specs.declared.outcome.Query.TheVariants as query
use Rattle.svr_call.specs.declared.outcome.Outcome.{Outcome}
use Rattle.svr_call.specs.declared.outcome.Outcome.TheVariants.{One, Zero, GaveUp, TooHeavy, SizeCap}

-- how many bits the unknowns of an encoding have
abbrev pub bits_in : Encoded → ℕ
bits_in e = sum (map (λ (row : List Lit). length row) (rows e.bits.items))

-- in the phases of cyclic values and of all values no size is unknown
abbrev pub cyclic_bits : FrameTerm → ℕ
cyclic_bits f = bit_count f Randc f.state.sizes 0

abbrev pub value_bits : FrameTerm → List ℕ → ℕ
value_bits f sizes = bit_count f All sizes 0

-- each size that the call chooses has the bits of the cap, and where sizes beyond it are asked for, 32
abbrev pub capped_bits : FrameTerm → ℕ → ℕ
capped_bits f cap = bit_count f Sizes f.state.sizes (cap_bits cap)

abbrev pub uncapped_bits : FrameTerm → ℕ
uncapped_bits f = bit_count f Sizes f.state.sizes 32

-- so many bits have the unknowns of the question
abbrev pub AreBitsOf : FrameTerm → ℕ → Query → ℕ → Type 0
AreBitsOf f cap (query.Randc prop) n = n ≡ cyclic_bits f
AreBitsOf f cap query.Size n = (n ≡ capped_bits f cap) ⊎ (n ≡ uncapped_bits f)
AreBitsOf f cap query.Hard n = (sizes : List ℕ) × (n ≡ value_bits f sizes)
AreBitsOf f cap (query.Soft rank) n = (sizes : List ℕ) × (n ≡ value_bits f sizes)

-- where a question is given up, the encoding has the bits of the question, and these are many for the budget
abbrev pub GivesUpOverMany : FrameTerm → Options → Outcome → Type 0
GivesUpOverMany f opts (One kept dropped cycles encodings) = ⊤
GivesUpOverMany f opts (Zero phase chosen sizes proofs encodings) = ⊤
GivesUpOverMany f opts (GaveUp q e log first) = AreBitsOf f opts.size_cap q (bits_in e) × (opts.budget < 2 ^ (bits_in e + 1))
GivesUpOverMany f opts (TooHeavy weight) = ⊤
GivesUpOverMany f opts (SizeCap sizes proofs encodings) = ⊤
