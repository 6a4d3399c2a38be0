-- What the question which items contradict each other asks of an answer.
use Rattle.std.specs.Prelude.{ℕ, ⊤, List}
use Rattle.svr_frame.specs.declared.part.Part.{Part}
use Rattle.svr_frame.specs.declared.part.Part.TheVariants.{Randc, Sizes, All}
use Rattle.svr_frame.specs.Frame.{FrameTerm}
use Rattle.svr_frame.specs.Sound.{SizesFit}
use Rattle.svr_phase.specs.Chosen.{AreCyclicValues}
use Rattle.svr_call.specs.declared.outcome.Outcome.{Outcome}
use Rattle.svr_call.specs.declared.outcome.Outcome.TheVariants.{One, Zero, GaveUp, TooHeavy, SizeCap}

-- in the last phase the sizes and the cyclic values that were chosen fit the frame
abbrev pub FitsIn : Part → FrameTerm → List ℕ → List (ℕ × ℕ) → Type 0
FitsIn Randc f sizes chosen = ⊤
FitsIn Sizes f sizes chosen = ⊤
FitsIn All f sizes chosen = SizesFit f sizes × AreCyclicValues f chosen

-- those of a 0 of the hard items do
abbrev pub ZeroFits : FrameTerm → Outcome → Type 0
ZeroFits f (One kept dropped cycles encodings) = ⊤
ZeroFits f (Zero phase chosen sizes proofs encodings) = FitsIn phase f sizes chosen
ZeroFits f (GaveUp query encoding log first) = ⊤
ZeroFits f (TooHeavy weight) = ⊤
ZeroFits f (SizeCap sizes proofs encodings) = ⊤
