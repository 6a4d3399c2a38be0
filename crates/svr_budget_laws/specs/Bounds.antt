-- How many encodings an answer carries, and which of them its proofs name.
use Rattle.std.specs.Prelude.{◌≡◌, ⊤, ℕ, ◌≤◌, List, length}
use Rattle.std.specs.List.{All}
use Rattle.svr_phase.specs.declared.proof.Proof.{Proof}
use Rattle.svr_phase.specs.declared.proof.Renewed.{Renewed}
use Rattle.svr_call.specs.declared.outcome.Dropped.{Dropped}
use Rattle.svr_call.specs.declared.outcome.Outcome.{Outcome}
use Rattle.svr_call.specs.declared.outcome.Outcome.TheVariants.{One, Zero, GaveUp, TooHeavy, SizeCap}

-- one for the cyclic values and one for all values; and no more than one beside an answer 0 or one beyond the cap
abbrev pub HasFewEncodings : Outcome → Type 0
HasFewEncodings (One kept dropped cycles encodings) = length encodings ≤ 2
HasFewEncodings (Zero phase chosen sizes proofs encodings) = length encodings ≤ 1
HasFewEncodings (GaveUp q e log first) = ⊤
HasFewEncodings (TooHeavy weight) = ⊤
HasFewEncodings (SizeCap sizes proofs encodings) = length encodings ≤ 1

-- each of the proofs names the encoding at that place
abbrev pub AllName : ℕ → List Proof → Type 0
AllName place ps = All (λ (p : Proof). p.encoding ≡ place) ps

-- all proofs of new cycles name one encoding
abbrev pub CyclesNameOne : List Renewed → Type 0
CyclesNameOne cycles = (place : ℕ) × All (λ (r : Renewed). AllName place r.proofs) cycles

-- all proofs of dropped items do
abbrev pub DropsNameOne : List Dropped → Type 0
DropsNameOne dropped = (place : ℕ) × All (λ (d : Dropped). d.proof.encoding ≡ place) dropped

-- the proofs of one phase name the same encoding
abbrev pub NameOneAPhase : Outcome → Type 0
NameOneAPhase (One kept dropped cycles encodings) = CyclesNameOne cycles × DropsNameOne dropped
NameOneAPhase (Zero phase chosen sizes proofs encodings) = (place : ℕ) × AllName place proofs
NameOneAPhase (GaveUp q e log first) = ⊤
NameOneAPhase (TooHeavy weight) = ⊤
NameOneAPhase (SizeCap sizes proofs encodings) = (place : ℕ) × AllName place proofs
