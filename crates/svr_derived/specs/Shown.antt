-- What is known of the proofs that an answer carries.
use Rattle.std.specs.Prelude.{⊤, List, Option, None, Some, slice_get}
use Rattle.std.specs.List.{All}
use Rattle.svr_encoded.specs.declared.encoded.Encoded.{Encoded}
use Rattle.svr_phase.specs.declared.proof.Proof.{Proof}
use Rattle.svr_phase.specs.declared.proof.Renewed.{Renewed}
use Rattle.svr_phase.specs.Spent.{IsRefutation}
use Rattle.svr_call.specs.declared.outcome.Dropped.{Dropped}
use Rattle.svr_call.specs.declared.outcome.Outcome.{Outcome}
use Rattle.svr_call.specs.declared.outcome.Outcome.TheVariants.{One, Zero, GaveUp, TooHeavy, SizeCap}

-- over the clauses of an encoding and what the proof assumes, its log has a goal and is accepted with it
abbrev pub IsShownOver : Option Encoded → Proof → Type 0
IsShownOver None p = ⊤
IsShownOver (Some e) p = IsRefutation e.cnf.clauses.items p.assume p.refutation

-- over the encoding that it names
abbrev pub IsShown : List Encoded → Proof → Type 0
IsShown encodings p = IsShownOver (slice_get encodings p.encoding) p

-- all proofs of an answer. A log of a question that was given up is none.
abbrev pub AreShown : Outcome → Type 0
AreShown (One kept dropped cycles encodings) = All (λ (r : Renewed). All (IsShown encodings) r.proofs) cycles × All (λ (d : Dropped). IsShown encodings d.proof) dropped
AreShown (Zero phase chosen sizes proofs encodings) = All (IsShown encodings) proofs
AreShown (GaveUp query encoding log first) = ⊤
AreShown (TooHeavy weight) = ⊤
AreShown (SizeCap sizes proofs encodings) = All (IsShown encodings) proofs
