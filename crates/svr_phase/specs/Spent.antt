-- Encodings of the items of a phase, and questions over them that spent their budget
use Rattle.std.specs.Prelude.{◌≡◌, ℕ, ◌+◌, ◌<◌, ◌≤◌, ◌^◌, List, [], None, IsSome, length, map, sum}
use Rattle.svr_chain.specs.declared.clause.Lit.{Lit}
use Rattle.svr_chain.specs.declared.log.Verdict.TheVariants.{Accepted}
use Rattle.svr_chain.specs.Log.{verdict_of}
use Rattle.svr_chain.specs.Views.{RefutationView}
use Rattle.svr_typed.specs.ExprTerm.{ExprTerm}
use Rattle.svr_frame.specs.declared.part.Part.{Part}
use Rattle.svr_frame.specs.Frame.{FrameTerm, state_at}
use Rattle.svr_frame.specs.Occurrences.{Occurrence, closed_of}
use Rattle.svr_frame.specs.Phases.{unknowns_of}
use Rattle.svr_encoded.specs.declared.encoded.Encoded.{Encoded}
use Rattle.svr_encoded.specs.Encodes.{Encodes}
use Rattle.svr_encoded.specs.Slots.{widths_of}

-- ---- logs, by the checker alone

-- the log refutes: it has a goal, and is accepted with it
abbrev pub IsRefutation : List (List Lit) → List Lit → RefutationView → Type 0
IsRefutation clauses assume log = IsSome log.goal × (verdict_of clauses assume log.steps log.goal ≡ Accepted)

-- the log spends the budget from place `first` on: it has no goal, is accepted, and has that many steps more
pub record SpendsBudget (clauses : List (List Lit)) (budget first : ℕ) (log : RefutationView) : Type 0 where
  pub none : log.goal ≡ None
  pub accepted : verdict_of clauses [] log.steps None ≡ Accepted
  pub spent : first + budget ≤ length log.steps

-- ---- encodings

-- the closed expressions of occurrences, at these sizes
abbrev pub closed_at : FrameTerm → List ℕ → List Occurrence → List ExprTerm
closed_at f sizes os = map (closed_of (state_at f sizes)) os

-- the clauses encode these occurrences for the phase at these sizes, with so many bits for each size
abbrev pub EncodesItems : FrameTerm → Part → List ℕ → ℕ → List Occurrence → Encoded → Type 0
EncodesItems f part sizes size_bits os e = Encodes f part sizes size_bits (closed_at f sizes os) e

-- the bits of the unknowns
abbrev pub bit_count : FrameTerm → Part → List ℕ → ℕ → ℕ
bit_count f part sizes size_bits = sum (widths_of f size_bits (unknowns_of f part sizes))

-- The log spends the budget over the clauses of the encoding, which encodes these items of the phase. A question whose bits have fewer values is not given up.
pub record IsSpent (f : FrameTerm) (budget : ℕ) (part : Part) (sizes : List ℕ) (size_bits : ℕ) (asked : List Occurrence) (e : Encoded) (log : RefutationView) (first : ℕ) : Type 0 where
  pub encodes : EncodesItems f part sizes size_bits asked e
  pub spends : SpendsBudget e.cnf.clauses.items budget first log
  pub many : budget < 2 ^ (bit_count f part sizes size_bits + 1)
