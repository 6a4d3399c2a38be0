-- What the end of the pass over the soft roots is turned into
use Rattle.std.specs.Prelude.{◌≡◌, ℕ, ⊤, Bool, List, map, length}
use Rattle.std.specs.List.{flat_map}
use Rattle.svr_chain.specs.declared.clause.Lit.{Lit}
use Rattle.svr_chain.specs.Views.{RefutationView}
use Rattle.svr_frame.specs.Satisfaction.{kept_ranks}
use Rattle.svr_inputs.specs.declared.table.Table.{Table}
use Rattle.svr_inputs.specs.Inputs.{bits_of, number_row}
use Rattle.svr_phase.specs.declared.proof.ProofReason.TheVariants as why
use Rattle.svr_phase.specs.Proof.{spelling_at}
use Rattle.svr_call.specs.declared.outcome.Dropped.{Dropped}
use Rattle.svr_soft.specs.declared.priority.PassEnd.{PassEnd}
use Rattle.svr_soft.specs.declared.priority.PassEnd.TheVariants as passed
use Rattle.svr_soft.specs.Kept.{assumed_at, AreRanks}
use Rattle.svr_question.specs.declared.ask.Met.{Met}
use Rattle.svr_question.specs.declared.ask.ValuesEnd.{ValuesEnd}
use Rattle.svr_question.specs.declared.ask.ValuesEnd.TheVariants as end

-- the literals of these values of properties, whose rows a table has
abbrev pub lits_at : List (List Lit) → Table → List (ℕ × ℕ) → List Lit
lits_at bits t fixed = flat_map (λ c. spelling_at (bits_of bits (number_row t c.0 0)) c.1) fixed

-- a soft root that was dropped, with the proof that refutes what the pass assumed for it
abbrev pub dropped_at : ℕ → List Lit → List Lit → List ℕ → ℕ × RefutationView → Dropped
dropped_at place base soft kept d =
    record { rank = d.0; proof = record { encoding = place; assume = assumed_at base soft kept d.0; refutation = d.1; reason = why.Drop d.0 } }

-- one fate for each soft root, true for the kept ranks; a proof for each dropped one; and the values
pub record IsMetBy (place : ℕ) (base soft : List Lit) (kept : List ℕ) (dropped : List (ℕ × RefutationView)) (values : List Bool) (m : Met) : Type 0 where
  pub long : length m.fates.items ≡ length soft
  pub ranks : kept_ranks 1 m.fates.items ≡ kept
  pub same : m.kept ≡ kept
  pub proofs : m.dropped ≡ map (dropped_at place base soft kept) dropped
  pub found : m.values.items ≡ values

-- the kept ranks name so many soft roots
abbrev pub RanksFit : ℕ → PassEnd → Type 0
RanksFit n (passed.Done kept dropped values) = AreRanks n kept.items
RanksFit n (passed.BaseRefuted log) = ⊤
RanksFit n (passed.Spent rank log first) = ⊤

-- the end of the question behind that of the pass, where the base was assumed and the encoding has this place
abbrev pub Becomes : ℕ → List Lit → List Lit → PassEnd → ValuesEnd → Type 0
Becomes place base soft (passed.Done kept dropped values) r = (m : Met) × (r ≡ end.Met m) × IsMetBy place base soft kept.items dropped.items values.items m
Becomes place base soft (passed.BaseRefuted log) r = r ≡ end.Refuted (record { encoding = place; assume = base; refutation = log; reason = why.Hard })
Becomes place base soft (passed.Spent rank log first) r = r ≡ end.Spent rank log first
