-- How the phase of cyclic values ends
use Rattle.std.specs.Prelude.{◌≡◌, ◌<◌, ◌≤◌, ⊤, List, [], ◌∷◌, length}
use Rattle.std.specs.List.{All}
use Rattle.svr_typed.specs.ClassTerm.{FlatTerm}
use Rattle.svr_world.specs.declared.change.Replacement.{Replacement}
use Rattle.svr_world.specs.Fits.{AreRising, AreDistinct, props_of}
use Rattle.svr_encoded.specs.declared.encoded.Encoded.{Encoded}
use Rattle.svr_phase.specs.declared.choice.Choice.{Choice}
use Rattle.svr_phase.specs.Cyclic.{fixed_of}
use Rattle.svr_phase.specs.Ends.{Call, PassesCyclic, renewals, CyclesAreProved, IsZeroCyclic, GivesUpCyclic}
use Rattle.svr_call.specs.Call.{new_used}
use Rattle.svr_cyclic.specs.declared.phase.Reached.{Reached}
use Rattle.svr_cyclic.specs.declared.phase.Reached.TheVariants as reached
use Rattle.svr_cyclic.specs.declared.choose.Chosen.{Chosen}
use Rattle.svr_cyclic.specs.declared.choose.CyclicEnd.{CyclicEnd}
use Rattle.svr_cyclic.specs.declared.choose.CyclicEnd.TheVariants as end

-- each cyclic property has the first of its tried values that fits, each new cycle its proofs, and at most one encoding is named
pub record IsChosen (c : Call) (x : Chosen) : Type 0 where
  pub choices : List Choice
  pub passed : PassesCyclic c choices
  pub chosen : x.values ≡ fixed_of choices
  pub uses : x.used ≡ new_used c choices
  pub proved : CyclesAreProved c x.encodings (renewals [] choices) x.cycles
  pub few : length x.encodings ≤ 1

-- all are chosen; or none of the domain of the next fits; or the question for one spent the budget
abbrev pub CyclicEnds : Call → CyclicEnd → Type 0
CyclicEnds c (end.Chosen x) = IsChosen c x
CyclicEnds c (end.None chosen proofs encodings) = IsZeroCyclic c chosen proofs encodings × (length encodings ≤ 1)
CyclicEnds c (end.Spent prop e log first) = GivesUpCyclic c prop e log first

-- what is reached, over its encoding
abbrev pub end_of : Encoded → Reached → CyclicEnd
end_of e (reached.Done g) = end.Chosen (record { values = g.chosen.items; cycles = g.cycles; used = g.used; encodings = e ∷ [] })
end_of e (reached.NoneFits chosen proofs) = end.None chosen.items proofs (e ∷ [])
end_of e (reached.Spent prop log first) = end.Spent prop e log first

-- what a change of an object of the class asks of its used values
pub record UsedFit (flat : FlatTerm) (used : List Replacement) : Type 0 where
  pub props : All (λ (r : Replacement). r.prop < length flat.props) used
  pub rising : AreRising used
  pub once : AreDistinct (props_of used)

abbrev pub FitsIfChosen : FlatTerm → CyclicEnd → Type 0
FitsIfChosen flat (end.Chosen x) = UsedFit flat x.used
FitsIfChosen flat (end.None chosen proofs encodings) = ⊤
FitsIfChosen flat (end.Spent prop e log first) = ⊤
