-- What a call changes, and what it says where it answers 0.
use Rattle.std.proofs.Common.{map, ◌≡◌, ◌≤◌, ℕ, ◌+◌, Bool, true, false, List, [], ◌∷◌, length, refl, ap, ◌∙◌, subst, arith, slice_index_or}
use Rattle.svr_chain.specs.Views.{RefutationView}
use Rattle.svr_eval.specs.Reading.{Reading}
use Rattle.svr_world.specs.declared.change.Change.{Change}
use Rattle.svr_world.specs.World.{WorldTerm}
use Rattle.svr_world.specs.Fits.{props_of}
use Rattle.svr_frame.specs.declared.part.Part.{Part}
use Rattle.svr_frame.specs.declared.part.Part.TheVariants as part
use Rattle.svr_frame.specs.Frame.{FrameTerm}
use Rattle.svr_frame.specs.Occurrences.{Occurrence, all_true}
use Rattle.svr_frame.specs.Phases.{hard_of}
use Rattle.svr_frame.specs.Satisfaction.{IsAssignment}
use Rattle.svr_encoded.specs.declared.encoded.Encoded.{Encoded}
use Rattle.svr_phase.specs.declared.choice.Choice.{Choice}
use Rattle.svr_phase.specs.declared.proof.Proof.{Proof}
use Rattle.svr_phase.specs.declared.proof.Renewed.{Renewed}
use Rattle.svr_phase.specs.Spent.{IsSpent}
use Rattle.svr_phase.specs.Cyclic.{Cycles, AreChosen}
use Rattle.svr_phase.specs.Ends.{Call, question_of, cycles_of, cyclic_props, PassesCyclic, HasSizes, kept_sizes, chosen_sizes, SizesAreSpent, with_soft, hard_alone, beyond}
use Rattle.svr_phase.proofs.Fresh.{chosen_props}
use Rattle.svr_call.specs.declared.outcome.Dropped.{Dropped}
use Rattle.svr_call.specs.declared.outcome.Query.{Query}
use Rattle.svr_call.specs.declared.outcome.Query.TheVariants as query
use Rattle.svr_call.specs.declared.outcome.Outcome.{Outcome}
use Rattle.svr_call.specs.declared.outcome.Outcome.TheVariants.{One, Zero, GaveUp, TooHeavy, SizeCap}
use Rattle.svr_call.specs.Call.{new_used, preferred, random_props, numbers_read, IsOne, Gives, as_preferred, as_solved, GivesUp, Steps}
use Rattle.svr_call.specs.Items.{is_one}

-- ---- the world

-- every answer but 1 leaves the world as it was
pub unchanged : (w : WorldTerm) (o : ℕ) (c : Call) (outcome : Outcome) (w2 : WorldTerm) → Steps w o c outcome w2 → is_one outcome ≡ false → w2 ≡ w
unchanged w o c (One kept dropped cycles encodings) w2 step other = absurd (cc)
unchanged w o c (Zero phase chosen sizes proofs encodings) w2 step other = step.1
unchanged w o c (GaveUp q e log first) w2 step other = step.1
unchanged w o c (TooHeavy weight) w2 step other = step.1
unchanged w o c (SizeCap sizes proofs encodings) w2 step other = step.1

read_props : (sizes : List ℕ) (a : Reading) (ps : List ℕ) → props_of (numbers_read sizes a ps) ≡ ps
read_props sizes a [] = refl
read_props sizes a (p ∷ ps) = ap (λ qs. p ∷ qs) (read_props sizes a ps)

-- the properties whose numbers an answer 1 replaces are the random ones
pub replaces_random : (c : Call) (kept : List ℕ) (dropped : List Dropped) (cycles : List Renewed) (encodings : List Encoded) (change : Change)
    → IsOne c kept dropped cycles encodings change → props_of change.values ≡ random_props c.frame
replaces_random c kept dropped cycles encodings change is = by_way is.gives
  where
    by_way : Gives c is.choices is.sizes is.fates change.values → props_of change.values ≡ random_props c.frame
    by_way (as_preferred fits fates numbers) = ap props_of numbers ∙ read_props is.sizes (preferred c is.choices is.sizes) (random_props c.frame)
    by_way (as_solved misses a solution numbers) = ap props_of numbers ∙ read_props is.sizes a (random_props c.frame)

-- ---- an answer 0

-- No assignment that extends the chosen cyclic values, at the sizes that the answer tells, meets the hard items.
pub none_meets : (w : WorldTerm) (o : ℕ) (c : Call) (chosen : List (ℕ × ℕ)) (sizes : List ℕ) (proofs : List Proof) (encodings : List Encoded) (w2 : WorldTerm)
    → Steps w o c (Zero part.All chosen sizes proofs encodings) w2
    → (a : Reading) → IsAssignment c.frame part.All sizes chosen a → all_true a (hard_of c.frame part.All sizes) ≡ true → ⊥
none_meets w o c chosen sizes proofs encodings w2 step a fits meets =
    step.0.none (a, subst (λ (xs : List (ℕ × ℕ)). IsAssignment c.frame part.All sizes xs a) step.0.choice fits, meets)

-- no sizes up to 2 ^ 31 - 1 meet the hard size items with the chosen cyclic values
pub no_sizes_meet : (w : WorldTerm) (o : ℕ) (c : Call) (chosen : List (ℕ × ℕ)) (sizes : List ℕ) (proofs : List Proof) (encodings : List Encoded) (w2 : WorldTerm)
    → Steps w o c (Zero part.Sizes chosen sizes proofs encodings) w2
    → (a : Reading) → IsAssignment c.frame part.Sizes c.frame.state.sizes chosen a → all_true a (hard_of c.frame part.Sizes c.frame.state.sizes) ≡ true → ⊥
no_sizes_meet w o c chosen sizes proofs encodings w2 step a fits meets =
    step.0.1.none (a, subst (λ (xs : List (ℕ × ℕ)). IsAssignment c.frame part.Sizes c.frame.state.sizes xs a) step.0.1.choice fits, meets)

-- ---- giving up

spent_steps : (f : FrameTerm) (budget : ℕ) (p : Part) (sizes : List ℕ) (k : ℕ) (asked : List Occurrence) (e : Encoded) (log : RefutationView) (first : ℕ)
    → IsSpent f budget p sizes k asked e log first → budget ≤ length log.steps
spent_steps f budget p sizes k asked e log first is = let spent : first + budget ≤ length log.steps = is.spends.spent in omega arith

-- a question that is given up has a log of as many steps as the budget
pub budget_made : (c : Call) (q : Query) (e : Encoded) (log : RefutationView) (first : ℕ) → GivesUp c q e log first → c.budget ≤ length log.steps
budget_made c (query.Randc p) e log first is = spent_steps _ c.budget _ _ _ _ e log first is.spent
budget_made c query.Size e log first is = by_way is.spent
  where
    by_way : SizesAreSpent c.frame c.budget (question_of c is.choices) e log first → c.budget ≤ length log.steps
    by_way (with_soft h) = spent_steps _ c.budget _ _ _ _ e log first h
    by_way (hard_alone h) = spent_steps _ c.budget _ _ _ _ e log first h
    by_way (beyond none h) = spent_steps _ c.budget _ _ _ _ e log first h
budget_made c query.Hard e log first is = spent_steps _ c.budget _ _ _ _ e log first is.spent
budget_made c (query.Soft rank) e log first is = spent_steps _ c.budget _ _ _ _ e log first is.spent

-- ---- a call without random properties, as one with `null`

nothing_read : (sizes : List ℕ) (a : Reading) (ps : List ℕ) → ps ≡ [] → numbers_read sizes a ps ≡ []
nothing_read sizes a ps none = ap (λ qs. numbers_read sizes a qs) none

nothing_chosen : (f : FrameTerm) (k : Cycles) (ps : List ℕ) (xs : List Choice) → ps ≡ [] → AreChosen f k [] ps xs → xs ≡ []
nothing_chosen f k ps [] none chosen = refl
nothing_chosen f k ps (x ∷ xs) none chosen = absurd (subst (λ (qs : List ℕ). AreChosen f k [] qs (x ∷ xs)) none chosen)

pub passed : (c : Call) (choices : List Choice) (sizes : List ℕ) → HasSizes c choices sizes → PassesCyclic c choices
passed c choices sizes (kept_sizes p free same) = p
passed c choices sizes (chosen_sizes reached allowed) = reached.passed

-- it writes nothing
pub writes_nothing : (c : Call) (kept : List ℕ) (dropped : List Dropped) (cycles : List Renewed) (encodings : List Encoded) (change : Change)
    → IsOne c kept dropped cycles encodings change → random_props c.frame ≡ [] → cyclic_props c.frame ≡ [] → (change.values ≡ []) × (change.used ≡ [])
writes_nothing c kept dropped cycles encodings change is no_random no_cyclic = (by_way is.gives, is.uses ∙ ap (new_used c) none)
  where
    none : is.choices ≡ []
    none = nothing_chosen c.frame (cycles_of c) (cyclic_props c.frame) is.choices no_cyclic (passed c is.choices is.sizes is.reached.sized).chosen

    by_way : Gives c is.choices is.sizes is.fates change.values → change.values ≡ []
    by_way (as_preferred fits fates numbers) = numbers ∙ nothing_read is.sizes (preferred c is.choices is.sizes) (random_props c.frame) no_random
    by_way (as_solved misses a solution numbers) = numbers ∙ nothing_read is.sizes a (random_props c.frame) no_random

-- ---- which used values change

used_props : (c : Call) (xs : List Choice) → props_of (new_used c xs) ≡ map (λ (x : Choice). x.prop) xs
used_props c [] = refl
used_props c (x ∷ xs) = ap (λ qs. x.prop ∷ qs) (used_props c xs)

-- the properties whose used values an answer 1 replaces are the cyclic random ones
pub replaces_cyclic : (c : Call) (kept : List ℕ) (dropped : List Dropped) (cycles : List Renewed) (encodings : List Encoded) (change : Change)
    → IsOne c kept dropped cycles encodings change → props_of change.used ≡ cyclic_props c.frame
replaces_cyclic c kept dropped cycles encodings change is =
    ap props_of is.uses ∙ used_props c is.choices
    ∙ chosen_props c.frame (cycles_of c) [] (cyclic_props c.frame) is.choices (passed c is.choices is.sizes is.reached.sized).chosen
