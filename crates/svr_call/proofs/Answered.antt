-- Answers in terms of the active items: what an answer 1 leaves meets them, and where the answer is 0 nothing does.
use Rattle.std.proofs.Common.{◌≡◌, ◌≤◌, ℕ, Bool, true, false, ◌&&◌, List, [], ◌∷◌, map, refl, sym, subst, ◌∙◌}
use Rattle.std.proofs.lemmas.Bool.{and_parts}
use Rattle.std.proofs.lemmas.List.Folds.{list_all-append}
use Rattle.svr_eval.specs.Reading.{Reading}
use Rattle.svr_eval.specs.Holds.{all_hold}
use Rattle.svr_world.specs.declared.change.Change.{Change}
use Rattle.svr_world.specs.World.{WorldTerm}
use Rattle.svr_frame.specs.declared.part.Part.TheVariants as part
use Rattle.svr_frame.specs.Occurrences.{Occurrence, is_true, all_true}
use Rattle.svr_frame.specs.Phases.{domain_items}
use Rattle.svr_frame.specs.Satisfaction.{IsAssignment, kept_of}
use Rattle.svr_frame.specs.Sound.{IsSound, SizesFit}
use Rattle.svr_frame_laws.proofs.Answers.{answer_holds}
use Rattle.svr_frame_laws.proofs.Passes.{Keeps_exactly}
use Rattle.svr_encoded.specs.declared.encoded.Encoded.{Encoded}
use Rattle.svr_phase.specs.declared.choice.Choice.{Choice}
use Rattle.svr_phase.specs.declared.proof.Proof.{Proof}
use Rattle.svr_phase.specs.declared.proof.Renewed.{Renewed}
use Rattle.svr_phase.specs.Cyclic.{fixed_of}
use Rattle.svr_phase.specs.Ends.{Call, cycles_of, HasSizes}
use Rattle.svr_phase.proofs.Allowed.{has_sizes_fit}
use Rattle.svr_phase.proofs.Preferred.{preferred_with_is}
use Rattle.svr_call.specs.declared.outcome.Dropped.{Dropped}
use Rattle.svr_call.specs.declared.outcome.Outcome.TheVariants.{Zero}
use Rattle.svr_call.specs.Call.{hard_items, soft_items, preferred, fits_preferred_values, new_numbers, IsSolution, all_kept, Gives, as_preferred, as_solved, IsOne, Steps}
use Rattle.svr_call.specs.Items.{MeetsItems}
use Rattle.svr_call.proofs.Changes.{none_meets, passed}

all_same : (a : Reading) (os : List Occurrence) → all_true a os ≡ true → map (is_true a) os ≡ all_kept os
all_same a [] e = refl
all_same a (o ∷ os) e = let parts = and_parts (is_true a o) (all_true a os) e in λ i. parts.0 i ∷ all_same a os parts.1 i

module _ (c : Call) (sizes : List ℕ) (sound : IsSound c.frame) (fit : SizesFit c.frame sizes) where
  met : (fixed : List (ℕ × ℕ)) (a : Reading) → IsAssignment c.frame part.All sizes fixed a → (fates : List Bool) → all_true a (hard_items c sizes) ≡ true
      → map (is_true a) (soft_items c sizes) ≡ fates → MeetsItems c sizes a fates
  met fixed a is fates hard soft =
      let both = and_parts (all_true a (domain_items c.frame part.All sizes)) (all_hold a [] c.frame.items) (sym (answer_holds c.frame sizes sound fit fixed a is) ∙ hard) in
      record { domains = both.0; items = both.1; soft = soft }

  -- values that were looked for
  pub solution_meets : (choices : List Choice) (fates : List Bool) (a : Reading) → IsSolution c choices sizes fates a → MeetsItems c sizes a fates
  solution_meets choices fates a is =
      let both = and_parts (all_true a (hard_items c sizes)) (all_true a (kept_of (soft_items c sizes) fates)) (sym (list_all-append (is_true a) (hard_items c sizes) (kept_of (soft_items c sizes) fates)) ∙ is.meets) in
      met (fixed_of choices) a is.fits fates both.0
      (Keeps_exactly c.frame part.All sizes (fixed_of choices) a is.fits (hard_items c sizes) (soft_items c sizes) fates is.keeps both.0 both.1)

  -- the preferred values, with the chosen cyclic ones in their places
  meets_preferred : (choices : List Choice) → IsAssignment c.frame part.All sizes (fixed_of choices) (preferred c choices sizes) → fits_preferred_values c choices sizes ≡ true → MeetsItems c sizes (preferred c choices sizes) (all_kept (soft_items c sizes))
  meets_preferred choices is fits =
      let a = preferred c choices sizes in
      let both = and_parts (all_true a (hard_items c sizes)) (all_true a (soft_items c sizes)) (sym (list_all-append (is_true a) (hard_items c sizes) (soft_items c sizes)) ∙ fits) in
      met (fixed_of choices) a is (all_kept (soft_items c sizes)) both.0 (all_same a (soft_items c sizes) both.1)

module _ (c : Call) (sound : IsSound c.frame) (le : c.cap ≤ 2048) where
  -- the preferred values are an assignment, and where they fit they meet all items
  pub preferred_meets : (choices : List Choice) (sizes : List ℕ) → HasSizes c choices sizes → fits_preferred_values c choices sizes ≡ true
      → IsAssignment c.frame part.All sizes (fixed_of choices) (preferred c choices sizes) × MeetsItems c sizes (preferred c choices sizes) (all_kept (soft_items c sizes))
  preferred_meets choices sizes has fits =
      let fit = has_sizes_fit c choices sizes sound le has in
      let is = preferred_with_is c.frame sizes sound fit c.cap le c.words (cycles_of c) choices (passed c choices sizes has).chosen in
      (is, meets_preferred c sizes sound fit choices is fits)

  -- an answer 0 in the last phase: no assignment that extends its cyclic values at its sizes has members in all random enums and makes all items hold
  pub zero_means_none : (w : WorldTerm) (o : ℕ) (chosen : List (ℕ × ℕ)) (sizes : List ℕ) (proofs : List Proof) (encodings : List Encoded) (w2 : WorldTerm)
      → Steps w o c (Zero part.All chosen sizes proofs encodings) w2
      → (a : Reading) → IsAssignment c.frame part.All sizes chosen a → all_true a (domain_items c.frame part.All sizes) ≡ true → all_hold a [] c.frame.items ≡ true → ⊥
  zero_means_none w o chosen sizes proofs encodings w2 step a is domains items =
      let fit = has_sizes_fit c step.0.choices sizes sound le step.0.reached.sized in
      none_meets w o c chosen sizes proofs encodings w2 step a is (answer_holds c.frame sizes sound fit chosen a is ∙ rw (domains, items) refl)

  -- an answer 1 leaves the numbers of an assignment that meets the items
  pub one_meets : (kept : List ℕ) (dropped : List Dropped) (cycles : List Renewed) (encodings : List Encoded) (change : Change) (is : IsOne c kept dropped cycles encodings change)
      → (a : Reading) × IsAssignment c.frame part.All is.sizes (fixed_of is.choices) a × MeetsItems c is.sizes a is.fates × (change.values ≡ new_numbers c is.sizes a)
  one_meets kept dropped cycles encodings change is = by_way is.gives
    where
      by_way : Gives c is.choices is.sizes is.fates change.values
          → (a : Reading) × IsAssignment c.frame part.All is.sizes (fixed_of is.choices) a × MeetsItems c is.sizes a is.fates × (change.values ≡ new_numbers c is.sizes a)
      by_way (as_preferred fits fates numbers) =
          let both = preferred_meets is.choices is.sizes is.reached.sized fits in (
            preferred c is.choices is.sizes,
            both.0,
            subst (λ (fs : List Bool). MeetsItems c is.sizes (preferred c is.choices is.sizes) fs) (sym fates) both.1,
            numbers,
          )
      by_way (as_solved misses a solution numbers) =
          (a, solution.fits, solution_meets c is.sizes sound (has_sizes_fit c is.choices is.sizes sound le is.reached.sized) is.choices is.fates a solution, numbers)
