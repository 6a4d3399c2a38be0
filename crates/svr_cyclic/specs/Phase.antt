-- How far the phase of cyclic values has come
use Rattle.std.specs.Prelude.{◌≡◌, ℕ, List, [], ◌∷◌, ◌++◌, length}
use Rattle.svr_chain.specs.declared.clause.Lit.{Lit}
use Rattle.svr_chain.specs.Views.{RefutationView}
use Rattle.svr_world.specs.Fits.{AreRising}
use Rattle.svr_frame.specs.Frame.{frame_term, domain_of}
use Rattle.svr_encoded.specs.declared.encoded.Encoded.{Encoded}
use Rattle.svr_phase.specs.declared.choice.Choice.{Choice}
use Rattle.svr_phase.specs.declared.proof.Proof.{Proof}
use Rattle.svr_phase.specs.declared.proof.Renewed.{Renewed}
use Rattle.svr_phase.specs.declared.proof.ProofReason.TheVariants.{Cycle, Randc}
use Rattle.svr_phase.specs.Cyclic.{fixed_of, turned, AreChosen, HasNoChoice, IsTrying}
use Rattle.svr_phase.specs.Ends.{Call, cyclic_props, cycles_of, refused_values, Renewal, renewals}
use Rattle.svr_call.specs.Call.{call_of, new_used}
use Rattle.svr_cyclic.specs.declared.phase.Calling.{Calling}
use Rattle.svr_cyclic.specs.declared.phase.Progress.{Progress}
use Rattle.svr_cyclic.specs.declared.phase.Reached.{Reached}
use Rattle.svr_cyclic.specs.declared.phase.Reached.TheVariants as reached
use Rattle.svr_cyclic.specs.Questions.{Over, IsGivenUp}
use Rattle.svr_cyclic.specs.Values.{AreRefuted}

abbrev pub call_at : Calling → Call
call_at t = call_of t.world.now t.object (frame_term t.frame.now) t.number t.opts

abbrev pub over_call : Call → Encoded → List (List Lit) → Over
over_call c layout clauses = record { frame = c.frame; layout = layout; clauses = clauses; budget = c.budget }

-- one entry for each new cycle, with a proof for each value that was unused
abbrev pub AreRenewed : Call → Over → List Renewal → List Renewed → Type 0
AreRenewed c o [] [] = Unit {0}
AreRenewed c o [] (r ∷ rs) = ⊥
AreRenewed c o (x ∷ xs) [] = ⊥
AreRenewed c o (x ∷ xs) (r ∷ rs) =
    (r.prop ≡ x.choice.prop) × AreRefuted o (fixed_of x.before) r.prop (Cycle r.prop) (refused_values c (length x.before) r.prop) r.proofs × AreRenewed c o xs rs

-- these properties have their values
pub record IsSoFar (c : Call) (o : Over) (props : List ℕ) (g : Progress) : Type 0 where
  pub choices : List Choice
  pub taken : AreChosen c.frame (cycles_of c) [] props choices
  pub values : g.chosen.items ≡ fixed_of choices
  pub uses : g.used ≡ new_used c choices
  pub renewed : AreRenewed c o (renewals [] choices) g.cycles
  pub rising : AreRising g.used

-- none fits the next one
pub record HasNone (c : Call) (o : Over) (chosen : List (ℕ × ℕ)) (proofs : List Proof) : Type 0 where
  pub before : List Choice
  pub prop : ℕ
  pub settled : List ℕ
  pub others : List ℕ
  pub order : cyclic_props c.frame ≡ settled ++ prop ∷ others
  pub taken : AreChosen c.frame (cycles_of c) [] settled before
  pub none : HasNoChoice c.frame (cycles_of c) before prop
  pub values : chosen ≡ fixed_of before
  pub proved : AreRefuted o chosen prop (Randc prop) (turned (c.words (length before)) (domain_of c.frame prop)) proofs

-- the next one is tried
pub record IsTryingAt (c : Call) (o : Over) (prop : ℕ) (log : RefutationView) (first : ℕ) : Type 0 where
  pub before : List Choice
  pub settled : List ℕ
  pub others : List ℕ
  pub order : cyclic_props c.frame ≡ settled ++ prop ∷ others
  pub taken : AreChosen c.frame (cycles_of c) [] settled before
  pub trying : IsTrying c.frame (cycles_of c) before prop
  pub given_up : IsGivenUp o log first

abbrev pub IsReached : Call → Over → Reached → Type 0
IsReached c o (reached.Done g) = IsSoFar c o (cyclic_props c.frame) g
IsReached c o (reached.NoneFits chosen proofs) = HasNone c o chosen.items proofs
IsReached c o (reached.Spent prop log first) = IsTryingAt c o prop log first
