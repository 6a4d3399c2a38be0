-- Proofs that stand over a list of one encoding name that one.
use Rattle.std.proofs.Common.{◌≡◌, ◌≤◌, ℕ, zero, suc, false, List, [], ◌∷◌, length, Some, refl, arith}
use Rattle.std.specs.Prelude.{slice_get}
use Rattle.std.specs.List.{All}
use Rattle.std.proofs.lemmas.List.Elements.{All-nil, All-cons}
use Rattle.svr_chain.specs.declared.clause.Lit.{Lit}
use Rattle.svr_world.specs.World.{WorldTerm}
use Rattle.svr_frame.specs.declared.part.Part.{Part}
use Rattle.svr_frame.specs.declared.part.Part.TheVariants.{Randc, Sizes, All as Whole}
use Rattle.svr_frame.specs.Frame.{FrameTerm}
use Rattle.svr_frame.specs.Occurrences.{Occurrence}
use Rattle.svr_encoded.specs.declared.encoded.Encoded.{Encoded}
use Rattle.svr_phase.specs.declared.proof.Proof.{Proof}
use Rattle.svr_phase.specs.declared.proof.ProofReason.{ProofReason}
use Rattle.svr_phase.specs.declared.proof.Renewed.{Renewed}
use Rattle.svr_phase.specs.Proof.{Stands, ProveValues}
use Rattle.svr_phase.specs.Ends.{Call, Renewal, CyclesAreProved}
use Rattle.svr_call.specs.declared.outcome.Outcome.{Outcome}
use Rattle.svr_call.specs.declared.outcome.Outcome.TheVariants.{One, Zero, GaveUp, TooHeavy, SizeCap}
use Rattle.svr_call.specs.Call.{Steps}
use Rattle.svr_call.specs.Items.{is_one}
use Rattle.svr_budget_laws.specs.Bounds.{HasFewEncodings, AllName, NameOneAPhase}

-- the only one of a list stands at its first place
only_first : {A : Type 0} (xs : List A) (k : ℕ) (x : A) → length xs ≤ 1 → slice_get xs k ≡ Some x → k ≡ 0
only_first [] k x le got = absurd (cc)
only_first (y ∷ xs) zero x le got = refl
only_first (y ∷ []) (suc k) x le got = absurd (cc)
only_first (y ∷ z ∷ xs) (suc k) x le got = absurd (omega (arith, le))

-- the only proof names one
pub alone_named : (p : Proof) (ps : List Proof) → ps ≡ p ∷ [] → p.encoding ≡ 0 → (place : ℕ) × AllName place ps
alone_named p ps only first = (0, rw only (All-cons (λ (q : Proof). q.encoding ≡ 0) p [] first (All-nil (λ (q : Proof). q.encoding ≡ 0))))

module _ (f : FrameTerm) (es : List Encoded) (few : length es ≤ 1) where
  pub stands_first : (part : Part) (sizes : List ℕ) (k : ℕ) (fixed : List (ℕ × ℕ)) (hard soft : List Occurrence) (also : Encoded → List Lit) (p : Proof)
      → Stands f part sizes k fixed hard soft also es p → p.encoding ≡ 0
  stands_first part sizes k fixed hard soft also p h = only_first es p.encoding h.encoding few h.named

  pub values_first : (chosen : List (ℕ × ℕ)) (prop : ℕ) (reason : ℕ → ProofReason) (vs : List ℕ) (ps : List Proof) → ProveValues f chosen prop reason vs es ps → AllName 0 ps
  values_first chosen prop reason [] [] h = All-nil (λ (q : Proof). q.encoding ≡ 0)
  values_first chosen prop reason [] (p ∷ ps) h = absurd h
  values_first chosen prop reason (v ∷ vs) [] h = absurd h
  values_first chosen prop reason (v ∷ vs) (p ∷ ps) h =
      All-cons (λ (q : Proof). q.encoding ≡ 0) p ps (stands_first _ _ _ _ _ _ _ p h.1.1) (values_first chosen prop reason vs ps h.2)

-- the proofs of new cycles
pub cycles_first : (c : Call) (es : List Encoded) → length es ≤ 1 → (xs : List Renewal) (rs : List Renewed) → CyclesAreProved c es xs rs → All (λ (r : Renewed). AllName 0 r.proofs) rs
cycles_first c es few [] [] h = All-nil (λ (r : Renewed). AllName 0 r.proofs)
cycles_first c es few [] (r ∷ rs) h = absurd h
cycles_first c es few (x ∷ xs) [] h = absurd h
cycles_first c es few (x ∷ xs) (r ∷ rs) h =
    All-cons (λ (q : Renewed). AllName 0 q.proofs) r rs (values_first c.frame es few _ _ _ _ r.proofs h.1) (cycles_first c es few xs rs h.2)

-- the proofs of an answer 0, or of one beyond the cap
pub only_named : (w : WorldTerm) (o : ℕ) (c : Call) (outcome : Outcome) (w2 : WorldTerm) → Steps w o c outcome w2 → is_one outcome ≡ false → HasFewEncodings outcome → NameOneAPhase outcome
only_named w o c (One kept dropped cycles encodings) w2 step other few = absurd (cc)
only_named w o c (Zero Randc chosen sizes proofs encodings) w2 step other few = (0, values_first c.frame encodings few _ _ _ _ proofs step.0.1.proved)
only_named w o c (Zero Sizes chosen sizes proofs encodings) w2 step other few =
    let is = step.0.1 in
    alone_named is.proof proofs is.only (stands_first c.frame encodings few _ _ _ _ _ _ _ is.proof is.stands.1)
only_named w o c (Zero Whole chosen sizes proofs encodings) w2 step other few =
    let is = step.0 in
    alone_named is.proof proofs is.only (stands_first c.frame encodings few _ _ _ _ _ _ _ is.proof is.stands.2)
only_named w o c (GaveUp q e log first) w2 step other few = tt
only_named w o c (TooHeavy weight) w2 step other few = tt
only_named w o c (SizeCap sizes proofs encodings) w2 step other few =
    let is = step.0 in
    alone_named is.proof proofs is.only (stands_first c.frame encodings few _ _ _ _ _ _ _ is.proof is.stands.1)
