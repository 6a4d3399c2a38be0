-- What a call's answer carries as proofs shows what it has to show.
use Rattle.std.proofs.Common.{◌≡◌, ◌<◌, ℕ, Bool, List, [], ◌∷◌, ◌++◌, length, get_or, sym, subst, Option}
use Rattle.std.specs.List.{All}
use Rattle.std.proofs.lemmas.List.Elements.{All-nil, All-cons}
use Rattle.svr_chain.specs.declared.clause.Lit.{Lit}
use Rattle.svr_world.specs.World.{WorldTerm}
use Rattle.svr_frame.specs.declared.part.Part.{Part}
use Rattle.svr_frame.specs.declared.part.Part.TheVariants.{Randc, Sizes, All as Whole}
use Rattle.svr_frame.specs.Frame.{FrameTerm, domain_of}
use Rattle.svr_frame.specs.Occurrences.{Occurrence}
use Rattle.svr_encoded.specs.declared.encoded.Encoded.{Encoded}
use Rattle.svr_phase.specs.declared.choice.Choice.{Choice}
use Rattle.svr_phase.specs.declared.options.Options.{Options}
use Rattle.svr_phase.specs.declared.proof.Proof.{Proof}
use Rattle.svr_phase.specs.declared.proof.ProofReason.{ProofReason}
use Rattle.svr_phase.specs.declared.proof.Renewed.{Renewed}
use Rattle.svr_phase.specs.declared.proof.ProofReason.TheVariants as why
use Rattle.svr_phase.specs.Proof.{Stands, ProveValues}
use Rattle.svr_phase.specs.Cyclic.{fixed_of, turned}
use Rattle.svr_phase.specs.Ends.{Call, Renewal, CyclesAreProved, renewals, refused_values}
use Rattle.svr_call.specs.declared.outcome.Dropped.{Dropped}
use Rattle.svr_call.specs.declared.outcome.Outcome.{Outcome}
use Rattle.svr_call.specs.declared.outcome.Outcome.TheVariants.{One, Zero, GaveUp, TooHeavy, SizeCap}
use Rattle.svr_call.specs.Call.{CallStep, DropsAreProved, IsZero, call_of}
use Rattle.svr_derived.specs.Shown.{IsShownOver, IsShown, AreShown}

-- ---- one proof

shown_by : (f : FrameTerm) (part : Part) (sizes : List ℕ) (size_bits : ℕ) (fixed : List (ℕ × ℕ)) (hard soft : List Occurrence) (also : Encoded → List Lit)
    (encodings : List Encoded) (p : Proof) → Stands f part sizes size_bits fixed hard soft also encodings p → IsShown encodings p
shown_by f part sizes size_bits fixed hard soft also encodings p h = subst (λ (e : Option Encoded). IsShownOver e p) (sym h.named) h.refutes

-- the proof alone
one_shown : (encodings : List Encoded) (p : Proof) (ps : List Proof) → ps ≡ p ∷ [] → IsShown encodings p → All (IsShown encodings) ps
one_shown encodings p ps only h = subst (λ (xs : List Proof). All (IsShown encodings) xs) (sym only) (All-cons (IsShown encodings) p [] h (All-nil (IsShown encodings)))

-- the element at a place
pub shown_at : {A : Type 0} (P : A → Type 0) (xs : List A) (i : ℕ) (x : A) → All P xs → i < length xs → x ≡ get_or xs i x → P x
shown_at P xs i x all less is = subst P (sym is) (all i x less)

-- ---- rows of proofs

values_shown : (f : FrameTerm) (chosen : List (ℕ × ℕ)) (prop : ℕ) (reason : ℕ → ProofReason) (vs : List ℕ) (encodings : List Encoded) (ps : List Proof)
    → ProveValues f chosen prop reason vs encodings ps → All (IsShown encodings) ps
values_shown f chosen prop reason [] encodings [] h = All-nil (IsShown encodings)
values_shown f chosen prop reason [] encodings (p ∷ ps) h = absurd h
values_shown f chosen prop reason (v ∷ vs) encodings [] h = absurd h
values_shown f chosen prop reason (v ∷ vs) encodings (p ∷ ps) h =
    All-cons (IsShown encodings) p ps (shown_by _ _ _ _ _ _ _ _ encodings p h.1.1) (values_shown f chosen prop reason vs encodings ps h.2)

cycles_shown : (c : Call) (encodings : List Encoded) (xs : List Renewal) (rs : List Renewed) → CyclesAreProved c encodings xs rs → All (λ (r : Renewed). All (IsShown encodings) r.proofs) rs
cycles_shown c encodings [] [] h = All-nil (λ (r : Renewed). All (IsShown encodings) r.proofs)
cycles_shown c encodings [] (r ∷ rs) h = absurd h
cycles_shown c encodings (x ∷ xs) [] h = absurd h
cycles_shown c encodings (x ∷ xs) (r ∷ rs) h =
    All-cons (λ (s : Renewed). All (IsShown encodings) s.proofs) r rs (values_shown c.frame (fixed_of x.before) r.prop (why.Cycle r.prop) (refused_values c (length x.before) r.prop) encodings r.proofs h.1) (cycles_shown c encodings xs rs h.2)

drops_shown : (c : Call) (choices : List Choice) (sizes : List ℕ) (fates : List Bool) (encodings : List Encoded) (ds : List Dropped)
    → DropsAreProved c choices sizes fates encodings ds → All (λ (d : Dropped). IsShown encodings d.proof) ds
drops_shown c choices sizes fates encodings [] h = All-nil (λ (d : Dropped). IsShown encodings d.proof)
drops_shown c choices sizes fates encodings (d ∷ ds) h =
    All-cons (λ (x : Dropped). IsShown encodings x.proof) d ds (shown_by _ _ _ _ _ _ _ _ encodings d.proof h.0.2) (drops_shown c choices sizes fates encodings ds h.1)

-- ---- answers

zero_shown : (c : Call) (phase : Part) (chosen : List (ℕ × ℕ)) (sizes : List ℕ) (proofs : List Proof) (encodings : List Encoded)
    → IsZero c phase chosen sizes proofs encodings → All (IsShown encodings) proofs
zero_shown c Randc chosen sizes proofs encodings h = values_shown c.frame chosen h.1.prop (why.Randc h.1.prop) (turned (c.words (length h.1.before)) (domain_of c.frame h.1.prop)) encodings proofs h.1.proved
zero_shown c Sizes chosen sizes proofs encodings h = one_shown encodings h.1.proof proofs h.1.only (shown_by _ _ _ _ _ _ _ _ encodings h.1.proof h.1.stands.1)
zero_shown c Whole chosen sizes proofs encodings h = one_shown encodings h.proof proofs h.only (shown_by _ _ _ _ _ _ _ _ encodings h.proof h.stands.2)

-- whatever a call answers
pub proofs_shown : (w : WorldTerm) (o : ℕ) (f : FrameTerm) (number : ℕ) (opts : Options) (outcome : Outcome) (w2 : WorldTerm) → CallStep w o f number opts outcome w2 → AreShown outcome
proofs_shown w o f number opts (One kept dropped cycles encodings) w2 h =
    let one = h.1 in (
      cycles_shown (call_of w o f number opts) encodings (renewals [] one.choices) cycles one.cycles_proved,
      drops_shown (call_of w o f number opts) one.choices one.sizes one.fates encodings dropped one.drops_proved,
    )
proofs_shown w o f number opts (Zero phase chosen sizes proofs encodings) w2 h = zero_shown (call_of w o f number opts) phase chosen sizes proofs encodings h.0
proofs_shown w o f number opts (GaveUp query encoding log first) w2 h = tt
proofs_shown w o f number opts (TooHeavy weight) w2 h = tt
proofs_shown w o f number opts (SizeCap sizes proofs encodings) w2 h = one_shown encodings h.0.proof proofs h.0.only (shown_by _ _ _ _ _ _ _ _ encodings h.0.proof h.0.stands.1)
