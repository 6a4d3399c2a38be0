-- Items that contradict each other, along a run and beside what else is told.
use Rattle.std.proofs.Common.{◌≡◌, ℕ, Bool, true, false, List, [], ◌∷◌, ◌++◌, Option, Some, None, refl, sym, ap, ◌∙◌, subst, append-nil}
use Rattle.std.specs.List.{flat_map}
use Rattle.std.proofs.lemmas.List.Concat.{flat_map-cons}
use Rattle.svr_typed.specs.StmtTerm.{CallTerm, DesignTerm}
use Rattle.svr_eval.specs.Reading.{reading_of}
use Rattle.svr_frame.specs.declared.part.Part.TheVariants.{Randc, Sizes, All}
use Rattle.svr_frame.specs.Frame.{FrameTerm}
use Rattle.svr_frame.specs.Phases.{hard_of}
use Rattle.svr_frame.specs.Satisfaction.{Sat}
use Rattle.svr_phase.specs.declared.options.Options.{Options}
use Rattle.svr_call.specs.declared.outcome.Outcome.{Outcome}
use Rattle.svr_call.specs.declared.outcome.Outcome.TheVariants.{One, Zero, GaveUp, TooHeavy, SizeCap}
use Rattle.svr_call.specs.Call.{CallStep}
use Rattle.svr_world.specs.World.{WorldTerm}
use Rattle.svr_conflict.specs.declared.found.ConflictEnd.{ConflictEnd}
use Rattle.svr_conflict.specs.declared.found.ConflictEnd.TheVariants.{Meets, Set, Spent}
use Rattle.svr_script.specs.Printed.{Event}
use Rattle.svr_script.specs.Conflicts.{IsConflictAt, IsConflictIf, HasConflict, HaveConflicts, HasLine, is_unmet, conflict_text, conflict_log}
use Rattle.svr_script.specs.Run.{State, Calls, event_text, event_log, text_of, journal_of, proofs_alone, text_alone, log_alone}

-- ---- along a run

pub conflicts_joined : (wanted : Bool) (budget : ℕ) (es fs : List Event) → HaveConflicts wanted budget es → HaveConflicts wanted budget fs → HaveConflicts wanted budget (es ++ fs)
conflicts_joined wanted budget [] fs h k = k
conflicts_joined wanted budget (e ∷ es) fs (here, rest) k = (here, conflicts_joined wanted budget es fs rest k)

pub conflicts_cut : (wanted : Bool) (budget : ℕ) (es fs : List Event) → HaveConflicts wanted budget (es ++ fs) → HaveConflicts wanted budget es × HaveConflicts wanted budget fs
conflicts_cut wanted budget [] fs h = (tt, h)
conflicts_cut wanted budget (e ∷ es) fs (here, rest) =
    let cut = conflicts_cut wanted budget es fs rest in
    ((here, cut.0), cut.1)

-- ---- where they are not asked for

text_unasked : (proofs : Bool) (e : Event) (none : e.conflict ≡ None) → event_text (proofs_alone proofs) e ≡ text_alone proofs e
text_unasked proofs e none = ap (λ (x : Option ConflictEnd). text_alone proofs e ++ conflict_text proofs e x) none ∙ append-nil (text_alone proofs e)

log_unasked : (e : Event) (none : e.conflict ≡ None) → event_log e ≡ log_alone e
log_unasked e none = ap (λ (x : Option ConflictEnd). log_alone e ++ conflict_log e x) none ∙ append-nil (log_alone e)

pub texts_unasked : (proofs : Bool) (budget : ℕ) (es : List Event) → HaveConflicts false budget es → text_of (proofs_alone proofs) es ≡ flat_map (text_alone proofs) es
texts_unasked proofs budget [] h = refl
texts_unasked proofs budget (e ∷ es) (none, rest) =
    let here = text_unasked proofs e none in
    let others = texts_unasked proofs budget es rest in
    flat_map-cons (event_text (proofs_alone proofs)) e es ∙ (λ i. here i ++ others i) ∙ sym (flat_map-cons (text_alone proofs) e es)

pub logs_unasked : (budget : ℕ) (es : List Event) → HaveConflicts false budget es → journal_of es ≡ flat_map log_alone es
logs_unasked budget [] h = refl
logs_unasked budget (e ∷ es) (none, rest) =
    let here = log_unasked e none in
    let others = logs_unasked budget es rest in
    flat_map-cons event_log e es ∙ (λ i. here i ++ others i) ∙ sym (flat_map-cons log_alone e es)

-- ---- where they are

-- where no assignment meets the hard items, the question has another answer
no_assignment : (f : FrameTerm) (sizes : List ℕ) (chosen : List (ℕ × ℕ)) (budget : ℕ) → (Sat f All sizes chosen (hard_of f All sizes) → ⊥)
    → (found : Option ConflictEnd) → IsConflictAt f sizes chosen budget found → (end : ConflictEnd) × (found ≡ Some end) × HasLine end
no_assignment f sizes chosen budget none None h = absurd h
no_assignment f sizes chosen budget none (Some (Meets a)) h = absurd (none (reading_of a, h.0, h.1))
no_assignment f sizes chosen budget none (Some (Set c)) h = (Set c, refl, tt)
no_assignment f sizes chosen budget none (Some (Spent e log first)) h = (Spent e log first, refl, tt)

line_behind : (w : WorldTerm) (o : ℕ) (f : FrameTerm) (number : ℕ) (opts : Options) (outcome : Outcome) (w2 : WorldTerm) → CallStep w o f number opts outcome w2
    → is_unmet outcome ≡ true → (found : Option ConflictEnd) → IsConflictIf true outcome f opts.budget found → (end : ConflictEnd) × (found ≡ Some end) × HasLine end
line_behind w o f number opts (One kept dropped cycles encodings) w2 step unmet found h = absurd (cc)
line_behind w o f number opts (Zero Randc chosen sizes proofs encodings) w2 step unmet found h = absurd (cc)
line_behind w o f number opts (Zero Sizes chosen sizes proofs encodings) w2 step unmet found h = absurd (cc)
line_behind w o f number opts (Zero All chosen sizes proofs encodings) w2 step unmet found h =
    no_assignment f sizes chosen opts.budget (subst (λ (xs : List (ℕ × ℕ)). Sat f All sizes xs (hard_of f All sizes) → ⊥) (sym step.0.choice) step.0.none) found h
line_behind w o f number opts (GaveUp q e log first) w2 step unmet found h = absurd (cc)
line_behind w o f number opts (TooHeavy weight) w2 step unmet found h = absurd (cc)
line_behind w o f number opts (SizeCap sizes proofs encodings) w2 step unmet found h = absurd (cc)

pub line_told : (d : DesignTerm) (opts : Options) (c : CallTerm) (s : State) (e : Event) (t : State) → Calls d opts c s e t → HasConflict true opts.budget e → is_unmet e.outcome ≡ true
    → (end : ConflictEnd) × (e.conflict ≡ Some end) × HasLine end
line_told d opts c s e t calls asked unmet = line_behind s.world c.object e.frame e.number opts e.outcome calls.world calls.answers unmet e.conflict asked
