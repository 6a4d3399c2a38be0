-- What is said of each call of a run holds along the whole run.
use Rattle.std.proofs.Common.{◌≡◌, ◌⊎◌, inl, inr, ℕ, ◌+◌, ◌<◌, ◌≤◌, ◌^◌, Bool, true, false, cond, Option, Some, None, List, [], ◌∷◌, ◌++◌, refl, sym, ap, ◌∙◌, subst, arith, append_assoc}
use Rattle.std.specs.List.{All}
use Rattle.std.proofs.lemmas.Bool.{and_parts}
use Rattle.std.proofs.lemmas.List.Folds.{list_all-append}
use Rattle.std.proofs.lemmas.List.Elements.{All-nil, All-cons, All-append, All-head, All-tail}
use Rattle.std.proofs.lemmas.List.Concat.{flat_map-cons}
use Rattle.std.proofs.lemmas.List.Sums.{sum_by-cons}
use Rattle.svr_typed.specs.StmtTerm.{CallTerm, StmtTerm, make, set_var, set_prop, resize, pattern, rand_mode, constraint_mode, call, repeat, list, DesignTerm}
use Rattle.svr_world.specs.World.{WorldTerm}
use Rattle.svr_frame.specs.declared.part.Part.TheVariants.{Randc, Sizes, All as Whole}
use Rattle.svr_frame.specs.Frame.{FrameTerm}
use Rattle.svr_frame.specs.Occurrences.{is_true, all_true}
use Rattle.svr_frame.specs.Sound.{IsSound}
use Rattle.svr_encoded.specs.declared.encoded.Encoded.{Encoded}
use Rattle.svr_phase.specs.declared.proof.Proof.{Proof}
use Rattle.svr_conflict.specs.declared.found.ConflictEnd.{ConflictEnd}
use Rattle.svr_conflict.specs.declared.found.ConflictEnd.TheVariants.{Meets, Set, Spent}
use Rattle.svr_phase.specs.declared.options.Options.{Options}
use Rattle.svr_phase.specs.Ends.{Call}
use Rattle.svr_call.specs.declared.outcome.Outcome.{Outcome}
use Rattle.svr_call.specs.declared.outcome.Outcome.TheVariants.{One, Zero, GaveUp, TooHeavy, SizeCap}
use Rattle.svr_call.specs.declared.outcome.Query.TheVariants as query
use Rattle.svr_call.specs.Call.{Steps, IsZeroHard, AsksValues, hard_items, soft_items, preferred, fits_preferred_values, call_of}
use Rattle.svr_call.proofs.Answered.{preferred_meets}
use Rattle.svr_script.specs.Printed.{Event}
use Rattle.svr_script.specs.ProofText.{logs_of}
use Rattle.svr_script.specs.Conflicts.{IsConflictIf, HasConflict, HaveConflicts, conflict_log}
use Rattle.svr_script.specs.Statement.{frame_in}
use Rattle.svr_script.specs.Run.{State, begin, is_given_up, Calls, Executes, Runs, statements, IsSoFar, Printing, event_log, journal_of, counts_of}
use Rattle.svr_script.specs.Ending.{SomeGivenUp, Output, RunEnds}
use Rattle.svr_script.proofs.Runs.{runs_more}
use Rattle.svr_budget_laws.specs.Budget.{GivesUpOverMany, value_bits}
use Rattle.svr_budget_laws.specs.Questions.{AsksLittle}
use Rattle.svr_budget_laws.proofs.Bits.{values_counted}
use Rattle.svr_budget_laws.proofs.Given.{step_over_many, none_given_up}
use Rattle.svr_run_budget_laws.specs.Runs.{CallsGiveUpOverMany, CallsAskLittle, CallsAreSound}

-- ---- one call

-- a call that asks small questions alone gives nothing up
answered : (c : Call) → AsksLittle c → (w : WorldTerm) (o : ℕ) (outcome : Outcome) (w2 : WorldTerm) → Steps w o c outcome w2 → is_given_up outcome ≡ false
answered c little w o (One kept dropped cycles encodings) w2 step = refl
answered c little w o (Zero phase chosen sizes proofs encodings) w2 step = refl
answered c little w o (GaveUp q e log first) w2 step = absurd (none_given_up c little q e log first step.0)
answered c little w o (TooHeavy weight) w2 step = refl
answered c little w o (SizeCap sizes proofs encodings) w2 step = refl

-- the values of a call that answered 0 in its last phase were asked for: the preferred ones do not meet its items
asks_for_values : (c : Call) → IsSound c.frame → c.cap ≤ 2048 → (chosen : List (ℕ × ℕ)) (sizes : List ℕ) (proofs : List Proof) (encodings : List Encoded) (zero : IsZeroHard c chosen sizes proofs encodings) → AsksValues c zero.choices sizes
asks_for_values c sound le chosen sizes proofs encodings zero = record { reached = zero.reached; not_preferred = by_test (fits_preferred_values c zero.choices sizes) refl }
  where
    by_test : (b : Bool) → fits_preferred_values c zero.choices sizes ≡ b → b ≡ false
    by_test false e = refl
    by_test true e =
        let a = preferred c zero.choices sizes in
        let is = (preferred_meets c sound le zero.choices sizes zero.reached.sized e).0 in
        let met = and_parts (all_true a (hard_items c sizes)) (all_true a (soft_items c sizes)) (sym (list_all-append (is_true a) (hard_items c sizes) (soft_items c sizes)) ∙ e) in
        absurd (zero.none (a, is, met.0))

-- no log of a question which items contradict each other
abbrev pub IsQuiet : Event → Type 0
IsQuiet e = conflict_log e e.conflict ≡ []

-- in a call that asks small questions alone that one is small too
quiet : (wanted : Bool) (w : WorldTerm) (o : ℕ) (e : Event) (opts : Options) → AsksLittle (call_of w o e.frame e.number opts) → IsSound e.frame → opts.size_cap ≤ 2048 → (outcome : Outcome) (w2 : WorldTerm) → Steps w o (call_of w o e.frame e.number opts) outcome w2
    → (found : Option ConflictEnd) → IsConflictIf wanted outcome e.frame opts.budget found → conflict_log e found ≡ []
quiet false w o e opts little sound le outcome w2 step found none = ap (conflict_log e) none
quiet true w o e opts little sound le (One kept dropped cycles encodings) w2 step found none = ap (conflict_log e) none
quiet true w o e opts little sound le (Zero Randc chosen sizes proofs encodings) w2 step found none = ap (conflict_log e) none
quiet true w o e opts little sound le (Zero Sizes chosen sizes proofs encodings) w2 step found none = ap (conflict_log e) none
quiet true w o e opts little sound le (Zero Whole chosen sizes proofs encodings) w2 step None h = absurd h
quiet true w o e opts little sound le (Zero Whole chosen sizes proofs encodings) w2 step (Some (Meets a)) h = refl
quiet true w o e opts little sound le (Zero Whole chosen sizes proofs encodings) w2 step (Some (Set x)) h = refl
quiet true w o e opts little sound le (Zero Whole chosen sizes proofs encodings) w2 step (Some (Spent enc log first)) h =
    let c = call_of w o e.frame e.number opts in
    let few : 2 ^ (value_bits e.frame sizes + 1) ≤ opts.budget = little query.Hard (value_bits e.frame sizes) (step.0.choices, sizes, asks_for_values c sound le chosen sizes proofs encodings step.0, refl) in
    let many : opts.budget < 2 ^ (value_bits e.frame sizes + 1) = subst (λ (n : ℕ). opts.budget < 2 ^ (n + 1)) (values_counted e.frame sizes 1) h.many in
    absurd (omega (arith, few, many))
quiet true w o e opts little sound le (GaveUp q enc log first) w2 step found none = ap (conflict_log e) none
quiet true w o e opts little sound le (TooHeavy weight) w2 step found none = ap (conflict_log e) none
quiet true w o e opts little sound le (SizeCap sizes proofs encodings) w2 step found none = ap (conflict_log e) none

-- the call is answered or meets a limit
abbrev pub IsNotGivenUp : Event → Type 0
IsNotGivenUp e = is_given_up e.outcome ≡ false

module _ (d : DesignTerm) (opts : Options) where
  abbrev IsOverMany : Event → Type 0
  IsOverMany e = GivesUpOverMany e.frame opts e.outcome

  -- a statement is a call and tells of it, or tells nothing
  told : (x : StmtTerm) (s : State) (es : List Event) (t : State) → Executes d opts x s es t
      → ((c : CallTerm) × (e : Event) × (x ≡ call c) × Calls d opts c s e t × (es ≡ e ∷ [])) ⊎ (es ≡ [])
  told (call c) s es t (e, calls, is) = inl (c, e, refl, calls, is)
  told (make o) s es t h = inr h.0
  told (set_var v e) s es t h = inr h.0
  told (set_prop o p i e) s es t h = inr h.0
  told (resize o p n) s es t h = inr h.0
  told (pattern o p vs) s es t h = inr h.0
  told (rand_mode o p on) s es t h = inr h.0
  told (constraint_mode o b on) s es t h = inr h.0
  told (repeat n x) s es t h = inr h.0
  told (list xs) s es t h = inr h.0

  -- ---- many bits

  statement_over_many : (x : StmtTerm) (s : State) (es : List Event) (t : State) → Executes d opts x s es t → CallsGiveUpOverMany opts es
  statement_over_many x s es t does = elim (told x s es t does) [
    | inl h ↦ rw h.4 (All-cons IsOverMany h.1 [] (step_over_many s.world h.0.object h.1.frame h.1.number opts h.1.outcome h.3.world h.3.answers) (All-nil IsOverMany))
    | inr h ↦ rw h (All-nil IsOverMany)
  ]

  pub runs_over_many : (xs : List StmtTerm) (s : State) (es : List Event) (t : State) → Runs d opts xs s es t → CallsGiveUpOverMany opts es
  runs_over_many [] s es t (nothing, same) = rw nothing (All-nil IsOverMany)
  runs_over_many (x ∷ xs) s es t (middle, now, later, going, does, runs, is) =
      rw is (All-append IsOverMany now later (statement_over_many x s now middle does) (runs_over_many xs middle later t runs))

  pub script_over_many : (es : List Event) (t : State) → IsSoFar d opts es t → CallsGiveUpOverMany opts es
  script_over_many es t so_far = runs_over_many so_far.done (begin d) es t so_far.runs

  -- ---- what holds of each call of a run so far

  module _ (P : Event → Type 0)
      (each : (fs : List Event) (s : State) (so_far : IsSoFar d opts fs s) (c : CallTerm) (rest : List StmtTerm) → so_far.left ≡ call c ∷ rest → s.limited ≡ false
      → (e : Event) (t : State) → Calls d opts c s e t → P e) where
    statement_has : (fs : List Event) (s : State) (so_far : IsSoFar d opts fs s) (x : StmtTerm) (rest : List StmtTerm) → so_far.left ≡ x ∷ rest → s.limited ≡ false
        → (es : List Event) (t : State) → Executes d opts x s es t → All P es
    statement_has fs s so_far x rest next going es t does = elim (told x s es t does) [
      | inl h ↦ rw h.4 (All-cons P h.1 [] (each fs s so_far h.0 rest (next ∙ ap (λ (y : StmtTerm). y ∷ rest) h.2) going h.1 t h.3) (All-nil P))
      | inr h ↦ rw h (All-nil P)
    ]

    -- statements behind those that were executed
    all_have : (xs done left : List StmtTerm) (s t : State) (fs es : List Event) → statements d ≡ done ++ (xs ++ left) → Runs d opts done (begin d) fs s → Runs d opts xs s es t → All P es
    all_have [] done left s t fs es split before (nothing, same) = rw nothing (All-nil P)
    all_have (x ∷ xs) done left s t fs es split before (middle, now, later, going, does, runs, is) =
        let so_far : IsSoFar d opts fs s = record { done = done; left = x ∷ (xs ++ left); split = split; runs = before } in
        let here = statement_has fs s so_far x (xs ++ left) refl going now middle does in
        let behind : statements d ≡ (done ++ x ∷ []) ++ (xs ++ left) = split ∙ sym (append_assoc done (x ∷ []) (xs ++ left)) in
        let rest = all_have xs (done ++ x ∷ []) left middle t (fs ++ now) later behind (runs_more d opts done x (begin d) s middle fs now before going does) runs in
        rw is (All-append P now later here rest)

    script_has : (es : List Event) (t : State) → IsSoFar d opts es t → All P es
    script_has es t so_far = all_have so_far.done [] so_far.left (begin d) t [] es so_far.split (refl, refl) so_far.runs

  -- ---- small questions alone

  module _ (little : CallsAskLittle d opts) where
    asks : (fs : List Event) (s : State) (so_far : IsSoFar d opts fs s) (c : CallTerm) (rest : List StmtTerm) → so_far.left ≡ call c ∷ rest → s.limited ≡ false
        → (e : Event) (t : State) → Calls d opts c s e t → AsksLittle (call_of s.world c.object e.frame e.number opts)
    asks fs s so_far c rest next going e t calls =
        subst (λ (f : FrameTerm). AsksLittle (call_of s.world c.object f e.number opts)) (sym calls.frame)
        (subst (λ (n : ℕ). AsksLittle (call_of s.world c.object (frame_in d s.world c) n opts)) (sym calls.number) (little fs s so_far c rest next going))

    call_answered : (fs : List Event) (s : State) (so_far : IsSoFar d opts fs s) (c : CallTerm) (rest : List StmtTerm) → so_far.left ≡ call c ∷ rest → s.limited ≡ false
        → (e : Event) (t : State) → Calls d opts c s e t → IsNotGivenUp e
    call_answered fs s so_far c rest next going e t calls =
        answered (call_of s.world c.object e.frame e.number opts) (asks fs s so_far c rest next going e t calls) s.world c.object e.outcome calls.world calls.answers

    pub none_given_up_of : (es : List Event) (t : State) → IsSoFar d opts es t → All IsNotGivenUp es
    none_given_up_of es t so_far = script_has IsNotGivenUp call_answered es t so_far

    -- sound frames, and arrays that are not chosen too long
    module _ (sound : CallsAreSound d opts) (le : opts.size_cap ≤ 2048) (wanted : Bool) where
      abbrev IsQuietIf : Event → Type 0
      IsQuietIf e = HasConflict wanted opts.budget e → IsQuiet e

      call_quiet : (fs : List Event) (s : State) (so_far : IsSoFar d opts fs s) (c : CallTerm) (rest : List StmtTerm) → so_far.left ≡ call c ∷ rest → s.limited ≡ false
          → (e : Event) (t : State) → Calls d opts c s e t → IsQuietIf e
      call_quiet fs s so_far c rest next going e t calls asked =
          quiet wanted s.world c.object e opts (asks fs s so_far c rest next going e t calls) (subst IsSound (sym calls.frame) (sound fs s so_far c rest next going)) le e.outcome calls.world calls.answers e.conflict asked

      pub quiet_if : (es : List Event) (t : State) → IsSoFar d opts es t → All IsQuietIf es
      quiet_if es t so_far = script_has IsQuietIf call_quiet es t so_far

-- ---- what is counted and told of it

none_counted : (es : List Event) → All IsNotGivenUp es → (counts_of es).given_up ≡ 0
none_counted [] none = refl
none_counted (e ∷ es) none =
    let first = All-head IsNotGivenUp e es none in
    let here : ◌≡◌ {A = ℕ} (cond (is_given_up e.outcome) 1 0) 0 = ap (λ (b : Bool). cond b 1 0) first in
    let rest = none_counted es (All-tail IsNotGivenUp e es none) in
    let all = sum_by-cons (λ (x : Event). cond (is_given_up x.outcome) 1 0) e es in
    omega (arith, here, rest, all)

no_log : (f : FrameTerm) (o : Outcome) → is_given_up o ≡ false → logs_of f o ≡ []
no_log f (One kept dropped cycles encodings) none = refl
no_log f (Zero phase chosen sizes proofs encodings) none = refl
no_log f (GaveUp q e log first) none = absurd (cc)
no_log f (TooHeavy weight) none = refl
no_log f (SizeCap sizes proofs encodings) none = refl

none_told : (es : List Event) → All IsNotGivenUp es → All IsQuiet es → journal_of es ≡ []
none_told [] none still = refl
none_told (e ∷ es) none still =
    let here = no_log e.frame e.outcome (All-head IsNotGivenUp e es none) in
    let besides = All-head IsQuiet e es still in
    let rest = none_told es (All-tail IsNotGivenUp e es none) (All-tail IsQuiet e es still) in
    flat_map-cons event_log e es ∙ (λ i. (here i ++ besides i) ++ rest i)

-- where no items that contradict each other are asked for
all_unasked : (budget : ℕ) (es : List Event) → HaveConflicts false budget es → All IsQuiet es
all_unasked budget [] h = All-nil IsQuiet
all_unasked budget (e ∷ es) (none, rest) = All-cons IsQuiet e es (ap (conflict_log e) none) (all_unasked budget es rest)

-- where they are
all_asked : (wanted : Bool) (budget : ℕ) (es : List Event) → All (λ (e : Event). HasConflict wanted budget e → IsQuiet e) es → HaveConflicts wanted budget es → All IsQuiet es
all_asked wanted budget [] each h = All-nil IsQuiet
all_asked wanted budget (e ∷ es) each (asked, rest) =
    All-cons IsQuiet e es (All-head (λ (x : Event). HasConflict wanted budget x → IsQuiet x) e es each asked)
    (all_asked wanted budget es (All-tail (λ (x : Event). HasConflict wanted budget x → IsQuiet x) e es each) rest)

module _ (d : DesignTerm) (opts : Options) (little : CallsAskLittle d opts) where
  pub counts_none : (es : List Event) (t : State) → IsSoFar d opts es t → (counts_of es).given_up ≡ 0
  counts_none es t so_far = none_counted es (none_given_up_of d opts little es t so_far)

  pub tells_none : (es : List Event) (t : State) → IsSoFar d opts es t → HaveConflicts false opts.budget es → journal_of es ≡ []
  tells_none es t so_far unasked = none_told es (none_given_up_of d opts little es t so_far) (all_unasked opts.budget es unasked)

  -- nor is the question given up which items contradict each other
  pub tells_no_conflict : CallsAreSound d opts → opts.size_cap ≤ 2048 → (wanted : Bool) (es : List Event) (t : State) → IsSoFar d opts es t → HaveConflicts wanted opts.budget es → journal_of es ≡ []
  tells_no_conflict sound le wanted es t so_far conflicts =
      none_told es (none_given_up_of d opts little es t so_far) (all_asked wanted opts.budget es (quiet_if d opts little sound le wanted es t so_far) conflicts)

  -- so no run of it ends as one in which a question was given up
  pub ends_answered : (how : Printing) (output : Output) → RunEnds d opts how SomeGivenUp output → ⊥
  ends_answered how output ends =
      let none = counts_none ends.events ends.state ends.run.so_far in
      let some : 0 < (counts_of ends.events).given_up = ends.ending_is.1 in
      absurd (omega (arith, none, some))
