-- What a watch gathers of a run.
use Rattle.std.proofs.Common.{◌≡◌, ◌≤◌, ◌+◌, ℕ, Bool, true, false, cond, refl, ◌∙◌, ap, List, [], ◌∷◌, ◌++◌, Option, Some, None, arith}
use Rattle.std.specs.List.{fold, cons_option}
use Rattle.std.proofs.lemmas.List.Elements.{filter_map-append}
use Rattle.std.proofs.lemmas.List.Sums.{fold-append}
use Rattle.svr_typed.specs.StmtTerm.{DesignTerm}
use Rattle.svr_phase.specs.declared.options.Options.{Options}
use Rattle.svr_call.specs.declared.outcome.Outcome.{Outcome}
use Rattle.svr_call.specs.Items.{is_one}
use Rattle.svr_script.specs.Printed.{Event}
use Rattle.svr_script.specs.Run.{Sample, sample_of, samples_of, gathered}
use Rattle.svr_run.specs.declared.extra.Extra.{Extra}
use Rattle.svr_run.specs.declared.run.End.{End}
use Rattle.svr_run.specs.declared.run.End.TheVariants.{Ended, Limit, Stopped}
use Rattle.svr_run.specs.Telling.{Sinks}
use Rattle.svr_run.specs.Watching.{taken, sampled}
use Rattle.svr_run.specs.Ends.{Ends, Watches}

-- ---- samples

-- of calls behind others
pub gathered_join : {C : Type 0} (take : C → Sample → C) (c : C) (es fs : List Event) → gathered take c (es ++ fs) ≡ gathered take (gathered take c es) fs
gathered_join take c es fs = ap (fold take c) (filter_map-append sample_of es fs) ∙ fold-append take c (samples_of es) (samples_of fs)

where_one : {C : Type 0} (take : C → Sample → C) (c : C) (s : Sample) (b : Bool) → fold take c (cons_option (cond b (Some s) None) []) ≡ cond b (take c s) c
where_one take c s true = refl
where_one take c s false = refl

-- of one call
pub gathered_of_one : {C : Type 0} (step : C → ℕ → List (List ℕ) → C) (c : C) (e : Event) → gathered (taken step) c (e ∷ []) ≡ sampled step e.outcome e.class e.after c
gathered_of_one step c e = where_one (taken step) c (record { class = e.class; values = e.after }) (is_one e.outcome)

-- of an object of this class with these numbers
pub sampled_as : {C : Type 0} (step : C → ℕ → List (List ℕ) → C) (o : Outcome) (c x : C) (k l : ℕ) (values numbers : List (List ℕ)) → k ≡ l → values ≡ numbers → x ≡ sampled step o k values c → x ≡ sampled step o l numbers c
sampled_as step o c x k l values numbers is_class are_numbers h =
    h ∙ ap (λ (n : ℕ). sampled step o n values c) is_class ∙ ap (λ (ns : List (List ℕ)). sampled step o l ns c) are_numbers

-- a watch that takes none can take as many as before
pub none_taken : (n : ℕ) → n ≤ n + 1
none_taken n = omega arith

-- ---- ends

-- a run that is watched ends as any run
pub ends_of : {C : Type 0} (take : C → Sample → C) (before : C) (behind : Option C) (d : DesignTerm) (opts : Options) (extra : Extra) (end : End) (old new : Sinks) → Watches take before behind d opts extra end old new → Ends d opts extra end old new
ends_of take before behind d opts extra (Ended n) old new (es, t, run, going, counts, conflicts, tells, gathers) = (es, t, run, going, counts, conflicts, tells)
ends_of take before behind d opts extra Limit old new (es, t, run, limited, conflicts, tells, gathers) = (es, t, run, limited, conflicts, tells)
ends_of take before behind d opts extra (Stopped why) old new stops = stops
