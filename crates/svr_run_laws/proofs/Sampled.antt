-- What the calls of a run have told, and what is sampled of them.
use Rattle.std.proofs.Common.{◌≡◌, ◌≤◌, ℕ, suc, ◌+◌, Bool, true, false, cond, sym, ◌∙◌, ap, subst, List, [], ◌∷◌, length, length-append, Option, None, Some, arith}
use Rattle.std.specs.List.{All, cons_option}
use Rattle.std.proofs.lemmas.List.Elements.{All-nil, All-cons, All-head, All-tail}
use Rattle.svr_typed.specs.StmtTerm as stmt
use Rattle.svr_typed.specs.StmtTerm.{StmtTerm, DesignTerm}
use Rattle.svr_phase.specs.declared.options.Options.{Options}
use Rattle.svr_call.specs.Items.{is_one}
use Rattle.svr_script.specs.Printed.{Event}
use Rattle.svr_script.specs.Run.{State, Executes, Runs, Sample, sample_of, samples_of}
use Rattle.svr_run_laws.specs.Runs.{AreStored}

-- the object's numbers behind the call are numbers of 64 bits
abbrev pub EventIsStored : Event → Type 0
EventIsStored e = AreStored e.after

abbrev pub SampleIsStored : Sample → Type 0
SampleIsStored s = AreStored s.values

pub no_events : (es : List Event) → es ≡ [] → All EventIsStored es
no_events es e = subst (All EventIsStored) (sym e) (All-nil EventIsStored)

-- ---- one call a statement

none_told : (es : List Event) → es ≡ [] → length es ≤ 1
none_told es e = subst (λ (xs : List Event). length xs ≤ 1) (sym e) (omega arith)

one_told : (d : DesignTerm) (opts : Options) (x : StmtTerm) (s : State) (es : List Event) (t : State) → Executes d opts x s es t → length es ≤ 1
one_told d opts (stmt.make o) s es t h = none_told es h.0
one_told d opts (stmt.set_var v e) s es t h = none_told es h.0
one_told d opts (stmt.set_prop o p i e) s es t h = none_told es h.0
one_told d opts (stmt.resize o p n) s es t h = none_told es h.0
one_told d opts (stmt.pattern o p vs) s es t h = none_told es h.0
one_told d opts (stmt.rand_mode o p e) s es t h = none_told es h.0
one_told d opts (stmt.constraint_mode o b e) s es t h = none_told es h.0
one_told d opts (stmt.call c) s es t h = subst (λ (xs : List Event). length xs ≤ 1) (sym h.2) (omega arith)
one_told d opts (stmt.repeat n x) s es t h = none_told es h.0
one_told d opts (stmt.list xs) s es t h = none_told es h.0

pub few_told : (d : DesignTerm) (opts : Options) (xs : List StmtTerm) (s : State) (es : List Event) (t : State) → Runs d opts xs s es t → length es ≤ length xs
few_told d opts [] s es t r = subst (λ (ys : List Event). length ys ≤ 0) (sym r.0) (omega arith)
few_told d opts (x ∷ xs) s es t r =
    let now = one_told d opts x s r.1 r.0 r.4 in
    let later = few_told d opts xs r.0 r.2 t r.5 in
    let all : length es ≡ length r.1 + length r.2 = ap length r.6 ∙ length-append r.1 r.2 in
    omega (arith, now, later, all)

-- ---- samples

one_more : (o : Option Sample) (ss : List Sample) (n : ℕ) → length ss ≤ n → length (cons_option o ss) ≤ suc n
one_more None ss n h = omega (arith, h)
one_more (Some s) ss n h = omega (arith, h)

pub few_sampled : (es : List Event) → length (samples_of es) ≤ length es
few_sampled [] = omega arith
few_sampled (e ∷ es) = one_more (sample_of e) (samples_of es) (length es) (few_sampled es)

kept : (b : Bool) (s : Sample) (ss : List Sample) → SampleIsStored s → All SampleIsStored ss → All SampleIsStored (cons_option (cond b (Some s) None) ss)
kept true s ss h k = All-cons SampleIsStored s ss h k
kept false s ss h k = k

pub samples_stored : (es : List Event) → All EventIsStored es → All SampleIsStored (samples_of es)
samples_stored [] h = All-nil SampleIsStored
samples_stored (e ∷ es) h =
    kept (is_one e.outcome) (record { class = e.class; values = e.after }) (samples_of es) (All-head EventIsStored e es h) (samples_stored es (All-tail EventIsStored e es h))
