-- What is written behind one another, or up to a fault, and what is counted.
use Rattle.std.proofs.Common.{◌≡◌, ◌≤◌, ◌+◌, ◌⊎◌, inl, inr, ℕ, cond, refl, sym, ◌∙◌, ap, subst, List, [], ◌∷◌, ◌++◌, length, take, append-nil, append_assoc, arith, Bool, true, false, Option, Some, None, Result, Ok, Err, OnOk, OnErr, IfErr, IsErrAnd}
use Rattle.std.specs.Io.KnownBytes.{Appends}
use Rattle.std.specs.List.{count_by}
use Rattle.std.proofs.KnownBytes.{Appends-nil, Appends-trans}
use Rattle.std.proofs.Math.Seq.{take-append-add}
use Rattle.std.proofs.lemmas.List.{take_all}
use Rattle.std.proofs.lemmas.List.Sums.{sum_by_push}
use Rattle.svr_edge.specs.Known.{AppendsFront}
use Rattle.svr_edge.specs.Causes.{Rose}
use Rattle.svr_typed.specs.StmtTerm.{CallTerm, DesignTerm}
use Rattle.svr_world.specs.World.{object_of}
use Rattle.svr_frame.specs.Frame.{FrameTerm}
use Rattle.svr_call.specs.declared.outcome.Outcome.{Outcome}
use Rattle.svr_call.specs.Items.{is_one}
use Rattle.svr_script.specs.Printed.{Event}
use Rattle.svr_script.specs.Statement.{name_of_var, class_of_var, flat_of_var}
use Rattle.svr_script.specs.Run.{Printing, text_of, journal_of, event_text, event_log, is_zero, is_given_up}
use Rattle.svr_script.proofs.Runs.{text_joined, journal_joined}
use Rattle.svr_run.specs.declared.conflict.Contradiction.{Contradiction}
use Rattle.svr_run.specs.declared.progress.Counts.{Counts}
use Rattle.svr_run.specs.declared.stop.Stop.{Stop}
use Rattle.svr_run.specs.declared.stop.Stop.TheVariants.{NoMemory, WriteFault}
use Rattle.svr_run.specs.declared.progress.Progress.{Progress}
use Rattle.svr_run.specs.Events.{AreNamed, IsCause, IsCauseAt, end_in, names_in, names_at, event_in}
use Rattle.svr_run.specs.Telling.{Sinks, sinks, Tells, TellsFront, SinkFailed, HasCounts, counted}

-- ---- fronts

pub front_of_none : (a : Option (List ℕ)) (text : List ℕ) → AppendsFront a a text
front_of_none a text = (0, Appends-nil a)

pub front_of_all : (a b : Option (List ℕ)) (text : List ℕ) → Appends a b text → AppendsFront a b text
front_of_all a b text h = (length text, subst (λ (t : List ℕ). Appends a b t) (sym (take_all (length text) text (omega arith))) h)

front_behind : (a b c : Option (List ℕ)) (xs ys : List ℕ) → Appends a b xs → AppendsFront b c ys → AppendsFront a c (xs ++ ys)
front_behind a b c xs ys h (n, k) = (length xs + n, subst (λ (t : List ℕ). Appends a c t) (sym (take-append-add xs ys n)) (Appends-trans a b c xs (take n ys) h k))

-- ---- what is told

pub tells_nothing : (how : Printing) (now : Sinks) → Tells how [] now now
tells_nothing how now = record { printed = Appends-nil now.out; logged = Appends-nil now.journal; out_kept = refl; journal_kept = refl }

pub tells_join : (how : Printing) (es fs : List Event) (a b c : Sinks) → Tells how es a b → Tells how fs b c → Tells how (es ++ fs) a c
tells_join how es fs a b c h k = record {
  printed = subst (λ (t : List ℕ). Appends a.out c.out t) (sym (text_joined how es fs)) (Appends-trans a.out b.out c.out (text_of how es) (text_of how fs) h.printed k.printed);
  logged = subst (λ (t : List ℕ). Appends a.journal c.journal t) (sym (journal_joined es fs)) (Appends-trans a.journal b.journal c.journal (journal_of es) (journal_of fs) h.logged k.logged);
  out_kept = k.out_kept ∙ h.out_kept;
  journal_kept = k.journal_kept ∙ h.journal_kept;
}

pub front_join : (how : Printing) (es fs : List Event) (a b c : Sinks) → Tells how es a b → TellsFront how fs b c → TellsFront how (es ++ fs) a c
front_join how es fs a b c h k = record {
  printed = subst (λ (t : List ℕ). AppendsFront a.out c.out t) (sym (text_joined how es fs)) (front_behind a.out b.out c.out (text_of how es) (text_of how fs) h.printed k.printed);
  logged = subst (λ (t : List ℕ). AppendsFront a.journal c.journal t) (sym (journal_joined es fs)) (front_behind a.journal b.journal c.journal (journal_of es) (journal_of fs) h.logged k.logged);
  out_later = subst (λ (n : ℕ). n ≤ c.out_faults) h.out_kept k.out_later;
  journal_later = subst (λ (n : ℕ). n ≤ c.journal_faults) h.journal_kept k.journal_later;
}

pub no_less : (m n : ℕ) → n ≡ m → m ≤ n
no_less m n e = omega arith

-- all of it is a front
pub front_of_told : (how : Printing) (es : List Event) (a b : Sinks) → Tells how es a b → TellsFront how es a b
front_of_told how es a b h = record {
  printed = front_of_all a.out b.out (text_of how es) h.printed;
  logged = front_of_all a.journal b.journal (journal_of es) h.logged;
  out_later = no_less a.out_faults b.out_faults h.out_kept;
  journal_later = no_less a.journal_faults b.journal_faults h.journal_kept;
}

-- what failed behind a front of the run failed in the run
pub failed_since : (how : Printing) (es : List Event) (a b c : Sinks) → Tells how es a b → SinkFailed b c → SinkFailed a c
failed_since how es a b c h (inl rose) = inl (subst (λ (n : ℕ). Rose n c.out_faults) h.out_kept rose)
failed_since how es a b c h (inr rose) = inr (subst (λ (n : ℕ). Rose n c.journal_faults) h.journal_kept rose)

-- ---- one call

text_of_one : (how : Printing) (e : Event) → text_of how (e ∷ []) ≡ event_text how e
text_of_one how e = append-nil (event_text how e)

journal_of_one : (e : Event) → journal_of (e ∷ []) ≡ event_log e
journal_of_one e = append-nil (event_log e)

pub both_told : (how : Printing) (e : Event) (x y : Option (List ℕ)) (m n : ℕ) (p q : Option (List ℕ)) (k l : ℕ)
    → Appends x y (event_text how e) → n ≡ m → Appends p q (event_log e) → l ≡ k → Tells how (e ∷ []) (sinks x m p k) (sinks y n q l)
both_told how e x y m n p q k l printed out_kept logged journal_kept = record {
  printed = subst (λ (t : List ℕ). Appends x y t) (sym (text_of_one how e)) printed;
  logged = subst (λ (t : List ℕ). Appends p q t) (sym (journal_of_one e)) logged;
  out_kept = out_kept;
  journal_kept = journal_kept;
}

one_front : (how : Printing) (e : Event) (x y : Option (List ℕ)) (m n : ℕ) (p q : Option (List ℕ)) (k l : ℕ)
    → AppendsFront x y (event_text how e) → m ≤ n → AppendsFront p q (event_log e) → k ≤ l → TellsFront how (e ∷ []) (sinks x m p k) (sinks y n q l)
one_front how e x y m n p q k l printed out_later logged journal_later = record {
  printed = subst (λ (t : List ℕ). AppendsFront x y t) (sym (text_of_one how e)) printed;
  logged = subst (λ (t : List ℕ). AppendsFront p q t) (sym (journal_of_one e)) logged;
  out_later = out_later;
  journal_later = journal_later;
}

-- the first sink failed, and nothing went to the second
pub out_cut : (how : Printing) (e : Event) (x y : Option (List ℕ)) (m n : ℕ) (p : Option (List ℕ)) (k : ℕ)
    → AppendsFront x y (event_text how e) → m ≤ n → TellsFront how (e ∷ []) (sinks x m p k) (sinks y n p k)
out_cut how e x y m n p k printed later = one_front how e x y m n p p k k printed later (front_of_none p (event_log e)) (no_less k k refl)

-- the second sink failed behind all that goes to the first
pub journal_cut : (how : Printing) (e : Event) (x y : Option (List ℕ)) (m n : ℕ) (p q : Option (List ℕ)) (k l : ℕ)
    → Appends x y (event_text how e) → n ≡ m → AppendsFront p q (event_log e) → k ≤ l → TellsFront how (e ∷ []) (sinks x m p k) (sinks y n q l)
journal_cut how e x y m n p q k l printed kept logged later = one_front how e x y m n p q k l (front_of_all x y (event_text how e) printed) (no_less m n kept) logged later

-- the same call
pub told_as : (how : Printing) (e f : Event) (a b : Sinks) → e ≡ f → Tells how (e ∷ []) a b → Tells how (f ∷ []) a b
told_as how e f a b same h = subst (λ (x : Event). Tells how (x ∷ []) a b) same h

pub front_as : (how : Printing) (e f : Event) (a b : Sinks) → e ≡ f → TellsFront how (e ∷ []) a b → TellsFront how (f ∷ []) a b
front_as how e f a b same h = subst (λ (x : Event). TellsFront how (x ∷ []) a b) same h

-- before it nothing was written
pub none_front : (how : Printing) (es : List Event) (a : Sinks) → TellsFront how es a a
none_front how es a = record {
  printed = front_of_none a.out (text_of how es);
  logged = front_of_none a.journal (journal_of es);
  out_later = no_less a.out_faults a.out_faults refl;
  journal_later = no_less a.journal_faults a.journal_faults refl;
}

-- ---- what is counted

pub one_counted : (n : Counts) (es : List Event) (e : Event) → HasCounts n es → HasCounts (counted n e.outcome) (es ++ e ∷ [])
one_counted n es e h = record {
  ones = ap (λ (k : ℕ). k + cond (is_one e.outcome) 1 0) h.ones ∙ sym (sum_by_push (λ (x : Event). cond (is_one x.outcome) 1 0) es e);
  zeros = ap (λ (k : ℕ). k + cond (is_zero e.outcome) 1 0) h.zeros ∙ sym (sum_by_push (λ (x : Event). cond (is_zero x.outcome) 1 0) es e);
  given_up = ap (λ (k : ℕ). k + cond (is_given_up e.outcome) 1 0) h.given_up ∙ sym (sum_by_push (λ (x : Event). cond (is_given_up x.outcome) 1 0) es e);
}

-- ---- texts that are put where a truth says so

pub with_text : (b : Bool) (text : List ℕ) → b ≡ true → text ≡ cond b text []
with_text b text e = ap (λ (x : Bool). cond x text []) (sym e)

pub without_text : (b : Bool) (text : List ℕ) → b ≡ false → [] ≡ cond b text []
without_text b text e = ap (λ (x : Bool). cond x text []) (sym e)

-- one of two texts
pub first_text : (b : Bool) (s t : List ℕ) → b ≡ true → s ≡ cond b s t
first_text b s t e = ap (λ (x : Bool). cond x s t) (sym e)

pub second_text : (b : Bool) (s t : List ℕ) → b ≡ false → t ≡ cond b s t
second_text b s t e = ap (λ (x : Bool). cond x s t) (sym e)

-- ---- what a result says

pub all_ok : {T E : Type 0} (r : Result T E) (A B C D Q : Type 0) → OnOk r A → OnOk r B → OnOk r C → OnOk r D → (A → B → C → D → Q) → OnOk r Q
all_ok (Ok x) A B C D Q a b c d f = f a b c d
all_ok (Err e) A B C D Q a b c d f = tt

pub failed_with : {T E : Type 0} (r : Result T E) (Q : Type 0) → Q → OnErr r Q
failed_with (Ok x) Q q = tt
failed_with (Err e) Q q = q

pub failed_for : {T E : Type 0} (r : Result T E) (Q : E → Type 0) → ((e : E) → Q e) → IfErr r Q
failed_for (Ok x) Q f = tt
failed_for (Err e) Q f = f e

pub failed_so : {T E : Type 0} (r : Result T E) (A : Type 0) (P Q : E → Type 0) → OnErr r A → IfErr r P → ((e : E) → A → P e → Q e) → IfErr r Q
failed_so (Ok x) A P Q a p f = tt
failed_so (Err e) A P Q a p f = f e a p

pub not_ok : {T E : Type 0} (r : Result T E) (P : E → Type 0) (Q : Type 0) → IsErrAnd r P → OnOk r Q
not_ok (Ok x) P Q h = absurd h
not_ok (Err e) P Q h = tt

pub failed_as : {T E : Type 0} (r : Result T E) (P Q : E → Type 0) → IsErrAnd r P → ((e : E) → P e → Q e) → IfErr r Q
failed_as (Ok x) P Q h f = absurd h
failed_as (Err e) P Q h f = f e h

-- what holds of a result in either case
pub in_any_case : {T E : Type 0} (r : Result T E) (A B Q : Type 0) → OnOk r A → OnErr r B → (A → Q) → (B → Q) → Q
in_any_case (Ok x) A B Q a b f h = f a
in_any_case (Err e) A B Q a b f h = h b

pub fault_is_cause : (why : Stop) (a b : Sinks) → SinkFailed a b → why ≡ WriteFault → IsCause why a b
fault_is_cause why a b failed e = subst (λ (w : Stop). IsCause w a b) (sym e) failed

-- the first of two sinks failed
pub cause_of_out : (why : Stop) (x y : Option (List ℕ)) (m n : ℕ) (p : Option (List ℕ)) (k : ℕ) → IsCauseAt why m n → IsCause why (sinks x m p k) (sinks y n p k)
cause_of_out NoMemory x y m n p k h = tt
cause_of_out WriteFault x y m n p k h = inl h

pub cause_at : (why cause : Stop) (m n : ℕ) → why ≡ cause → IsCauseAt cause m n → IsCauseAt why m n
cause_at why cause m n e h = subst (λ (w : Stop). IsCauseAt w m n) (sym e) h

pub same_cause : (why cause : Stop) (a b : Sinks) → why ≡ cause → IsCause cause a b → IsCause why a b
same_cause why cause a b e h = subst (λ (w : Stop). IsCause w a b) (sym e) h

-- ---- the event of a call

-- with what was found of items that contradict each other, and these names
abbrev pub named : DesignTerm → Progress → CallTerm → FrameTerm → Outcome → Option Contradiction → List (List ℕ) → List ℕ → List (List ℕ) → Event
named d p c f o found names object numbers =
    record { number = p.calls + 1; object = object; class = class_of_var d c.object; frame = f; outcome = o; after = numbers; names = names; conflict = end_in found }

-- where none are told, nothing told has a name of an item
told_named : (how : Printing) (d : DesignTerm) (p : Progress) (c : CallTerm) (f : FrameTerm) (o : Outcome) (found : Option Contradiction) (names : List (List ℕ)) (object : List ℕ) (numbers : List (List ℕ)) (a b : Sinks)
    → AreNamed names found → Tells how (named d p c f o found (names_in found) object numbers ∷ []) a b → Tells how (named d p c f o found names object numbers ∷ []) a b
told_named how d p c f o None names object numbers a b none h = record { printed = h.printed; logged = h.logged; out_kept = h.out_kept; journal_kept = h.journal_kept }
told_named how d p c f o (Some x) names object numbers a b is h = subst (λ (ns : List (List ℕ)). Tells how (named d p c f o (Some x) ns object numbers ∷ []) a b) is h

front_named : (how : Printing) (d : DesignTerm) (p : Progress) (c : CallTerm) (f : FrameTerm) (o : Outcome) (found : Option Contradiction) (names : List (List ℕ)) (object : List ℕ) (numbers : List (List ℕ)) (a b : Sinks)
    → AreNamed names found → TellsFront how (named d p c f o found (names_in found) object numbers ∷ []) a b → TellsFront how (named d p c f o found names object numbers ∷ []) a b
front_named how d p c f o None names object numbers a b none h = record { printed = h.printed; logged = h.logged; out_later = h.out_later; journal_later = h.journal_later }
front_named how d p c f o (Some x) names object numbers a b is h = subst (λ (ns : List (List ℕ)). TellsFront how (named d p c f o (Some x) ns object numbers ∷ []) a b) is h

module _ (how : Printing) (d : DesignTerm) (p : Progress) (c : CallTerm) (f : FrameTerm) (o : Outcome) (found : Option Contradiction) (object : List ℕ) (numbers : List (List ℕ)) (a b : Sinks) where
  abbrev all_names : List (List ℕ)
  all_names = names_at (flat_of_var d c.object) p.world c

  module _ (is_object : object ≡ name_of_var d c.object) (is_numbers : numbers ≡ (object_of p.world c.object).values) (are_named : AreNamed all_names found) where
    event_is : named d p c f o found all_names object numbers ≡ event_in d p c f o (end_in found)
    event_is = ap (λ (x : List ℕ). named d p c f o found all_names x numbers) is_object ∙ ap (λ (y : List (List ℕ)). named d p c f o found all_names (name_of_var d c.object) y) is_numbers

    -- what was told of it is what the next call tells
    pub told_in : Tells how (named d p c f o found (names_in found) object numbers ∷ []) a b → Tells how (event_in d p c f o (end_in found) ∷ []) a b
    told_in h = told_as how (named d p c f o found all_names object numbers) (event_in d p c f o (end_in found)) a b event_is (told_named how d p c f o found all_names object numbers a b are_named h)

    pub front_in : TellsFront how (named d p c f o found (names_in found) object numbers ∷ []) a b → TellsFront how (event_in d p c f o (end_in found) ∷ []) a b
    front_in h = front_as how (named d p c f o found all_names object numbers) (event_in d p c f o (end_in found)) a b event_is (front_named how d p c f o found all_names object numbers a b are_named h)
