-- What a load answers.
use Rattle.std.proofs.Common.{◌≡◌, ◌≤◌, ◌<◌, ◌⊎◌, ℕ, false, zero, suc, List, [], length, Option, refl, sym, ap, ◌∙◌, subst, inl, inr, arith}
use Rattle.std.specs.Io.KnownBytes.{Appends, Keeps}
use Rattle.std.proofs.KnownBytes.{Appends-nil, Appends-kept, Keeps-refl}
use Rattle.std.proofs.lemmas.List.{take_all}
use Rattle.svr_edge.specs.Causes.{Rose}
use Rattle.svr_edge.specs.Known.{AppendsFront}
use Rattle.svr_limits.specs.declared.limit.TheConstants.{TEXT_LIMIT}
use Rattle.svr_load.specs.Script.{load_text}
use Rattle.svr_typed.specs.StmtTerm.{DesignTerm}
use Rattle.svr_phase.specs.declared.options.Options.{Options}
use Rattle.svr_script.specs.Printed.{Event}
use Rattle.svr_script.specs.Conflicts.{HaveConflicts}
use Rattle.svr_script.specs.Run as script
use Rattle.svr_script.specs.Run.{State, IsRun, IsSoFar, counts_of, journal_of}
use Rattle.svr_script.specs.Ending.{Output}
use Rattle.svr_run_budget_laws.proofs.Along.{script_over_many}
use Rattle.svr_run.specs.declared.progress.Counts.{Counts}
use Rattle.svr_run.specs.declared.run.End.TheVariants as at_end
use Rattle.svr_run.specs.declared.stop.Stop.TheVariants as stop
use Rattle.svr_run.specs.Telling.{Sinks, HasCounts, no_extra}
use Rattle.svr_run.specs.Reached.{Stops}
use Rattle.svr_run.specs.Ends as run
use Rattle.svr_refused.specs.Texts.{HasDesign, IsRefused}
use Rattle.svr_status.specs.Writing.{prints, Writing}
use Rattle.svr_status.specs.declared.status.Status.{Status}
use Rattle.svr_status.specs.declared.status.Status.TheVariants.{AllOne, SomeZero, Usage, SomeGivenUp, Refused, Limited, ReadFault, WriteFault, NoMemory}
use Rattle.svr_status.proofs.Statuses.{fault_no_read, memory_no_read, memory_no_write, refused_no_read, refused_no_write, limited_no_read, limited_no_write}
use Rattle.svr_answer.specs.Lines.{load_line}
use Rattle.svr_answer.specs.Ends.{LoadBegins}
use Rattle.svr_answer.specs.Answers.{refused, LoadAnswers, LoadMayTell}
use Rattle.svr_answer.specs.Parts.{HasStatus, LoadAnswered, Told, totals}

no_less : (m n : ℕ) → n ≡ m → m ≤ n
no_less m n e = omega arith

-- ---- the line

-- the line was told, or a front of it
pub told : (count : ℕ) (n : Counts) (status result : Status) (line : List ℕ) (old new : Option (List ℕ)) (was now : ℕ) → HasStatus n status → line ≡ load_line count (totals n)
    → ((result ≡ status) × Appends old new line) ⊎ ((result ≡ WriteFault) × AppendsFront old new line × Rose was now) → was ≤ now → Told count n result old was new now
told count n status result line old new was now has is (inl (e, all)) later =
    (inl (subst (λ (s : Status). HasStatus n s) (sym e) has, subst (λ (t : List ℕ). Appends old new t) is all), later)
told count n status result line old new was now has is (inr (e, front, rose)) later =
    (inr (inl (e, subst (λ (t : List ℕ). AppendsFront old new t) is front, rose)), later)

pub nothing_told : (count : ℕ) (n : Counts) (out : Option (List ℕ)) (faults : ℕ) → Told count n NoMemory out faults out faults
nothing_told count n out faults = (inr (inr (refl, Keeps-refl out)), omega arith)

-- each run that came to its end has a status
some_status : (n : Counts) (z g : ℕ) → n.zeros ≡ z → n.given_up ≡ g → (s : Status) × HasStatus n s
some_status n z (suc g) ez eg = let some : 0 < n.given_up = omega arith in (SomeGivenUp, some)
some_status n zero zero ez eg = (AllOne, (ez, eg))
some_status n (suc z) zero ez eg = let some : 0 < n.zeros = omega arith in (SomeZero, (some, eg))

abbrev made : ℕ → ℕ → ℕ → script.Counts
made a b c = record { ones = a; zeros = b; given_up = c }

same_totals : (n : Counts) (es : List Event) → HasCounts n es → totals n ≡ counts_of es
same_totals n es counts =
    ap (λ (k : ℕ). made k n.zeros n.given_up) counts.ones
    ∙ ap (λ (k : ℕ). made (counts_of es).ones k n.given_up) counts.zeros
    ∙ ap (λ (k : ℕ). made (counts_of es).ones (counts_of es).zeros k) counts.given_up

front_of_all : (old new : Option (List ℕ)) (text : List ℕ) → Appends old new text → AppendsFront old new text
front_of_all old new text all = (length text, subst (λ (t : List ℕ). Appends old new t) (sym (take_all (length text) text (omega arith))) all)

-- nothing more was written
kept_front : (old new : Option (List ℕ)) (text : List ℕ) → Keeps old new → AppendsFront old new text
kept_front old new text kept = (0, Appends-kept old old new [] (Appends-nil old) kept)

module _ (count : ℕ) (opts : Options) where
  pub nothing_answers : (now : Sinks) → LoadAnswered count opts NoMemory now now
  nothing_answers now = record {
    writing = inl (Keeps-refl now.out, Keeps-refl now.journal);
    nothing_read = memory_no_read;
    cause = λ f. absurd (memory_no_write f);
    out_later = omega arith;
    journal_later = omega arith;
  }

  -- ---- a script that is refused

  pub refusal_answers : (text line : List ℕ) (result : Status) (old new journal : Option (List ℕ)) (was now logged : ℕ) → text ≡ load_text count
      → length text ≤ TEXT_LIMIT → IsRefused text line
      → ((result ≡ Refused) × Appends old new line) ⊎ ((result ≡ WriteFault) × AppendsFront old new line × Rose was now) → was ≤ now
      → LoadAnswered count opts result (record { out = old; journal = journal; out_faults = was; journal_faults = logged }) (record { out = new; journal = journal; out_faults = now; journal_faults = logged })
  refusal_answers text line result old new journal was now logged is small why (inl (e, all)) later =
      subst (λ (s : Status). LoadAnswered count opts s (record { out = old; journal = journal; out_faults = was; journal_faults = logged }) (record { out = new; journal = journal; out_faults = now; journal_faults = logged })) (sym e)
      (record {
        writing = (prints line, refused line (subst (λ (t : List ℕ). length t ≤ TEXT_LIMIT) is small) (subst (λ (t : List ℕ). IsRefused t line) is why) refl, all, Appends-nil journal);
        nothing_read = refused_no_read;
        cause = λ f. absurd (refused_no_write f);
        out_later = later;
        journal_later = omega arith;
      })
  refusal_answers text line result old new journal was now logged is small why (inr (e, front, rose)) later =
      subst (λ (s : Status). LoadAnswered count opts s (record { out = old; journal = journal; out_faults = was; journal_faults = logged }) (record { out = new; journal = journal; out_faults = now; journal_faults = logged })) (sym e)
      (record {
        writing = (prints line, inl (Refused, refused line (subst (λ (t : List ℕ). length t ≤ TEXT_LIMIT) is small) (subst (λ (t : List ℕ). IsRefused t line) is why) refl), front, (0, Appends-nil journal));
        nothing_read = fault_no_read;
        cause = λ f. inl rose;
        out_later = later;
        journal_later = omega arith;
      })

  module _ (d : DesignTerm) (read : HasDesign (load_text count) d) where
    -- ---- to its end

    -- what is said with a status
    ends_with : (n : Counts) (es : List Event) (t : State) (s : Status) → IsRun d opts es t → t.limited ≡ false → HasCounts n es → HaveConflicts false opts.budget es → HasStatus n s
        → LoadAnswers count opts s (record { printed = load_line count (counts_of es); journal = journal_of es })
    ends_with n es t AllOne is_run free counts conflicts (zeros, given_up) =
        record { design = d; read = read; events = es; state = t; run = is_run; conflicts = conflicts; many = script_over_many d opts es t is_run.so_far; ending_is = (free, sym counts.zeros ∙ zeros, sym counts.given_up ∙ given_up); output_is = refl }
    ends_with n es t SomeZero is_run free counts conflicts (zeros, given_up) =
        record { design = d; read = read; events = es; state = t; run = is_run; conflicts = conflicts; many = script_over_many d opts es t is_run.so_far; ending_is = (free, subst (λ (k : ℕ). 0 < k) counts.zeros zeros, sym counts.given_up ∙ given_up); output_is = refl }
    ends_with n es t SomeGivenUp is_run free counts conflicts given_up =
        record { design = d; read = read; events = es; state = t; run = is_run; conflicts = conflicts; many = script_over_many d opts es t is_run.so_far; ending_is = (free, subst (λ (k : ℕ). 0 < k) counts.given_up given_up); output_is = refl }
    ends_with n es t Usage is_run free counts conflicts none = absurd none
    ends_with n es t Refused is_run free counts conflicts none = absurd none
    ends_with n es t Limited is_run free counts conflicts none = absurd none
    ends_with n es t ReadFault is_run free counts conflicts none = absurd none
    ends_with n es t WriteFault is_run free counts conflicts none = absurd none
    ends_with n es t NoMemory is_run free counts conflicts none = absurd none

    -- all of it was written
    all_written : (n : Counts) (s : Status) (output : Output) (old new : Sinks) → HasStatus n s → LoadAnswers count opts s output
        → Appends old.out new.out output.printed → Appends old.journal new.journal output.journal → Writing (LoadAnswers count opts) (LoadMayTell count opts) s old new
    all_written n AllOne output old new has said out journal = (output, said, out, journal)
    all_written n SomeZero output old new has said out journal = (output, said, out, journal)
    all_written n SomeGivenUp output old new has said out journal = (output, said, out, journal)
    all_written n Usage output old new none said out journal = absurd none
    all_written n Refused output old new none said out journal = absurd none
    all_written n Limited output old new none said out journal = absurd none
    all_written n ReadFault output old new none said out journal = absurd none
    all_written n WriteFault output old new none said out journal = absurd none
    all_written n NoMemory output old new none said out journal = absurd none

    status_no_read : (n : Counts) (s : Status) → HasStatus n s → s ≡ ReadFault → ⊥
    status_no_read n s has e = subst (λ (x : Status). HasStatus n x) e has

    status_no_write : (n : Counts) (s : Status) → HasStatus n s → s ≡ WriteFault → ⊥
    status_no_write n s has e = subst (λ (x : Status). HasStatus n x) e has

    pub ended_answers : (n : Counts) (status : Status) (before after : Sinks) (old new : Option (List ℕ)) (was now : ℕ) → run.Ends d opts no_extra (at_end.Ended n) before after → Told count n status old was new now
        → LoadAnswered count opts status (record { out = old; journal = before.journal; out_faults = was; journal_faults = before.journal_faults }) (record { out = new; journal = after.journal; out_faults = now; journal_faults = after.journal_faults })
    ended_answers n status before after old new was now (es, t, is_run, free, counts, conflicts, tells) (inl (has, all), later) = record {
      writing = all_written n status (record { printed = load_line count (counts_of es); journal = journal_of es }) _ _ has (ends_with n es t status is_run free counts conflicts has)
          (subst (λ (m : script.Counts). Appends old new (load_line count m)) (same_totals n es counts) all) tells.logged;
      nothing_read = status_no_read n status has;
      cause = λ f. absurd (status_no_write n status has f);
      out_later = later;
      journal_later = no_less before.journal_faults after.journal_faults tells.journal_kept;
    }
    ended_answers n status before after old new was now (es, t, is_run, free, counts, conflicts, tells) (inr (inl (e, front, rose)), later) =
        let some : (s : Status) × HasStatus n s = some_status n n.zeros n.given_up refl refl in
        subst (λ (s : Status). LoadAnswered count opts s (record { out = old; journal = before.journal; out_faults = was; journal_faults = before.journal_faults }) (record { out = new; journal = after.journal; out_faults = now; journal_faults = after.journal_faults })) (sym e)
        (record {
          writing = (
            record { printed = load_line count (counts_of es); journal = journal_of es },
            inl (some.0, ends_with n es t some.0 is_run free counts conflicts some.1),
            subst (λ (m : script.Counts). AppendsFront old new (load_line count m)) (same_totals n es counts) front,
            front_of_all before.journal after.journal (journal_of es) tells.logged,
          );
          nothing_read = fault_no_read;
          cause = λ f. inl rose;
          out_later = later;
          journal_later = no_less before.journal_faults after.journal_faults tells.journal_kept;
        })
    ended_answers n status before after old new was now (es, t, is_run, free, counts, conflicts, tells) (inr (inr (e, kept)), later) =
        let some : (s : Status) × HasStatus n s = some_status n n.zeros n.given_up refl refl in
        subst (λ (s : Status). LoadAnswered count opts s (record { out = old; journal = before.journal; out_faults = was; journal_faults = before.journal_faults }) (record { out = new; journal = after.journal; out_faults = now; journal_faults = after.journal_faults })) (sym e)
        (record {
          writing = inr (
            record { printed = load_line count (counts_of es); journal = journal_of es },
            inl (some.0, ends_with n es t some.0 is_run free counts conflicts some.1),
            kept_front old new (load_line count (counts_of es)) kept,
            front_of_all before.journal after.journal (journal_of es) tells.logged,
          );
          nothing_read = memory_no_read;
          cause = λ f. absurd (memory_no_write f);
          out_later = later;
          journal_later = no_less before.journal_faults after.journal_faults tells.journal_kept;
        })

    pub limit_answers : (before after : Sinks) (out : Option (List ℕ)) (faults : ℕ) → run.Ends d opts no_extra at_end.Limit before after
        → LoadAnswered count opts Limited (record { out = out; journal = before.journal; out_faults = faults; journal_faults = before.journal_faults }) (record { out = out; journal = after.journal; out_faults = faults; journal_faults = after.journal_faults })
    limit_answers before after out faults (es, t, is_run, met, conflicts, tells) = record {
      writing = (
        record { printed = []; journal = journal_of es },
        record { design = d; read = read; events = es; state = t; run = is_run; conflicts = conflicts; many = script_over_many d opts es t is_run.so_far; ending_is = met; output_is = refl },
        Appends-nil out,
        tells.logged,
      );
      nothing_read = limited_no_read;
      cause = λ f. absurd (limited_no_write f);
      out_later = omega arith;
      journal_later = no_less before.journal_faults after.journal_faults tells.journal_kept;
    }

    -- ---- cut off

    begun : (es : List Event) (t : State) → IsSoFar d opts es t → HaveConflicts false opts.budget es → LoadBegins count opts (record { printed = []; journal = journal_of es })
    begun es t so_far conflicts = record { design = d; read = read; events = es; state = t; so_far = so_far; conflicts = conflicts; many = script_over_many d opts es t so_far; output_is = refl }

    pub cut_for_memory : (before after : Sinks) (out : Option (List ℕ)) (faults : ℕ) → Stops d opts no_extra before stop.NoMemory after
        → LoadAnswered count opts NoMemory (record { out = out; journal = before.journal; out_faults = faults; journal_faults = before.journal_faults }) (record { out = out; journal = after.journal; out_faults = faults; journal_faults = after.journal_faults })
    cut_for_memory before after out faults (es, t, so_far, conflicts, tells) = record {
      writing = inr (record { printed = []; journal = journal_of es }, inr (begun es t so_far conflicts), (0, Appends-nil out), tells.logged);
      nothing_read = memory_no_read;
      cause = λ f. absurd (memory_no_write f);
      out_later = omega arith;
      journal_later = tells.journal_later;
    }

    -- where the lines go no sink fails, so it is the journal that did
    pub cut_by_fault : (before after : Sinks) (out : Option (List ℕ)) (faults : ℕ) → (Rose before.out_faults after.out_faults → ⊥) → Stops d opts no_extra before stop.WriteFault after
        → LoadAnswered count opts WriteFault (record { out = out; journal = before.journal; out_faults = faults; journal_faults = before.journal_faults }) (record { out = out; journal = after.journal; out_faults = faults; journal_faults = after.journal_faults })
    cut_by_fault before after out faults quiet (es, t, so_far, conflicts, tells, failed) = record {
      writing = (record { printed = []; journal = journal_of es }, inr (begun es t so_far conflicts), (0, Appends-nil out), tells.logged);
      nothing_read = fault_no_read;
      cause = λ f. elim failed [
        | inl rose ↦ absurd (quiet rose)
        | inr rose ↦ inr rose
      ];
      out_later = omega arith;
      journal_later = tells.journal_later;
    }

pub never_rose : Rose 0 0 → ⊥
never_rose (inl less) = absurd (omega arith)
never_rose (inr most) = absurd (omega arith)

pub load_no_usage : (count : ℕ) (opts : Options) (status : Status) (now later : Sinks) → LoadAnswered count opts status now later → status ≡ Usage → ⊥
load_no_usage count opts status now later answered e = (subst (λ (s : Status). LoadAnswered count opts s now later) e answered).writing.1
