-- What a run whose samples are counted answers.
use Rattle.std.proofs.Common.{◌≡◌, ◌≤◌, ◌<◌, ℕ, false, List, [], ◌++◌, length, Option, Some, refl, sym, ◌∙◌, ap, subst, inr, arith}
use Rattle.svr_typed.specs.StmtTerm.{DesignTerm}
use Rattle.svr_phase.specs.declared.options.Options.{Options}
use Rattle.svr_design.specs.Lawful.{IsLawful}
use Rattle.svr_script.specs.Printed.{Event}
use Rattle.svr_script.specs.Conflicts.{HaveConflicts}
use Rattle.svr_script.specs.Run.{State, IsRun, IsSoFar, statements, counts_of, text_of, journal_of}
use Rattle.svr_script.specs.Ending as ending
use Rattle.svr_script.specs.Ending.{Ending, HasEnding, Output, output_of}
use Rattle.svr_run_budget_laws.proofs.Along.{script_over_many}
use Rattle.svr_run_laws.proofs.Reached.{lawful_is_short}
use Rattle.svr_run.specs.declared.progress.Counts.{Counts}
use Rattle.svr_run.specs.declared.run.End.TheVariants as at_end
use Rattle.svr_run.specs.declared.stop.Stop.{Stop}
use Rattle.svr_run.specs.declared.stop.Stop.TheVariants as stop
use Rattle.svr_run.specs.Telling.{Sinks, sinks, HasCounts, no_extra}
use Rattle.svr_run.specs.Reached.{Stops}
use Rattle.svr_run.specs.Watching.{taken}
use Rattle.svr_run.specs.Ends.{Watches}
use Rattle.svr_answer.specs.Ends.{printing}
use Rattle.svr_answer.specs.Parts.{HasStatus}
use Rattle.svr_cover.specs.declared.cover.Cover.{Cover}
use Rattle.svr_cover.specs.Cover.{CoverTerm, cover_term, cover_step}
use Rattle.svr_cover_report.specs.Report.{with_groups}
use Rattle.svr_cover_report.specs.declared.names.GroupNames.{GroupNames}
use Rattle.svr_coverage.specs.declared.counters.Counters.{Counters as CountersType}
use Rattle.svr_status.specs.declared.status.Status.{Status}
use Rattle.svr_status.specs.declared.status.Status.TheVariants.{AllOne, SomeZero, Usage, SomeGivenUp, Refused, Limited, ReadFault, WriteFault, NoMemory}
use Rattle.svr_status.proofs.Statuses.{fault_no_read, fault_no_usage, memory_no_read, memory_no_write, memory_no_usage}
use Rattle.svr_command_cover.specs.Answers.{plain, behind, report, Covers, Begun, CoverAnswers}
use Rattle.svr_command_cover.specs.Parts.{IsFresh, IsPrepared, stopped_as, Answered, Told}
use Rattle.svr_command_cover.proofs.Written.{told_answers}

-- there is room for the samples of a lawful design
pub room : (d : DesignTerm) (cover : Cover) → IsLawful d → IsFresh cover → length (statements d) ≤ cover.left
room d cover l (groups, counters, is) =
    let few = lawful_is_short d l in
    let left : cover.left ≡ 4294967296 = ap (λ (c : Cover). c.left) is in
    omega (arith, few, left)

module _ (opts : Options) (text : List ℕ) (d : DesignTerm) (counters : CountersType) (ready : IsPrepared text d counters) where
  -- ---- to its end

  -- what a run has to write, with the report
  abbrev all_of : List Event → Output
  all_of es = record { printed = text_of (printing (plain opts)) es ++ report counters es; journal = journal_of es }

  covers : (e : Ending) (es : List Event) (t : State) → IsRun d opts es t → HaveConflicts false opts.budget es → HasEnding t (counts_of es) e → Covers opts text e (all_of es)
  covers e es t is_run conflicts has = record {
    tokens = ready.tokens;
    groups = ready.groups;
    begins = ready.begins;
    lines = output_of (printing (plain opts)) es;
    run = record { design = d; read = ready.read; run = record { events = es; state = t; run = is_run; conflicts = conflicts; ending_is = has; output_is = refl }; many = script_over_many d opts es t is_run.so_far };
    counters = counters;
    made = ready.made;
    output_is = refl;
  }

  -- what is said with a status
  ends_with : (n : Counts) (es : List Event) (t : State) (s : Status) → IsRun d opts es t → t.limited ≡ false → HasCounts n es → HaveConflicts false opts.budget es → HasStatus n s → CoverAnswers opts text s (all_of es)
  ends_with n es t AllOne is_run free counts conflicts (zeros, given_up) = (ready.small, covers ending.AllOne es t is_run conflicts (free, sym counts.zeros ∙ zeros, sym counts.given_up ∙ given_up))
  ends_with n es t SomeZero is_run free counts conflicts (zeros, given_up) = (ready.small, covers ending.SomeZero es t is_run conflicts (free, subst (λ (k : ℕ). 0 < k) counts.zeros zeros, sym counts.given_up ∙ given_up))
  ends_with n es t SomeGivenUp is_run free counts conflicts given_up = (ready.small, covers ending.SomeGivenUp es t is_run conflicts (free, subst (λ (k : ℕ). 0 < k) counts.given_up given_up))
  ends_with n es t Usage is_run free counts conflicts none = absurd none
  ends_with n es t Refused is_run free counts conflicts none = absurd none
  ends_with n es t Limited is_run free counts conflicts none = absurd none
  ends_with n es t ReadFault is_run free counts conflicts none = absurd none
  ends_with n es t WriteFault is_run free counts conflicts none = absurd none
  ends_with n es t NoMemory is_run free counts conflicts none = absurd none

  -- the report that was told is that over the samples
  told_over : (es : List Event) (names : List GroupNames) (wanted result : Status) (after : Option CoverTerm) (old new : Option (List ℕ)) (was now : ℕ)
      → names ≡ counters.names → after ≡ Some (behind (cover_term counters.cover) es)
      → ((b : CoverTerm) → after ≡ Some b → Told wanted (with_groups b.counts [] names) result old was new now)
      → Told wanted (report counters es) result old was new now
  told_over es names wanted result after old new was now named is told =
      subst (λ (ns : List GroupNames). Told wanted (with_groups (behind (cover_term counters.cover) es).counts [] ns) result old was new now) named (told (behind (cover_term counters.cover) es) is)

  pub ended_answers : (n : Counts) (names : List GroupNames) (status result : Status) (after : Option CoverTerm) (before middle : Sinks) (new : Option (List ℕ)) (now : ℕ)
      → Watches (taken cover_step) (cover_term counters.cover) after d opts no_extra (at_end.Ended n) before middle → HasStatus n status → names ≡ counters.names
      → ((b : CoverTerm) → after ≡ Some b → Told status (with_groups b.counts [] names) result middle.out middle.out_faults new now)
      → Answered opts text result before (sinks new now middle.journal middle.journal_faults)
  ended_answers n names status result after before middle new now (es, t, is_run, free, counts, conflicts, tells, gathers) has named told =
      told_answers opts text status result (text_of (printing (plain opts)) es) (report counters es) (journal_of es) before middle new now
      (ends_with n es t status is_run free counts conflicts has) tells.printed tells.logged tells.out_kept tells.journal_kept
      (told_over es names status result after middle.out new middle.out_faults now named gathers told)

  pub limit_answers : (names : List GroupNames) (result : Status) (after : Option CoverTerm) (before middle : Sinks) (new : Option (List ℕ)) (now : ℕ)
      → Watches (taken cover_step) (cover_term counters.cover) after d opts no_extra at_end.Limit before middle → names ≡ counters.names
      → ((b : CoverTerm) → after ≡ Some b → Told Limited (with_groups b.counts [] names) result middle.out middle.out_faults new now)
      → Answered opts text result before (sinks new now middle.journal middle.journal_faults)
  limit_answers names result after before middle new now (es, t, is_run, met, conflicts, tells, gathers) named told =
      told_answers opts text Limited result (text_of (printing (plain opts)) es) (report counters es) (journal_of es) before middle new now
      (ready.small, covers ending.Limited es t is_run conflicts met) tells.printed tells.logged tells.out_kept tells.journal_kept
      (told_over es names Limited result after middle.out new middle.out_faults now named gathers told)

  -- ---- cut off

  begun : (es : List Event) (t : State) → IsSoFar d opts es t → HaveConflicts false opts.budget es → Begun opts text (output_of (printing (plain opts)) es)
  begun es t so_far conflicts = record {
    tokens = ready.tokens;
    groups = ready.groups;
    begins = ready.begins;
    run = record { design = d; read = ready.read; events = es; state = t; so_far = so_far; conflicts = conflicts; many = script_over_many d opts es t so_far; output_is = refl };
    counters = counters;
    made = ready.made;
  }

  cut_for_memory : (old new : Sinks) → Stops d opts no_extra old stop.NoMemory new → Answered opts text NoMemory old new
  cut_for_memory old new (es, t, so_far, conflicts, tells) = record {
    writing = inr (output_of (printing (plain opts)) es, inr (ready.small, begun es t so_far conflicts), tells.printed, tells.logged);
    command = memory_no_usage;
    was_read = memory_no_read;
    cause = λ f. absurd (memory_no_write f);
    out_later = tells.out_later;
    journal_later = tells.journal_later;
  }

  cut_by_fault : (old new : Sinks) → Stops d opts no_extra old stop.WriteFault new → Answered opts text WriteFault old new
  cut_by_fault old new (es, t, so_far, conflicts, tells, failed) = record {
    writing = (output_of (printing (plain opts)) es, inr (ready.small, begun es t so_far conflicts), tells.printed, tells.logged);
    command = fault_no_usage;
    was_read = fault_no_read;
    cause = λ f. failed;
    out_later = tells.out_later;
    journal_later = tells.journal_later;
  }

  -- a run that stopped
  pub stop_answers : (why : Stop) (result : Status) (old new : Sinks) → Stops d opts no_extra old why new → result ≡ stopped_as why → Answered opts text result old new
  stop_answers stop.NoMemory result old new stops e = subst (λ (s : Status). Answered opts text s old new) (sym e) (cut_for_memory old new stops)
  stop_answers stop.WriteFault result old new stops e = subst (λ (s : Status). Answered opts text s old new) (sym e) (cut_by_fault old new stops)
