-- What a run of a design answers.
use Rattle.std.proofs.Common.{◌≡◌, ◌≤◌, ◌<◌, ℕ, List, length, refl, sym, ◌∙◌, subst, inr, arith}
use Rattle.svr_limits.specs.declared.limit.TheConstants.{TEXT_LIMIT}
use Rattle.svr_typed.specs.StmtTerm.{DesignTerm}
use Rattle.svr_script.specs.Printed.{Event}
use Rattle.svr_script.specs.Conflicts.{HaveConflicts}
use Rattle.svr_script.specs.Run.{State, IsRun, IsSoFar, counts_of}
use Rattle.svr_script.specs.Ending as ending
use Rattle.svr_script.specs.Ending.{Ending, HasEnding, output_of}
use Rattle.svr_run_budget_laws.proofs.Along.{script_over_many}
use Rattle.svr_run.specs.declared.progress.Counts.{Counts}
use Rattle.svr_run.specs.declared.run.End.TheVariants as at_end
use Rattle.svr_run.specs.declared.stop.Stop.TheVariants as stop
use Rattle.svr_run.specs.Telling.{Sinks}
use Rattle.svr_run.specs.Reached.{Stops}
use Rattle.svr_run.specs.Ends as run
use Rattle.svr_words.specs.declared.request.Run.{Run}
use Rattle.svr_refused.specs.Texts.{HasDesign}
use Rattle.svr_status.specs.declared.status.Status.{Status}
use Rattle.svr_status.specs.declared.status.Status.TheVariants.{AllOne, SomeZero, Usage, SomeGivenUp, Refused, Limited, ReadFault, WriteFault, NoMemory}
use Rattle.svr_status.proofs.Statuses.{one_no_read, one_no_write, zero_no_read, zero_no_write, given_no_read, given_no_write, limited_no_read, limited_no_write, fault_no_read, memory_no_read, memory_no_write}
use Rattle.svr_answer.specs.Ends.{Ends, Begins, extra_of, printing}
use Rattle.svr_answer.specs.Parts.{HasStatus, Answered}

no_less : (m n : ℕ) → n ≡ m → m ≤ n
no_less m n e = omega arith

module _ (d : DesignTerm) (asked : Run) (text : List ℕ) (small : length text ≤ TEXT_LIMIT) (read : HasDesign text d) where
  -- ---- to its end

  come_to : (e : Ending) (es : List Event) (t : State) → IsRun d asked.opts es t → HaveConflicts asked.conflicts asked.opts.budget es → HasEnding t (counts_of es) e → Ends asked text e (output_of (printing asked) es)
  come_to e es t is_run conflicts has = record { design = d; read = read; run = record { events = es; state = t; run = is_run; conflicts = conflicts; ending_is = has; output_is = refl }; many = script_over_many d asked.opts es t is_run.so_far }

  pub ended_answers : (n : Counts) (status : Status) (old new : Sinks) → run.Ends d asked.opts (extra_of asked) (at_end.Ended n) old new → HasStatus n status → Answered asked text status old new
  ended_answers n AllOne old new (es, t, is_run, free, counts, conflicts, tells) (zeros, given_up) = record {
    writing = (output_of (printing asked) es, (small, come_to ending.AllOne es t is_run conflicts (free, sym counts.zeros ∙ zeros, sym counts.given_up ∙ given_up)), tells.printed, tells.logged);
    was_read = one_no_read;
    cause = λ f. absurd (one_no_write f);
    out_later = no_less old.out_faults new.out_faults tells.out_kept;
    journal_later = no_less old.journal_faults new.journal_faults tells.journal_kept;
  }
  ended_answers n SomeZero old new (es, t, is_run, free, counts, conflicts, tells) (zeros, given_up) = record {
    writing = (output_of (printing asked) es, (small, come_to ending.SomeZero es t is_run conflicts (free, subst (λ (k : ℕ). 0 < k) counts.zeros zeros, sym counts.given_up ∙ given_up)), tells.printed, tells.logged);
    was_read = zero_no_read;
    cause = λ f. absurd (zero_no_write f);
    out_later = no_less old.out_faults new.out_faults tells.out_kept;
    journal_later = no_less old.journal_faults new.journal_faults tells.journal_kept;
  }
  ended_answers n SomeGivenUp old new (es, t, is_run, free, counts, conflicts, tells) given_up = record {
    writing = (output_of (printing asked) es, (small, come_to ending.SomeGivenUp es t is_run conflicts (free, subst (λ (k : ℕ). 0 < k) counts.given_up given_up)), tells.printed, tells.logged);
    was_read = given_no_read;
    cause = λ f. absurd (given_no_write f);
    out_later = no_less old.out_faults new.out_faults tells.out_kept;
    journal_later = no_less old.journal_faults new.journal_faults tells.journal_kept;
  }
  ended_answers n Usage old new ends none = absurd none
  ended_answers n Refused old new ends none = absurd none
  ended_answers n Limited old new ends none = absurd none
  ended_answers n ReadFault old new ends none = absurd none
  ended_answers n WriteFault old new ends none = absurd none
  ended_answers n NoMemory old new ends none = absurd none

  pub limit_answers : (old new : Sinks) → run.Ends d asked.opts (extra_of asked) at_end.Limit old new → Answered asked text Limited old new
  limit_answers old new (es, t, is_run, met, conflicts, tells) = record {
    writing = (output_of (printing asked) es, (small, come_to ending.Limited es t is_run conflicts met), tells.printed, tells.logged);
    was_read = limited_no_read;
    cause = λ f. absurd (limited_no_write f);
    out_later = no_less old.out_faults new.out_faults tells.out_kept;
    journal_later = no_less old.journal_faults new.journal_faults tells.journal_kept;
  }

  -- ---- cut off

  begun : (es : List Event) (t : State) → IsSoFar d asked.opts es t → HaveConflicts asked.conflicts asked.opts.budget es → Begins asked text (output_of (printing asked) es)
  begun es t so_far conflicts = record { design = d; read = read; events = es; state = t; so_far = so_far; conflicts = conflicts; many = script_over_many d asked.opts es t so_far; output_is = refl }

  pub cut_for_memory : (old new : Sinks) → Stops d asked.opts (extra_of asked) old stop.NoMemory new → Answered asked text NoMemory old new
  cut_for_memory old new (es, t, so_far, conflicts, tells) = record {
    writing = inr (output_of (printing asked) es, inr (small, begun es t so_far conflicts), tells.printed, tells.logged);
    was_read = memory_no_read;
    cause = λ f. absurd (memory_no_write f);
    out_later = tells.out_later;
    journal_later = tells.journal_later;
  }

  pub cut_by_fault : (old new : Sinks) → Stops d asked.opts (extra_of asked) old stop.WriteFault new → Answered asked text WriteFault old new
  cut_by_fault old new (es, t, so_far, conflicts, tells, failed) = record {
    writing = (output_of (printing asked) es, inr (small, begun es t so_far conflicts), tells.printed, tells.logged);
    was_read = fault_no_read;
    cause = λ f. failed;
    out_later = tells.out_later;
    journal_later = tells.journal_later;
  }
