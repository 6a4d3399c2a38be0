-- What was written behind a run, or in place of one.
use Rattle.std.proofs.Common.{◌≡◌, ◌≤◌, ◌⊎◌, ℕ, ◌+◌, List, [], ◌++◌, length, take, Option, refl, sym, subst, inl, inr, arith}
use Rattle.std.specs.Io.KnownBytes.{Appends, Keeps}
use Rattle.std.proofs.KnownBytes.{Appends-nil, Appends-trans, Appends-kept, Keeps-refl}
use Rattle.std.proofs.Math.Seq.{take-append-add}
use Rattle.std.proofs.lemmas.List.{take_all}
use Rattle.svr_edge.specs.Causes.{Rose}
use Rattle.svr_edge.specs.Known.{AppendsFront}
use Rattle.svr_limits.specs.declared.limit.TheConstants.{TEXT_LIMIT}
use Rattle.svr_token.specs.declared.token.Token.{Token}
use Rattle.svr_typed.specs.StmtTerm.{DesignTerm}
use Rattle.svr_phase.specs.declared.options.Options.{Options}
use Rattle.svr_script.specs.Ending.{Output}
use Rattle.svr_run.specs.Telling.{Sinks, sinks}
use Rattle.svr_refused.specs.Texts.{HasDesign}
use Rattle.svr_cover_text.specs.declared.text.GroupsText.{GroupsText}
use Rattle.svr_cover_report.specs.declared.names.GroupNames.{GroupNames}
use Rattle.svr_cover_report.specs.Report.{with_groups}
use Rattle.svr_coverage.specs.declared.fault.CoverageFault.{CoverageFault}
use Rattle.svr_coverage.specs.declared.fault.CoverageFault.TheVariants as fault
use Rattle.svr_coverage.specs.Script.{script_of}
use Rattle.svr_coverage.specs.Front.{BeginsWith, HasNoFront}
use Rattle.svr_coverage.specs.Counters.{AreRefused}
use Rattle.svr_status.specs.Lines.{refused_as}
use Rattle.svr_status.specs.Writing.{Writing}
use Rattle.svr_status.specs.declared.status.Status.{Status}
use Rattle.svr_status.specs.declared.status.Status.TheVariants.{AllOne, SomeZero, Usage, SomeGivenUp, Refused, Limited, ReadFault, WriteFault, NoMemory}
use Rattle.svr_status.proofs.Statuses.{fault_no_read, fault_no_usage, memory_no_read, memory_no_write, memory_no_usage}
use Rattle.svr_command_cover.specs.Answers.{no_front, no_groups, CoverAnswers, CoverMayTell}
use Rattle.svr_command_cover.specs.Parts.{Answered, Told, FaultTold}

-- ---- fronts

front_of_all : (a b : Option (List ℕ)) (text : List ℕ) → Appends a b text → AppendsFront a b text
front_of_all a b text all = (length text, subst (λ (t : List ℕ). Appends a b t) (sym (take_all (length text) text (omega arith))) all)

-- a text, and a front of what stands behind it
front_behind : (a b c : Option (List ℕ)) (xs ys : List ℕ) → Appends a b xs → AppendsFront b c ys → AppendsFront a c (xs ++ ys)
front_behind a b c xs ys h (n, k) = (length xs + n, subst (λ (t : List ℕ). Appends a c t) (sym (take-append-add xs ys n)) (Appends-trans a b c xs (take n ys) h k))

-- a text, and nothing of what stands behind it
front_before : (a b c : Option (List ℕ)) (xs ys : List ℕ) → Appends a b xs → Keeps b c → AppendsFront a c (xs ++ ys)
front_before a b c xs ys h kept = front_behind a b c xs ys h (0, Appends-kept b b c [] (Appends-nil b) kept)

-- ---- causes

later_from : (was middle now : ℕ) → middle ≡ was → middle ≤ now → was ≤ now
later_from was middle now is later = subst (λ (m : ℕ). m ≤ now) is later

rose_from : (was middle now : ℕ) → middle ≡ was → Rose middle now → Rose was now
rose_from was middle now is rose = subst (λ (m : ℕ). Rose m now) is rose

no_less : (m n : ℕ) → n ≡ m → m ≤ n
no_less m n e = omega arith

-- ---- a text that was told

pub finished : (wanted result : Status) (line shown : List ℕ) (old new : Option (List ℕ)) (was now : ℕ) → shown ≡ line
    → ((result ≡ wanted) × Appends old new shown) ⊎ ((result ≡ WriteFault) × AppendsFront old new shown × Rose was now) → was ≤ now → Told wanted line result old was new now
finished wanted result line shown old new was now e (inl (is, all)) later = (inl (is, subst (λ (t : List ℕ). Appends old new t) e all), later)
finished wanted result line shown old new was now e (inr (is, front, rose)) later = (inr (inl (is, subst (λ (t : List ℕ). AppendsFront old new t) e front, rose)), later)

-- the report of the same counts
pub counts_told : (wanted result : Status) (names : List GroupNames) (xs ys : List ℕ) (old new : Option (List ℕ)) (was now : ℕ) → xs ≡ ys
    → Told wanted (with_groups xs [] names) result old was new now → Told wanted (with_groups ys [] names) result old was new now
counts_told wanted result names xs ys old new was now e told = subst (λ (k : List ℕ). Told wanted (with_groups k [] names) result old was new now) e told

pub nothing_told : (wanted : Status) (line : List ℕ) (old : Option (List ℕ)) (was : ℕ) → Told wanted line NoMemory old was old was
nothing_told wanted line old was = (inr (inr (refl, Keeps-refl old)), omega arith)

-- ---- the answer

module _ (opts : Options) (text : List ℕ) where
  -- all that is said with a status was written
  all_written : (s : Status) (o : Output) (old new : Sinks) → CoverAnswers opts text s o → Appends old.out new.out o.printed → Appends old.journal new.journal o.journal
      → Writing (CoverAnswers opts text) (CoverMayTell opts text) s old new
  all_written AllOne o old new said out log = (o, said, out, log)
  all_written SomeZero o old new said out log = (o, said, out, log)
  all_written SomeGivenUp o old new said out log = (o, said, out, log)
  all_written Refused o old new said out log = (o, said, out, log)
  all_written Limited o old new said out log = (o, said, out, log)
  all_written Usage o old new none out log = absurd none
  all_written ReadFault o old new none out log = absurd none
  all_written WriteFault o old new none out log = absurd none
  all_written NoMemory o old new none out log = absurd none

  -- nothing is said with some statuses
  said_as : (s t : Status) (o : Output) → CoverAnswers opts text s o → s ≡ t → CoverAnswers opts text t o
  said_as s t o said e = subst (λ (x : Status). CoverAnswers opts text x o) e said

  -- What was told of a run was written, then all of a text, or a front of it, or nothing.
  pub told_answers : (wanted result : Status) (lines line log : List ℕ) (before middle : Sinks) (new : Option (List ℕ)) (now : ℕ)
      → CoverAnswers opts text wanted (record { printed = lines ++ line; journal = log })
      → Appends before.out middle.out lines → Appends before.journal middle.journal log
      → middle.out_faults ≡ before.out_faults → middle.journal_faults ≡ before.journal_faults
      → Told wanted line result middle.out middle.out_faults new now
      → Answered opts text result before (sinks new now middle.journal middle.journal_faults)
  told_answers wanted result lines line log before middle new now said out logged out_kept journal_kept (inl (e, all), later) =
      subst (λ (s : Status). Answered opts text s before (sinks new now middle.journal middle.journal_faults)) (sym e)
      (record {
        writing = all_written wanted (record { printed = lines ++ line; journal = log }) before (sinks new now middle.journal middle.journal_faults) said (Appends-trans before.out middle.out new lines line out all) logged;
        command = λ f. said_as wanted Usage (record { printed = lines ++ line; journal = log }) said f;
        was_read = λ f. said_as wanted ReadFault (record { printed = lines ++ line; journal = log }) said f;
        cause = λ f. absurd (said_as wanted WriteFault (record { printed = lines ++ line; journal = log }) said f);
        out_later = later_from before.out_faults middle.out_faults now out_kept later;
        journal_later = no_less before.journal_faults middle.journal_faults journal_kept;
      })
  told_answers wanted result lines line log before middle new now said out logged out_kept journal_kept (inr (inl (e, front, rose)), later) =
      subst (λ (s : Status). Answered opts text s before (sinks new now middle.journal middle.journal_faults)) (sym e)
      (record {
        writing = (
          record { printed = lines ++ line; journal = log },
          inl (wanted, said),
          front_behind before.out middle.out new lines line out front,
          front_of_all before.journal middle.journal log logged,
        );
        command = fault_no_usage;
        was_read = fault_no_read;
        cause = λ f. inl (rose_from before.out_faults middle.out_faults now out_kept rose);
        out_later = later_from before.out_faults middle.out_faults now out_kept later;
        journal_later = no_less before.journal_faults middle.journal_faults journal_kept;
      })
  told_answers wanted result lines line log before middle new now said out logged out_kept journal_kept (inr (inr (e, kept)), later) =
      subst (λ (s : Status). Answered opts text s before (sinks new now middle.journal middle.journal_faults)) (sym e)
      (record {
        writing = inr (
          record { printed = lines ++ line; journal = log },
          inl (wanted, said),
          front_before before.out middle.out new lines line out kept,
          front_of_all before.journal middle.journal log logged,
        );
        command = memory_no_usage;
        was_read = memory_no_read;
        cause = λ f. absurd (memory_no_write f);
        out_later = later_from before.out_faults middle.out_faults now out_kept later;
        journal_later = no_less before.journal_faults middle.journal_faults journal_kept;
      })

  -- the line of a refusal, before which nothing was written
  pub refusal_answers : (result : Status) (line : List ℕ) (old new journal : Option (List ℕ)) (was now logged : ℕ)
      → CoverAnswers opts text Refused (record { printed = line; journal = [] }) → Told Refused line result old was new now
      → Answered opts text result (sinks old was journal logged) (sinks new now journal logged)
  refusal_answers result line old new journal was now logged said told =
      told_answers Refused result [] line [] (sinks old was journal logged) (sinks old was journal logged) new now said (Appends-nil old) (Appends-nil journal) refl refl told

  -- nothing was answered for want of memory
  pub nothing_answers : (now : Sinks) → Answered opts text NoMemory now now
  nothing_answers now = record {
    writing = inl (Keeps-refl now.out, Keeps-refl now.journal);
    command = memory_no_usage;
    was_read = memory_no_read;
    cause = λ f. absurd (memory_no_write f);
    out_later = omega arith;
    journal_later = omega arith;
  }

  -- nothing more was written for want of memory
  kept_answers : (result : Status) (old new journal : Option (List ℕ)) (was now logged : ℕ) → result ≡ NoMemory → Keeps old new → was ≤ now → Answered opts text result (sinks old was journal logged) (sinks new now journal logged)
  kept_answers result old new journal was now logged e kept later = subst (λ (s : Status). Answered opts text s (sinks old was journal logged) (sinks new now journal logged)) (sym e) (record {
    writing = inl (kept, Keeps-refl journal);
    command = memory_no_usage;
    was_read = memory_no_read;
    cause = λ f. absurd (memory_no_write f);
    out_later = later;
    journal_later = omega arith;
  })

  -- the text begins with no groups
  pub front_answers : (why : CoverageFault) (result : Status) (old new journal : Option (List ℕ)) (was now logged : ℕ) → length text ≤ TEXT_LIMIT → HasNoFront text why
      → FaultTold why result old was new now → Answered opts text result (sinks old was journal logged) (sinks new now journal logged)
  front_answers (fault.Refused number place) result old new journal was now logged small refused told = refusal_answers result (refused_as place number) old new journal was now logged (no_front number place small refused refl) told
  front_answers fault.NoMemory result old new journal was now logged small none told = kept_answers result old new journal was now logged told.0 told.1 told.2

  -- the groups are refused over the design of the script behind them
  pub groups_answer : (tokens : List Token) (groups : GroupsText) (design : DesignTerm) (why : CoverageFault) (result : Status) (old new journal : Option (List ℕ)) (was now logged : ℕ)
      → length text ≤ TEXT_LIMIT → BeginsWith text tokens groups → HasDesign (script_of text tokens groups.used) design → AreRefused design text tokens groups.list why
      → FaultTold why result old was new now → Answered opts text result (sinks old was journal logged) (sinks new now journal logged)
  groups_answer tokens groups design (fault.Refused number place) result old new journal was now logged small begins read refused told =
      refusal_answers result (refused_as place number) old new journal was now logged (no_groups tokens groups design number place small begins read refused refl) told
  groups_answer tokens groups design fault.NoMemory result old new journal was now logged small begins read none told = kept_answers result old new journal was now logged told.0 told.1 told.2
