-- Which answers a script and a derivation have.
use Rattle.std.proofs.Common.{◌≡◌, ℕ, List, refl, sym, ◌∙◌, subst, inl, inr, arith}
use Rattle.svr_script.specs.Ending as ending
use Rattle.svr_script.specs.Ending.{Output}
use Rattle.svr_phase.specs.declared.options.Options.{Options}
use Rattle.svr_run.specs.Telling.{Sinks}
use Rattle.svr_run_budget_laws.specs.Runs.{CallsAskLittle}
use Rattle.svr_run_budget_laws.proofs.Along.{ends_answered}
use Rattle.svr_check.proofs.Excluded.{files_are_judged}
use Rattle.svr_words.specs.declared.request.Run.{Run}
use Rattle.svr_words.specs.Words.{IsCommand, IsCover}
use Rattle.svr_words.proofs.Taking.{run_is_no_load, run_is_no_check, load_is_no_check, run_is_no_seq, load_is_no_seq, check_is_no_seq, run_is_no_cover, load_is_no_cover, check_is_no_cover, seq_is_no_cover}
use Rattle.svr_answer.specs.Ends.{Ends, printing}
use Rattle.svr_answer.specs.Answers.{Refuses, too_long, refused}
use Rattle.svr_command_check.specs.Answers.{RefusesCheck, too_long_to_check, no_file}
use Rattle.svr_command_seq.specs.Answers.{RefusesSeq, too_long_to_produce, no_sequence}
use Rattle.svr_command_cover.specs.Answers.{Covers, plain}
use Rattle.svr_seq_lines.proofs.Excluded.{not_refused as accepted_not_refused}
use Rattle.svr_status.specs.declared.status.Status.{Status}
use Rattle.svr_status.specs.declared.status.Status.TheVariants.{AllOne, SomeZero, Usage, SomeGivenUp, Refused, Limited, ReadFault, WriteFault, NoMemory}
use Rattle.svr_status.proofs.Statuses.{refused_no_usage, limited_no_usage, given_no_usage}
use Rattle.svr_program.specs.Outcome.{Says, Writes}
use Rattle.svr_program.specs.Complete.{IsAnswerable, IsAnswered, RunsAreComplete, IsSmall, IsAnsweredWhole, SmallRunsAreAnswered, IsCheckable, IsVerdict, ChecksAreComplete, IsProducible, IsProduced, LinesAreComplete, IsCoverable, CoverageIsComplete, IsSmallCover, SmallCoverageIsAnswered}

same_run : (words : List (List ℕ)) (a b : Run) → IsCommand words a → IsCommand words b → a ≡ b
same_run words a b h k = h.options ∙ sym k.options

module _ (words : List (List ℕ)) (text : List ℕ) (able : IsAnswerable words text) where
  never_refused : (output : Output) → Refuses text output → ⊥
  never_refused output (too_long long is) = let small = able.small in absurd (omega arith)
  never_refused output (refused line small why is) = able.accepted line why

  never_limited : (run : Run) (output : Output) → IsCommand words run → Ends run text ending.Limited output → ⊥
  never_limited run output asked ends = able.unlimited output (subst (λ (r : Run). Ends r text ending.Limited output) (same_run words run able.run asked able.asked) ends)

  is_answered : (status : Status) (old new : Sinks) → Writes words text status old new → (status ≡ ReadFault → ⊥) → (status ≡ WriteFault → ⊥) → IsAnswered status
  is_answered AllOne old new writes read write = inl refl
  is_answered SomeZero old new writes read write = inr (inl refl)
  is_answered SomeGivenUp old new writes read write = inr (inr (inl refl))
  is_answered NoMemory old new writes read write = inr (inr (inr refl))
  is_answered Usage old new (output, inl (e, none, is), out, journal) read write = absurd (none.no_run able.run able.asked)
  is_answered Usage old new (output, inr (inl (run, asked, none)), out, journal) read write = absurd none
  is_answered Usage old new (output, inr (inr (inl (count, opts, asked, none))), out, journal) read write = absurd none
  is_answered Usage old new (output, inr (inr (inr (inl (asked, none)))), out, journal) read write = absurd none
  is_answered Usage old new (output, inr (inr (inr (inr (inl (seed, many, asked, none))))), out, journal) read write = absurd none
  is_answered Usage old new (output, inr (inr (inr (inr (inr (opts, asked, none))))), out, journal) read write = absurd none
  is_answered Refused old new (output, inl (e, none, is), out, journal) read write = absurd (refused_no_usage e)
  is_answered Refused old new (output, inr (inl (run, asked, refuses)), out, journal) read write = absurd (never_refused output refuses)
  is_answered Refused old new (output, inr (inr (inl (count, opts, asked, refuses))), out, journal) read write = absurd (run_is_no_load words able.run count opts able.asked asked)
  is_answered Refused old new (output, inr (inr (inr (inl (asked, refuses)))), out, journal) read write = absurd (run_is_no_check words able.run able.asked asked)
  is_answered Refused old new (output, inr (inr (inr (inr (inl (seed, many, asked, refuses))))), out, journal) read write = absurd (run_is_no_seq words able.run seed many able.asked asked)
  is_answered Refused old new (output, inr (inr (inr (inr (inr (opts, asked, refuses))))), out, journal) read write = absurd (run_is_no_cover words able.run opts able.asked asked)
  is_answered Limited old new (output, inl (e, none, is), out, journal) read write = absurd (limited_no_usage e)
  is_answered Limited old new (output, inr (inl (run, asked, answers)), out, journal) read write = absurd (never_limited run output asked answers.1)
  is_answered Limited old new (output, inr (inr (inl (count, opts, asked, answers))), out, journal) read write = absurd (run_is_no_load words able.run count opts able.asked asked)
  is_answered Limited old new (output, inr (inr (inr (inl (asked, none)))), out, journal) read write = absurd none
  is_answered Limited old new (output, inr (inr (inr (inr (inl (seed, many, asked, none))))), out, journal) read write = absurd (run_is_no_seq words able.run seed many able.asked asked)
  is_answered Limited old new (output, inr (inr (inr (inr (inr (opts, asked, answers))))), out, journal) read write = absurd (run_is_no_cover words able.run opts able.asked asked)
  is_answered ReadFault old new writes read write = absurd (read refl)
  is_answered WriteFault old new writes read write = absurd (write refl)

pub runs_are_complete : RunsAreComplete
runs_are_complete words text status old new able writes read write = is_answered words text able status old new writes read write

-- ---- small questions alone

module _ (words : List (List ℕ)) (text : List ℕ) (small : IsSmall words text) where
  abbrev able : IsAnswerable words text
  able = small.answerable

  never_given_up : (run : Run) (output : Output) → IsCommand words run → Ends run text ending.SomeGivenUp output → ⊥
  never_given_up run output asked ends =
      let same : run ≡ able.run = same_run words run able.run asked able.asked in
      ends_answered ends.design run.opts (subst (λ (r : Run). CallsAskLittle ends.design r.opts) (sym same) (small.little ends.design ends.read)) (printing run) output ends.run

  none_said : (output : Output) → Says words text SomeGivenUp output → ⊥
  none_said output (inl (e, none, is)) = given_no_usage e
  none_said output (inr (inl (run, asked, answers))) = never_given_up run output asked answers.1
  none_said output (inr (inr (inl (count, opts, asked, answers)))) = run_is_no_load words able.run count opts able.asked asked
  none_said output (inr (inr (inr (inl (asked, none))))) = none
  none_said output (inr (inr (inr (inr (inl (seed, many, asked, none)))))) = none
  none_said output (inr (inr (inr (inr (inr (opts, asked, answers)))))) = run_is_no_cover words able.run opts able.asked asked

  is_whole : (status : Status) (old new : Sinks) → Writes words text status old new → IsAnswered status → IsAnsweredWhole status
  is_whole status old new writes (inl one) = inl one
  is_whole status old new writes (inr (inl some)) = inr (inl some)
  is_whole status old new writes (inr (inr (inl given))) =
      let said = subst (λ (s : Status). Writes words text s old new) given writes in
      absurd (none_said said.0 said.1)
  is_whole status old new writes (inr (inr (inr memory))) = inr (inr memory)

pub small_runs_are_answered : SmallRunsAreAnswered
small_runs_are_answered words text status old new small writes read write =
    is_whole words text small status old new writes (is_answered words text small.answerable status old new writes read write)

-- ---- checks

module _ (words : List (List ℕ)) (text : List ℕ) (able : IsCheckable words text) where
  not_refused : (output : Output) → RefusesCheck text output → ⊥
  not_refused output (too_long_to_check long is) = let small = able.small in absurd (omega arith)
  not_refused output (no_file number place small why is) = files_are_judged text able.file number place able.written why

  is_verdict : (status : Status) (old new : Sinks) → Writes words text status old new → (status ≡ ReadFault → ⊥) → (status ≡ WriteFault → ⊥) → IsVerdict status
  is_verdict AllOne old new writes read write = inl refl
  is_verdict SomeZero old new writes read write = inr (inl refl)
  is_verdict NoMemory old new writes read write = inr (inr refl)
  is_verdict Usage old new (output, inl (e, none, is), out, journal) read write = absurd (none.no_check able.asked)
  is_verdict Usage old new (output, inr (inl (run, asked, none)), out, journal) read write = absurd none
  is_verdict Usage old new (output, inr (inr (inl (count, opts, asked, none))), out, journal) read write = absurd none
  is_verdict Usage old new (output, inr (inr (inr (inl (asked, none)))), out, journal) read write = absurd none
  is_verdict Usage old new (output, inr (inr (inr (inr (inl (seed, many, asked, none))))), out, journal) read write = absurd none
  is_verdict Usage old new (output, inr (inr (inr (inr (inr (opts, asked, none))))), out, journal) read write = absurd none
  is_verdict SomeGivenUp old new (output, inl (e, none, is), out, journal) read write = absurd (given_no_usage e)
  is_verdict SomeGivenUp old new (output, inr (inl (run, asked, answers)), out, journal) read write = absurd (run_is_no_check words run asked able.asked)
  is_verdict SomeGivenUp old new (output, inr (inr (inl (count, opts, asked, answers))), out, journal) read write = absurd (load_is_no_check words count opts asked able.asked)
  is_verdict SomeGivenUp old new (output, inr (inr (inr (inl (asked, none)))), out, journal) read write = absurd none
  is_verdict SomeGivenUp old new (output, inr (inr (inr (inr (inl (seed, many, asked, none))))), out, journal) read write = absurd none
  is_verdict SomeGivenUp old new (output, inr (inr (inr (inr (inr (opts, asked, answers))))), out, journal) read write = absurd (check_is_no_cover words opts able.asked asked)
  is_verdict Refused old new (output, inl (e, none, is), out, journal) read write = absurd (refused_no_usage e)
  is_verdict Refused old new (output, inr (inl (run, asked, refuses)), out, journal) read write = absurd (run_is_no_check words run asked able.asked)
  is_verdict Refused old new (output, inr (inr (inl (count, opts, asked, refuses))), out, journal) read write = absurd (load_is_no_check words count opts asked able.asked)
  is_verdict Refused old new (output, inr (inr (inr (inl (asked, refuses)))), out, journal) read write = absurd (not_refused output refuses)
  is_verdict Refused old new (output, inr (inr (inr (inr (inl (seed, many, asked, refuses))))), out, journal) read write = absurd (check_is_no_seq words seed many able.asked asked)
  is_verdict Refused old new (output, inr (inr (inr (inr (inr (opts, asked, refuses))))), out, journal) read write = absurd (check_is_no_cover words opts able.asked asked)
  is_verdict Limited old new (output, inl (e, none, is), out, journal) read write = absurd (limited_no_usage e)
  is_verdict Limited old new (output, inr (inl (run, asked, answers)), out, journal) read write = absurd (run_is_no_check words run asked able.asked)
  is_verdict Limited old new (output, inr (inr (inl (count, opts, asked, answers))), out, journal) read write = absurd (load_is_no_check words count opts asked able.asked)
  is_verdict Limited old new (output, inr (inr (inr (inl (asked, none)))), out, journal) read write = absurd none
  is_verdict Limited old new (output, inr (inr (inr (inr (inl (seed, many, asked, none))))), out, journal) read write = absurd (check_is_no_seq words seed many able.asked asked)
  is_verdict Limited old new (output, inr (inr (inr (inr (inr (opts, asked, answers))))), out, journal) read write = absurd (check_is_no_cover words opts able.asked asked)
  is_verdict ReadFault old new writes read write = absurd (read refl)
  is_verdict WriteFault old new writes read write = absurd (write refl)

pub checks_are_complete : ChecksAreComplete
checks_are_complete words text status old new able writes read write = is_verdict words text able status old new writes read write

-- ---- lines

module _ (words : List (List ℕ)) (text : List ℕ) (able : IsProducible words text) where
  seq_not_refused : (output : Output) → RefusesSeq text output → ⊥
  seq_not_refused output (too_long_to_produce long is) = let small = able.small in absurd (omega arith)
  seq_not_refused output (no_sequence number place small why is) = accepted_not_refused text able.tokens able.seq number place able.read why

  is_produced : (status : Status) (old new : Sinks) → Writes words text status old new → (status ≡ ReadFault → ⊥) → (status ≡ WriteFault → ⊥) → IsProduced status
  is_produced AllOne old new writes read write = inl refl
  is_produced Limited old new writes read write = inr (inl refl)
  is_produced NoMemory old new writes read write = inr (inr refl)
  is_produced SomeZero old new (output, inl (e, none, is), out, journal) read write = absurd (none.no_seq able.seed able.count able.asked)
  is_produced SomeZero old new (output, inr (inl (run, asked, answers)), out, journal) read write = absurd (run_is_no_seq words run able.seed able.count asked able.asked)
  is_produced SomeZero old new (output, inr (inr (inl (count, opts, asked, answers))), out, journal) read write = absurd (load_is_no_seq words count opts able.seed able.count asked able.asked)
  is_produced SomeZero old new (output, inr (inr (inr (inl (asked, answers)))), out, journal) read write = absurd (check_is_no_seq words able.seed able.count asked able.asked)
  is_produced SomeZero old new (output, inr (inr (inr (inr (inl (seed, many, asked, none))))), out, journal) read write = absurd none
  is_produced SomeZero old new (output, inr (inr (inr (inr (inr (opts, asked, answers))))), out, journal) read write = absurd (seq_is_no_cover words able.seed able.count opts able.asked asked)
  is_produced Usage old new (output, inl (e, none, is), out, journal) read write = absurd (none.no_seq able.seed able.count able.asked)
  is_produced Usage old new (output, inr (inl (run, asked, none)), out, journal) read write = absurd none
  is_produced Usage old new (output, inr (inr (inl (count, opts, asked, none))), out, journal) read write = absurd none
  is_produced Usage old new (output, inr (inr (inr (inl (asked, none)))), out, journal) read write = absurd none
  is_produced Usage old new (output, inr (inr (inr (inr (inl (seed, many, asked, none))))), out, journal) read write = absurd none
  is_produced Usage old new (output, inr (inr (inr (inr (inr (opts, asked, none))))), out, journal) read write = absurd none
  is_produced SomeGivenUp old new (output, inl (e, none, is), out, journal) read write = absurd (given_no_usage e)
  is_produced SomeGivenUp old new (output, inr (inl (run, asked, answers)), out, journal) read write = absurd (run_is_no_seq words run able.seed able.count asked able.asked)
  is_produced SomeGivenUp old new (output, inr (inr (inl (count, opts, asked, answers))), out, journal) read write = absurd (load_is_no_seq words count opts able.seed able.count asked able.asked)
  is_produced SomeGivenUp old new (output, inr (inr (inr (inl (asked, none)))), out, journal) read write = absurd none
  is_produced SomeGivenUp old new (output, inr (inr (inr (inr (inl (seed, many, asked, none))))), out, journal) read write = absurd none
  is_produced SomeGivenUp old new (output, inr (inr (inr (inr (inr (opts, asked, answers))))), out, journal) read write = absurd (seq_is_no_cover words able.seed able.count opts able.asked asked)
  is_produced Refused old new (output, inl (e, none, is), out, journal) read write = absurd (refused_no_usage e)
  is_produced Refused old new (output, inr (inl (run, asked, refuses)), out, journal) read write = absurd (run_is_no_seq words run able.seed able.count asked able.asked)
  is_produced Refused old new (output, inr (inr (inl (count, opts, asked, refuses))), out, journal) read write = absurd (load_is_no_seq words count opts able.seed able.count asked able.asked)
  is_produced Refused old new (output, inr (inr (inr (inl (asked, refuses)))), out, journal) read write = absurd (check_is_no_seq words able.seed able.count asked able.asked)
  is_produced Refused old new (output, inr (inr (inr (inr (inl (seed, many, asked, refuses))))), out, journal) read write = absurd (seq_not_refused output refuses)
  is_produced Refused old new (output, inr (inr (inr (inr (inr (opts, asked, refuses))))), out, journal) read write = absurd (seq_is_no_cover words able.seed able.count opts able.asked asked)
  is_produced ReadFault old new writes read write = absurd (read refl)
  is_produced WriteFault old new writes read write = absurd (write refl)

pub lines_are_complete : LinesAreComplete
lines_are_complete words text status old new able writes read write = is_produced words text able status old new writes read write

-- ---- coverage

same_options : (words : List (List ℕ)) (a b : Options) → IsCover words a → IsCover words b → a ≡ b
same_options words a b h k = h.options ∙ sym k.options

module _ (words : List (List ℕ)) (text : List ℕ) (able : IsCoverable words text) where
  cover_not_limited : (opts : Options) (output : Output) → IsCover words opts → Covers opts text ending.Limited output → ⊥
  cover_not_limited opts output asked covers = able.unlimited output (subst (λ (o : Options). Covers o text ending.Limited output) (same_options words opts able.opts asked able.asked) covers)

  is_covered : (status : Status) (old new : Sinks) → Writes words text status old new → (status ≡ ReadFault → ⊥) → (status ≡ WriteFault → ⊥) → IsAnswered status
  is_covered AllOne old new writes read write = inl refl
  is_covered SomeZero old new writes read write = inr (inl refl)
  is_covered SomeGivenUp old new writes read write = inr (inr (inl refl))
  is_covered NoMemory old new writes read write = inr (inr (inr refl))
  is_covered Usage old new (output, inl (e, none, is), out, journal) read write = absurd (none.no_cover able.opts able.asked)
  is_covered Usage old new (output, inr (inl (run, asked, none)), out, journal) read write = absurd none
  is_covered Usage old new (output, inr (inr (inl (count, opts, asked, none))), out, journal) read write = absurd none
  is_covered Usage old new (output, inr (inr (inr (inl (asked, none)))), out, journal) read write = absurd none
  is_covered Usage old new (output, inr (inr (inr (inr (inl (seed, many, asked, none))))), out, journal) read write = absurd none
  is_covered Usage old new (output, inr (inr (inr (inr (inr (opts, asked, none))))), out, journal) read write = absurd none
  is_covered Refused old new (output, inl (e, none, is), out, journal) read write = absurd (refused_no_usage e)
  is_covered Refused old new (output, inr (inl (run, asked, refuses)), out, journal) read write = absurd (run_is_no_cover words run able.opts asked able.asked)
  is_covered Refused old new (output, inr (inr (inl (count, opts, asked, refuses))), out, journal) read write = absurd (load_is_no_cover words count opts able.opts asked able.asked)
  is_covered Refused old new (output, inr (inr (inr (inl (asked, refuses)))), out, journal) read write = absurd (check_is_no_cover words able.opts asked able.asked)
  is_covered Refused old new (output, inr (inr (inr (inr (inl (seed, many, asked, refuses))))), out, journal) read write = absurd (seq_is_no_cover words seed many able.opts asked able.asked)
  is_covered Refused old new (output, inr (inr (inr (inr (inr (opts, asked, refuses))))), out, journal) read write = absurd (able.accepted output refuses)
  is_covered Limited old new (output, inl (e, none, is), out, journal) read write = absurd (limited_no_usage e)
  is_covered Limited old new (output, inr (inl (run, asked, answers)), out, journal) read write = absurd (run_is_no_cover words run able.opts asked able.asked)
  is_covered Limited old new (output, inr (inr (inl (count, opts, asked, answers))), out, journal) read write = absurd (load_is_no_cover words count opts able.opts asked able.asked)
  is_covered Limited old new (output, inr (inr (inr (inl (asked, none)))), out, journal) read write = absurd none
  is_covered Limited old new (output, inr (inr (inr (inr (inl (seed, many, asked, answers))))), out, journal) read write = absurd (seq_is_no_cover words seed many able.opts asked able.asked)
  is_covered Limited old new (output, inr (inr (inr (inr (inr (opts, asked, answers))))), out, journal) read write = absurd (cover_not_limited opts output asked answers.1)
  is_covered ReadFault old new writes read write = absurd (read refl)
  is_covered WriteFault old new writes read write = absurd (write refl)

pub coverage_is_complete : CoverageIsComplete
coverage_is_complete words text status old new able writes read write = is_covered words text able status old new writes read write

-- ---- coverage of small questions alone

module _ (words : List (List ℕ)) (text : List ℕ) (small : IsSmallCover words text) where
  abbrev can_cover : IsCoverable words text
  can_cover = small.coverable

  cover_not_given_up : (opts : Options) (output : Output) → IsCover words opts → Covers opts text ending.SomeGivenUp output → ⊥
  cover_not_given_up opts output asked covers =
      let same : opts ≡ can_cover.opts = same_options words opts can_cover.opts asked can_cover.asked in
      let c : Covers can_cover.opts text ending.SomeGivenUp output = subst (λ (o : Options). Covers o text ending.SomeGivenUp output) same covers in
      ends_answered c.run.design can_cover.opts (small.little ending.SomeGivenUp output c) (printing (plain can_cover.opts)) c.lines c.run.run

  none_covered : (output : Output) → Says words text SomeGivenUp output → ⊥
  none_covered output (inl (e, none, is)) = given_no_usage e
  none_covered output (inr (inl (run, asked, answers))) = run_is_no_cover words run can_cover.opts asked can_cover.asked
  none_covered output (inr (inr (inl (count, opts, asked, answers)))) = load_is_no_cover words count opts can_cover.opts asked can_cover.asked
  none_covered output (inr (inr (inr (inl (asked, none))))) = none
  none_covered output (inr (inr (inr (inr (inl (seed, many, asked, none)))))) = none
  none_covered output (inr (inr (inr (inr (inr (opts, asked, answers)))))) = cover_not_given_up opts output asked answers.1

  covered_whole : (status : Status) (old new : Sinks) → Writes words text status old new → IsAnswered status → IsAnsweredWhole status
  covered_whole status old new writes (inl one) = inl one
  covered_whole status old new writes (inr (inl some)) = inr (inl some)
  covered_whole status old new writes (inr (inr (inl given))) =
      let said = subst (λ (s : Status). Writes words text s old new) given writes in
      absurd (none_covered said.0 said.1)
  covered_whole status old new writes (inr (inr (inr memory))) = inr (inr memory)

pub small_coverage_is_answered : SmallCoverageIsAnswered
small_coverage_is_answered words text status old new small writes read write =
    covered_whole words text small status old new writes (is_covered words text small.coverable status old new writes read write)
