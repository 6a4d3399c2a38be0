use Rattle.std.proofs.Common.{◌+◌, map, string_bytes, refl, inl}
use Rattle.std.proofs.KnownBytes.{Keeps-refl}
use Rattle.svr_limits.specs.declared.limit.TheConstants.{TEXT_LIMIT}
use Rattle.svr_lrat_text.specs.declared.limits.TheConstants.{MOST_TEXT}
use Rattle.svr_words.specs.Words.{AskNothing, IsCheck, IsSeq}
use Rattle.svr_words.specs.Taken.{Asks}
use Rattle.svr_program.specs.Outcome.{a_script, a_derivation, a_sequence, a_coverage}
use Rattle.svr_words.specs.declared.request.Request.TheVariants.{Run, Load, Cover}
use Rattle.svr_status.proofs.Told.{if_told, takes_nothing, ends_unread, read_for, extent_for}
use Rattle.svr_program.proofs.Said.{usage_told, source_is_said, made_is_said, checked_is_said, lines_are_said, coverage_is_said}
use Rattle.svr_program.proofs.Commands.{run_reads, check_reads, seq_reads, cover_reads, load_reads_nothing, none_reads}
use Rattle.svr_answer.proofs.Loads.{load_no_usage}
use Rattle.svr_program.proofs.top.run.Goals as goal

-- ---- words that are no command

pub returns-in-Ok-None-clause-headline : goal.returns-in-Ok-None-clause-headline
returns-in-Ok-None-clause-headline g c =
    let none : AskNothing (map (λ w. string_bytes w) c.args.words.now) = rw c.in-Ok-None.field-0-is at c.in-Ok-None.ensures.none in
    usage_told (g.S.Source.left c.args.src.now) (map (λ w. string_bytes w) c.args.words.now) c.finish.result _ _ _ _ _ _ _ none c.finish.ensures.ends

pub returns-in-Ok-None-clause-extent : goal.returns-in-Ok-None-clause-extent
returns-in-Ok-None-clause-extent g c =
    let none : AskNothing (map (λ w. string_bytes w) c.args.words.now) = rw c.in-Ok-None.field-0-is at c.in-Ok-None.ensures.none in
    λ limit reads. absurd (none_reads (map (λ w. string_bytes w) c.args.words.now) limit none reads)

pub returns-in-Ok-None-clause-usage : goal.returns-in-Ok-None-clause-usage
returns-in-Ok-None-clause-usage g c = λ e. rw c.in-Ok-None.field-0-is at c.in-Ok-None.ensures.none

pub returns-in-Ok-None-clause-no_command : goal.returns-in-Ok-None-clause-no_command
returns-in-Ok-None-clause-no_command g c = λ none. ends_unread _ _ _ _ c.finish.ensures.ends

pub returns-in-Ok-None-clause-read : goal.returns-in-Ok-None-clause-read
returns-in-Ok-None-clause-read g c =
    let none : AskNothing (map (λ w. string_bytes w) c.args.words.now) = rw c.in-Ok-None.field-0-is at c.in-Ok-None.ensures.none in
    λ limit reads. absurd (none_reads (map (λ w. string_bytes w) c.args.words.now) limit none reads)

pub returns-in-Ok-None-clause-unread : goal.returns-in-Ok-None-clause-unread
returns-in-Ok-None-clause-unread g c = λ none. Keeps-refl (g.S.Source.left c.args.src.now)

-- ---- no memory for the words

pub returns-in-Err-clause-extent : goal.returns-in-Err-clause-extent
returns-in-Err-clause-extent g c = λ limit reads. if_told (g.S.Source.left c.args.src.now) _ (λ text told. takes_nothing (g.S.Source.left c.args.src.now) (limit + 1))

pub returns-in-Err-clause-read : goal.returns-in-Err-clause-read
returns-in-Err-clause-read g c = λ limit reads. takes_nothing (g.S.Source.left c.args.src.now) (limit + 1)

-- ---- a run

pub run_source-requires : goal.run_source-requires
run_source-requires g c =
    let asked : Asks (map (λ w. string_bytes w) c.args.words.now) (Run c.in-Run.asked) = rw (c.in-Ok-Some.field-0-is, c.in-Run.is) at c.in-Ok-Some.ensures.some in
    asked.1

pub returns-in-Run-clause-headline : goal.returns-in-Run-clause-headline
returns-in-Run-clause-headline g c =
    let asked : Asks (map (λ w. string_bytes w) c.args.words.now) (Run c.in-Run.asked) = rw (c.in-Ok-Some.field-0-is, c.in-Run.is) at c.in-Ok-Some.ensures.some in
    source_is_said (g.S.Source.left c.args.src.now) (map (λ w. string_bytes w) c.args.words.now) c.in-Run.asked c.run_source.result _ _ asked.0 c.run_source.ensures.writing

pub returns-in-Run-clause-extent : goal.returns-in-Run-clause-extent
returns-in-Run-clause-extent g c =
    let asked : Asks (map (λ w. string_bytes w) c.args.words.now) (Run c.in-Run.asked) = rw (c.in-Ok-Some.field-0-is, c.in-Run.is) at c.in-Ok-Some.ensures.some in
    λ limit reads. extent_for TEXT_LIMIT limit _ c.run_source.result _ _ (run_reads (map (λ w. string_bytes w) c.args.words.now) c.in-Run.asked limit asked.0 reads) c.run_source.ensures.extent

pub returns-in-Run-clause-usage : goal.returns-in-Run-clause-usage
returns-in-Run-clause-usage g c = λ e. absurd (c.run_source.ensures.command e)

pub returns-in-Run-clause-no_command : goal.returns-in-Run-clause-no_command
returns-in-Run-clause-no_command g c =
    let asked : Asks (map (λ w. string_bytes w) c.args.words.now) (Run c.in-Run.asked) = rw (c.in-Ok-Some.field-0-is, c.in-Run.is) at c.in-Ok-Some.ensures.some in
    λ none. absurd (none.no_run c.in-Run.asked asked.0)

pub returns-in-Run-clause-read : goal.returns-in-Run-clause-read
returns-in-Run-clause-read g c =
    let asked : Asks (map (λ w. string_bytes w) c.args.words.now) (Run c.in-Run.asked) = rw (c.in-Ok-Some.field-0-is, c.in-Run.is) at c.in-Ok-Some.ensures.some in
    λ limit reads. read_for TEXT_LIMIT limit c.run_source.result _ _ (run_reads (map (λ w. string_bytes w) c.args.words.now) c.in-Run.asked limit asked.0 reads) c.run_source.ensures.read

pub returns-in-Run-clause-unread : goal.returns-in-Run-clause-unread
returns-in-Run-clause-unread g c =
    let asked : Asks (map (λ w. string_bytes w) c.args.words.now) (Run c.in-Run.asked) = rw (c.in-Ok-Some.field-0-is, c.in-Run.is) at c.in-Ok-Some.ensures.some in
    λ none. absurd (none TEXT_LIMIT (a_script c.in-Run.asked asked.0 refl))

-- ---- a load

pub load-requires-clause-small : goal.load-requires-clause-small
load-requires-clause-small g c =
    let asked : Asks (map (λ w. string_bytes w) c.args.words.now) (Load c.in-Load.asked) = rw (c.in-Ok-Some.field-0-is, c.in-Load.is) at c.in-Ok-Some.ensures.some in
    asked.1

pub load-requires-clause-ranges : goal.load-requires-clause-ranges
load-requires-clause-ranges g c =
    let asked : Asks (map (λ w. string_bytes w) c.args.words.now) (Load c.in-Load.asked) = rw (c.in-Ok-Some.field-0-is, c.in-Load.is) at c.in-Ok-Some.ensures.some in
    asked.2

pub returns-in-Load-clause-headline : goal.returns-in-Load-clause-headline
returns-in-Load-clause-headline g c =
    let asked : Asks (map (λ w. string_bytes w) c.args.words.now) (Load c.in-Load.asked) = rw (c.in-Ok-Some.field-0-is, c.in-Load.is) at c.in-Ok-Some.ensures.some in
    made_is_said (g.S.Source.left c.args.src.now) (map (λ w. string_bytes w) c.args.words.now) c.in-Load.asked.count c.in-Load.asked.opts c.load.result _ _ asked.0 c.load.ensures

pub returns-in-Load-clause-extent : goal.returns-in-Load-clause-extent
returns-in-Load-clause-extent g c =
    let asked : Asks (map (λ w. string_bytes w) c.args.words.now) (Load c.in-Load.asked) = rw (c.in-Ok-Some.field-0-is, c.in-Load.is) at c.in-Ok-Some.ensures.some in
    λ limit reads. absurd (load_reads_nothing (map (λ w. string_bytes w) c.args.words.now) c.in-Load.asked.count c.in-Load.asked.opts limit asked.0 reads)

pub returns-in-Load-clause-usage : goal.returns-in-Load-clause-usage
returns-in-Load-clause-usage g c = λ e. absurd (load_no_usage c.in-Load.asked.count c.in-Load.asked.opts c.load.result _ _ c.load.ensures e)

pub returns-in-Load-clause-no_command : goal.returns-in-Load-clause-no_command
returns-in-Load-clause-no_command g c =
    let asked : Asks (map (λ w. string_bytes w) c.args.words.now) (Load c.in-Load.asked) = rw (c.in-Ok-Some.field-0-is, c.in-Load.is) at c.in-Ok-Some.ensures.some in
    λ none. absurd (none.no_load c.in-Load.asked.count c.in-Load.asked.opts asked.0)

pub returns-in-Load-clause-read : goal.returns-in-Load-clause-read
returns-in-Load-clause-read g c =
    let asked : Asks (map (λ w. string_bytes w) c.args.words.now) (Load c.in-Load.asked) = rw (c.in-Ok-Some.field-0-is, c.in-Load.is) at c.in-Ok-Some.ensures.some in
    λ limit reads. absurd (load_reads_nothing (map (λ w. string_bytes w) c.args.words.now) c.in-Load.asked.count c.in-Load.asked.opts limit asked.0 reads)

pub returns-in-Load-clause-unread : goal.returns-in-Load-clause-unread
returns-in-Load-clause-unread g c = λ none. Keeps-refl (g.S.Source.left c.args.src.now)

pub returns-in-Load-clause-read_fault : goal.returns-in-Load-clause-read_fault
returns-in-Load-clause-read_fault g c = λ e. absurd (c.load.ensures.nothing_read e)

pub returns-in-Load-clause-write_fault : goal.returns-in-Load-clause-write_fault
returns-in-Load-clause-write_fault g c = c.load.ensures.cause

pub returns-in-Load-clause-out_faults : goal.returns-in-Load-clause-out_faults
returns-in-Load-clause-out_faults g c = c.load.ensures.out_later

pub returns-in-Load-clause-journal_faults : goal.returns-in-Load-clause-journal_faults
returns-in-Load-clause-journal_faults g c = c.load.ensures.journal_later

-- ---- a check

pub returns-in-Check-clause-headline : goal.returns-in-Check-clause-headline
returns-in-Check-clause-headline g c =
    let asked : IsCheck (map (λ w. string_bytes w) c.args.words.now) = rw (c.in-Ok-Some.field-0-is, c.in-Check.is) at c.in-Ok-Some.ensures.some in
    checked_is_said (g.S.Source.left c.args.src.now) (map (λ w. string_bytes w) c.args.words.now) c.check_source.result _ _ asked (c.check_source.ensures.writing (g.J.Sink.written c.args.journal.now) (g.J.Sink.faults c.args.journal.now))

pub returns-in-Check-clause-extent : goal.returns-in-Check-clause-extent
returns-in-Check-clause-extent g c =
    let asked : IsCheck (map (λ w. string_bytes w) c.args.words.now) = rw (c.in-Ok-Some.field-0-is, c.in-Check.is) at c.in-Ok-Some.ensures.some in
    λ limit reads. extent_for MOST_TEXT limit _ c.check_source.result _ _ (check_reads (map (λ w. string_bytes w) c.args.words.now) limit asked reads) c.check_source.ensures.extent

pub returns-in-Check-clause-usage : goal.returns-in-Check-clause-usage
returns-in-Check-clause-usage g c = λ e. absurd (c.check_source.ensures.command e)

pub returns-in-Check-clause-no_command : goal.returns-in-Check-clause-no_command
returns-in-Check-clause-no_command g c =
    let asked : IsCheck (map (λ w. string_bytes w) c.args.words.now) = rw (c.in-Ok-Some.field-0-is, c.in-Check.is) at c.in-Ok-Some.ensures.some in
    λ none. absurd (none.no_check asked)

pub returns-in-Check-clause-read : goal.returns-in-Check-clause-read
returns-in-Check-clause-read g c =
    let asked : IsCheck (map (λ w. string_bytes w) c.args.words.now) = rw (c.in-Ok-Some.field-0-is, c.in-Check.is) at c.in-Ok-Some.ensures.some in
    λ limit reads. read_for MOST_TEXT limit c.check_source.result _ _ (check_reads (map (λ w. string_bytes w) c.args.words.now) limit asked reads) c.check_source.ensures.read

pub returns-in-Check-clause-unread : goal.returns-in-Check-clause-unread
returns-in-Check-clause-unread g c =
    let asked : IsCheck (map (λ w. string_bytes w) c.args.words.now) = rw (c.in-Ok-Some.field-0-is, c.in-Check.is) at c.in-Ok-Some.ensures.some in
    λ none. absurd (none MOST_TEXT (a_derivation asked refl))

pub returns-in-Check-clause-write_fault : goal.returns-in-Check-clause-write_fault
returns-in-Check-clause-write_fault g c = λ e. inl (c.check_source.ensures.write_fault e)

-- ---- lines

pub returns-in-Seq-clause-headline : goal.returns-in-Seq-clause-headline
returns-in-Seq-clause-headline g c =
    let asked : IsSeq (map (λ w. string_bytes w) c.args.words.now) c.in-Seq.lines.seed c.in-Seq.lines.count = rw (c.in-Ok-Some.field-0-is, c.in-Seq.is) at c.in-Ok-Some.ensures.some in
    lines_are_said (g.S.Source.left c.args.src.now) (map (λ w. string_bytes w) c.args.words.now) c.in-Seq.lines.seed c.in-Seq.lines.count c.seq_source.result _ _ asked (c.seq_source.ensures.writing (g.J.Sink.written c.args.journal.now) (g.J.Sink.faults c.args.journal.now))

pub returns-in-Seq-clause-extent : goal.returns-in-Seq-clause-extent
returns-in-Seq-clause-extent g c =
    let asked : IsSeq (map (λ w. string_bytes w) c.args.words.now) c.in-Seq.lines.seed c.in-Seq.lines.count = rw (c.in-Ok-Some.field-0-is, c.in-Seq.is) at c.in-Ok-Some.ensures.some in
    λ limit reads. extent_for TEXT_LIMIT limit _ c.seq_source.result _ _ (seq_reads (map (λ w. string_bytes w) c.args.words.now) c.in-Seq.lines.seed c.in-Seq.lines.count limit asked reads) c.seq_source.ensures.extent

pub returns-in-Seq-clause-usage : goal.returns-in-Seq-clause-usage
returns-in-Seq-clause-usage g c = λ e. absurd (c.seq_source.ensures.command e)

pub returns-in-Seq-clause-no_command : goal.returns-in-Seq-clause-no_command
returns-in-Seq-clause-no_command g c =
    let asked : IsSeq (map (λ w. string_bytes w) c.args.words.now) c.in-Seq.lines.seed c.in-Seq.lines.count = rw (c.in-Ok-Some.field-0-is, c.in-Seq.is) at c.in-Ok-Some.ensures.some in
    λ none. absurd (none.no_seq c.in-Seq.lines.seed c.in-Seq.lines.count asked)

pub returns-in-Seq-clause-read : goal.returns-in-Seq-clause-read
returns-in-Seq-clause-read g c =
    let asked : IsSeq (map (λ w. string_bytes w) c.args.words.now) c.in-Seq.lines.seed c.in-Seq.lines.count = rw (c.in-Ok-Some.field-0-is, c.in-Seq.is) at c.in-Ok-Some.ensures.some in
    λ limit reads. read_for TEXT_LIMIT limit c.seq_source.result _ _ (seq_reads (map (λ w. string_bytes w) c.args.words.now) c.in-Seq.lines.seed c.in-Seq.lines.count limit asked reads) c.seq_source.ensures.read

pub returns-in-Seq-clause-unread : goal.returns-in-Seq-clause-unread
returns-in-Seq-clause-unread g c =
    let asked : IsSeq (map (λ w. string_bytes w) c.args.words.now) c.in-Seq.lines.seed c.in-Seq.lines.count = rw (c.in-Ok-Some.field-0-is, c.in-Seq.is) at c.in-Ok-Some.ensures.some in
    λ none. absurd (none TEXT_LIMIT (a_sequence c.in-Seq.lines.seed c.in-Seq.lines.count asked refl))

pub returns-in-Seq-clause-write_fault : goal.returns-in-Seq-clause-write_fault
returns-in-Seq-clause-write_fault g c = λ e. inl (c.seq_source.ensures.write_fault e)

-- ---- coverage

pub cover_source-requires : goal.cover_source-requires
cover_source-requires g c =
    let asked : Asks (map (λ w. string_bytes w) c.args.words.now) (Cover c.in-Cover.opts) = rw (c.in-Ok-Some.field-0-is, c.in-Cover.is) at c.in-Ok-Some.ensures.some in
    asked.1

pub returns-in-Cover-clause-headline : goal.returns-in-Cover-clause-headline
returns-in-Cover-clause-headline g c =
    let asked : Asks (map (λ w. string_bytes w) c.args.words.now) (Cover c.in-Cover.opts) = rw (c.in-Ok-Some.field-0-is, c.in-Cover.is) at c.in-Ok-Some.ensures.some in
    coverage_is_said (g.S.Source.left c.args.src.now) (map (λ w. string_bytes w) c.args.words.now) c.in-Cover.opts c.cover_source.result _ _ asked.0 c.cover_source.ensures.writing

pub returns-in-Cover-clause-extent : goal.returns-in-Cover-clause-extent
returns-in-Cover-clause-extent g c =
    let asked : Asks (map (λ w. string_bytes w) c.args.words.now) (Cover c.in-Cover.opts) = rw (c.in-Ok-Some.field-0-is, c.in-Cover.is) at c.in-Ok-Some.ensures.some in
    λ limit reads. extent_for TEXT_LIMIT limit _ c.cover_source.result _ _ (cover_reads (map (λ w. string_bytes w) c.args.words.now) c.in-Cover.opts limit asked.0 reads) c.cover_source.ensures.extent

pub returns-in-Cover-clause-usage : goal.returns-in-Cover-clause-usage
returns-in-Cover-clause-usage g c = λ e. absurd (c.cover_source.ensures.command e)

pub returns-in-Cover-clause-no_command : goal.returns-in-Cover-clause-no_command
returns-in-Cover-clause-no_command g c =
    let asked : Asks (map (λ w. string_bytes w) c.args.words.now) (Cover c.in-Cover.opts) = rw (c.in-Ok-Some.field-0-is, c.in-Cover.is) at c.in-Ok-Some.ensures.some in
    λ none. absurd (none.no_cover c.in-Cover.opts asked.0)

pub returns-in-Cover-clause-read : goal.returns-in-Cover-clause-read
returns-in-Cover-clause-read g c =
    let asked : Asks (map (λ w. string_bytes w) c.args.words.now) (Cover c.in-Cover.opts) = rw (c.in-Ok-Some.field-0-is, c.in-Cover.is) at c.in-Ok-Some.ensures.some in
    λ limit reads. read_for TEXT_LIMIT limit c.cover_source.result _ _ (cover_reads (map (λ w. string_bytes w) c.args.words.now) c.in-Cover.opts limit asked.0 reads) c.cover_source.ensures.read

pub returns-in-Cover-clause-unread : goal.returns-in-Cover-clause-unread
returns-in-Cover-clause-unread g c =
    let asked : Asks (map (λ w. string_bytes w) c.args.words.now) (Cover c.in-Cover.opts) = rw (c.in-Ok-Some.field-0-is, c.in-Cover.is) at c.in-Ok-Some.ensures.some in
    λ none. absurd (none TEXT_LIMIT (a_coverage c.in-Cover.opts asked.0 refl))
