-- What a command answers is what the program says with its words.
use Rattle.std.proofs.Common.{◌≡◌, ◌⊎◌, ℕ, List, Option, Some, None, IfSome, refl, sym, subst, inl, inr}
use Rattle.std.specs.Io.KnownBytes.{Appends}
use Rattle.std.proofs.KnownBytes.{Appends-nil}
use Rattle.svr_edge.specs.Known.{AppendsFront}
use Rattle.svr_phase.specs.declared.options.Options.{Options}
use Rattle.svr_run.specs.Telling.{Sinks}
use Rattle.svr_words.specs.declared.request.Run.{Run}
use Rattle.svr_words.specs.Words.{IsCommand, IsLoad, IsCheck, IsSeq, IsCover, AskNothing, usage_text}
use Rattle.svr_status.specs.Writing.{prints, Writing}
use Rattle.svr_status.specs.declared.status.Status.{Status}
use Rattle.svr_status.specs.declared.status.Status.TheVariants.{Usage, WriteFault}
use Rattle.svr_status.proofs.Told.{if_told}
use Rattle.svr_status.proofs.Written.{mapped}
use Rattle.svr_answer.specs.Answers.{Answers, MayTell, LoadAnswers, LoadMayTell}
use Rattle.svr_answer.specs.Parts.{LoadAnswered}
use Rattle.svr_command_check.specs.Answers.{CheckAnswers, CheckMayTell}
use Rattle.svr_command_seq.specs.Answers.{SeqAnswers, SeqMayTell}
use Rattle.svr_command_cover.specs.Answers.{CoverAnswers, CoverMayTell}
use Rattle.svr_program.specs.Outcome.{Says, MaySay, Writes}

-- an answer is what the program says with words that are a command
pub answer_is_said : (words : List (List ℕ)) (run : Run) (text : List ℕ) (status : Status) (old new : Sinks) → IsCommand words run
    → Writing (Answers run text) (MayTell run text) status old new → Writes words text status old new
answer_is_said words run text status old new asked writing =
    mapped (Answers run text) (Says words text) (MayTell run text) (MaySay words text) (λ s o h. inr (inl (run, asked, h))) (λ o h. inr (inl (run, asked, h))) status old new writing

pub load_is_said : (words : List (List ℕ)) (count : ℕ) (opts : Options) (text : List ℕ) (status : Status) (old new : Sinks) → IsLoad words count opts
    → Writing (LoadAnswers count opts) (LoadMayTell count opts) status old new → Writes words text status old new
load_is_said words count opts text status old new asked writing =
    mapped (LoadAnswers count opts) (Says words text) (LoadMayTell count opts) (MaySay words text) (λ s o h. inr (inr (inl (count, opts, asked, h)))) (λ o h. inr (inr (inl (count, opts, asked, h)))) status old new writing

pub check_is_said : (words : List (List ℕ)) (text : List ℕ) (status : Status) (old new : Sinks) → IsCheck words
    → Writing (CheckAnswers text) (CheckMayTell text) status old new → Writes words text status old new
check_is_said words text status old new asked writing =
    mapped (CheckAnswers text) (Says words text) (CheckMayTell text) (MaySay words text) (λ s o h. inr (inr (inr (inl (asked, h))))) (λ o h. inr (inr (inr (inl (asked, h))))) status old new writing

pub seq_is_said : (words : List (List ℕ)) (seed count : ℕ) (text : List ℕ) (status : Status) (old new : Sinks) → IsSeq words seed count
    → Writing (SeqAnswers seed count text) (SeqMayTell seed count text) status old new → Writes words text status old new
seq_is_said words seed count text status old new asked writing =
    mapped (SeqAnswers seed count text) (Says words text) (SeqMayTell seed count text) (MaySay words text) (λ s o h. inr (inr (inr (inr (inl (seed, count, asked, h)))))) (λ o h. inr (inr (inr (inr (inl (seed, count, asked, h)))))) status old new writing

pub cover_is_said : (words : List (List ℕ)) (opts : Options) (text : List ℕ) (status : Status) (old new : Sinks) → IsCover words opts
    → Writing (CoverAnswers opts text) (CoverMayTell opts text) status old new → Writes words text status old new
cover_is_said words opts text status old new asked writing =
    mapped (CoverAnswers opts text) (Says words text) (CoverMayTell opts text) (MaySay words text) (λ s o h. inr (inr (inr (inr (inr (opts, asked, h)))))) (λ o h. inr (inr (inr (inr (inr (opts, asked, h)))))) status old new writing

-- over a source that tells its text
pub source_is_said : (o : Option (List ℕ)) (words : List (List ℕ)) (run : Run) (status : Status) (old new : Sinks) → IsCommand words run
    → IfSome o (λ text. Writing (Answers run text) (MayTell run text) status old new) → IfSome o (λ text. Writes words text status old new)
source_is_said None words run status old new asked writing = tt
source_is_said (Some text) words run status old new asked writing = answer_is_said words run text status old new asked writing

pub made_is_said : (o : Option (List ℕ)) (words : List (List ℕ)) (count : ℕ) (opts : Options) (status : Status) (old new : Sinks) → IsLoad words count opts
    → LoadAnswered count opts status old new → IfSome o (λ text. Writes words text status old new)
made_is_said None words count opts status old new asked answered = tt
made_is_said (Some text) words count opts status old new asked answered = load_is_said words count opts text status old new asked answered.writing

pub checked_is_said : (o : Option (List ℕ)) (words : List (List ℕ)) (status : Status) (old new : Sinks) → IsCheck words
    → IfSome o (λ text. Writing (CheckAnswers text) (CheckMayTell text) status old new) → IfSome o (λ text. Writes words text status old new)
checked_is_said None words status old new asked writing = tt
checked_is_said (Some text) words status old new asked writing = check_is_said words text status old new asked writing

pub lines_are_said : (o : Option (List ℕ)) (words : List (List ℕ)) (seed count : ℕ) (status : Status) (old new : Sinks) → IsSeq words seed count
    → IfSome o (λ text. Writing (SeqAnswers seed count text) (SeqMayTell seed count text) status old new) → IfSome o (λ text. Writes words text status old new)
lines_are_said None words seed count status old new asked writing = tt
lines_are_said (Some text) words seed count status old new asked writing = seq_is_said words seed count text status old new asked writing

pub coverage_is_said : (o : Option (List ℕ)) (words : List (List ℕ)) (opts : Options) (status : Status) (old new : Sinks) → IsCover words opts
    → IfSome o (λ text. Writing (CoverAnswers opts text) (CoverMayTell opts text) status old new) → IfSome o (λ text. Writes words text status old new)
coverage_is_said None words opts status old new asked writing = tt
coverage_is_said (Some text) words opts status old new asked writing = cover_is_said words opts text status old new asked writing

-- ---- the usage

-- the usage was printed, or a front of it
pub usage_is_written : (words : List (List ℕ)) (text : List ℕ) (result : Status) (old new journal : Option (List ℕ)) (was now logged : ℕ) (R : Type 0)
    → AskNothing words
    → ((result ≡ Usage) × Appends old new usage_text) ⊎ ((result ≡ WriteFault) × AppendsFront old new usage_text × R)
    → Writes words text result (record { out = old; journal = journal; out_faults = was; journal_faults = logged }) (record { out = new; journal = journal; out_faults = now; journal_faults = logged })
usage_is_written words text result old new journal was now logged R none (inl (e, all)) =
    subst (λ s. Writes words text s (record { out = old; journal = journal; out_faults = was; journal_faults = logged }) (record { out = new; journal = journal; out_faults = now; journal_faults = logged })) (sym e)
    (prints usage_text, inl (refl, none, refl), all, Appends-nil journal)
usage_is_written words text result old new journal was now logged R none (inr (e, front, rose)) =
    subst (λ s. Writes words text s (record { out = old; journal = journal; out_faults = was; journal_faults = logged }) (record { out = new; journal = journal; out_faults = now; journal_faults = logged })) (sym e)
    (prints usage_text, inl (none, refl), front, (0, Appends-nil journal))

pub usage_told : (o : Option (List ℕ)) (words : List (List ℕ)) (result : Status) (old new journal : Option (List ℕ)) (was now logged : ℕ) (R : Type 0)
    → AskNothing words
    → ((result ≡ Usage) × Appends old new usage_text) ⊎ ((result ≡ WriteFault) × AppendsFront old new usage_text × R)
    → IfSome o (λ text. Writes words text result (record { out = old; journal = journal; out_faults = was; journal_faults = logged }) (record { out = new; journal = journal; out_faults = now; journal_faults = logged }))
usage_told o words result old new journal was now logged R none ends =
    if_told o (λ text. Writes words text result (record { out = old; journal = journal; out_faults = was; journal_faults = logged }) (record { out = new; journal = journal; out_faults = now; journal_faults = logged }))
    (λ text told. usage_is_written words text result old new journal was now logged R none ends)
