-- What the program says and writes, by its words and the text that it reads.
use Rattle.std.specs.Prelude.{◌≡◌, ◌⊎◌, ℕ, List}
use Rattle.svr_limits.specs.declared.limit.TheConstants.{TEXT_LIMIT}
use Rattle.svr_lrat_text.specs.declared.limits.TheConstants.{MOST_TEXT}
use Rattle.svr_phase.specs.declared.options.Options.{Options}
use Rattle.svr_script.specs.Ending.{Output}
use Rattle.svr_run.specs.Telling.{Sinks}
use Rattle.svr_words.specs.declared.request.Run.{Run}
use Rattle.svr_words.specs.Words.{IsCommand, IsLoad, IsCheck, IsSeq, IsCover, AskNothing, usage_text}
use Rattle.svr_answer.specs.Answers.{Answers, MayTell, LoadAnswers, LoadMayTell}
use Rattle.svr_command_check.specs.Answers.{CheckAnswers, CheckMayTell}
use Rattle.svr_command_seq.specs.Answers.{SeqAnswers, SeqMayTell}
use Rattle.svr_command_cover.specs.Answers.{CoverAnswers, CoverMayTell}
use Rattle.svr_status.specs.Writing.{prints, Writing}
use Rattle.svr_status.specs.declared.status.Status.{Status}
use Rattle.svr_status.specs.declared.status.Status.TheVariants.{Usage}

-- ---- what is said

-- the program with these words over this text ends with this status and has this to write
abbrev pub Says : List (List ℕ) → List ℕ → Status → Output → Type 0
Says words text status output =
    ((status ≡ Usage) × AskNothing words × (output ≡ prints usage_text))
    ⊎ (((run : Run) × IsCommand words run × Answers run text status output)
    ⊎ (((count : ℕ) × (opts : Options) × IsLoad words count opts × LoadAnswers count opts status output)
    ⊎ ((IsCheck words × CheckAnswers text status output)
    ⊎ (((seed : ℕ) × (count : ℕ) × IsSeq words seed count × SeqAnswers seed count text status output)
    ⊎ ((opts : Options) × IsCover words opts × CoverAnswers opts text status output)))))

abbrev pub MaySay : List (List ℕ) → List ℕ → Output → Type 0
MaySay words text output =
    (AskNothing words × (output ≡ prints usage_text))
    ⊎ (((run : Run) × IsCommand words run × MayTell run text output)
    ⊎ (((count : ℕ) × (opts : Options) × IsLoad words count opts × LoadMayTell count opts output)
    ⊎ ((IsCheck words × CheckMayTell text output)
    ⊎ (((seed : ℕ) × (count : ℕ) × IsSeq words seed count × SeqMayTell seed count text output)
    ⊎ ((opts : Options) × IsCover words opts × CoverMayTell opts text output)))))

-- ---- what is written

abbrev pub Writes : List (List ℕ) → List ℕ → Status → Sinks → Sinks → Type 0
Writes words text status old new = Writing (Says words text) (MaySay words text) status old new

-- ---- how far the text is read

-- the words ask for a command that reads a text, of at most so many bytes
pub data Reads (words : List (List ℕ)) (limit : ℕ) : Type 0 where
  a_script : (run : Run) → IsCommand words run → limit ≡ TEXT_LIMIT → Reads words limit
  a_derivation : IsCheck words → limit ≡ MOST_TEXT → Reads words limit
  a_sequence : (seed count : ℕ) → IsSeq words seed count → limit ≡ TEXT_LIMIT → Reads words limit
  a_coverage : (opts : Options) → IsCover words opts → limit ≡ TEXT_LIMIT → Reads words limit
