-- What a script and a load answer.
use Rattle.std.specs.Prelude.{◌≡◌, ◌≤◌, ◌<◌, ◌⊎◌, ℕ, List, length}
use Rattle.svr_limits.specs.declared.limit.TheConstants.{TEXT_LIMIT}
use Rattle.svr_refusal.specs.declared.refusal.Refusal.TheVariants as refusal
use Rattle.svr_phase.specs.declared.options.Options.{Options}
use Rattle.svr_script.specs.Ending as ending
use Rattle.svr_script.specs.Ending.{Output}
use Rattle.svr_load.specs.Script.{load_text}
use Rattle.svr_words.specs.declared.request.Run.{Run}
use Rattle.svr_status.specs.Lines.{refused_at, nowhere}
use Rattle.svr_status.specs.Writing.{prints}
use Rattle.svr_status.specs.declared.status.Status.{Status}
use Rattle.svr_status.specs.declared.status.Status.TheVariants.{AllOne, SomeZero, Usage, SomeGivenUp, Refused, Limited, ReadFault, WriteFault, NoMemory}
use Rattle.svr_refused.specs.Texts.{IsRefused}
use Rattle.svr_answer.specs.Ends.{Ends, Begins, LoadEnds, LoadBegins}

-- the text is too long, or is refused
pub data Refuses (text : List ℕ) (output : Output) : Type 0 where
  too_long : TEXT_LIMIT < length text → output ≡ prints (refused_at nowhere refusal.TooLong) → Refuses text output
  refused : (line : List ℕ) → length text ≤ TEXT_LIMIT → IsRefused text line → output ≡ prints line → Refuses text output

-- this run over this text ends with this status and has this to write
abbrev pub Answers : Run → List ℕ → Status → Output → Type 0
Answers asked text AllOne output = (length text ≤ TEXT_LIMIT) × Ends asked text ending.AllOne output
Answers asked text SomeZero output = (length text ≤ TEXT_LIMIT) × Ends asked text ending.SomeZero output
Answers asked text SomeGivenUp output = (length text ≤ TEXT_LIMIT) × Ends asked text ending.SomeGivenUp output
Answers asked text Limited output = (length text ≤ TEXT_LIMIT) × Ends asked text ending.Limited output
Answers asked text Refused output = Refuses text output
Answers asked text Usage output = ⊥
Answers asked text ReadFault output = ⊥
Answers asked text WriteFault output = ⊥
Answers asked text NoMemory output = ⊥

-- it may be cut off once it has told this: an answer, or what a run so far tells, which owes no end
abbrev pub MayTell : Run → List ℕ → Output → Type 0
MayTell asked text output = ((status : Status) × Answers asked text status output) ⊎ ((length text ≤ TEXT_LIMIT) × Begins asked text output)

-- a load of so many classes ends with this status and has this to write
abbrev pub LoadAnswers : ℕ → Options → Status → Output → Type 0
LoadAnswers count opts AllOne output = LoadEnds count opts ending.AllOne output
LoadAnswers count opts SomeZero output = LoadEnds count opts ending.SomeZero output
LoadAnswers count opts SomeGivenUp output = LoadEnds count opts ending.SomeGivenUp output
LoadAnswers count opts Limited output = LoadEnds count opts ending.Limited output
LoadAnswers count opts Refused output = Refuses (load_text count) output
LoadAnswers count opts Usage output = ⊥
LoadAnswers count opts ReadFault output = ⊥
LoadAnswers count opts WriteFault output = ⊥
LoadAnswers count opts NoMemory output = ⊥

abbrev pub LoadMayTell : ℕ → Options → Output → Type 0
LoadMayTell count opts output = ((status : Status) × LoadAnswers count opts status output) ⊎ LoadBegins count opts output
