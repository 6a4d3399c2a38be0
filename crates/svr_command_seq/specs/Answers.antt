-- What the command `seq` answers.
use Rattle.std.specs.Prelude.{◌≡◌, ◌≤◌, ◌<◌, ℕ, Bool, true, false, List, length}
use Rattle.svr_limits.specs.declared.limit.TheConstants.{TEXT_LIMIT}
use Rattle.svr_refusal.specs.declared.place.Place.{Place}
use Rattle.svr_refusal.specs.declared.refusal.Refusal.TheVariants as refusal
use Rattle.svr_script.specs.Ending.{Output}
use Rattle.svr_seq_lines.specs.Said.{HasLines, IsRefused}
use Rattle.svr_status.specs.Lines.{refused_as, refused_at, nowhere}
use Rattle.svr_status.specs.Writing.{prints}
use Rattle.svr_status.specs.declared.status.Status.{Status}
use Rattle.svr_status.specs.declared.status.Status.TheVariants.{AllOne, SomeZero, Usage, SomeGivenUp, Refused, Limited, ReadFault, WriteFault, NoMemory}

-- So many lines of the text are to be written, under a seed. The truth tells whether they end with one that needs too many units.
abbrev pub AreLines : ℕ → ℕ → List ℕ → Bool → Output → Type 0
AreLines seed count text limited output = (length text ≤ TEXT_LIMIT) × (lines : List ℕ) × HasLines text seed count limited lines × (output ≡ prints lines)

-- the text is too long, or is refused
pub data RefusesSeq (text : List ℕ) (output : Output) : Type 0 where
  too_long_to_produce : TEXT_LIMIT < length text → output ≡ prints (refused_at nowhere refusal.TooLong) → RefusesSeq text output
  no_sequence : (number : ℕ) (place : Place) → length text ≤ TEXT_LIMIT → IsRefused text number place → output ≡ prints (refused_as place number) → RefusesSeq text output

-- with this seed and so many lines, a text ends with this status and has this to write
abbrev pub SeqAnswers : ℕ → ℕ → List ℕ → Status → Output → Type 0
SeqAnswers seed count text AllOne output = AreLines seed count text false output
SeqAnswers seed count text Limited output = AreLines seed count text true output
SeqAnswers seed count text Refused output = RefusesSeq text output
SeqAnswers seed count text SomeZero output = ⊥
SeqAnswers seed count text Usage output = ⊥
SeqAnswers seed count text SomeGivenUp output = ⊥
SeqAnswers seed count text ReadFault output = ⊥
SeqAnswers seed count text WriteFault output = ⊥
SeqAnswers seed count text NoMemory output = ⊥

abbrev pub SeqMayTell : ℕ → ℕ → List ℕ → Output → Type 0
SeqMayTell seed count text output = (status : Status) × SeqAnswers seed count text status output
