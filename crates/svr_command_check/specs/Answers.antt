-- What a check answers.
use Rattle.std.specs.Prelude.{◌≡◌, ◌≤◌, ◌<◌, ℕ, List, length}
use Rattle.svr_refusal.specs.declared.place.Place.{Place}
use Rattle.svr_refusal.specs.declared.refusal.Refusal.TheVariants as refusal
use Rattle.svr_script.specs.Ending.{Output}
use Rattle.svr_lrat_text.specs.declared.limits.TheConstants.{MOST_TEXT}
use Rattle.svr_lrat_judge.specs.declared.verdict.LratReason.{LratReason}
use Rattle.svr_lrat_judge.specs.declared.verdict.LratVerdict.{LratVerdict}
use Rattle.svr_lrat_judge.specs.declared.verdict.LratVerdict.TheVariants as says
use Rattle.svr_check.specs.Lines.{verdict_line}
use Rattle.svr_check.specs.Checked.{HasVerdict, IsNoFile}
use Rattle.svr_status.specs.Lines.{refused_as, refused_at, nowhere}
use Rattle.svr_status.specs.Writing.{prints}
use Rattle.svr_status.specs.declared.status.Status.{Status}
use Rattle.svr_status.specs.declared.status.Status.TheVariants.{AllOne, SomeZero, Usage, SomeGivenUp, Refused, Limited, ReadFault, WriteFault, NoMemory}

-- the text is a file with this verdict, whose line is to be written
abbrev pub IsJudged : List ℕ → LratVerdict → Output → Type 0
IsJudged text verdict output = (length text ≤ MOST_TEXT) × HasVerdict text verdict × (output ≡ prints (verdict_line verdict))

-- a text to be checked is too long, or is no file
pub data RefusesCheck (text : List ℕ) (output : Output) : Type 0 where
  too_long_to_check : MOST_TEXT < length text → output ≡ prints (refused_at nowhere refusal.TooLong) → RefusesCheck text output
  no_file : (number : ℕ) (place : Place) → length text ≤ MOST_TEXT → IsNoFile text number place → output ≡ prints (refused_as place number) → RefusesCheck text output

-- a check of this text ends with this status and has this to write
abbrev pub CheckAnswers : List ℕ → Status → Output → Type 0
CheckAnswers text AllOne output = IsJudged text says.Accepted output
CheckAnswers text SomeZero output = (id : ℕ) × (why : LratReason) × IsJudged text (says.Rejected id why) output
CheckAnswers text Refused output = RefusesCheck text output
CheckAnswers text Usage output = ⊥
CheckAnswers text SomeGivenUp output = ⊥
CheckAnswers text Limited output = ⊥
CheckAnswers text ReadFault output = ⊥
CheckAnswers text WriteFault output = ⊥
CheckAnswers text NoMemory output = ⊥

abbrev pub CheckMayTell : List ℕ → Output → Type 0
CheckMayTell text output = (status : Status) × CheckAnswers text status output
