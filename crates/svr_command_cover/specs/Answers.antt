-- What the command `cover` answers.
use Rattle.std.specs.Prelude.{◌≡◌, ◌≤◌, ◌<◌, ◌⊎◌, ℕ, false, List, [], ◌++◌, length}
use Rattle.svr_limits.specs.declared.limit.TheConstants.{TEXT_LIMIT}
use Rattle.svr_token.specs.declared.token.Token.{Token}
use Rattle.svr_token.specs.Names.{name_at}
use Rattle.svr_refusal.specs.declared.place.Place.{Place}
use Rattle.svr_refusal.specs.declared.refusal.Refusal.TheVariants as refusal
use Rattle.svr_typed.specs.StmtTerm.{DesignTerm}
use Rattle.svr_phase.specs.declared.options.Options.{Options}
use Rattle.svr_script.specs.Printed.{Event}
use Rattle.svr_script.specs.Run.{gathered}
use Rattle.svr_script.specs.Ending as ending
use Rattle.svr_script.specs.Ending.{Ending, Output}
use Rattle.svr_run.specs.Watching.{taken}
use Rattle.svr_words.specs.declared.request.Run.{Run}
use Rattle.svr_refused.specs.Texts as script
use Rattle.svr_refused.specs.Texts.{HasDesign}
use Rattle.svr_answer.specs.Ends.{Ends, Begins}
use Rattle.svr_cover_text.specs.declared.text.GroupsText.{GroupsText}
use Rattle.svr_cover.specs.Cover.{CoverTerm, cover_term, cover_step}
use Rattle.svr_cover_report.specs.Report.{with_groups}
use Rattle.svr_coverage.specs.declared.counters.Counters.{Counters}
use Rattle.svr_coverage.specs.Script.{script_of}
use Rattle.svr_coverage.specs.Front as front
use Rattle.svr_coverage.specs.Front.{BeginsWith}
use Rattle.svr_coverage.specs.Counters.{HasCounters, IsFirstRefusal}
use Rattle.svr_status.specs.Lines.{refused_as, refused_at, nowhere}
use Rattle.svr_status.specs.Writing.{prints}
use Rattle.svr_status.specs.declared.status.Status.{Status}
use Rattle.svr_status.specs.declared.status.Status.TheVariants.{AllOne, SomeZero, Usage, SomeGivenUp, Refused, Limited, ReadFault, WriteFault, NoMemory}

-- ---- runs and their reports

-- a run with these options, of which nothing is told beside its lines
abbrev pub plain : Options → Run
plain opts = record { opts = opts; conflicts = false; lrat = false }

-- what is counted over the samples of a run, one after the other
abbrev pub behind : CoverTerm → List Event → CoverTerm
behind cover es = gathered (taken cover_step) cover es

-- the report over the samples of a run
abbrev pub report : Counters → List Event → List ℕ
report counters es = with_groups (behind (cover_term counters.cover) es).counts [] counters.names

-- The text begins with groups. A run of the script behind them comes to its end, and this is what it has to write, with the report of the groups over the samples of that run.
pub record Covers (opts : Options) (text : List ℕ) (how : Ending) (output : Output) : Type 0 where
  pub tokens : List Token
  pub groups : GroupsText
  pub begins : BeginsWith text tokens groups
  pub lines : Output
  pub run : Ends (plain opts) (script_of text tokens groups.used) how lines
  pub counters : Counters
  pub made : HasCounters run.design (name_at text tokens) groups.list counters
  pub output_is : output ≡ record { printed = lines.printed ++ report counters run.run.events; journal = lines.journal }

-- such a run has come this far, and this is what its calls tell
pub record Begun (opts : Options) (text : List ℕ) (output : Output) : Type 0 where
  pub tokens : List Token
  pub groups : GroupsText
  pub begins : BeginsWith text tokens groups
  pub run : Begins (plain opts) (script_of text tokens groups.used) output
  pub counters : Counters
  pub made : HasCounters run.design (name_at text tokens) groups.list counters

-- ---- refusals

-- The text is too long; or the first that is refused is a lexeme of it or a token of its groups; its script; or something in its groups.
pub data RefusesCover (text : List ℕ) (output : Output) : Type 0 where
  too_long_to_cover : TEXT_LIMIT < length text → output ≡ prints (refused_at nowhere refusal.TooLong) → RefusesCover text output
  no_front : (number : ℕ) (place : Place) → length text ≤ TEXT_LIMIT → front.IsRefused text number place → output ≡ prints (refused_as place number) → RefusesCover text output
  no_script : (tokens : List Token) (groups : GroupsText) (line : List ℕ) → length text ≤ TEXT_LIMIT → BeginsWith text tokens groups → script.IsRefused (script_of text tokens groups.used) line → output ≡ prints line → RefusesCover text output
  no_groups : (tokens : List Token) (groups : GroupsText) (design : DesignTerm) (number : ℕ) (place : Place) → length text ≤ TEXT_LIMIT → BeginsWith text tokens groups → HasDesign (script_of text tokens groups.used) design
      → IsFirstRefusal design text tokens groups.list number place → output ≡ prints (refused_as place number) → RefusesCover text output

-- ---- with each status

-- with these options, a text ends with this status and has this to write
abbrev pub CoverAnswers : Options → List ℕ → Status → Output → Type 0
CoverAnswers opts text AllOne output = (length text ≤ TEXT_LIMIT) × Covers opts text ending.AllOne output
CoverAnswers opts text SomeZero output = (length text ≤ TEXT_LIMIT) × Covers opts text ending.SomeZero output
CoverAnswers opts text SomeGivenUp output = (length text ≤ TEXT_LIMIT) × Covers opts text ending.SomeGivenUp output
CoverAnswers opts text Limited output = (length text ≤ TEXT_LIMIT) × Covers opts text ending.Limited output
CoverAnswers opts text Refused output = RefusesCover text output
CoverAnswers opts text Usage output = ⊥
CoverAnswers opts text ReadFault output = ⊥
CoverAnswers opts text WriteFault output = ⊥
CoverAnswers opts text NoMemory output = ⊥

-- it may be cut off once it has told this: an answer, or what a run so far tells, which owes no end and no report
abbrev pub CoverMayTell : Options → List ℕ → Output → Type 0
CoverMayTell opts text output = ((status : Status) × CoverAnswers opts text status output) ⊎ ((length text ≤ TEXT_LIMIT) × Begun opts text output)
