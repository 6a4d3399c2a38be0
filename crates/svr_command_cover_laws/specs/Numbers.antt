-- The counters behind a run as numbers of its samples.
use Rattle.std.specs.Prelude.{◌≤◌, ℕ, List}
use Rattle.svr_limits.specs.declared.limit.TheConstants.{ELEMENT_LIMIT}
use Rattle.svr_token.specs.Names.{name_at}
use Rattle.svr_phase.specs.declared.options.Options.{Options}
use Rattle.svr_script.specs.Run.{Sample, samples_of}
use Rattle.svr_script.specs.Ending.{Ending, Output}
use Rattle.svr_cover.specs.Cover.{cover_term}
use Rattle.svr_cover_laws.specs.Counted.{GroupsAreCounted, BinsAreCounted, TuplesAreCounted}
use Rattle.svr_cover_made.specs.declared.made.Made.{Made}
use Rattle.svr_cover_made.specs.declared.groups.GroupPlan.{GroupPlan}
use Rattle.svr_cover_made.specs.Plan.{group_plans}
use Rattle.svr_cover_made_laws.specs.Planned.{HavePlannedBins}
use Rattle.svr_command_cover.specs.Answers.{behind, Covers}

module _ (opts : Options) (text : List ℕ) (how : Ending) (output : Output) (c : Covers opts text how output) where
  -- what was made of the groups
  abbrev pub made_of : Made
  made_of = c.made.are.made.made

  -- what their text asks for
  abbrev pub plans : List GroupPlan
  plans = group_plans (name_at text c.tokens) c.made.classes c.made.flats 0 c.groups.list

  -- the samples of the run, one behind each call that answers 1
  abbrev pub samples : List Sample
  samples = samples_of c.run.run.events

  -- the counters behind them, whose numbers the report tells
  abbrev pub counts : List ℕ
  counts = (behind (cover_term c.counters.cover) c.run.run.events).counts

  -- the points have the bins that the text asks for, and the counters of groups, of bins and of tuples are numbers of these samples
  pub record AreNumbers : Type 0 where
    pub planned : HavePlannedBins plans made_of.groups
    pub groups : GroupsAreCounted (λ (s : Sample). s.class) made_of.groups samples counts
    pub bins : BinsAreCounted (λ (s : Sample). s.class) (λ (s : Sample). s.values) made_of.groups samples counts
    pub tuples : TuplesAreCounted (λ (s : Sample). s.class) (λ (s : Sample). s.values) made_of.groups samples counts

-- of each report behind a run in which no array is chosen longer than one may be
abbrev pub ReportsTellNumbersOfSamples : Type 0
ReportsTellNumbersOfSamples = (opts : Options) (text : List ℕ) (how : Ending) (output : Output) (c : Covers opts text how output) → opts.size_cap ≤ ELEMENT_LIMIT → AreNumbers opts text how output c
