-- What the two sinks tell of a run, and what is counted of it.
use Rattle.std.specs.Prelude.{◌≡◌, ◌≤◌, ◌+◌, ◌⊎◌, ℕ, false, cond, List}
use Rattle.std.specs.declared.option.Option.{Option}
use Rattle.std.specs.Io.KnownBytes.{Appends}
use Rattle.svr_edge.specs.Causes.{Rose}
use Rattle.svr_edge.specs.Known.{AppendsFront}
use Rattle.svr_frame.specs.Frame.{frame_term}
use Rattle.svr_phase.specs.declared.options.Options.{Options}
use Rattle.svr_call.specs.declared.outcome.Outcome.{Outcome}
use Rattle.svr_call.specs.Items.{is_one}
use Rattle.svr_script.specs.Printed.{Event}
use Rattle.svr_script.specs.Run.{Printing, text_of, journal_of, counts_of, is_zero, is_given_up}
use Rattle.svr_run.specs.declared.progress.Counts.{Counts}
use Rattle.svr_run.specs.declared.extra.Extra.{Extra}

-- ---- what is written

-- proofs are printed where the options say so, and what is asked for besides
abbrev pub printing_of : Options → Extra → Printing
printing_of opts extra = record { proofs = opts.proofs; conflicts = extra.conflicts; lrat = extra.lrat }

-- nothing is asked for besides
abbrev pub no_extra : Extra
no_extra = record { conflicts = false; lrat = false }

-- What the two sinks tell: the bytes that they have, where they tell them, and how many of their calls failed.
pub record Sinks : Type 0 where
  pub out : Option (List ℕ)
  pub journal : Option (List ℕ)
  pub out_faults : ℕ
  pub journal_faults : ℕ

abbrev pub sinks : Option (List ℕ) → ℕ → Option (List ℕ) → ℕ → Sinks
sinks text m log n = record { out = text; journal = log; out_faults = m; journal_faults = n }

-- all that the calls tell was written, and no sink failed
pub record Tells (how : Printing) (es : List Event) (old new : Sinks) : Type 0 where
  pub printed : Appends old.out new.out (text_of how es)
  pub logged : Appends old.journal new.journal (journal_of es)
  pub out_kept : new.out_faults ≡ old.out_faults
  pub journal_kept : new.journal_faults ≡ old.journal_faults

-- a front of what the calls tell was written to each sink
pub record TellsFront (how : Printing) (es : List Event) (old new : Sinks) : Type 0 where
  pub printed : AppendsFront old.out new.out (text_of how es)
  pub logged : AppendsFront old.journal new.journal (journal_of es)
  pub out_later : old.out_faults ≤ new.out_faults
  pub journal_later : old.journal_faults ≤ new.journal_faults

-- one of the sinks failed
abbrev pub SinkFailed : Sinks → Sinks → Type 0
SinkFailed old new = Rose old.out_faults new.out_faults ⊎ Rose old.journal_faults new.journal_faults

-- ---- what is counted

-- so many calls answered 1, answered 0 and were given up
pub record HasCounts (n : Counts) (es : List Event) : Type 0 where
  pub ones : n.ones ≡ (counts_of es).ones
  pub zeros : n.zeros ≡ (counts_of es).zeros
  pub given_up : n.given_up ≡ (counts_of es).given_up

-- with one answer more
abbrev pub counted : Counts → Outcome → Counts
counted n o = record {
  ones = n.ones + cond (is_one o) 1 0;
  zeros = n.zeros + cond (is_zero o) 1 0;
  given_up = n.given_up + cond (is_given_up o) 1 0;
}
