-- What a text does that goes to a sink piece by piece.
use Rattle.std.specs.Prelude.{◌≡◌, ◌≤◌, ℕ, Bool, true, false, List, [], ◌++◌}
use Rattle.std.specs.declared.option.Option.{Option}
use Rattle.std.specs.Io.KnownBytes.{Appends, Keeps}
use Rattle.svr_edge.specs.Causes.{Rose}
use Rattle.svr_edge.specs.Known.{AppendsFront}
use Rattle.svr_stream.specs.Waiting.{Waiting}

-- What a sink tells, the bytes it has and how many of its calls failed; and what waits for it.
pub record Place : Type 0 where
  pub written : Option (List ℕ)
  pub faults : ℕ
  pub waiting : List ℕ
  pub failed : Bool

abbrev pub place : Option (List ℕ) → ℕ → Waiting → Place
place written faults w = record { written = written; faults = faults; waiting = w.bytes; failed = w.failed }

-- where nothing waits
abbrev pub place_at : Option (List ℕ) → ℕ → Bool → Place
place_at written faults failed = record { written = written; faults = faults; waiting = []; failed = failed }

-- a front of what waited and of the text is written, and the rest waits
pub record Grows (old new : Place) (text : List ℕ) : Type 0 where
  pub front : List ℕ
  pub written : Appends old.written new.written front
  pub rest : old.waiting ++ text ≡ front ++ new.waiting
  pub kept : new.faults ≡ old.faults

-- the sink failed behind some front of what waited and of the text
pub record Breaks (old new : Place) (text : List ℕ) : Type 0 where
  pub written : AppendsFront old.written new.written (old.waiting ++ text)
  pub later : old.faults ≤ new.faults
  pub rose : Rose old.faults new.faults

-- nothing is written
pub record Stays (old new : Place) : Type 0 where
  pub written : Keeps old.written new.written
  pub kept : new.faults ≡ old.faults

abbrev pub PutsFrom : Bool → Bool → Place → Place → List ℕ → Type 0
PutsFrom false false old new text = Grows old new text
PutsFrom false true old new text = Breaks old new text
PutsFrom true false old new text = ⊥
PutsFrom true true old new text = Stays old new

-- The text has gone behind what waited. Where the sink failed, a front is written; where it had failed before, nothing more.
pub record Puts (old new : Place) (text : List ℕ) : Type 0 where
  pub puts : PutsFrom old.failed new.failed old new text
