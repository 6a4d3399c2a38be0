-- What was written with a status, and how far a text was read.
use Rattle.std.specs.Prelude.{◌≡◌, ◌≤◌, ◌<◌, ◌+◌, ◌⊎◌, ℕ, List, [], length}
use Rattle.std.specs.declared.option.Option.{Option}
use Rattle.std.specs.Io.KnownBytes.{Appends, Keeps, IsAtEnd}
use Rattle.svr_edge.specs.Known.{Takes, TakesUpTo, AppendsFront}
use Rattle.svr_script.specs.Ending.{Output}
use Rattle.svr_run.specs.Telling.{Sinks}
use Rattle.svr_status.specs.declared.status.Status.{Status}
use Rattle.svr_status.specs.declared.status.Status.TheVariants.{AllOne, SomeZero, Usage, SomeGivenUp, Refused, Limited, ReadFault, WriteFault, NoMemory}

-- nothing was given up
abbrev pub prints : List ℕ → Output
prints bytes = record { printed = bytes; journal = [] }

-- ---- what is written

-- all of what is said was written
abbrev pub WritesAll : (Output → Type 0) → Sinks → Sinks → Type 0
WritesAll Said old new = (output : Output) × Said output × Appends old.out new.out output.printed × Appends old.journal new.journal output.journal

-- a front of what may be said was written to each sink
abbrev pub WritesFront : (Output → Type 0) → Sinks → Sinks → Type 0
WritesFront Said old new = (output : Output) × Said output × AppendsFront old.out new.out output.printed × AppendsFront old.journal new.journal output.journal

-- nothing was written
abbrev pub WritesNothing : Sinks → Sinks → Type 0
WritesNothing old new = Keeps old.out new.out × Keeps old.journal new.journal

-- what was written, by the status: all that is said with it, or with a fault a front of what may be said
abbrev pub Writing : (Status → Output → Type 0) → (Output → Type 0) → Status → Sinks → Sinks → Type 0
Writing Said May AllOne old new = WritesAll (Said AllOne) old new
Writing Said May SomeZero old new = WritesAll (Said SomeZero) old new
Writing Said May Usage old new = WritesAll (Said Usage) old new
Writing Said May SomeGivenUp old new = WritesAll (Said SomeGivenUp) old new
Writing Said May Refused old new = WritesAll (Said Refused) old new
Writing Said May Limited old new = WritesAll (Said Limited) old new
Writing Said May ReadFault old new = WritesNothing old new
Writing Said May WriteFault old new = WritesFront May old new
Writing Said May NoMemory old new = WritesNothing old new ⊎ WritesFront May old new

-- ---- how far the text was read

-- How far a source was read: to its end, or one byte past the limit; and no further where it failed or memory was wanting.
abbrev pub HasRead : ℕ → Status → Option (List ℕ) → Option (List ℕ) → Type 0
HasRead limit AllOne old new = IsAtEnd new
HasRead limit SomeZero old new = IsAtEnd new
HasRead limit SomeGivenUp old new = IsAtEnd new
HasRead limit Limited old new = IsAtEnd new
HasRead limit Refused old new = IsAtEnd new ⊎ Takes old new (limit + 1)
HasRead limit Usage old new = Keeps old new
HasRead limit ReadFault old new = TakesUpTo old new limit
HasRead limit WriteFault old new = IsAtEnd new ⊎ Takes old new (limit + 1)
HasRead limit NoMemory old new = TakesUpTo old new (limit + 1)

-- a text that is within the limit was read to its end, and of a longer one, one byte past the limit
abbrev pub IsReadTo : ℕ → List ℕ → Option (List ℕ) → Option (List ℕ) → Type 0
IsReadTo limit text old new =
    ((length text ≤ limit) × IsAtEnd new) ⊎ ((limit < length text) × Takes old new (limit + 1))

-- how far a text was read that a source tells: where it was refused, or a sink failed, by its length
abbrev pub HasReadText : ℕ → List ℕ → Status → Option (List ℕ) → Option (List ℕ) → Type 0
HasReadText limit text Refused old new = IsReadTo limit text old new
HasReadText limit text WriteFault old new = IsReadTo limit text old new
HasReadText limit text status old new = HasRead limit status old new

-- what words that are no command end with
abbrev pub EndsUnread : Status → Type 0
EndsUnread status = (status ≡ Usage) ⊎ ((status ≡ WriteFault) ⊎ (status ≡ NoMemory))
