-- What the command `seq` has written.
use Rattle.std.proofs.Common.{◌≡◌, ◌≤◌, ◌<◌, ◌⊎◌, ℕ, ◌+◌, Bool, true, false, List, [], length, take, Option, IfSome, refl, sym, ◌∙◌, subst, inl, inr, arith}
use Rattle.std.specs.Io.KnownBytes.{Appends, Consumes, IsAtEnd, Keeps}
use Rattle.std.proofs.KnownBytes.{Appends-nil, Appends-trans, Appends-kept, Keeps-refl}
use Rattle.svr_edge.specs.Known.{AppendsFront, Takes}
use Rattle.svr_edge.specs.Causes.{Rose}
use Rattle.svr_limits.specs.declared.limit.TheConstants.{TEXT_LIMIT}
use Rattle.svr_refusal.specs.declared.place.Place.{Place}
use Rattle.svr_refusal.specs.declared.refusal.Refusal.TheVariants as refusal
use Rattle.svr_run.specs.Telling.{sinks}
use Rattle.svr_seq_lines.specs.declared.end.End.TheVariants as end
use Rattle.svr_seq_lines.specs.declared.end.Stop.TheVariants as stop
use Rattle.svr_seq_lines.specs.Said.{HasLines, IsRefused, Tells, Stops}
use Rattle.svr_status.specs.Lines.{refused_as, refused_at, nowhere}
use Rattle.svr_status.specs.Writing.{prints, Writing}
use Rattle.svr_status.specs.declared.status.Status.{Status}
use Rattle.svr_status.specs.declared.status.Status.TheVariants.{AllOne, Refused, Limited, ReadFault, WriteFault, NoMemory}
use Rattle.svr_status.proofs.Statuses.{refused_no_read, refused_no_write, fault_no_read, memory_no_read, memory_no_write}
use Rattle.svr_status.proofs.Told.{if_told, read_all, read_some}
use Rattle.svr_status.proofs.Written.{refusal_is_written}
use Rattle.svr_command_seq.specs.Answers.{too_long_to_produce, no_sequence, SeqAnswers, SeqMayTell}

module _ (seed count : ℕ) (text : List ℕ) (small : length text ≤ TEXT_LIMIT) where
  -- lines are what the command may tell
  told_so : (limited : Bool) (lines : List ℕ) → HasLines text seed count limited lines → SeqMayTell seed count text (prints lines)
  told_so false lines has = (AllOne, (small, lines, has, refl))
  told_so true lines has = (Limited, (small, lines, has, refl))

  -- all lines were written
  pub whole_written : (old new journal : Option (List ℕ)) (was now n : ℕ) → Tells text seed count end.Whole old new
      → Writing (SeqAnswers seed count text) (SeqMayTell seed count text) AllOne (sinks old was journal n) (sinks new now journal n)
  whole_written old new journal was now n (lines, has, written) = (prints lines, (small, lines, has, refl), written, Appends-nil journal)

  -- those up to one that needs too many units
  pub limited_written : (old new journal : Option (List ℕ)) (was now n : ℕ) → Tells text seed count end.Limited old new
      → Writing (SeqAnswers seed count text) (SeqMayTell seed count text) Limited (sinks old was journal n) (sinks new now journal n)
  limited_written old new journal was now n (lines, has, written) = (prints lines, (small, lines, has, refl), written, Appends-nil journal)

  -- a front of them
  pub memory_written : (old new journal : Option (List ℕ)) (was now n : ℕ) → Stops text seed count stop.NoMemory old was new now
      → Writing (SeqAnswers seed count text) (SeqMayTell seed count text) NoMemory (sinks old was journal n) (sinks new now journal n)
  memory_written old new journal was now n (inl kept) = inl (kept, Keeps-refl journal)
  memory_written old new journal was now n (inr (limited, lines, has, front)) = inr (prints lines, told_so limited lines has, front, (0, Appends-nil journal))

  pub fault_written : (old new journal : Option (List ℕ)) (was now n : ℕ) → Stops text seed count stop.WriteFault old was new now
      → Writing (SeqAnswers seed count text) (SeqMayTell seed count text) WriteFault (sinks old was journal n) (sinks new now journal n)
  fault_written old new journal was now n ((limited, lines, has, front), rose) = (prints lines, told_so limited lines has, front, (0, Appends-nil journal))

  -- ---- a refusal

  module _ (number : ℕ) (place : Place) (old middle new journal : Option (List ℕ)) (was now n : ℕ) (R : Type 0) where
    -- nothing was written before its line
    none_before : Tells text seed count (end.Refused number place) old middle → Appends old middle []
    none_before (lines, (why, none), written) = subst (λ (t : List ℕ). Appends old middle t) none written

    why_refused : Tells text seed count (end.Refused number place) old middle → IsRefused text number place
    why_refused (lines, (why, none), written) = why

    pub refusal_written : (result : Status) → Tells text seed count (end.Refused number place) old middle
        → ((result ≡ Refused) × Appends middle new (refused_as place number)) ⊎ (((result ≡ WriteFault) × AppendsFront middle new (refused_as place number) × R) ⊎ ((result ≡ NoMemory) × Keeps middle new))
        → Writing (SeqAnswers seed count text) (SeqMayTell seed count text) result (sinks old was journal n) (sinks new now journal n)
    refusal_written result told (inl (is, all)) =
        subst (λ (s : Status). Writing (SeqAnswers seed count text) (SeqMayTell seed count text) s (sinks old was journal n) (sinks new now journal n)) (sym is)
        (prints (refused_as place number), no_sequence number place small (why_refused told) refl, Appends-trans old middle new [] (refused_as place number) (none_before told) all, Appends-nil journal)
    refusal_written result told (inr (inl (is, (count_of, front), rose))) =
        subst (λ (s : Status). Writing (SeqAnswers seed count text) (SeqMayTell seed count text) s (sinks old was journal n) (sinks new now journal n)) (sym is)
        (prints (refused_as place number), (Refused, no_sequence number place small (why_refused told) refl), (count_of, Appends-trans old middle new [] (take count_of (refused_as place number)) (none_before told) front), (0, Appends-nil journal))
    refusal_written result told (inr (inr (is, kept))) =
        subst (λ (s : Status). Writing (SeqAnswers seed count text) (SeqMayTell seed count text) s (sinks old was journal n) (sinks new now journal n)) (sym is)
        (inr (prints (refused_as place number), (Refused, no_sequence number place small (why_refused told) refl), (0, Appends-kept old middle new [] (none_before told) kept), (0, Appends-nil journal)))

-- a refusal is told for no fault of the source, and with a fault of the sink only where it failed
pub refusal_no_read : (result : Status) (A F R N : Type 0) → ((result ≡ Refused) × A) ⊎ (((result ≡ WriteFault) × F × R) ⊎ ((result ≡ NoMemory) × N)) → result ≡ ReadFault → ⊥
refusal_no_read result A F R N (inl (is, all)) e = refused_no_read (sym is ∙ e)
refusal_no_read result A F R N (inr (inl (is, front, rose))) e = fault_no_read (sym is ∙ e)
refusal_no_read result A F R N (inr (inr (is, kept))) e = memory_no_read (sym is ∙ e)

pub refusal_cause : (result : Status) (A F R N : Type 0) → ((result ≡ Refused) × A) ⊎ (((result ≡ WriteFault) × F × R) ⊎ ((result ≡ NoMemory) × N)) → result ≡ WriteFault → R
refusal_cause result A F R N (inl (is, all)) e = absurd (refused_no_write (sym is ∙ e))
refusal_cause result A F R N (inr (inl (is, front, rose))) e = rose
refusal_cause result A F R N (inr (inr (is, kept))) e = absurd (memory_no_write (sym is ∙ e))

-- the same from where nothing had failed yet
pub rose_since : (was middle now : ℕ) → middle ≡ was → Rose middle now → Rose was now
rose_since was middle now is rose = subst (λ (m : ℕ). Rose m now) is rose

pub later_since : (was middle now : ℕ) → middle ≡ was → middle ≤ now → was ≤ now
later_since was middle now is later = subst (λ (m : ℕ). m ≤ now) is later

-- ---- over a source

-- the text was read to its end
pub lines_told : (seed count : ℕ) (o left : Option (List ℕ)) (all seen : List ℕ) (status : Status) (old new journal : Option (List ℕ)) (was now n : ℕ)
    → Consumes o left all → IsAtEnd left → seen ≡ all
    → Writing (SeqAnswers seed count seen) (SeqMayTell seed count seen) status (sinks old was journal n) (sinks new now journal n)
    → IfSome o (λ text. Writing (SeqAnswers seed count text) (SeqMayTell seed count text) status (sinks old was journal n) (sinks new now journal n))
lines_told seed count o left all seen status old new journal was now n taken end is writing =
    if_told o (λ text. Writing (SeqAnswers seed count text) (SeqMayTell seed count text) status (sinks old was journal n) (sinks new now journal n)) (λ text told.
    subst (λ (t : List ℕ). Writing (SeqAnswers seed count t) (SeqMayTell seed count t) status (sinks old was journal n) (sinks new now journal n)) (is ∙ sym (read_all o left text all told taken end)) writing)

-- one byte past the limit was taken
pub long_told : (seed count : ℕ) (o left : Option (List ℕ)) (status : Status) (old new journal : Option (List ℕ)) (was now n : ℕ) (R : Type 0) → Takes o left (TEXT_LIMIT + 1)
    → ((status ≡ Refused) × Appends old new (refused_at nowhere refusal.TooLong)) ⊎ (((status ≡ WriteFault) × AppendsFront old new (refused_at nowhere refusal.TooLong) × R) ⊎ ((status ≡ NoMemory) × Keeps old new))
    → IfSome o (λ text. Writing (SeqAnswers seed count text) (SeqMayTell seed count text) status (sinks old was journal n) (sinks new now journal n))
long_told seed count o left status old new journal was now n R taken ends =
    if_told o (λ text. Writing (SeqAnswers seed count text) (SeqMayTell seed count text) status (sinks old was journal n) (sinks new now journal n)) (λ text told.
    let long : TEXT_LIMIT + 1 ≤ length text = read_some o left text (TEXT_LIMIT + 1) told taken in
    let more : TEXT_LIMIT < length text = omega arith in
    refusal_is_written (SeqAnswers seed count text) (SeqMayTell seed count text) (refused_at nowhere refusal.TooLong) status old new journal was now n R (too_long_to_produce more refl) (Refused, too_long_to_produce more refl) ends)

-- the source failed, or there was no memory for its text
pub nothing_told : (seed count : ℕ) (o old journal : Option (List ℕ)) (was n : ℕ)
    → IfSome o (λ text. Writing (SeqAnswers seed count text) (SeqMayTell seed count text) NoMemory (sinks old was journal n) (sinks old was journal n))
nothing_told seed count o old journal was n =
    if_told o (λ text. Writing (SeqAnswers seed count text) (SeqMayTell seed count text) NoMemory (sinks old was journal n) (sinks old was journal n)) (λ text told. inl (Keeps-refl old, Keeps-refl journal))

pub fault_told : (seed count : ℕ) (o old journal : Option (List ℕ)) (was n : ℕ)
    → IfSome o (λ text. Writing (SeqAnswers seed count text) (SeqMayTell seed count text) ReadFault (sinks old was journal n) (sinks old was journal n))
fault_told seed count o old journal was n =
    if_told o (λ text. Writing (SeqAnswers seed count text) (SeqMayTell seed count text) ReadFault (sinks old was journal n) (sinks old was journal n)) (λ text told. (Keeps-refl old, Keeps-refl journal))
