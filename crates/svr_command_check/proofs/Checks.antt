-- What a check answers.
use Rattle.std.proofs.Common.{◌≡◌, ◌≤◌, ◌<◌, ◌⊎◌, ℕ, ◌+◌, List, length, Option, IfSome, refl, sym, ◌∙◌, subst, inl, inr, arith}
use Rattle.std.specs.Prelude.{⊤}
use Rattle.std.specs.Io.KnownBytes.{Appends, Consumes, IsAtEnd, Keeps}
use Rattle.std.proofs.KnownBytes.{Appends-nil, Keeps-refl}
use Rattle.svr_edge.specs.Known.{AppendsFront, Takes}
use Rattle.svr_edge.specs.Causes.{Rose}
use Rattle.svr_lrat_text.specs.declared.limits.TheConstants.{MOST_TEXT}
use Rattle.svr_lrat_judge.specs.declared.verdict.LratVerdict.TheVariants as says
use Rattle.svr_check.specs.declared.check.Checked.{Checked}
use Rattle.svr_check.specs.declared.check.Checked.TheVariants as checked
use Rattle.svr_check.specs.Checked.{IsChecked}
use Rattle.svr_refusal.specs.declared.refusal.Refusal.TheVariants as refusal
use Rattle.svr_run.specs.Telling.{sinks}
use Rattle.svr_status.specs.Lines.{refused_at, nowhere}
use Rattle.svr_status.specs.Writing.{prints, Writing}
use Rattle.svr_status.specs.declared.status.Status.{Status}
use Rattle.svr_status.specs.declared.status.Status.TheVariants.{AllOne, SomeZero, Usage, SomeGivenUp, Refused, Limited, ReadFault, WriteFault, NoMemory}
use Rattle.svr_status.proofs.Statuses.{fault_no_usage, fault_no_read, memory_no_usage, memory_no_read, memory_no_write}
use Rattle.svr_status.proofs.Told.{if_told, read_all, read_some}
use Rattle.svr_status.proofs.Written.{refusal_is_written}
use Rattle.svr_command_check.specs.Answers.{too_long_to_check, no_file, CheckAnswers, CheckMayTell}
use Rattle.svr_command_check.specs.Parts.{checked_line, checked_status, TellsChecked, Checks}

-- ---- what is said of a text

-- it is what a check answers
said_answers : (text : List ℕ) (said : Checked) → length text ≤ MOST_TEXT → IsChecked text said → CheckAnswers text (checked_status said) (prints (checked_line said))
said_answers text (checked.Judged says.Accepted) small is = (small, is, refl)
said_answers text (checked.Judged (says.Rejected id why)) small is = (id, why, (small, is, refl))
said_answers text (checked.Refused number place) small is = no_file number place small is refl

-- once it is told, the check ends with one of these
abbrev IsTold : Status → Type 0
IsTold AllOne = ⊤
IsTold SomeZero = ⊤
IsTold Refused = ⊤
IsTold Usage = ⊥
IsTold SomeGivenUp = ⊥
IsTold Limited = ⊥
IsTold ReadFault = ⊥
IsTold WriteFault = ⊥
IsTold NoMemory = ⊥

is_told : (said : Checked) → IsTold (checked_status said)
is_told (checked.Judged says.Accepted) = tt
is_told (checked.Judged (says.Rejected id why)) = tt
is_told (checked.Refused number place) = tt

pub checks_no_usage : (text : List ℕ) (status : Status) (old new : Option (List ℕ)) (was now : ℕ) → Checks text status old was new now → status ≡ Usage → ⊥
checks_no_usage text status old new was now (inl (said, is, inl (e, all))) f = subst IsTold (sym e ∙ f) (is_told said)
checks_no_usage text status old new was now (inl (said, is, inr (inl (e, front, rose)))) f = fault_no_usage (sym e ∙ f)
checks_no_usage text status old new was now (inl (said, is, inr (inr (e, kept)))) f = memory_no_usage (sym e ∙ f)
checks_no_usage text status old new was now (inr (e, kept)) f = memory_no_usage (sym e ∙ f)

pub checks_no_read_fault : (text : List ℕ) (status : Status) (old new : Option (List ℕ)) (was now : ℕ) → Checks text status old was new now → status ≡ ReadFault → ⊥
checks_no_read_fault text status old new was now (inl (said, is, inl (e, all))) f = subst IsTold (sym e ∙ f) (is_told said)
checks_no_read_fault text status old new was now (inl (said, is, inr (inl (e, front, rose)))) f = fault_no_read (sym e ∙ f)
checks_no_read_fault text status old new was now (inl (said, is, inr (inr (e, kept)))) f = memory_no_read (sym e ∙ f)
checks_no_read_fault text status old new was now (inr (e, kept)) f = memory_no_read (sym e ∙ f)

pub checks_cause : (text : List ℕ) (status : Status) (old new : Option (List ℕ)) (was now : ℕ) → Checks text status old was new now → status ≡ WriteFault → Rose was now
checks_cause text status old new was now (inl (said, is, inl (e, all))) f = absurd (subst IsTold (sym e ∙ f) (is_told said))
checks_cause text status old new was now (inl (said, is, inr (inl (e, front, rose)))) f = rose
checks_cause text status old new was now (inl (said, is, inr (inr (e, kept)))) f = absurd (memory_no_write (sym e ∙ f))
checks_cause text status old new was now (inr (e, kept)) f = absurd (memory_no_write (sym e ∙ f))

-- ---- its line

pub line_told : (said : Checked) (status result : Status) (line : List ℕ) (old new : Option (List ℕ)) (was now : ℕ) → status ≡ checked_status said → line ≡ checked_line said
    → ((result ≡ status) × Appends old new line) ⊎ ((result ≡ WriteFault) × AppendsFront old new line × Rose was now) → TellsChecked said result old was new now
line_told said status result line old new was now is text (inl (e, all)) = inl (e ∙ is, subst (λ (t : List ℕ). Appends old new t) text all)
line_told said status result line old new was now is text (inr (e, front, rose)) = inr (inl (e, subst (λ (t : List ℕ). AppendsFront old new t) text front, rose))

pub no_line_told : (said : Checked) (out : Option (List ℕ)) (faults : ℕ) → TellsChecked said NoMemory out faults out faults
no_line_told said out faults = inr (inr (refl, Keeps-refl out))

-- ---- what is written

-- its line was printed
line_is_written : (text : List ℕ) (said : Checked) (old new journal : Option (List ℕ)) (was now n : ℕ)
    → CheckAnswers text (checked_status said) (prints (checked_line said)) → Appends old new (checked_line said)
    → Writing (CheckAnswers text) (CheckMayTell text) (checked_status said) (sinks old was journal n) (sinks new now journal n)
line_is_written text (checked.Judged says.Accepted) old new journal was now n answer all = (prints (checked_line (checked.Judged says.Accepted)), answer, all, Appends-nil journal)
line_is_written text (checked.Judged (says.Rejected id why)) old new journal was now n answer all = (prints (checked_line (checked.Judged (says.Rejected id why))), answer, all, Appends-nil journal)
line_is_written text (checked.Refused number place) old new journal was now n answer all = (prints (checked_line (checked.Refused number place)), answer, all, Appends-nil journal)

checks_are_written : (text : List ℕ) (status : Status) (old new journal : Option (List ℕ)) (was now n : ℕ) → length text ≤ MOST_TEXT → Checks text status old was new now
    → Writing (CheckAnswers text) (CheckMayTell text) status (sinks old was journal n) (sinks new now journal n)
checks_are_written text status old new journal was now n small (inl (said, is, inl (e, all))) =
    subst (λ (s : Status). Writing (CheckAnswers text) (CheckMayTell text) s (sinks old was journal n) (sinks new now journal n)) (sym e)
    (line_is_written text said old new journal was now n (said_answers text said small is) all)
checks_are_written text status old new journal was now n small (inl (said, is, inr (inl (e, front, rose)))) =
    subst (λ (s : Status). Writing (CheckAnswers text) (CheckMayTell text) s (sinks old was journal n) (sinks new now journal n)) (sym e)
    (prints (checked_line said), (checked_status said, said_answers text said small is), front, (0, Appends-nil journal))
checks_are_written text status old new journal was now n small (inl (said, is, inr (inr (e, kept)))) =
    subst (λ (s : Status). Writing (CheckAnswers text) (CheckMayTell text) s (sinks old was journal n) (sinks new now journal n)) (sym e)
    (inl (kept, Keeps-refl journal))
checks_are_written text status old new journal was now n small (inr (e, kept)) =
    subst (λ (s : Status). Writing (CheckAnswers text) (CheckMayTell text) s (sinks old was journal n) (sinks new now journal n)) (sym e)
    (inl (kept, Keeps-refl journal))

-- the text was read to its end
pub checks_told : (o left : Option (List ℕ)) (all seen : List ℕ) (status : Status) (old new journal : Option (List ℕ)) (was now n : ℕ)
    → Consumes o left all → IsAtEnd left → seen ≡ all → length all ≤ MOST_TEXT → Checks seen status old was new now
    → IfSome o (λ text. Writing (CheckAnswers text) (CheckMayTell text) status (sinks old was journal n) (sinks new now journal n))
checks_told o left all seen status old new journal was now n taken end is small checks =
    if_told o (λ text. Writing (CheckAnswers text) (CheckMayTell text) status (sinks old was journal n) (sinks new now journal n)) (λ text told.
    let same : text ≡ all = read_all o left text all told taken end in
    let fits : length seen ≤ MOST_TEXT = subst (λ (t : List ℕ). length t ≤ MOST_TEXT) (sym is) small in
    subst (λ (t : List ℕ). Writing (CheckAnswers t) (CheckMayTell t) status (sinks old was journal n) (sinks new now journal n)) (sym (same ∙ sym is))
    (checks_are_written seen status old new journal was now n fits checks))

-- one byte past the limit was taken
pub long_told : (o left : Option (List ℕ)) (status : Status) (old new journal : Option (List ℕ)) (was now n : ℕ) (R : Type 0) → Takes o left (MOST_TEXT + 1)
    → ((status ≡ Refused) × Appends old new (refused_at nowhere refusal.TooLong)) ⊎ (((status ≡ WriteFault) × AppendsFront old new (refused_at nowhere refusal.TooLong) × R) ⊎ ((status ≡ NoMemory) × Keeps old new))
    → IfSome o (λ text. Writing (CheckAnswers text) (CheckMayTell text) status (sinks old was journal n) (sinks new now journal n))
long_told o left status old new journal was now n R taken ends =
    if_told o (λ text. Writing (CheckAnswers text) (CheckMayTell text) status (sinks old was journal n) (sinks new now journal n)) (λ text told.
    let long : MOST_TEXT + 1 ≤ length text = read_some o left text (MOST_TEXT + 1) told taken in
    let more : MOST_TEXT < length text = omega arith in
    refusal_is_written (CheckAnswers text) (CheckMayTell text) (refused_at nowhere refusal.TooLong) status old new journal was now n R (too_long_to_check more refl) (Refused, too_long_to_check more refl) ends)

-- the source failed, or there was no memory for its text
pub nothing_told : (o : Option (List ℕ)) (old journal : Option (List ℕ)) (was n : ℕ)
    → IfSome o (λ text. Writing (CheckAnswers text) (CheckMayTell text) NoMemory (sinks old was journal n) (sinks old was journal n))
nothing_told o old journal was n =
    if_told o (λ text. Writing (CheckAnswers text) (CheckMayTell text) NoMemory (sinks old was journal n) (sinks old was journal n)) (λ text told. inl (Keeps-refl old, Keeps-refl journal))

pub fault_told : (o : Option (List ℕ)) (old journal : Option (List ℕ)) (was n : ℕ)
    → IfSome o (λ text. Writing (CheckAnswers text) (CheckMayTell text) ReadFault (sinks old was journal n) (sinks old was journal n))
fault_told o old journal was n =
    if_told o (λ text. Writing (CheckAnswers text) (CheckMayTell text) ReadFault (sinks old was journal n) (sinks old was journal n)) (λ text told. (Keeps-refl old, Keeps-refl journal))
