-- What is answered to the text of a script.
use Rattle.std.proofs.Common.{◌≡◌, ◌≤◌, ◌<◌, ◌⊎◌, ℕ, ◌+◌, List, length, Option, IfSome, sym, ◌∙◌, refl, subst, inl, inr, arith}
use Rattle.std.specs.Prelude.{⊤}
use Rattle.std.specs.Io.KnownBytes.{Appends, Consumes, IsAtEnd, Keeps}
use Rattle.std.proofs.KnownBytes.{Keeps-refl}
use Rattle.svr_edge.specs.Known.{AppendsFront, Takes}
use Rattle.svr_edge.specs.Causes.{Rose}
use Rattle.svr_limits.specs.declared.limit.TheConstants.{TEXT_LIMIT}
use Rattle.svr_refusal.specs.declared.refusal.Refusal.TheVariants as refusal
use Rattle.svr_run.specs.Telling.{Sinks}
use Rattle.svr_words.specs.declared.request.Run.{Run}
use Rattle.svr_refused.specs.Texts.{IsRefused}
use Rattle.svr_status.specs.Lines.{refused_at, nowhere}
use Rattle.svr_status.specs.Writing.{Writing}
use Rattle.svr_status.specs.declared.status.Status.{Status}
use Rattle.svr_status.specs.declared.status.Status.TheVariants.{Usage, Refused, WriteFault, NoMemory}
use Rattle.svr_status.proofs.Statuses.{fault_no_read, memory_no_read, memory_no_write, refused_no_read, refused_no_write}
use Rattle.svr_status.proofs.Told.{if_told, read_all, read_some}
use Rattle.svr_status.proofs.Written.{refusal_is_written}
use Rattle.svr_answer.specs.Answers.{too_long, refused, Answers, MayTell}
use Rattle.svr_answer.specs.Parts.{Answered}

-- the line of a refusal is the answer to a text
pub refusal_answers : (asked : Run) (text line : List ℕ) (result : Status) (old new journal : Option (List ℕ)) (was now logged : ℕ)
    → length text ≤ TEXT_LIMIT → IsRefused text line
    → ((result ≡ Refused) × Appends old new line) ⊎ ((result ≡ WriteFault) × AppendsFront old new line × Rose was now) → was ≤ now
    → Answered asked text result (record { out = old; journal = journal; out_faults = was; journal_faults = logged }) (record { out = new; journal = journal; out_faults = now; journal_faults = logged })
refusal_answers asked text line result old new journal was now logged small why (inl (e, all)) later = record {
  writing = refusal_is_written (Answers asked text) (MayTell asked text) line result old new journal was now logged ⊤ (refused line small why refl) (inl (Refused, refused line small why refl)) (inl (e, all));
  was_read = λ f. refused_no_read (sym e ∙ f);
  cause = λ f. absurd (refused_no_write (sym e ∙ f));
  out_later = later;
  journal_later = omega arith;
}
refusal_answers asked text line result old new journal was now logged small why (inr (e, front, rose)) later = record {
  writing = refusal_is_written (Answers asked text) (MayTell asked text) line result old new journal was now logged (Rose was now) (refused line small why refl) (inl (Refused, refused line small why refl)) (inr (inl (e, front, rose)));
  was_read = λ f. fault_no_read (sym e ∙ f);
  cause = λ f. inl rose;
  out_later = later;
  journal_later = omega arith;
}

-- nothing was answered for want of memory
pub nothing_answers : (asked : Run) (text : List ℕ) (now : Sinks) → Answered asked text NoMemory now now
nothing_answers asked text now = record {
  writing = inl (Keeps-refl now.out, Keeps-refl now.journal);
  was_read = memory_no_read;
  cause = λ f. absurd (memory_no_write f);
  out_later = omega arith;
  journal_later = omega arith;
}

-- it is no usage error
pub answer_no_usage : (asked : Run) (text : List ℕ) (status : Status) (now later : Sinks) → Answered asked text status now later → status ≡ Usage → ⊥
answer_no_usage asked text status now later answered e = (subst (λ s. Answered asked text s now later) e answered).writing.1

-- ---- over a source that tells its text

-- one byte past the limit was taken
pub long_told : (o left : Option (List ℕ)) (asked : Run) (result : Status) (old new journal : Option (List ℕ)) (was now logged : ℕ) (R : Type 0)
    → Takes o left (TEXT_LIMIT + 1)
    → ((result ≡ Refused) × Appends old new (refused_at nowhere refusal.TooLong)) ⊎ (((result ≡ WriteFault) × AppendsFront old new (refused_at nowhere refusal.TooLong) × R) ⊎ ((result ≡ NoMemory) × Keeps old new))
    → IfSome o (λ text. Writing (Answers asked text) (MayTell asked text) result (record { out = old; journal = journal; out_faults = was; journal_faults = logged }) (record { out = new; journal = journal; out_faults = now; journal_faults = logged }))
long_told o left asked result old new journal was now logged R taken ends =
    if_told o (λ text. Writing (Answers asked text) (MayTell asked text) result (record { out = old; journal = journal; out_faults = was; journal_faults = logged }) (record { out = new; journal = journal; out_faults = now; journal_faults = logged }))
    (λ text told.
    let long : TEXT_LIMIT + 1 ≤ length text = read_some o left text (TEXT_LIMIT + 1) told taken in
    let more : TEXT_LIMIT < length text = omega arith in
    refusal_is_written (Answers asked text) (MayTell asked text) (refused_at nowhere refusal.TooLong) result old new journal was now logged R (too_long more refl) (inl (Refused, too_long more refl)) ends)

-- the text was read to its end
pub answer_told : (o left : Option (List ℕ)) (asked : Run) (all seen : List ℕ) (result : Status) (old new : Sinks)
    → Consumes o left all → IsAtEnd left → seen ≡ all → Answered asked seen result old new → IfSome o (λ text. Writing (Answers asked text) (MayTell asked text) result old new)
answer_told o left asked all seen result old new taken end is answered =
    if_told o (λ text. Writing (Answers asked text) (MayTell asked text) result old new) (λ text told.
    let same : text ≡ all = read_all o left text all told taken end in
    subst (λ (t : List ℕ). Writing (Answers asked t) (MayTell asked t) result old new) (sym (same ∙ sym is)) answered.writing)
