-- What is answered to the text that a source has.
use Rattle.std.proofs.Common.{◌≡◌, ◌≤◌, ◌<◌, ◌⊎◌, ℕ, ◌+◌, List, length, Option, IfSome, refl, sym, ◌∙◌, subst, inl, arith}
use Rattle.std.specs.Io.KnownBytes.{Appends, Consumes, IsAtEnd, Keeps}
use Rattle.std.proofs.KnownBytes.{Keeps-refl}
use Rattle.svr_edge.specs.Known.{AppendsFront, Takes}
use Rattle.svr_limits.specs.declared.limit.TheConstants.{TEXT_LIMIT}
use Rattle.svr_phase.specs.declared.options.Options.{Options}
use Rattle.svr_refusal.specs.declared.refusal.Refusal.TheVariants as refusal
use Rattle.svr_run.specs.Telling.{Sinks, sinks}
use Rattle.svr_status.specs.Lines.{refused_at, nowhere}
use Rattle.svr_status.specs.Writing.{Writing}
use Rattle.svr_status.specs.declared.status.Status.{Status}
use Rattle.svr_status.specs.declared.status.Status.TheVariants.{Refused, ReadFault, WriteFault, NoMemory}
use Rattle.svr_status.proofs.Told.{if_told, read_all, read_some}
use Rattle.svr_status.proofs.Written.{refusal_is_written}
use Rattle.svr_command_cover.specs.Answers.{too_long_to_cover, CoverAnswers, CoverMayTell}
use Rattle.svr_command_cover.specs.Parts.{Answered}

module _ (opts : Options) where
  -- one byte past the limit was taken
  pub long_told : (o left : Option (List ℕ)) (result : Status) (old new journal : Option (List ℕ)) (was now logged : ℕ) (R : Type 0) → Takes o left (TEXT_LIMIT + 1)
      → ((result ≡ Refused) × Appends old new (refused_at nowhere refusal.TooLong)) ⊎ (((result ≡ WriteFault) × AppendsFront old new (refused_at nowhere refusal.TooLong) × R) ⊎ ((result ≡ NoMemory) × Keeps old new))
      → IfSome o (λ text. Writing (CoverAnswers opts text) (CoverMayTell opts text) result (sinks old was journal logged) (sinks new now journal logged))
  long_told o left result old new journal was now logged R taken ends =
      if_told o (λ text. Writing (CoverAnswers opts text) (CoverMayTell opts text) result (sinks old was journal logged) (sinks new now journal logged))
      (λ text told.
      let long : TEXT_LIMIT + 1 ≤ length text = read_some o left text (TEXT_LIMIT + 1) told taken in
      let more : TEXT_LIMIT < length text = omega arith in
      refusal_is_written (CoverAnswers opts text) (CoverMayTell opts text) (refused_at nowhere refusal.TooLong) result old new journal was now logged R (too_long_to_cover more refl) (inl (Refused, too_long_to_cover more refl)) ends)

  -- the text was read to its end
  pub answer_told : (o left : Option (List ℕ)) (all seen : List ℕ) (result : Status) (old new : Sinks)
      → Consumes o left all → IsAtEnd left → seen ≡ all → Answered opts seen result old new → IfSome o (λ text. Writing (CoverAnswers opts text) (CoverMayTell opts text) result old new)
  answer_told o left all seen result old new taken end is answered =
      if_told o (λ text. Writing (CoverAnswers opts text) (CoverMayTell opts text) result old new) (λ text told.
      let same : text ≡ all = read_all o left text all told taken end in
      subst (λ (t : List ℕ). Writing (CoverAnswers opts t) (CoverMayTell opts t) result old new) (sym (same ∙ sym is)) answered.writing)

  -- the source failed, or there was no memory for its text
  pub fault_told : (o : Option (List ℕ)) (now : Sinks) → IfSome o (λ text. Writing (CoverAnswers opts text) (CoverMayTell opts text) ReadFault now now)
  fault_told o now = if_told o (λ text. Writing (CoverAnswers opts text) (CoverMayTell opts text) ReadFault now now) (λ text told. (Keeps-refl now.out, Keeps-refl now.journal))

  pub nothing_told : (o : Option (List ℕ)) (now : Sinks) → IfSome o (λ text. Writing (CoverAnswers opts text) (CoverMayTell opts text) NoMemory now now)
  nothing_told o now = if_told o (λ text. Writing (CoverAnswers opts text) (CoverMayTell opts text) NoMemory now now) (λ text told. inl (Keeps-refl now.out, Keeps-refl now.journal))
