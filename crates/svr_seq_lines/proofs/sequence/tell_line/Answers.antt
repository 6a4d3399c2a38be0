use Rattle.std.proofs.Common.{◌∙◌, ap, subst}
use Rattle.svr_seq.specs.declared.line.SeqEnd.{SeqEnd}
use Rattle.svr_edge.specs.Known.{AppendsFront}
use Rattle.std.specs.Io.KnownBytes.{Appends}
use Rattle.svr_seq_lines.specs.Lines.{is_limit, line_text}
use Rattle.svr_seq_lines.specs.Sequence.{sequence_term}
use Rattle.svr_seq_lines.proofs.Going.{front_of_none}
use Rattle.svr_seq_lines.proofs.Telling.{on_err, failed_as, same_cause}
use Rattle.svr_seq_lines.proofs.sequence.tell_line.Goals as goal

-- no line was made
pub returns-in_err-end-clause-front : goal.returns-in_err-end-clause-front
returns-in_err-end-clause-front g c = on_err c.from_residual.result _ (front_of_none _ _)

pub returns-in_err-end-clause-cause : goal.returns-in_err-end-clause-cause
returns-in_err-end-clause-cause g c = failed_as c.from_residual.result _ _ c.from_residual.ensures.1 (λ why is. same_cause why _ _ _ is tt)

-- it was not written
pub returns-in_err-print-clause-front : goal.returns-in_err-print-clause-front
returns-in_err-print-clause-front g c =
    on_err c.from_residual-in_err-print.result _
    (subst (λ (end : SeqEnd). AppendsFront (g.K.Sink.written c.args.out.now) (g.K.Sink.written c.print.new.out) (line_text (sequence_term c.args.sequence.now).name c.args.number end)) c.in_ok-end.ensures c.in_err-print.ensures.front)

pub returns-in_err-print-clause-cause : goal.returns-in_err-print-clause-cause
returns-in_err-print-clause-cause g c =
    failed_as c.from_residual-in_err-print.result _ _ c.from_residual-in_err-print.ensures.1 (λ why is. same_cause why _ _ _ is c.in_err-print.ensures.cause.failed)

-- it was
pub returns-clause-long : goal.returns-clause-long
returns-clause-long g c = c.is_limit-long.ensures ∙ ap is_limit c.in_ok-end.ensures

pub returns-clause-whole : goal.returns-clause-whole
returns-clause-whole g c =
    subst (λ (end : SeqEnd). Appends (g.K.Sink.written c.args.out.now) (g.K.Sink.written c.print.new.out) (line_text (sequence_term c.args.sequence.now).name c.args.number end)) c.in_ok-end.ensures c.in_ok-print.ensures.whole

pub returns-clause-kept : goal.returns-clause-kept
returns-clause-kept g c = c.in_ok-print.ensures.cause.kept
