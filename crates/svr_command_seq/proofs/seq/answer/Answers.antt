use Rattle.svr_seq_lines.specs.declared.end.Stop.TheVariants as stop
use Rattle.svr_seq_lines.specs.Said.{Stops}
use Rattle.svr_status.proofs.Told.{refusal_no_usage}
use Rattle.svr_command_seq.proofs.Produced.{whole_written, limited_written, refusal_written, memory_written, fault_written, refusal_no_read, refusal_cause, rose_since, later_since}
use Rattle.svr_command_seq.proofs.seq.answer.Goals as goal

pub returns-in-Ok-Whole-clause-writing : goal.returns-in-Ok-Whole-clause-writing
returns-in-Ok-Whole-clause-writing g c = λ journal n.
    whole_written c.args.seed c.args.count c.args.text.now c.requires _ _ journal (g.K.Sink.faults c.args.out.now) (g.K.Sink.faults c.write_lines.new.out) n (rw c.in-Ok-Whole.field-0-is at c.in-Ok-Whole.ensures.tells)

pub returns-in-Ok-Limited-clause-writing : goal.returns-in-Ok-Limited-clause-writing
returns-in-Ok-Limited-clause-writing g c = λ journal n.
    limited_written c.args.seed c.args.count c.args.text.now c.requires _ _ journal (g.K.Sink.faults c.args.out.now) (g.K.Sink.faults c.write_lines.new.out) n (rw c.in-Ok-Limited.field-0-is at c.in-Ok-Limited.ensures.tells)

-- ---- a refusal

pub returns-in-Ok-Refused-clause-writing : goal.returns-in-Ok-Refused-clause-writing
returns-in-Ok-Refused-clause-writing g c = λ journal n.
    refusal_written c.args.seed c.args.count c.args.text.now c.requires c.in-Ok-Refused.number c.in-Ok-Refused.place _ _ _ journal _ _ n _ c.refused.result
    (rw c.in-Ok-Refused.field-0-is at c.in-Ok-Refused.ensures.tells) c.refused.ensures.ends

pub returns-in-Ok-Refused-clause-command : goal.returns-in-Ok-Refused-clause-command
returns-in-Ok-Refused-clause-command g c = refusal_no_usage _ _ _ _ _ c.refused.ensures.ends

pub returns-in-Ok-Refused-clause-read : goal.returns-in-Ok-Refused-clause-read
returns-in-Ok-Refused-clause-read g c = refusal_no_read _ _ _ _ _ c.refused.ensures.ends

pub returns-in-Ok-Refused-clause-cause : goal.returns-in-Ok-Refused-clause-cause
returns-in-Ok-Refused-clause-cause g c = λ e. rose_since _ _ _ c.in-Ok-Refused.ensures.kept (refusal_cause _ _ _ _ _ c.refused.ensures.ends e)

pub returns-in-Ok-Refused-clause-faults : goal.returns-in-Ok-Refused-clause-faults
returns-in-Ok-Refused-clause-faults g c = later_since _ _ _ c.in-Ok-Refused.ensures.kept c.refused.ensures.faults

-- ---- where writing stopped

pub returns-in-Err-NoMemory-clause-writing : goal.returns-in-Err-NoMemory-clause-writing
returns-in-Err-NoMemory-clause-writing g c = λ journal n.
    memory_written c.args.seed c.args.count c.args.text.now c.requires _ _ journal (g.K.Sink.faults c.args.out.now) (g.K.Sink.faults c.write_lines.new.out) n (rw c.in-Err-NoMemory.field-0-is at c.in-Err-NoMemory.ensures.stops)

pub returns-in-Err-WriteFault-clause-writing : goal.returns-in-Err-WriteFault-clause-writing
returns-in-Err-WriteFault-clause-writing g c = λ journal n.
    fault_written c.args.seed c.args.count c.args.text.now c.requires _ _ journal _ _ n (rw c.in-Err-WriteFault.field-0-is at c.in-Err-WriteFault.ensures.stops)

pub returns-in-Err-WriteFault-clause-cause : goal.returns-in-Err-WriteFault-clause-cause
returns-in-Err-WriteFault-clause-cause g c = λ e.
    let stopped : Stops c.args.text.now c.args.seed c.args.count stop.WriteFault (g.K.Sink.written c.args.out.now) (g.K.Sink.faults c.args.out.now) (g.K.Sink.written c.write_lines.new.out) (g.K.Sink.faults c.write_lines.new.out) = rw c.in-Err-WriteFault.field-0-is at c.in-Err-WriteFault.ensures.stops in
    stopped.1
