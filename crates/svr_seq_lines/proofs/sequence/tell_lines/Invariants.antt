use Rattle.svr_seq_lines.specs.Sequence.{sequence_term}
use Rattle.svr_seq_lines.proofs.Going.{HasGone}
use Rattle.svr_seq_lines.proofs.sequence.tell_lines.Given as goal

abbrev pub invariant-loop-told : goal.invariant-loop-told
invariant-loop-told g l = HasGone (sequence_term l.sequence) l.count l.told (g.K.Sink.written l.initial.out) (g.K.Sink.faults l.initial.out) (g.K.Sink.written l.out) (g.K.Sink.faults l.out)
