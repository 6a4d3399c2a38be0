use Rattle.std.proofs.Common.{◌≡◌, ◌-◌}
use Rattle.svr_seq.specs.SeqTerm.{seq_term}
use Rattle.svr_seq.specs.Line.{line_from, line_within}
use Rattle.svr_seq.specs.Stack.{tasks_on}
use Rattle.svr_seq.proofs.line.line_within.Given as goal

abbrev pub invariant-loop-unit : goal.invariant-loop-unit
invariant-loop-unit l = line_from (seq_term l.seq) (l.units - l._unit) (tasks_on l.stack) l.names l.draws ≡ line_within (seq_term l.seq) l.units l.fn.draws
