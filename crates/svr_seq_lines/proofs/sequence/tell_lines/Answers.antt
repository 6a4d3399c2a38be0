use Rattle.std.proofs.Common.{arith, ◌∙◌}
use Rattle.svr_seq_lines.specs.Sequence.{sequence_term}
use Rattle.svr_seq_lines.proofs.Going.{none_gone, one_gone, last_written, last_is_long, cut_off, all_written, none_is_long}
use Rattle.svr_seq_lines.proofs.Telling.{on_err}
use Rattle.svr_seq_lines.proofs.sequence.tell_lines.Goals as goal

pub loop-told-init : goal.loop-told-init
loop-told-init g c = none_gone (sequence_term c.args.sequence.now) c.args.count _ _

pub loop-told-preserved : goal.loop-told-preserved
loop-told-preserved g c =
    one_gone (sequence_term c.args.sequence.now) c.args.count c.loop-told.told _ _ _ _ _ _ c.in_ok-long.long c.loop-told-test.true c.loop-told.invariant c.in_ok-long.ensures.long c.if-long.false c.in_ok-long.ensures.whole c.in_ok-long.ensures.kept

-- the line that needs too many units
pub returns-then-long-clause-ends : goal.returns-then-long-clause-ends
returns-then-long-clause-ends g c =
    last_is_long (sequence_term c.args.sequence.now) c.args.count c.loop-told.told _ _ _ _ c.in_ok-long.long c.loop-told-test.true c.loop-told.invariant c.in_ok-long.ensures.long c.if-long.true

pub returns-then-long-clause-whole : goal.returns-then-long-clause-whole
returns-then-long-clause-whole g c =
    last_written (sequence_term c.args.sequence.now) c.args.count c.loop-told.told _ _ _ _ _ c.in_ok-long.long c.loop-told-test.true c.loop-told.invariant c.in_ok-long.ensures.long c.if-long.true c.in_ok-long.ensures.whole

pub returns-then-long-clause-kept : goal.returns-then-long-clause-kept
returns-then-long-clause-kept g c = c.in_ok-long.ensures.kept ∙ c.loop-told.invariant.kept

-- a line that was not written
pub returns-in_err-long-clause-front : goal.returns-in_err-long-clause-front
returns-in_err-long-clause-front g c =
    on_err c.from_residual.result _
    (cut_off (sequence_term c.args.sequence.now) c.args.count c.loop-told.told _ _ _ _ _ c.loop-told-test.true c.loop-told.invariant c.in_err-long.ensures.front)

-- none is left
pub returns-clause-ends : goal.returns-clause-ends
returns-clause-ends g c = none_is_long (sequence_term c.args.sequence.now) c.args.count c.loop-told.told _ _ _ _ (omega (arith, c.loop-told-test.false)) c.loop-told.invariant

pub returns-clause-whole : goal.returns-clause-whole
returns-clause-whole g c = all_written (sequence_term c.args.sequence.now) c.args.count c.loop-told.told _ _ _ _ (omega (arith, c.loop-told-test.false)) c.loop-told.invariant

pub returns-clause-kept : goal.returns-clause-kept
returns-clause-kept g c = c.loop-told.invariant.kept
