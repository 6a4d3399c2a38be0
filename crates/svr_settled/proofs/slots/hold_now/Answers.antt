use Rattle.std.proofs.Common.{[]}
use Rattle.svr_eval.specs.Reading.{reading_of}
use Rattle.svr_eval.specs.Value.{alone, is_set}
use Rattle.svr_settled.proofs.Halves.{back_fails, front_fails, both_hold}
use Rattle.svr_settled.proofs.slots.hold_now.Goals as goal

pub returns-in-Some : goal.returns-in-Some
returns-in-Some c = back_fails (λ e. is_set (alone (reading_of c.args.a.now) [] e)) c.args.items.now c.args.needed.now _ _ _ c.split_at.ensures.back c.split_at-2.ensures.back c.in-Some.ensures.hold

pub returns-in-Some-needed_fault : goal.returns-in-Some-needed_fault
returns-in-Some-needed_fault c = front_fails (λ e. is_set (alone (reading_of c.args.a.now) [] e)) c.args.items.now c.args.needed.now _ _ _ c.split_at.ensures.front c.split_at-2.ensures.front c.in-Some-needed_fault.ensures.hold

pub returns-in-None : goal.returns-in-None
returns-in-None c = both_hold (λ e. is_set (alone (reading_of c.args.a.now) [] e)) c.args.items.now c.args.needed.now _ _ _ _ _ c.split_at.ensures.front c.split_at-2.ensures.front c.split_at.ensures.back c.split_at-2.ensures.back c.in-None.ensures.hold c.in_default.ensures.hold
