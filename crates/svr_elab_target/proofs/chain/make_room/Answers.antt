use Rattle.std.proofs.Common.{refl}
use Rattle.svr_elab_target.proofs.Kept.{room_counted, kept_counted, room_emptied, kept_emptied}
use Rattle.svr_elab_target.proofs.chain.make_room.Goals as goal

pub returns-in-Some-clause-kept : goal.returns-in-Some-clause-kept
returns-in-Some-clause-kept c n h = kept_counted n c.args.flat.now c.args.more c.in-Some.all c.in-Some.ensures.0 c.in-Some.ensures.1 h

pub returns-in-Some-clause-room : goal.returns-in-Some-clause-room
returns-in-Some-clause-room c n h = room_counted n c.args.flat.now c.args.more c.in-Some.all c.in-Some.ensures.0 c.in-Some.ensures.1 h

pub returns-in-None-clause-kept : goal.returns-in-None-clause-kept
returns-in-None-clause-kept c n h = kept_emptied n _ c.clear.ensures.empty

pub returns-in-None-clause-room : goal.returns-in-None-clause-room
returns-in-None-clause-room c n h = room_emptied c.args.more _ c.clear.ensures.empty refl
