use Rattle.svr_command_cover.proofs.Written.{front_answers}
use Rattle.svr_command_cover.proofs.answer.answer.Goals as goal

pub returns-in-Err : goal.returns-in-Err
returns-in-Err g c = front_answers c.args.opts c.args.text.now c.in-Err.fault c.tell_fault.result _ _ _ _ _ _ c.requires.small c.in-Err.ensures.fault c.tell_fault.ensures
