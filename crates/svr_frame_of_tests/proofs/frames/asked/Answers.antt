use Rattle.svr_typed.specs.ClassTerm.{flat_term}
use Rattle.svr_typed.specs.StmtTerm.{call_term}
use Rattle.svr_frame_of_tests.proofs.Sound.{callable}
use Rattle.svr_frame_of_tests.proofs.frames.asked.Goals as goal

pub make_frame-requires : goal.make_frame-requires
make_frame-requires c = record {
  callable = callable (flat_term c.args.class.now) c.args.design.now.enums c.args.world.now (call_term c.args.call.now) c.requires.class c.requires.enums c.requires.world c.requires.call;
}
