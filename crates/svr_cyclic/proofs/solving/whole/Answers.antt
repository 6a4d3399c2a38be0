use Rattle.svr_frame.specs.Frame.{frame_term}
use Rattle.svr_cyclic.proofs.Answered.{given_whole}
use Rattle.svr_cyclic.proofs.solving.whole.Goals as goal

pub returns-clause-encodes : goal.returns-clause-encodes
returns-clause-encodes c = given_whole (frame_term c.args.frame.now) c.args.layout c.args.solver c.requires c.into_cnf-cnf.result c.into_cnf-cnf.ensures.vars c.into_cnf-cnf.ensures.clauses
