use Rattle.svr_query.proofs.Keeping.{kept-none, kept-whole}
use Rattle.svr_query.proofs.needed.keep_needed.Goals as goal

pub loop-place-init : goal.loop-place-init
loop-place-init c = λ cnf e. rw (c.requires.kept, c.requires.places) (kept-none cnf)

pub loop-place-preserved : goal.loop-place-preserved
loop-place-preserved c = λ cnf e. c.in_ok-passed.ensures cnf e (c.loop-place.invariant cnf e)

pub returns : goal.returns
returns c = λ cnf e. kept-whole cnf c.loop-place.kept.items c.loop-place.places.items c.args.steps.now c.loop-place.passed (c.loop-place.invariant cnf e)
