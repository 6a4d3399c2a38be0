use Rattle.std.proofs.Common.{false}
use Rattle.svr_chain.specs.declared.log.Link.{Link}
use Rattle.svr_chain.proofs.Chains.{follows-none, follows-more, follows-fault, follows-done, held-ok, held-err}
use Rattle.svr_chain.proofs.log.follow.Goals as goal

abbrev no_link : Link
no_link = record { pivot = record { var = 0; neg = false }; clause = 0 }

pub loop-link-init : goal.loop-link-init
loop-link-init c = follows-none c.args.known.now c.args.marks.now c.args.links.now

pub loop-link-preserved : goal.loop-link-preserved
loop-link-preserved c =
    follows-more c.args.known.now c.args.marks.now c.args.links.now c.loop-link.link-index no_link c.loop-link.marks c.loop-link-test.true c.loop-link.invariant c.take_link.new.marks
    (held-ok c.in_ok-taken.taken _ c.take_link.new.marks _ c.in-Ok.is c.in_ok-taken.ensures)

pub returns-in-Err : goal.returns-in-Err
returns-in-Err c =
    follows-fault c.args.known.now c.args.marks.now c.args.links.now c.loop-link.link-index no_link c.loop-link.marks c.loop-link-test.true c.loop-link.invariant c.in-Err.reason
    (held-err c.in_ok-taken.taken c.in-Err.reason c.take_link.new.marks _ c.in-Err.is c.in_ok-taken.ensures)

pub returns : goal.returns
returns c = follows-done c.args.known.now c.args.marks.now c.args.links.now c.loop-link.link-index c.loop-link.marks c.loop-link-test.false c.loop-link.invariant
