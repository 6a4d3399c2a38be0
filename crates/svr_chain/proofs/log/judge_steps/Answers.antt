use Rattle.std.proofs.Common.{subst}
use Rattle.svr_chain.specs.Log.{step_result}
use Rattle.svr_chain.specs.Same.{SameResult}
use Rattle.svr_chain.proofs.Chains.{derives-none, derives-more, derives-fault, derives-told}
use Rattle.svr_chain.proofs.log.judge_steps.Goals as goal

pub loop-step-init : goal.loop-step-init
loop-step-init c = derives-none c.args.known.now c.args.steps.now

pub loop-step-preserved : goal.loop-step-preserved
loop-step-preserved c =
    derives-more c.args.known.now c.loop-step.known c.args.steps.now c.loop-step.step-index c.loop-step.number c.loop-step.invariant c.step-item.result
    c.loop-step-test.true c.step-item.is c.in-Ok.clause c.push.new.self
    (subst (λ z. SameResult z (step_result c.loop-step.known c.step-item.result)) c.in-Ok.is c.in_ok-clause.ensures) c.in_ok-push-in-Ok.ensures

pub returns-in-Err : goal.returns-in-Err
returns-in-Err c =
    derives-fault c.args.known.now c.loop-step.known c.args.steps.now c.loop-step.step-index c.loop-step.number c.loop-step.invariant c.step-item.result
    c.loop-step-test.true c.step-item.is c.in-Err.reason c.args.assume.now c.args.goal
    (subst (λ z. SameResult z (step_result c.loop-step.known c.step-item.result)) c.in-Err.is c.in_ok-clause.ensures)

pub returns : goal.returns
returns c =
    derives-told c.args.known.now c.loop-step.known c.args.steps.now c.loop-step.step-index c.loop-step.number c.loop-step.invariant c.judge_goal.result c.args.assume.now c.args.goal
    c.loop-step-test.false c.loop-step.auto.step-index-end c.judge_goal.ensures
