use Rattle.std.proofs.Common.{◌≡◌, true, false, refl, sym, subst}
use Rattle.svr_chain.specs.declared.log.Reason.TheVariants.{NotGoal}
use Rattle.svr_chain.specs.declared.log.Verdict.TheVariants.{Accepted, Rejected}
use Rattle.svr_chain.specs.Log.{goal_verdict}
use Rattle.svr_chain.proofs.Chains.{goal-told}
use Rattle.svr_chain.proofs.log.judge_goal.Goals as goal

pub returns-in_default : goal.returns-in_default
returns-in_default c = subst (λ z. Accepted ≡ goal_verdict c.args.known.now c.args.number c.args.assume.now z) (sym c.in_default.is) refl

pub returns-then-is_denied : goal.returns-then-is_denied
returns-then-is_denied c =
    subst (λ z. Accepted ≡ goal_verdict c.args.known.now c.args.number c.args.assume.now z) (sym c.in-Some.is)
    (goal-told c.args.known.now c.args.number c.begin.new.self c.args.assume.now c.in-Some.goal c.is_denied.result true c.in_ok-begin.ensures c.is_denied.ensures c.if-is_denied.true)

pub returns-else-is_denied : goal.returns-else-is_denied
returns-else-is_denied c =
    subst (λ z. Rejected c.args.number NotGoal ≡ goal_verdict c.args.known.now c.args.number c.args.assume.now z) (sym c.in-Some.is)
    (goal-told c.args.known.now c.args.number c.begin.new.self c.args.assume.now c.in-Some.goal c.is_denied.result false c.in_ok-begin.ensures c.is_denied.ensures c.if-is_denied.false)
