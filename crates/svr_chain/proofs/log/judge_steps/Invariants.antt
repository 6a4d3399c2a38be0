use Rattle.svr_chain.proofs.Chains.{Derives}
use Rattle.svr_chain.proofs.log.judge_steps.Given as goal

abbrev pub invariant-loop-step : goal.invariant-loop-step
invariant-loop-step l = Derives l.initial.known l.steps l.step-index l.number l.known
