use Rattle.std.proofs.Common.{◌≡◌, ℕ, List, Option, Result, Ok, Err, sym, ap, ◌∙◌, IfOk}
use Rattle.svr_chain.specs.declared.clause.Lit.{Lit}
use Rattle.svr_chain.specs.declared.log.Verdict.{Verdict}
use Rattle.svr_chain.specs.declared.log.Verdict.TheVariants.{Accepted}
use Rattle.svr_chain.specs.Views.{StepView}
use Rattle.svr_chain.specs.Log.{verdict_of}
use Rattle.svr_chain.specs.New.{DeriveNew}
use Rattle.svr_chain.proofs.NewLemmas.{new-from_accepted}
use Rattle.svr_chain.proofs.log.check.Goals as goal

new-told : {E : Type 0} (r : Result Verdict E) (ks : List (List Lit)) (assume : List Lit) (steps : List StepView) (goal : Option ℕ)
    → IfOk r (λ v. v ≡ verdict_of ks assume steps goal) → IfOk r (λ v. v ≡ Accepted → DeriveNew ks steps)
new-told (Ok v) ks assume steps goal h = λ e. new-from_accepted ks assume steps goal (sym h ∙ e)
new-told (Err e) ks assume steps goal h = tt

pub returns-clause-new : goal.returns-clause-new
returns-clause-new c =
    let s : c.as_slice-2.result.now ≡ c.args.log.now.steps = c.as_slice-2.ensures.value ∙ ap (λ z. z.steps) c.log.view_is in
    rw (← s, ← c.as_slice.ensures.value)
    (new-told c.judge_log.result c.as_slice.result.now c.args.assume.now c.as_slice-2.result.now c.log.inside.goal c.judge_log.ensures)
