use Rattle.std.proofs.Common.{◌≡◌, List, Some, refl, sym, subst}
use Rattle.svr_chain.specs.Views.{StepView}
use Rattle.svr_chain.specs.Log.{verdict_of}
use Rattle.svr_chain.specs.declared.log.Verdict.TheVariants.{Accepted}
use Rattle.svr_query.proofs.Keeping.{kept_refutes}
use Rattle.svr_query.proofs.needed.refutation_by.Goals as goal

pub returns-in-Some : goal.returns-in-Some
returns-in-Some c =
    kept_refutes c.args.clauses c.args.steps.now c.keep_needed.new.kept.items c.keep_needed.new.places.items c.args.goal c.in-Some.number c.in_ok-keep_needed.ensures
    (rw c.as_slice.ensures.value at c.in-Some.ensures)

pub returns : goal.returns
returns c = λ cnf assume e v. (refl, subst (λ (z : List StepView). verdict_of cnf assume z (Some c.args.goal) ≡ Accepted) (sym c.in_ok-steps-in-None.ensures) v)
