use Rattle.std.proofs.Common.{◌≡◌, ◌∙◌, ◌++◌, ◌∷◌, [], List, Some, refl, ap, sym, subst}
use Rattle.svr_chain.specs.Views.{StepView}
use Rattle.svr_chain.specs.Log.{verdict_of}
use Rattle.svr_chain.specs.declared.log.Verdict.TheVariants.{Accepted}
use Rattle.svr_query.proofs.Keeping.{kept_refutes}
use Rattle.svr_query.proofs.needed.refutation_with.Goals as goal

pub returns-in-Some : goal.returns-in-Some
returns-in-Some c =
    kept_refutes c.args.clauses (c.args.steps.now ++ c.args.last ∷ []) c.keep.new.kept.items c.keep.new.places.items c.args.goal c.in-Some.number
    (λ cnf e. c.in_ok-keep.ensures cnf c.args.steps.now e refl (c.in_ok-keep_needed.ensures cnf e)) (rw c.as_slice.ensures.value at c.in-Some.ensures)

pub returns-in_ok-push-in-None : goal.returns-in_ok-push-in-None
returns-in_ok-push-in-None c = λ cnf assume e v. (
  refl,
  subst (λ (z : List StepView). verdict_of cnf assume z (Some c.args.goal) ≡ Accepted)
      (sym (c.in_ok-push-in-None.ensures.items ∙ ap (λ (z : List StepView). z ++ c.args.last ∷ []) c.in_ok-steps-in-None.ensures)) v,
)
