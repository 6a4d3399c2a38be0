use Rattle.std.proofs.Common.{Option, rules, subst}
use Rattle.std.specs.Prelude.{IfSome}
use Rattle.svr_chain.specs.Views.{StepView}
use Rattle.svr_query.specs.Needed.{IsStepIn}
use Rattle.svr_query.proofs.Keeping.{keep_more, kept-less}
use Rattle.svr_query.proofs.needed.keep.Goals as goal

pub returns-in-None : goal.returns-in-None
returns-in-None c = λ cnf ss l e k. kept-less cnf c.args.kept.now.items c.args.places.now.items ss c.args.step.now k

pub returns-in_ok-push-in-Some-2 : goal.returns-in_ok-push-in-Some-2
returns-in_ok-push-in-Some-2 c =
    let a = subst (λ (o : Option StepView). IfSome o (IsStepIn c.args.clauses c.as_slice.result.now c.args.step.now)) c.in-Some.is c.in_ok-copy.ensures in
    keep_more c.args.clauses c.args.kept.now.items c.push.new.self.items c.args.places.now.items c.push-in-Some.new.self.items c.args.step.now c.in-Some.copy c.args.place
    (search rules) (search rules) (rw c.as_slice.ensures.value at a)
