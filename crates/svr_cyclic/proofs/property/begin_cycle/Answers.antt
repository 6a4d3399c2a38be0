use Rattle.std.proofs.Common.{inr, subst}
use Rattle.svr_cyclic.specs.declared.look.Looked.{Looked}
use Rattle.svr_cyclic.specs.declared.look.Among.TheVariants as among
use Rattle.svr_cyclic.specs.Questions.{over}
use Rattle.svr_cyclic.specs.Values.{IsLooked, reason_of}
use Rattle.svr_cyclic.proofs.property.begin_cycle.Goals as goal

pub returns-in-Found-clause-end : goal.returns-in-Found-clause-end
returns-in-Found-clause-end c =
    let s = c.args.sought.now in
    let ended = subst (λ (x : Looked). IsLooked (over c.args.asking.now c.args.asker.now.solver.clauses) s.chosen.now s.prop (reason_of among.Domain s.prop) c.args.domain.now x) c.in-Found.is c.in_ok-looked.ensures.looked in
    λ left none proved. (none, proved, ended)

pub returns-in-NoneFits-clause-end : goal.returns-in-NoneFits-clause-end
returns-in-NoneFits-clause-end c =
    let s = c.args.sought.now in
    let ended = subst (λ (x : Looked). IsLooked (over c.args.asking.now c.args.asker.now.solver.clauses) s.chosen.now s.prop (reason_of among.Domain s.prop) c.args.domain.now x) c.in-NoneFits.is c.in_ok-looked.ensures.looked in
    λ left none proved. (none, ended.0, ended.1)

pub returns-in-Spent-clause-end : goal.returns-in-Spent-clause-end
returns-in-Spent-clause-end c =
    let s = c.args.sought.now in
    let ended = subst (λ (x : Looked). IsLooked (over c.args.asking.now c.args.asker.now.solver.clauses) s.chosen.now s.prop (reason_of among.Domain s.prop) c.args.domain.now x) c.in-Spent.is c.in_ok-looked.ensures.looked in
    λ left none proved. (inr (none, ended.0), ended.1)
