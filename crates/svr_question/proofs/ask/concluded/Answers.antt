use Rattle.std.proofs.Common.{List, refl, sym, subst}
use Rattle.svr_chain.specs.declared.clause.Lit.{Lit}
use Rattle.svr_phase.specs.declared.proof.ProofReason.TheVariants as why
use Rattle.svr_soft.specs.declared.priority.PassEnd.{PassEnd}
use Rattle.svr_question.specs.declared.ask.ValuesEnd.TheVariants as end
use Rattle.svr_question.specs.Passed.{IsMetBy, Becomes}
use Rattle.svr_question.proofs.ask.concluded.Goals as goal

pub dealt-requires : goal.dealt-requires
dealt-requires c = rw c.in-Done.is at c.requires

pub returns-in_ok-met-in-Done : goal.returns-in_ok-met-in-Done
returns-in_ok-met-in-Done c =
    let by = subst (λ (ls : List Lit). IsMetBy c.args.place ls c.args.soft.now c.in-Done.kept.items c.in-Done.dropped.items c.in-Done.values.items c.in_ok-met-in-Done.met) c.as_slice-assumed.ensures.value c.in_ok-met-in-Done.ensures in
    subst (λ (over : PassEnd). Becomes c.args.place c.args.base.items c.args.soft.now over (end.Met c.in_ok-met-in-Done.met)) (sym c.in-Done.is) (c.in_ok-met-in-Done.met, refl, by)

pub returns-in-BaseRefuted : goal.returns-in-BaseRefuted
returns-in-BaseRefuted c =
    let log = c.in-BaseRefuted.refutation in
    subst (λ (over : PassEnd). Becomes c.args.place c.args.base.items c.args.soft.now over (end.Refuted (record { encoding = c.args.place; assume = c.own.result; refutation = log; reason = why.Hard }))) (sym c.in-BaseRefuted.is)
    (λ i. end.Refuted (record { encoding = c.args.place; assume = c.own.ensures i; refutation = log; reason = why.Hard }))

pub returns-in-Spent : goal.returns-in-Spent
returns-in-Spent c =
    let it = c.in-Spent in
    subst (λ (over : PassEnd). Becomes c.args.place c.args.base.items c.args.soft.now over (end.Spent it.rank it.log it.first)) (sym it.is) refl
