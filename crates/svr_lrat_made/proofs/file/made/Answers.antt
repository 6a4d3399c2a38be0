use Rattle.std.proofs.Common.{ap, ◌∙◌, unwrap_or}
use Rattle.svr_lrat_made.proofs.Whole.{told-file, told-leads, told-accepted, told-numbered}
use Rattle.svr_lrat_made.proofs.file.made.Goals as goal

pub returns-clause-file : goal.returns-clause-file
returns-clause-file c =
    told-file c.file_of.result c.args.cnf.now.vars c.args.cnf.now.clauses.items c.as_slice-given.result.now c.args.assume.now c.args.log.now.steps c.as_slice-steps.result.now c.args.log.now.goal c.unwrap_or-goal.result
    c.as_slice-given.ensures.value (c.as_slice-steps.ensures.value ∙ ap (λ z. z.steps) c.log.view_is) (c.unwrap_or-goal.ensures ∙ ap (λ z. unwrap_or z.goal 0) c.log.view_is) c.file_of.ensures

pub returns-clause-leads : goal.returns-clause-leads
returns-clause-leads c =
    told-leads c.file_of.result c.args.cnf.now.vars c.args.cnf.now.clauses.items c.as_slice-given.result.now c.args.assume.now c.args.log.now.steps c.as_slice-steps.result.now c.args.log.now.goal c.unwrap_or-goal.result
    c.as_slice-given.ensures.value (c.as_slice-steps.ensures.value ∙ ap (λ z. z.steps) c.log.view_is) (c.unwrap_or-goal.ensures ∙ ap (λ z. unwrap_or z.goal 0) c.log.view_is) c.file_of.ensures

pub returns-clause-accepted : goal.returns-clause-accepted
returns-clause-accepted c =
    told-accepted c.file_of.result c.args.cnf.now.vars c.args.cnf.now.clauses.items c.as_slice-given.result.now c.args.assume.now c.args.log.now.steps c.as_slice-steps.result.now c.args.log.now.goal c.unwrap_or-goal.result
    c.as_slice-given.ensures.value (c.as_slice-steps.ensures.value ∙ ap (λ z. z.steps) c.log.view_is) (c.unwrap_or-goal.ensures ∙ ap (λ z. unwrap_or z.goal 0) c.log.view_is) c.file_of.ensures c.requires.goal c.requires.accepted

pub returns-clause-numbered : goal.returns-clause-numbered
returns-clause-numbered c =
    told-numbered c.file_of.result c.args.cnf.now.vars c.args.cnf.now.clauses.items c.as_slice-given.result.now c.args.assume.now c.args.log.now.steps c.as_slice-steps.result.now c.args.log.now.goal c.unwrap_or-goal.result
    c.as_slice-given.ensures.value (c.as_slice-steps.ensures.value ∙ ap (λ z. z.steps) c.log.view_is) (c.unwrap_or-goal.ensures ∙ ap (λ z. unwrap_or z.goal 0) c.log.view_is) c.file_of.ensures c.requires.goal c.requires.accepted
