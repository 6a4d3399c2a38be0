use Rattle.std.proofs.Common.{◌≡◌, true, Result, Ok, Err, sym, ap, ◌∙◌, subst, IfOk}
use Rattle.svr_lrat_judge.specs.Verdict.{verdict_of}
use Rattle.svr_lrat_text.specs.File.{is_file}
use Rattle.svr_lrat_text.specs.Faults.{IsFileOf}
use Rattle.svr_lrat_made.specs.Leads.{each_leads_on}
use Rattle.svr_lrat_printed.specs.Text.{text_of}
use Rattle.svr_lrat.proofs.Within.{file_within}
use Rattle.svr_lrat.proofs.write.to_lrat.Goals as goal

always : {T E : Type 0} (r : Result T E) (P : Type 0) → P → IfOk r (λ t. P)
always (Ok t) P p = p
always (Err e) P p = tt

pub returns-clause-text : goal.returns-clause-text
returns-clause-text c = subst (λ f. IfOk c.printed.result (λ t. t.items ≡ text_of f)) c.in_ok-file.ensures.file c.printed.ensures.text

pub returns-clause-file : goal.returns-clause-file
returns-clause-file c = λ w.
    subst (λ f. IfOk c.printed.result (λ t. IsFileOf t.items f)) c.in_ok-file.ensures.file
    (c.printed.ensures.read_back
    (ap (is_file true) c.in_ok-file.ensures.file
    ∙ file_within c.args.cnf.now.vars c.args.cnf.now.clauses.items c.args.assume.now c.args.log.now.steps c.args.log.now.goal c.requires.goal c.requires.accepted w))

pub returns-clause-accepted : goal.returns-clause-accepted
returns-clause-accepted c = always c.printed.result _ (ap verdict_of (sym c.in_ok-file.ensures.file) ∙ c.in_ok-file.ensures.accepted)

pub returns-clause-leads : goal.returns-clause-leads
returns-clause-leads c = always c.printed.result _ (ap (λ f. each_leads_on f.lines) (sym c.in_ok-file.ensures.file) ∙ c.in_ok-file.ensures.leads)
