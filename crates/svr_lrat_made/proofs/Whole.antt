-- What the file of an accepted log is
use Rattle.std.proofs.Common.{◌≡◌, ℕ, ◌+◌, true, List, length, Option, Result, Ok, Err, ap, ◌∙◌, IfOk, IsSome, unwrap_or}
use Rattle.std.specs.List.{list_all}
use Rattle.svr_chain.specs.declared.clause.Lit.{Lit}
use Rattle.svr_chain.specs.declared.log.Verdict.TheVariants as log_is
use Rattle.svr_chain.specs.Views.{StepView}
use Rattle.svr_chain.specs.Log as chain
use Rattle.svr_lrat_file.specs.Views.{FileView}
use Rattle.svr_lrat_judge.specs.declared.verdict.LratVerdict.TheVariants as says
use Rattle.svr_lrat_judge.specs.Verdict as judge
use Rattle.svr_lrat_made.specs.Made.{file_of}
use Rattle.svr_lrat_made.specs.Leads.{each_leads_on, is_numbered}
use Rattle.svr_lrat_made.proofs.Accepted.{accepted_file, numbered_file}
use Rattle.svr_lrat_made.proofs.Used.{each_leads}

module _ {E : Type 0} (r : Result FileView E) (vars : ℕ) (ks given : List (List Lit)) (assume : List Lit) (steps taken : List StepView) (goal : Option ℕ) (at : ℕ)
    (e : given ≡ ks) (f : taken ≡ steps) (g : at ≡ unwrap_or goal 0) (made : IfOk r (λ x. x ≡ file_of vars given assume taken at)) where
  told : (o : Result FileView E) → IfOk o (λ x. x ≡ file_of vars given assume taken at) → IfOk o (λ x. x ≡ file_of vars ks assume steps (unwrap_or goal 0))
  told (Err x) h = tt
  told (Ok x) h = h ∙ ap (λ z. file_of vars z assume taken at) e ∙ ap (λ z. file_of vars ks assume z at) f ∙ ap (λ z. file_of vars ks assume steps z) g

  pub told-file : IfOk r (λ x. x ≡ file_of vars ks assume steps (unwrap_or goal 0))
  told-file = told r made

  leads-on : (o : Result FileView E) → IfOk o (λ x. x ≡ file_of vars ks assume steps (unwrap_or goal 0)) → IfOk o (λ x. each_leads_on x.lines ≡ true)
  leads-on (Err x) h = tt
  leads-on (Ok x) h = ap (λ z. each_leads_on z.lines) h ∙ each_leads ks assume steps (unwrap_or goal 0)

  pub told-leads : IfOk r (λ x. each_leads_on x.lines ≡ true)
  told-leads = leads-on r told-file

  module _ (s : IsSome goal) (v : chain.verdict_of ks assume steps goal ≡ log_is.Accepted) where
    accepts : (o : Result FileView E) → IfOk o (λ x. x ≡ file_of vars ks assume steps (unwrap_or goal 0)) → IfOk o (λ x. judge.verdict_of x ≡ says.Accepted)
    accepts (Err x) h = tt
    accepts (Ok x) h = ap judge.verdict_of h ∙ accepted_file vars ks assume steps goal s v

    pub told-accepted : IfOk r (λ x. judge.verdict_of x ≡ says.Accepted)
    told-accepted = accepts r told-file

    numbers : (o : Result FileView E) → IfOk o (λ x. x ≡ file_of vars ks assume steps (unwrap_or goal 0)) → IfOk o (λ x. list_all (is_numbered (length x.clauses + length x.lines)) x.lines ≡ true)
    numbers (Err x) h = tt
    numbers (Ok x) h = ap (λ z. list_all (is_numbered (length z.clauses + length z.lines)) z.lines) h ∙ numbered_file ks assume steps goal s v

    pub told-numbered : IfOk r (λ x. list_all (is_numbered (length x.clauses + length x.lines)) x.lines ≡ true)
    told-numbered = numbers r told-file
