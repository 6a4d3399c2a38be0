use Rattle.std.proofs.Common.{◌≡◌, ◌∙◌, List, sym, ap, subst, unwrap_or}
use Rattle.std.proofs.lemmas.Result.{IfOk-weaker}
use Rattle.svr_chain.specs.declared.clause.Lit.{Lit}
use Rattle.svr_chain.specs.declared.log.Verdict.TheVariants.{Accepted}
use Rattle.svr_chain.specs.Log.{verdict_of}
use Rattle.svr_lrat_made.specs.Made.{file_of}
use Rattle.svr_lrat_printed.specs.Text.{text_of}
use Rattle.svr_derived.proofs.derivation.derivation_of.Goals as goal

pub to_lrat-requires-clause-accepted : goal.to_lrat-requires-clause-accepted
to_lrat-requires-clause-accepted c =
    let e = c.args.encoding.now in
    let log = c.args.proof.now.refutation in
    subst (λ (ls : List Lit). verdict_of e.cnf.clauses.items ls log.steps log.goal ≡ Accepted) (sym (c.as_slice-assume.ensures.value ∙ c.in_ok-written.ensures)) c.requires.1

pub returns : goal.returns
returns c =
    let e = c.args.encoding.now in
    let log = c.args.proof.now.refutation in
    IfOk-weaker c.to_lrat.result _ _
    (λ t h. h ∙ ap (λ (ls : List Lit). text_of (file_of e.cnf.vars e.cnf.clauses.items ls log.steps (unwrap_or log.goal 0))) (c.as_slice-assume.ensures.value ∙ c.in_ok-written.ensures)) c.to_lrat.ensures.text
