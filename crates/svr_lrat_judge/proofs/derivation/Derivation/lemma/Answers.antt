use Rattle.std.proofs.Common.{◌≡◌, nat_eq, None, Some, sym, ap, ◌∙◌}
use Rattle.std.proofs.lemmas.Result.{on_ok_weaker}
use Rattle.indexmap.specs.IndexMap.{get}
use Rattle.svr_lrat_judge.specs.States.{state_at}
use Rattle.svr_lrat_judge.specs.Verdict.{lemma_fault, with_lemma}
use Rattle.svr_lrat_judge.proofs.derivation.Derivation.lemma.Goals as goal

pub returns-in-None : goal.returns-in-None
returns-in-None c =
    let s = c.args.self.now in
    let f : lemma_fault (get nat_eq s.clauses) s.last c.args.id c.args.clause c.args.hints.now ≡ None =
    ap (λ z. lemma_fault (get nat_eq s.clauses) s.last c.args.id z c.args.hints.now) (sym c.lits.ensures) ∙ sym c.in_ok-lemma_fault.ensures ∙ c.in-None.is in
    on_ok_weaker c.take.result (λ e. e ∙ ap (with_lemma (state_at s) c.args.id c.args.clause) (sym f)) c.take.ensures

pub returns-in-Some : goal.returns-in-Some
returns-in-Some c =
    let s = c.args.self.now in
    let f : lemma_fault (get nat_eq s.clauses) s.last c.args.id c.args.clause c.args.hints.now ≡ Some c.in-Some.reason =
    ap (λ z. lemma_fault (get nat_eq s.clauses) s.last c.args.id z c.args.hints.now) (sym c.lits.ensures) ∙ sym c.in_ok-lemma_fault.ensures ∙ c.in-Some.is in
    ap (with_lemma (state_at s) c.args.id c.args.clause) (sym f)
