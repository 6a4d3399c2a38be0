use Rattle.std.proofs.Common.{◌≡◌, List, ◌++◌, Option, sym, ap, ◌∙◌, subst, append-nil}
use Rattle.std.specs.Prelude.{OnOk}
use Rattle.svr_chain.specs.declared.clause.Lit.{Lit}
use Rattle.svr_phase.specs.Proof.{spelling_at}
use Rattle.svr_question.proofs.fixed.spell_row.Goals as goal

pub returns-in-Some : goal.returns-in-Some
returns-in-Some c =
    subst (λ (o : Option (List Lit)). OnOk c.spell.result (c.spell.new.literals.items ≡ c.args.literals.now.items ++ spelling_at o c.args.number)) (sym c.in-Some.ensures) c.spell.ensures

pub returns-in-None : goal.returns-in-None
returns-in-None c =
    sym (append-nil c.args.literals.now.items) ∙ ap (λ (o : Option (List Lit)). c.args.literals.now.items ++ spelling_at o c.args.number) (sym c.in-None.ensures)
