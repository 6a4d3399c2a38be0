use Rattle.std.proofs.Common.{◌∷◌, sym, ap, ◌∙◌}
use Rattle.svr_lrat_text.specs.Reading.{behind}
use Rattle.svr_lrat_text.proofs.Taking.{delete-taken}
use Rattle.svr_lrat_text.proofs.cursor.Cursor.takes_delete.Goals as goal

pub returns-then-is_delete-clause-yes : goal.returns-then-is_delete-clause-yes
returns-then-is_delete-clause-yes c = λ t.
    delete-taken c.args.self.now _ c.next.result (sym c.self.view_is ∙ c.next.ensures ∙ ap (λ z. c.next.result ∷ behind c.next.result.word z) (sym c.ahead.view_is))
    (sym c.is_delete.ensures ∙ c.if-is_delete.true)
