use Rattle.std.proofs.Common.{sym, ◌∙◌}
use Rattle.svr_lrat_judge.specs.States.{state_at}
use Rattle.svr_lrat_judge.proofs.Tables.{deleted-live, deleted-fault}
use Rattle.svr_lrat_judge.proofs.derivation.Derivation.delete.Goals as goal

pub returns-then-remove_all : goal.returns-then-remove_all
returns-then-remove_all c = deleted-live (state_at c.args.self.now) c.args.id c.args.ids.now _ c.remove_all.ensures.live (sym c.remove_all.ensures.each ∙ c.if-remove_all.true)

pub returns : goal.returns
returns c = deleted-fault (state_at c.args.self.now) c.args.id c.args.ids.now _ c.remove_all.ensures.live (sym c.remove_all.ensures.each ∙ c.if-remove_all.false)
