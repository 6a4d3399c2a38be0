use Rattle.std.proofs.Common.{sym, ◌∙◌}
use Rattle.std.proofs.lemmas.Result.{on_ok_weaker}
use Rattle.svr_lrat_judge.specs.States.{state_at}
use Rattle.svr_lrat_judge.specs.Verdict.{with_line}
use Rattle.svr_lrat_judge.proofs.Tables.{unless-some, unless-none}
use Rattle.svr_lrat_judge.proofs.derivation.Derivation.line.Goals as goal

pub returns-then-is_some : goal.returns-then-is_some
returns-then-is_some c = sym (unless-some c.args.self.now.fault (state_at c.args.self.now) (with_line (state_at c.args.self.now) c.args.line) (sym c.is_some.ensures ∙ c.if-is_some.true))

pub returns : goal.returns
returns c =
    on_ok_weaker c.take_line.result
    (λ e. e ∙ sym (unless-none c.args.self.now.fault (state_at c.args.self.now) (with_line (state_at c.args.self.now) c.args.line) (sym c.is_some.ensures ∙ c.if-is_some.false)))
    c.take_line.ensures
