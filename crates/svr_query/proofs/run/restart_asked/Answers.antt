use Rattle.std.proofs.Common.{List, sym, subst}
use Rattle.svr_trail.specs.declared.Entry.{Entry}
use Rattle.svr_trail.specs.Trail.{Each}
use Rattle.svr_query.specs.Logged.{IsAsked}
use Rattle.svr_query.proofs.run.restart_asked.Goals as goal

pub returns-clause-asked : goal.returns-clause-asked
returns-clause-asked c = subst (λ (es : List Entry). Each (IsAsked c.args.assume.now) es) (sym c.keep_levels.ensures.level) c.asked_levels-asked.ensures.asked
