use Rattle.std.proofs.Common.{ℕ, List, map, ap, ◌∙◌}
use Rattle.svr_elab.proofs.Joined.{nothing_known, nothing_fits}
use Rattle.svr_elab.proofs.whole.no_globals.Goals as goal

pub returns-clause-value : goal.returns-clause-value
returns-clause-value c = λ text. nothing_known text _ _ _ c.new.ensures.empty c.new-2.ensures c.new-3.ensures

pub returns-clause-members : goal.returns-clause-members
returns-clause-members c = λ text. nothing_fits text _ _ c.new.ensures.empty
