use Rattle.svr_tree.proofs.NoFactor.{no_reading}
use Rattle.svr_tree.proofs.examples.inside_is_no_factor.Goals as goal

pub returns-clause-none : goal.returns-clause-none
returns-clause-none c e r = no_reading e r.levelled r.spells.each
