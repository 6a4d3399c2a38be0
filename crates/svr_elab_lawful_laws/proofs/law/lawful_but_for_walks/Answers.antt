use Rattle.svr_elab_lawful_laws.proofs.Together.{lawful_but_for_walks, blocks_are_those}
use Rattle.svr_elab_lawful_laws.proofs.law.lawful_but_for_walks.Goals as goal

pub returns-clause-lawful : goal.returns-clause-lawful
returns-clause-lawful c = lawful_but_for_walks

pub returns-clause-blocks : goal.returns-clause-blocks
returns-clause-blocks c = blocks_are_those
