use Rattle.svr_elab_item_laws.proofs.Trees.{accepted_items_have_trees}
use Rattle.svr_elab_item_laws.proofs.law.accepted_items_have_trees.Goals as goal

pub returns : goal.returns
returns c = accepted_items_have_trees
