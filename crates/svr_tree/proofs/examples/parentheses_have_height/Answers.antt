use Rattle.svr_tree.proofs.Heights.{nested_item_height}
use Rattle.svr_tree.proofs.examples.parentheses_have_height.Goals as goal

pub returns-clause-item : goal.returns-clause-item
returns-clause-item c n = nested_item_height n
