use Rattle.svr_elab_item_laws.proofs.Whole.{accepted_items_are_lawful}
use Rattle.svr_elab_item_laws.proofs.law.accepted_items_are_lawful.Goals as goal

pub returns : goal.returns
returns c = accepted_items_are_lawful
