use Rattle.svr_parse.proofs.Once.{one_tree}
use Rattle.svr_parse.proofs.laws.tokens_have_one_tree.Goals as goal

pub returns : goal.returns
returns c tokens tree other a b = one_tree tokens tree other a b
