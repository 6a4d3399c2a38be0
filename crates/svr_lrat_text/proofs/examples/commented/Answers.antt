use Rattle.std.proofs.Common.{refl}
use Rattle.svr_lrat_text.specs.Words.{tokens, tokens_in}
use Rattle.svr_lrat_text.proofs.examples.commented.Goals as goal

pub returns : goal.returns
unfolding tokens tokens_in
returns c = refl
