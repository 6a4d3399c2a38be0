use Rattle.std.proofs.Common.{refl}
use Rattle.svr_lrat_text.specs.Words.{tokens, tokens_in}
use Rattle.svr_lrat_text.proofs.examples.small.Goals as goal

pub returns-clause-written : goal.returns-clause-written
unfolding tokens tokens_in
returns-clause-written c = refl
