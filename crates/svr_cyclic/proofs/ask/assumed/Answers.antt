use Rattle.std.proofs.Common.{◌++◌, ◌∙◌}
use Rattle.svr_cyclic.proofs.ask.assumed.Goals as goal

pub returns : goal.returns
returns c = c.in_ok-assume.ensures ∙ (λ i. c.requires.chosen i ++ c.in_ok-own.ensures.items i ++ c.requires.roots i)
