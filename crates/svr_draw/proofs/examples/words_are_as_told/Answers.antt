use Rattle.std.proofs.Common.{refl}
use Rattle.svr_draw.specs.Words.{generator}
use Rattle.svr_draw.specs.Examples.{first_words}
use Rattle.svr_draw.proofs.examples.words_are_as_told.Goals as goal

pub returns : goal.returns
unfolding generator first_words
returns c = refl
