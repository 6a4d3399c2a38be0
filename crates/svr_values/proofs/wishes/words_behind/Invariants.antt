use Rattle.std.proofs.Common.{◌≡◌}
use Rattle.svr_draw.specs.Words.{generator, after}
use Rattle.svr_values.proofs.wishes.words_behind.Given as goal

abbrev pub invariant-loop-place : goal.invariant-loop-place
invariant-loop-place l = l.draws ≡ after l._place (generator l.fn.seed l.fn.number)
