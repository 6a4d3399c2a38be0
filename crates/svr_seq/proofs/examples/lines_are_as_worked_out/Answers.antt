use Rattle.std.proofs.Common.{refl}
use Rattle.svr_draw.specs.Words.{generator}
use Rattle.svr_seq.specs.Line.{line_from}
use Rattle.svr_seq.proofs.examples.lines_are_as_worked_out.Goals as goal

pub returns : goal.returns
unfolding generator line_from
returns c = refl
