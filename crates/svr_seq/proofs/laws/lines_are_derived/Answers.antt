use Rattle.std.proofs.Common.{refl}
use Rattle.svr_seq.specs.Line.{line_of}
use Rattle.svr_seq.proofs.Lawful.{ends_derived}
use Rattle.svr_seq.proofs.laws.lines_are_derived.Goals as goal

pub returns : goal.returns
returns c = λ s words sound. ends_derived s sound words (line_of s words).end refl
