use Rattle.std.proofs.Common.{refl}
use Rattle.svr_phase.proofs.laws.choices_are_as_worked_out.Goals as goal

pub returns : goal.returns
returns c = refl
