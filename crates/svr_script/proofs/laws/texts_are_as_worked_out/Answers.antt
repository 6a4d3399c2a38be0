use Rattle.std.proofs.Common.{refl}
use Rattle.std.specs.Fmt.{digits}
use Rattle.svr_script.proofs.laws.texts_are_as_worked_out.Goals as goal

pub returns-clause-lines : goal.returns-clause-lines
unfolding digits
returns-clause-lines c = refl

pub returns-clause-proofs : goal.returns-clause-proofs
unfolding digits
returns-clause-proofs c = refl

pub returns-clause-conflicts : goal.returns-clause-conflicts
unfolding digits
returns-clause-conflicts c = refl
