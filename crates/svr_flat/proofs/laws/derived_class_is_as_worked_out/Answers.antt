use Rattle.std.proofs.Common.{refl}
use Rattle.svr_flat.specs.Flat.{flat_class_of}
use Rattle.svr_flat.specs.Examples.{blocks_of_derived, props_of_derived}
use Rattle.svr_flat.proofs.laws.derived_class_is_as_worked_out.Goals as goal

pub returns : goal.returns
unfolding flat_class_of blocks_of_derived props_of_derived
returns c = record { blocks = refl; props = refl }
