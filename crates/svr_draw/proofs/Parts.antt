-- A property to stand for those that are not there.
use Rattle.std.proofs.Common.{[], None, pos, false}
use Rattle.svr_operator.specs.declared.Rand.TheVariants as rand
use Rattle.svr_typed.specs.declared.class.ArrayKind.TheVariants as array
use Rattle.svr_typed.specs.declared.class.Prop.{Prop}

pub any_prop : Prop
any_prop = record { name = []; kind = record { width = 1; signed = false; members = None }; rand = rand.State; array = array.Scalar; first = 0; low = pos 0; can = false; inner = 1 }
