use Rattle.std.proofs.lemmas.List.Elements.{All-same}
use Rattle.std.specs.List.Sorted.{IsStrictlyIncreasing}
use Rattle.svr_world.specs.Fits.{IsShort}
use Rattle.svr_world.proofs.Made.{new_object_is}
use Rattle.svr_world.proofs.Short.{all_initial_short, none_used}
use Rattle.svr_world.proofs.object.Object.new.Goals as goal

pub invariant_of-result : goal.invariant_of-result
invariant_of-result c = (
  All-same IsShort _ _ c.in_ok-values.ensures (all_initial_short _ (rw c.as_slice-props.ensures c.requires)),
  All-same IsStrictlyIncreasing _ _ c.in_ok-used.ensures (none_used _),
)

pub returns : goal.returns
returns c = new_object_is c.args.class c.args.flat.now _ _ _ _ _ _ c.as_slice-props.ensures c.as_slice.ensures c.in_ok-values.ensures c.in_ok-rand_modes.ensures c.in_ok-block_modes.ensures c.in_ok-used.ensures
