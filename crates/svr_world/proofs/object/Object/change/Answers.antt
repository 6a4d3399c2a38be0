use Rattle.std.proofs.lemmas.List.Elements.{All-same}
use Rattle.std.specs.List.Sorted.{IsStrictlyIncreasing}
use Rattle.svr_world.specs.Fits.{IsShort}
use Rattle.svr_world.proofs.Short.{with_lists_all}
use Rattle.svr_world.proofs.object.Object.change.Goals as goal

pub invariant_of-self : goal.invariant_of-self
invariant_of-self c = (
  All-same IsShort _ _ c.apply.ensures.values (with_lists_all IsShort _ _ c.self.invariant.0 c.requires.short),
  All-same IsStrictlyIncreasing _ _ c.apply.ensures.used (with_lists_all IsStrictlyIncreasing _ _ c.self.invariant.1 c.requires.rising),
)
