use Rattle.std.proofs.Common.{subst, sym}
use Rattle.std.specs.List.Sorted.{IsStrictlyIncreasing}
use Rattle.std.proofs.lemmas.List.Elements.{All-same}
use Rattle.svr_world.proofs.Short.{rising_at}
use Rattle.svr_world.proofs.object.Object.used.Goals as goal

pub returns-clause-rising : goal.returns-clause-rising
returns-clause-rising c =
    subst IsStrictlyIncreasing (sym c.list_at.ensures)
    (rising_at c.deref.result.now c.args.prop (All-same IsStrictlyIncreasing _ _ c.deref.ensures.value c.self.invariant.1))
