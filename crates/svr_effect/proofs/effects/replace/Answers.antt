use Rattle.std.proofs.Common.{[], sym, ap, subst, ◌∙◌}
use Rattle.std.proofs.lemmas.List.Elements.{All-nil, All-cons}
use Rattle.std.specs.List.Sorted.{IsStrictlyIncreasing}
use Rattle.svr_world.specs.declared.change.Change.{Change}
use Rattle.svr_world.specs.declared.change.Replacement.{Replacement}
use Rattle.svr_world.specs.World.{with_change}
use Rattle.svr_world.specs.Fits.{IsShort, AreShort, AreRising}
use Rattle.svr_effect.proofs.effects.replace.Goals as goal

pub commit-requires-clause-short : goal.commit-requires-clause-short
commit-requires-clause-short c =
    subst (λ (x : Change). AreShort x.values) (sym c.in_ok-change.ensures)
    (All-cons (λ (r : Replacement). IsShort r.numbers) (record { prop = c.args.prop; numbers = c.args.numbers }) [] c.requires.short (All-nil (λ (r : Replacement). IsShort r.numbers)))

pub commit-requires-clause-rising : goal.commit-requires-clause-rising
commit-requires-clause-rising c = subst (λ (x : Change). AreRising x.used) (sym c.in_ok-change.ensures) (All-nil (λ (r : Replacement). IsStrictlyIncreasing r.numbers))

pub returns-clause-replaced : goal.returns-clause-replaced
returns-clause-replaced c = c.commit.ensures ∙ ap (with_change c.args.world.now c.args.object) c.in_ok-change.ensures
